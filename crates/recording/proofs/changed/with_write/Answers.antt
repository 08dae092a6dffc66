-- `with_write` meets its contract: the writes are laid out, then the new one.
use native.Mathlib.Omega.{arith}
use Rattle.rules.specs.Transaction.{writes_of}
use Rattle.recording.specs.Laid.{laid}
use Rattle.recording.proofs.changed.with_write.Goals as goal

pub push-requires : goal.push-requires
push-requires c = (omega arith, omega (arith, c.first-l.ensures.few))

pub returns : goal.returns
unfolding laid
returns c = rw (c.push.ensures _ (writes_of c.args.x.now) c.first-l.ensures.first)
