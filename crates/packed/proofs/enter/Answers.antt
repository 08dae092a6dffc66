-- `enter` meets its contract: the live numbers are the first so many.
use lib.Seq.{slice_empty}
use native.Mathlib.Omega.{arith}
use mathlib.Core.Path.{◌∙◌}
use Rattle.packed.specs.Remove.{live_first, live_within}
use Rattle.packed.proofs.enter.Goals as goal

pub shift-requires : goal.shift-requires
shift-requires c = rw c.live-m.ensures (omega arith, live_within c.args.x.now)

pub returns : goal.returns
returns c = c.shift.ensures ∙ rw (slice_empty, c.live-m.ensures, live_first c.args.x.now)
