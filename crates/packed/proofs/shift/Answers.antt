-- `shift` meets its contract: the numbers from place i on go up, as far as there are places.
use mathlib.Core.Path.{◌∙◌}
use lib.ListN.{length-set}
use native.Mathlib.Omega.{arith}
use Rattle.packed.specs.Insert.{shifted, shifted_out}
use Rattle.packed.proofs.shift.Goals as goal

pub returns-then-i-end : goal.returns-then-i-end
returns-then-i-end c =
    let s = c.args in shifted s.x.now s.i s.m s.v _ c.min-end.ensures (omega arith) (omega arith) c.if-i-end.true
    (c.clear.ensures ∙ rw (length-set, c.copy_within.ensures.len, c.copy_within.ensures.after))

pub returns-else-i-end : goal.returns-else-i-end
returns-else-i-end c = let s = c.args in shifted_out s.x.now s.i s.m s.v _ c.min-end.ensures (omega arith) (omega arith) c.if-i-end.false
