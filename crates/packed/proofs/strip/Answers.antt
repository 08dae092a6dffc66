-- `strip` meets its contract: the numbers kept, and those to come without v, stay the same list.
use mathlib.Core.Path.{◌∙◌}
use native.Mathlib.Omega.{arith}
use Rattle.packed.specs.Packed.{packed_first}
use Rattle.packed.specs.Remove.{keep_turn, skip_turn, removed}
use Rattle.packed.proofs.strip.Goals.{then-y-v, else-y-v}
use Rattle.packed.proofs.strip.Goals as goal

pub loop-i-preserved : goal.loop-i-preserved
loop-i-preserved c =
    let s = c.loop-i in
    elim c.if-y-v.branch [
      | then-y-v w ↦ rw (w.kept-is, w.x-is)
          (omega arith, keep_turn c.args.v s.x s.kept s.i c.args.m (omega arith) (omega arith) (omega arith) w.if-y-v.true ∙ s.invariant.1)
      | else-y-v w ↦ rw (w.kept-is, w.x-is)
          (omega arith, skip_turn c.args.v s.x s.kept s.i c.args.m (omega arith) (omega arith) (omega arith) w.if-y-v.false ∙ s.invariant.1)
    ]

pub returns : goal.returns
returns c =
    let s = c.loop-i in
    packed_first _ s.x s.kept _ (removed c.args.v s.x s.kept s.i c.args.m (omega arith) s.invariant.1) (omega arith) s.auto.x c.clear.ensures
