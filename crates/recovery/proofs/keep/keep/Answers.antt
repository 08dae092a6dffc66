-- `keep` meets its contract: the places before `i` are kept or cleared.
use mathlib.Core.Path.{◌∙◌}
use native.Mathlib.Omega.{arith}
use lib.ListN.{length-set}
use Rattle.recovery.specs.Keep.{keep_start, keep_clear, keep_stay, keep_end}
use Rattle.recovery.proofs.keep.keep.Goals as goal
use Rattle.recovery.proofs.keep.keep.Goals.{then-mark-eq0, else-mark-eq0}

pub loop-i-init : goal.loop-i-init
loop-i-init g c = (omega arith, keep_start _ _ _)

pub loop-i-preserved : goal.loop-i-preserved
loop-i-preserved g c = elim c.if-mark-eq0.branch [
  | then-mark-eq0 w ↦ rw w.x-is (simp length-set c.loop-i.invariant.0, keep_clear _ _ _ _ (omega arith) w.if-mark-eq0.true ∙ c.loop-i.invariant.1)
  | else-mark-eq0 w ↦ rw w.x-is (c.loop-i.invariant.0, keep_stay _ _ _ _ (omega arith) w.if-mark-eq0.false ∙ c.loop-i.invariant.1)
]

pub returns : goal.returns
returns g c = keep_end _ _ _ _ (omega arith) ∙ c.loop-i.invariant.1
