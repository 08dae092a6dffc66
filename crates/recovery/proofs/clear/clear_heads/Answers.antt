-- `clear_heads` meets its contract: the rows from the present one on are left.
use mathlib.Core.Path.{sym, ◌∙◌}
use native.Mathlib.Omega.{arith}
use lib.ListN.{length-set}
use Rattle.recovery.specs.Clear.{clear_start, clear_end, clear_set, clear_stay, clear_past}
use Rattle.recovery.proofs.clear.clear_heads.Goals as goal
use Rattle.recovery.proofs.clear.clear_heads.Goals.{then-i-lt-PLACES+then-not-is_finished, else-i-lt-PLACES}
use Rattle.recovery.proofs.clear.clear_heads.Goals.{else-i-lt-PLACES-via-then-i-lt-PLACES+else-not-is_finished, else-i-lt-PLACES-via-else-i-lt-PLACES}

pub loop-head-init : goal.loop-head-init
loop-head-init c = (omega arith, clear_start _ _ _)

pub loop-head-preserved : goal.loop-head-preserved
loop-head-preserved c = elim c.if-i-lt-PLACES.branch [
  | then-i-lt-PLACES+then-not-is_finished w ↦ rw w.xmax-is (
    simp length-set c.loop-head.invariant.0,
    clear_set _ _ _ _ _ (omega arith) c.place-i.ensures (sym w.is_finished.ensures ∙ w.if-not-is_finished.true) ∙ c.loop-head.invariant.1,
  )
  | else-i-lt-PLACES w ↦ rw w.xmax-is (
    c.loop-head.invariant.0,
    elim w.else-i-lt-PLACES.branch [
      | else-i-lt-PLACES-via-then-i-lt-PLACES+else-not-is_finished v ↦
          clear_stay _ _ _ _ _ (omega arith) c.place-i.ensures (sym v.is_finished.ensures ∙ v.if-not-is_finished.false) ∙ c.loop-head.invariant.1
      | else-i-lt-PLACES-via-else-i-lt-PLACES v ↦ clear_past _ _ _ _ _ (omega arith) c.place-i.ensures (omega arith) ∙ c.loop-head.invariant.1
    ],
  )
]

pub returns : goal.returns
returns c = clear_end _ _ _ _ (omega arith) ∙ c.loop-head.invariant.1
