-- `mark_each` meets its contract. The invariant: the items from the next one on, marked besides those so far, make the marks of all.
use Rattle.std.proofs.Common.{refl, arith}
use Rattle.commit.specs.Plan.Own.{each_next, each_high}
use Rattle.commit.proofs.plan.marks.mark_each.Goals as goal
use Rattle.commit.proofs.plan.marks.mark_each.Goals.{then-at-marks, else-at-marks}

pub loop-item-preserved : goal.loop-item-preserved
loop-item-preserved g c = λ f e.
    let a = c.args in
    let i = c.loop-item.item-index in
    let d = c.item-item.result in
    let m = c.loop-item.marks in
    let is = e d c.place-at.result (record { shown = _; shows = refl; says = record { met = c.place-at.ensures } }) in
    elim c.if-at-marks.branch [
      | then-at-marks w ↦ rw (w.marks-is, is) (rw (← c.item-item.is) at (each_next f a.mark a.items.now i d m (omega arith) (c.loop-item.invariant f e)))
      | else-at-marks w ↦
          rw w.marks-is (each_high f a.mark a.items.now i d m (omega arith) (c.loop-item.invariant f e) (rw (← c.item-item.is) (omega (arith, is))))
    ]
