-- `own_marks` meets its contract: the own slots from place i on, marked besides those marked so far, make the marks of all.
use Rattle.std.proofs.Common.{refl, arith}
use Rattle.fields.specs.Lent.{at_places}
use Rattle.visibility.specs.OwnMarks.{no_slots, own_marks, own_end, own_free, own_not, own_here}
use Rattle.visibility.proofs.own_slots.own_marks.Goals as goal
use Rattle.visibility.proofs.own_slots.own_marks.Goals.{then-xmin-i-ne0+then-is_own, else-xmin-i-ne0}
use Rattle.visibility.proofs.own_slots.own_marks.Goals.{else-xmin-i-ne0-via-then-xmin-i-ne0+else-is_own, else-xmin-i-ne0-via-else-xmin-i-ne0}

pub loop-i-init : goal.loop-i-init
unfolding own_marks no_slots
loop-i-init c = refl

pub loop-i-preserved : goal.loop-i-preserved
loop-i-preserved c =
    let xmin = c.args.xmin.now in
    let seen = at_places c.args.seen.now in
    let t = c.args.t.0 in
    let i = c.loop-i.i in
    elim c.if-xmin-i-ne0.branch [
      | then-xmin-i-ne0+then-is_own w ↦
          rw w.m-is
          (rw (own_here xmin seen t i (omega (arith, c.loop-i-test.true)) w.if-xmin-i-ne0.true w.is_own.ensures w.if-is_own.true) at c.loop-i.invariant)
      | else-xmin-i-ne0 w ↦
          rw w.m-is (elim w.else-xmin-i-ne0.branch [
            | else-xmin-i-ne0-via-then-xmin-i-ne0+else-is_own v ↦
                rw (own_not xmin seen t i (omega (arith, c.loop-i-test.true)) v.if-xmin-i-ne0.true v.is_own.ensures v.if-is_own.false) at c.loop-i.invariant
            | else-xmin-i-ne0-via-else-xmin-i-ne0 v ↦
                rw (own_free xmin seen t i (omega (arith, c.loop-i-test.true)) v.if-xmin-i-ne0.false) at c.loop-i.invariant
          ])
    ]

pub returns : goal.returns
returns c = rw (own_end c.args.xmin.now (at_places c.args.seen.now) c.args.t.0 c.loop-i.i (omega (arith, c.loop-i-test.false))) at c.loop-i.invariant
