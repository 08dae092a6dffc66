-- `own_marks` meets its contract: the own slots from place i on, marked besides those marked so far, make the marks of all.
use mathlib.Core.Path.{◌≡◌}
use Rattle.fields.specs.Lent.{at_places}
use Rattle.fields.specs.Marks.{mark_all}
use Rattle.visibility.specs.OwnMarks.{own_from, own_marks}
use Rattle.visibility.proofs.own_slots.own_marks.Given as goal

abbrev pub invariant-loop-i : goal.invariant-loop-i
invariant-loop-i l =
    mark_all (own_from (at_places l.xmin) (at_places l.seen) l.t.0 l.i) l.m ≡ own_marks (at_places l.xmin) (at_places l.seen) l.t.0
