-- `plan_abort` meets its contract: the own slots by the marks of the walk, freed, then the drop.
use Rattle.std.proofs.Common.{arith, ap, ◌∙◌}
use Rattle.records.specs.Limits.{places}
use Rattle.fields.specs.Lent.{at_rows, at_places, array_length}
use Rattle.fields.specs.Walked.{marks_array}
use Rattle.visibility.specs.OwnMarks.{own_marks, abort_marked}
use Rattle.calls.proofs.abort.plan_abort.Goals as goal

pub returns : goal.returns
returns c = λ e.
    let S = c.args.s.now in
    let seen = marks_array (at_rows S.heads) (at_places S.next) _ e in
    let own = c.own_marks-own.ensures ∙ ap (λ s. own_marks (at_places S.xmin) s c.args.t.0) seen in
    let long = array_length places 0 S.xmin in
    let law = abort_marked (at_rows S.heads) (at_places S.next) (at_places S.xmin) c.args.t.0 own (omega (arith, long)) in
    rw law.1 at (c.push_abort.ensures)
