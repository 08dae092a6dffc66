-- `abort` meets its contract: as its tests find it, and with the puts that it plans applied.
use Rattle.std.proofs.Common.{refl, arith}
use Rattle.records.specs.Limits.{places}
use Rattle.fields.proofs.Lengths.{sized}
use Rattle.fields.specs.Lent.{array_length, at_rows, at_places}
use Rattle.visibility.specs.OwnMarks.{abort_few}
use Rattle.admit.specs.Admission.{refused_is}
use Rattle.calls.specs.Refused.{applied}
use Rattle.calls.specs.Passed.{passed}
use Rattle.calls.specs.AbortAnswer.{abort_refused, abort_done}
use Rattle.calls.proofs.abort.abort.Goals as goal

pub returns-in-Err : goal.returns-in-Err
returns-in-Err c = let why = refused_is _ _ c.in-Err.ensures.answer in abort_refused c.args.s c.args.x why.0 why.1

pub returns : goal.returns
returns c =
    let S = c.args.s in
    let few = abort_few (at_rows S.heads) (at_places S.next) (at_places S.xmin) c.args.x.txid.0 (omega (arith, array_length places 0 S.xmin)) in
    abort_done S c.args.x (passed _ _ c.in_default.ensures.answer) (sized S c.well_formed.0) refl
    (applied c.args.s c.new-j.ensures (c.plan_abort.ensures c.admitted_marked.ensures.marks) (omega (arith, few)) c.len.ensures.count c.apply-t.ensures)
    c.only_txid-y.ensures
