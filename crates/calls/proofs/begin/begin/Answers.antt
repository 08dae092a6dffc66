-- `begin` meets its contract: as its tests find it, and with the puts that it plans applied.
use Rattle.std.proofs.Common.{refl, arith}
use Rattle.records.specs.Relations.{call_puts}
use Rattle.fields.proofs.Lengths.{sized}
use Rattle.admit.specs.Admission.{refused_is, done_is}
use Rattle.calls.specs.Refused.{applied}
use Rattle.calls.specs.Passed.{passed}
use Rattle.calls.specs.BeginAnswer.{begin_why, begin_clock, begin_refused, begin_done}
use Rattle.calls.proofs.begin.begin.Goals as goal

pub returns-in-Err : goal.returns-in-Err
returns-in-Err c =
    let why = refused_is _ _ c.in-Err.ensures in
    begin_refused c.args.s _ (begin_why _ (sized c.args.s c.well_formed.0) _ _ refl why.0) why.1 c.zero.ensures

pub plan_begin-requires : goal.plan_begin-requires
plan_begin-requires c = begin_clock _ _ _ _ _ refl (done_is _ _ c.in_default.ensures)

pub returns : goal.returns
returns c =
    begin_done c.args.s _ (begin_why _ (sized c.args.s c.well_formed.0) _ _ refl (passed _ _ c.in_default.ensures)) refl
    (applied c.args.s c.new-j.ensures c.plan_begin.ensures (omega (arith, call_puts)) c.len.ensures.count c.apply-t.ensures)
    c.begun-x.ensures
