-- `write` meets its contract: as its tests find it, and with the puts that it plans applied.
use Rattle.std.proofs.Common.{refl}
use Rattle.fields.proofs.Lengths.{sized}
use Rattle.admit.specs.Admission.{refused_is}
use Rattle.calls.specs.Refused.{applied}
use Rattle.calls.specs.Passed.{passed}
use Rattle.calls.specs.WriteAnswer.{takes_few, write_refused, write_done}
use Rattle.calls.proofs.write.write.Goals as goal

pub returns-in-Err : goal.returns-in-Err
returns-in-Err c =
    let why = refused_is _ _ c.in-Err.ensures in
    write_refused c.args.s c.args.x _ c.args.v (sized c.args.s c.well_formed.0) c.lowest_free-free.ensures refl refl refl refl why.0 why.1

pub returns : goal.returns
returns c =
    let few = takes_few c.lowest_free-free.result.0 c.args.x.txid.0 c.base_of-base.result.0 c.args.v in
    write_done c.args.s c.args.x _ c.args.v (sized c.args.s c.well_formed.0) c.lowest_free-free.ensures refl refl refl refl
    (passed _ _ c.in_default.ensures) refl
    c.base_of-base.ensures
    (applied c.args.s c.new-j.ensures c.plan_write.ensures few c.len.ensures.count c.apply-t.ensures)
    c.with_write-y.ensures
