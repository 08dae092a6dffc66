-- `row_lock` meets its contract: as its tests find it, and with the put that it plans applied.
use Rattle.std.proofs.Common.{refl, arith}
use Rattle.records.specs.Relations.{call_puts}
use Rattle.fields.proofs.Lengths.{sized}
use Rattle.admit.specs.Admission.{refused_is}
use Rattle.calls.specs.Refused.{applied}
use Rattle.calls.specs.Passed.{passed}
use Rattle.calls.specs.LockAnswer.{lock_refused, lock_done}
use Rattle.calls.proofs.lock.row_lock.Goals as goal

pub returns-in-Err : goal.returns-in-Err
returns-in-Err c =
    let why = refused_is _ _ c.in-Err.ensures in
    lock_refused c.args.s c.args.x _ (sized c.args.s c.well_formed.0) c.head_of-head.ensures c.locked_by_another-locked.ensures
    refl refl why.0 why.1

pub returns : goal.returns
returns c =
    lock_done c.args.s c.args.x _ (sized c.args.s c.well_formed.0) c.head_of-head.ensures c.locked_by_another-locked.ensures
    refl refl (passed _ _ c.in_default.ensures) refl
    (applied c.args.s c.new-j.ensures c.push.ensures (omega (arith, call_puts)) c.len.ensures.count c.apply-t.ensures)
