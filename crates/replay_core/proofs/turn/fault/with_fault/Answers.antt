-- `with_fault` meets its contract: the faults so far are laid out, then the new one.
use Rattle.std.proofs.Common.{◌≡◌, length, min, take, add-one, arith, le-ltb, lt-ltb, length-take-le}
use Rattle.records.specs.Limits.{fault_limit}
use Rattle.records.specs.Zero.{no_fault}
use Rattle.rules.specs.Replay.{with_fault}
use Rattle.fields.specs.Pad.{more_room}
use Rattle.replay_core.specs.Put.{laid_out}
use Rattle.replay_core.proofs.turn.fault.with_fault.Goals as goal

pub returns-then-n-ge-FAULTS : goal.returns-then-n-ge-FAULTS
unfolding with_fault
returns-then-n-ge-FAULTS c = rw (le-ltb c.args.plan.count fault_limit c.if-n-ge-FAULTS.true)

pub returns : goal.returns
unfolding with_fault
returns c =
    let plan = c.args.plan in
    let m = take plan.count plan.faults in
    let long : length plan.faults ≡ fault_limit = omega arith in
    let few : length m ≡ plan.count = length-take-le plan.count plan.faults (omega arith) in
    let held = rw few at (laid_out fault_limit no_fault m (omega arith)) in
    let some : plan.count ≡ min plan.count fault_limit = omega arith in
    rw (
      c.copy_from_slice.ensures.after,
      lt-ltb plan.count fault_limit c.if-n-ge-FAULTS.false,
      add-one plan.count,
      more_room fault_limit plan.count plan.count no_fault c.args.f plan.faults _ long some held (omega arith),
    )
