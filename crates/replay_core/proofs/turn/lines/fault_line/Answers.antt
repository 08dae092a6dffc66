-- `fault_line` meets its contract.
use Rattle.replay_core.specs.Lines.{faulted}
use Rattle.replay_core.proofs.turn.lines.fault_line.Goals as goal

pub returns : goal.returns
returns c = let d = c.args.d.now in rw c.number.ensures (faulted d.store d.tx d.plan c.args.f c.with_fault-d.ensures)
