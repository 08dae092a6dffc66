-- `abort_line` meets its contract.
use Rattle.replay_core.specs.Lines.{aborted}
use Rattle.replay_core.proofs.turn.lines.abort_line.Goals as goal

pub returns : goal.returns
returns c = let d = c.args.d.now in rw c.call.ensures (aborted d.store d.tx d.plan c.abort-a.ensures)
