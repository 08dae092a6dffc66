-- `write_line` meets its contract.
use Rattle.replay_core.specs.Lines.{wrote}
use Rattle.replay_core.proofs.turn.lines.write_line.Goals as goal

pub returns : goal.returns
returns c = let d = c.args.d.now in rw c.call.ensures (wrote d.store d.tx d.plan c.args.row.0 c.args.v c.write-a.ensures)
