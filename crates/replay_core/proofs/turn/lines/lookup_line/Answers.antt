-- `lookup_line` meets its contract.
use Rattle.replay_core.specs.Lines.{looked_up_law}
use Rattle.replay_core.proofs.turn.lines.lookup_line.Goals as goal

pub returns : goal.returns
returns c = let d = c.args.d.now in rw c.call.ensures (looked_up_law d.store d.tx d.plan c.args.k c.lookup-a.ensures)
