-- `recover_line` meets its contract.
use Rattle.replay_core.specs.Lines.{recovered}
use Rattle.replay_core.proofs.turn.lines.recover_line.Goals as goal

pub returns : goal.returns
returns c = let d = c.args.d.now in rw c.call.ensures (recovered d.store d.tx d.plan c.recover-a.ensures)
