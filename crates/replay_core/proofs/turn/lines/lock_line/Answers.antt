-- `lock_line` meets its contract.
use Rattle.replay_core.specs.Lines.{locked}
use Rattle.replay_core.proofs.turn.lines.lock_line.Goals as goal

pub returns : goal.returns
returns c = let d = c.args.d.now in rw c.call.ensures (locked d.store d.tx d.plan c.args.row.0 c.row_lock-a.ensures)
