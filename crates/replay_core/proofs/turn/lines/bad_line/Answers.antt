-- `bad_line` meets its contract.
use Rattle.replay_core.specs.Lines.{refused}
use Rattle.replay_core.proofs.turn.lines.bad_line.Goals as goal

pub returns : goal.returns
returns c = let d = c.args.d.now in rw c.number.ensures (refused d.store d.tx d.plan)
