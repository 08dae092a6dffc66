-- `line` meets its contract.
use Rattle.std.proofs.Common.{arith}
use Rattle.replay_core.specs.HeldLine.{held_min}
use Rattle.replay_core.proofs.held.Held.line.Goals as goal

pub returns : goal.returns
returns c = let h = c.args.self.now in rw (← held_min h.bytes h.count (omega arith) c.min.ensures) c.parse_line.ensures
