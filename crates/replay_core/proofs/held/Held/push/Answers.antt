-- `push` meets its contract.
use Rattle.replay_core.specs.HeldLine.{held_full, held_room_law}
use Rattle.std.proofs.Common.{arith}
use Rattle.replay_core.proofs.held.Held.push.Goals as goal

pub returns-then-self-lt-ROOM : goal.returns-then-self-lt-ROOM
returns-then-self-lt-ROOM c = let h = c.args.self.now in held_room_law h.bytes h.count c.args.b (omega arith) c.if-self-lt-ROOM.true

pub returns-else-self-lt-ROOM : goal.returns-else-self-lt-ROOM
returns-else-self-lt-ROOM c = let h = c.args.self.now in held_full h.bytes h.count c.args.b (omega arith) c.if-self-lt-ROOM.false
