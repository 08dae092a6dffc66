-- `push` meets its contract: by whether the array has a place left.
use Rattle.recording.specs.Laid.{push_room, push_over}
use Rattle.recording.proofs.laid.Laid.push.Goals as goal

pub returns-then-i : goal.returns-then-i
returns-then-i g c = λ z m holds. push_room g.row.N c.args.self.now z m holds c.args.e c.if-i.true

pub returns-else-i : goal.returns-else-i
returns-else-i g c = λ z m holds. push_over g.row.N c.args.self.now z m holds c.args.e c.if-i.false
