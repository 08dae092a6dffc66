-- `slack_room` meets its contract: answer_room bytes a line, where 64 bits can count them.
use Rattle.std.proofs.Common.{◌≡◌, min, ◌∙◌, arith}
use Rattle.replay_core.specs.Room.{room_for, most}
use Rattle.replay_core.specs.RoomLaws.{room_clipped}
use Rattle.replay_core.proofs.binding.slack_room.Goals as goal

pub returns : goal.returns
returns c =
    let s = c.args.script.now in
    let e : c.saturating_mul.result ≡ min (room_for s) most =
    omega (arith, c.line_feeds.ensures, c.saturating_add.ensures, c.saturating_mul.ensures) in
    e ∙ room_clipped s
