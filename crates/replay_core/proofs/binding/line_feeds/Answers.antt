-- `line_feeds` meets its contract: the line feeds counted and those left are all.
use Rattle.std.proofs.Common.{◌<◌, length, arith}
use Rattle.replay_core.specs.RoomLaws.{feeds_yes, feeds_no, feeds_end}
use Rattle.replay_core.proofs.binding.line_feeds.Goals as goal
use Rattle.replay_core.proofs.binding.line_feeds.Goals.{then-b-eq10, else-b-eq10}

pub loop-b-preserved : goal.loop-b-preserved
loop-b-preserved c =
    let s = c.args.script.now in
    let i = c.loop-b.b-index in
    let h : i < length s = omega arith in
    elim c.if-b-eq10.branch [
      | then-b-eq10 w ↦ (omega arith, omega (arith, feeds_yes s i h w.if-b-eq10.true))
      | else-b-eq10 w ↦ (omega arith, omega (arith, feeds_no s i h w.if-b-eq10.false))
    ]

pub returns : goal.returns
returns c = let s = c.args.script.now in omega (arith, feeds_end s c.loop-b.b-index (omega arith))
