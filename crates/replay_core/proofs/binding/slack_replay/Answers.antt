-- `slack_replay` meets its contract: what `feed` took is the whole script, and what it left is room for one more answer.
use Rattle.std.proofs.Common.{arith}
use Rattle.replay_core.specs.Into.{into_short, into_room}
use Rattle.replay_core.proofs.binding.slack_replay.Goals as goal

pub returns-then-out-line_feeds : goal.returns-then-out-line_feeds
returns-then-out-line_feeds c = into_short c.args.script.now c.args.out.now (omega (arith, c.line_feeds.ensures))

pub returns : goal.returns
returns c =
    into_room c.args.script.now c.args.out.now c.feed-f.new.out (omega arith) (omega (arith, c.line_feeds.ensures)) c.start-r.ensures c.feed-f.ensures
    c.finish.new.out c.finish.result (omega arith) c.finish.ensures
