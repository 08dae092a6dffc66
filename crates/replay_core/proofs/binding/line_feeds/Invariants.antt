-- `line_feeds` meets its contract: the line feeds counted and those left are all.
use Rattle.std.proofs.Common.{◌≡◌, ◌+◌, ◌≤◌, drop}
use Rattle.replay_core.specs.Room.{line_feeds}
use Rattle.replay_core.proofs.binding.line_feeds.Given as goal

abbrev pub invariant-loop-b : goal.invariant-loop-b
invariant-loop-b l = (l.feeds ≤ l.b-index) × (l.feeds + line_feeds (drop l.b-index l.script) ≡ line_feeds l.script)
