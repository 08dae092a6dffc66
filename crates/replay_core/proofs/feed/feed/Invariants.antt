-- `feed` meets its contract: the first bytes of the part are fed, and the first `count` bytes of `out` are their answers.
use Rattle.std.proofs.Common.{◌≡◌, ◌≤◌, length}
use Rattle.replay_core.specs.Feed.{reading}
use Rattle.replay_core.specs.FeedLaws.{Goes}
use Rattle.replay_core.proofs.feed.feed.Given as goal

abbrev pub invariant-loop-taken : goal.invariant-loop-taken
invariant-loop-taken l =
    (l.count ≤ length l.out) × (length l.out ≡ length l.initial.out)
    × Goes (reading l.initial.replay) l.part l.initial.out l.out l.taken l.count (reading l.replay)
