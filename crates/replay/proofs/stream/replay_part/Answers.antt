-- With room for an answer a byte is taken.
use Rattle.std.proofs.Common.{arith, sym, ◌∙◌}
use borrow.Author.Tests.{eqb-false}
use Rattle.replay_core.specs.FeedLaws.{takes_some}
use Rattle.replay.proofs.stream.replay_part.Goals as goal

pub loop-rest-smaller : goal.loop-rest-smaller
loop-rest-smaller g c =
    let some = eqb-false _ _ (sym c.is_empty.ensures ∙ c.loop-rest-test.true) in
    omega (arith, takes_some c.feed-f.ensures (omega (arith, some)) (omega arith), c.feed-f.ensures.within)
