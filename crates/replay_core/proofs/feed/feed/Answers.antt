-- `feed` meets its contract: the first bytes of the part are fed, and the first `count` bytes of `out` are their answers.
use Rattle.std.proofs.Common.{refl, ◌∙◌, arith}
use Rattle.replay_core.specs.Feed.{reading}
use Rattle.replay_core.specs.FeedLaws.{goes_none, goes_line, goes_byte, held_more}
use Rattle.replay_core.proofs.feed.feed.Goals as goal
use Rattle.replay_core.proofs.feed.feed.Goals.{then-b-eq10, else-b-eq10}

pub loop-taken-init : goal.loop-taken-init
loop-taken-init c = (omega arith, refl, goes_none _ _ _)

pub loop-taken-preserved : goal.loop-taken-preserved
loop-taken-preserved c =
    let l = c.loop-taken in
    elim c.if-b-eq10.branch [
      | then-b-eq10 w ↦
          let put = w.end_line-count.ensures.text in
          rw (w.out-is, w.replay-is, w.count-is) (
            omega (arith, put.long, put.few),
            put.long ∙ l.invariant.1,
            goes_line _ _ l.taken (omega arith) _ l.invariant.2 l.invariant.1 (omega arith) w.if-b-eq10.true w.end_line-count.ensures.state put,
          )
      | else-b-eq10 w ↦
          rw (w.out-is, w.replay-is, w.count-is) (
            l.invariant.0,
            l.invariant.1,
            goes_byte _ _ l.taken (omega arith) _ l.invariant.2 l.invariant.1 (omega arith) w.if-b-eq10.false (held_more (reading l.replay) _ w.push.ensures),
          )
    ]
