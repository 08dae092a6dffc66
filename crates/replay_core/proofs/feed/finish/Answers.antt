-- `finish` meets its contract: nothing is left, or there is no room, or the last line is turned at its place and answered.
use Rattle.std.proofs.Common.{◌≡◌, length, take, ⊎_elim, arith, length-take}
use Rattle.replay_core.specs.FeedLaws.{finish_none, finish_short, finish_line}
use Rattle.replay_core.proofs.feed.finish.Goals as goal

pub returns-then-r-eq0 : goal.returns-then-r-eq0
returns-then-r-eq0 c =
    let h = c.args.r.held in
    ⊎_elim (λ z. finish_none _ _ (omega (arith, z, length-take h.count h.bytes))) (λ z. finish_short _ _ (omega (arith, z.1))) c.then-r-eq0.either

pub returns : goal.returns
returns c =
    let h = c.args.r.held in
    let left : length (take h.count h.bytes) ≡ 0 → ⊥ = λ z. c.if-r-eq0.false (omega (arith, length-take h.count h.bytes, z)) in
    finish_line _ _ _ c.end_line.result left c.if-out-lt-ROOM.false c.end_line.ensures.text
