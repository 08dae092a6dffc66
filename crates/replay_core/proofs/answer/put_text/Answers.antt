-- `put_text` meets its contract.
use Rattle.std.proofs.Common.{◌≡◌, ◌-◌, sym, ap, ◌∙◌, length, take, drop, take_all, length-drop, arith}
use Rattle.replay_core.specs.Feed.{answer_room}
use Rattle.replay_core.specs.Put.{copied}
use Rattle.replay_core.proofs.answer.put_text.Goals as goal

pub returns : goal.returns
returns c =
    let t = c.args.text.now in
    let text = drop t.start t.bytes in
    let long : length text ≡ answer_room - t.start = omega (arith, length-drop t.start t.bytes) in
    let whole : take (answer_room - t.start) text ≡ text = take_all _ _ (omega arith) in
    copied c.args.out.now text c.copy_from_slice.new.self c.args.n (c.copy_from_slice.ensures.after ∙ whole)
    (sym (ap length whole)) (omega arith) (omega (arith, ap length whole)) (omega (arith, ap length whole))
