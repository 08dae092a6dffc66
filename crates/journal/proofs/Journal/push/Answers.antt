-- `push` meets its contract: by whether there is room.
use Rattle.std.proofs.Common.{ap, ◌∙◌, sym, arith, length, take, length-take}
use Rattle.std.proofs.lemmas.List.{length-map}
use Rattle.journal.specs.Journal.{meant}
use Rattle.journal.specs.Held.{held_more}
use Rattle.journal.specs.Adds.{adds_room, adds_full}
use Rattle.journal.proofs.Journal.push.Goals as goal

pub returns-then-self-lt-PUTS : goal.returns-then-self-lt-PUTS
returns-then-self-lt-PUTS c =
    let s = c.self.inside in
    let count = sym (ap length c.self.view_is) ∙ length-map (take s.count s.puts) meant ∙ length-take s.count s.puts in
    adds_room (omega arith) (rw (← c.self.view_is) (held_more s.puts s.count _ (omega (arith, c.self.invariant))))

pub returns-else-self-lt-PUTS : goal.returns-else-self-lt-PUTS
returns-else-self-lt-PUTS c =
    let s = c.self.inside in
    let count = sym (ap length c.self.view_is) ∙ length-map (take s.count s.puts) meant ∙ length-take s.count s.puts in
    adds_full (omega (arith, c.self.invariant))
