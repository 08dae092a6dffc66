-- `push_back` meets its contract. The invariant: the removals of the postings so far are pushed.
use Rattle.std.proofs.Common.{map}
use Rattle.rules.specs.Puts.{put_remove}
use Rattle.journal.specs.Adds.{Adds}
use Rattle.commit.proofs.plan.pushes.push_back.Given as goal

abbrev pub invariant-loop-c : goal.invariant-loop-c
invariant-loop-c l = Adds l.initial.j (map put_remove (map (λ c. c.now) l.yielded)) l.j
