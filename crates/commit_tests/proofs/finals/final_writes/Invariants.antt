-- `final_writes` meets its contract: the final writes among those passed are laid out.
use Rattle.commit_tests.specs.FinalTurns.{Laid}
use Rattle.commit_tests.proofs.finals.final_writes.Given as goal

abbrev pub invariant-loop-i : goal.invariant-loop-i
invariant-loop-i l = Laid l.x l.i l.at l.count
