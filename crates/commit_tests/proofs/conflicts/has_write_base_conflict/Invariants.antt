-- `has_write_base_conflict` meets its contract: it answers what the writes from the present place on do.
use Rattle.std.proofs.Common.{◌≡◌, drop}
use Rattle.rules.specs.Types.{Store}
use Rattle.rules.specs.Tests.{base_moved, finals_that, write_base_conflict, write_base_place}
use Rattle.fields.specs.Lent.{at_rows}
use Rattle.commit_tests.specs.Conflicts.{tested, answer_from}
use Rattle.commit_tests.proofs.conflicts.has_write_base_conflict.Given as goal

abbrev pub invariant-loop-i : goal.invariant-loop-i
invariant-loop-i l =
    (S : Store) → S.heads ≡ at_rows l.s.heads
    → answer_from l.i (finals_that (base_moved S) (drop l.i l.writes)) ≡ tested (write_base_conflict S l.x) (write_base_place S l.x)
