-- `letters_of` meets its contract: the faults put in are those from i on.
use Rattle.std.proofs.Common.{◌≡◌, drop}
use Rattle.commit_tests.specs.Striking.{table_of}
use Rattle.commit_tests.proofs.faults.letters_of.Given as goal

abbrev pub invariant-loop-i : goal.invariant-loop-i
invariant-loop-i l = l.at ≡ table_of (drop l.i l.faults)
