-- `rebuild` meets its contract: the array holds the postings of the rows that are behind the loop.
use Rattle.records.specs.Limits.{posting_limit}
use Rattle.packed.specs.Packed.{Packed}
use Rattle.recovery.specs.Rebuild.{postings_from}
use Rattle.recovery.proofs.rebuild.rebuild.Given as goal

abbrev pub invariant-loop-r : goal.invariant-loop-r
invariant-loop-r l = Packed (postings_from l.s.key l.s.has l.heads l.r) posting_limit l.x l.n
