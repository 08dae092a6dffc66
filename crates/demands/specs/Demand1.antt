-- Demand 1, proved: no call trusts its caller. Commit answers by the table of "Numbers seen" (crate `number_laws`, Seen), the other calls by theirs
-- (crate `call_laws`, Refusals).
use Rattle.rules.specs.Recovery.{recover}
use Rattle.statements.specs.Demands.{Demand1, Demand1Others}
use Rattle.number_laws.specs.Seen.{commit_told, commit_when}
use Rattle.sentences.specs.Refusals.{begin_told, read_told, write_told, lookup_told, row_lock_told, abort_told}
use Rattle.sentences.specs.Refusals.{begin_refused, read_refused, write_refused, lookup_refused, row_lock_refused, abort_refused}

-- DEMAND 1, commit
pub demand_1 : Demand1
demand_1 S x logged plan cut z = record {
  by_first = (commit_told S x logged plan z cut).by_first;
  exactly = commit_when S x logged plan z cut;
}

-- DEMAND 1, the other calls
pub demand_1_others : Demand1Others
unfolding recover
demand_1_others S x = record {
  begins = begin_told S;
  reads = read_told S x;
  writes = write_told S x;
  looks = lookup_told S x;
  locks = row_lock_told S x;
  aborts = abort_told S x;
  begin_same = begin_refused S;
  read_same = read_refused S x;
  write_same = write_refused S x;
  look_same = lookup_refused S x;
  lock_same = row_lock_refused S x;
  abort_same = abort_refused S x;
  recovers = λ e. rw e;
  recover_same = λ e. rw e;
}
