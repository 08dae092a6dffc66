-- The replay as it stood before document 02's wish 4, when a 7 told nothing and a line had three fields. What is not written here was as it is today.
use Rattle.std.specs.Prelude.{◌≡◌, Bool, List, [], ◌∷◌, map, ℕ, suc, set, take}
use Rattle.records.specs.Limits.{digits64}
use Rattle.records.specs.Zero.{no_faults}
use Rattle.rules.specs.Types.{Store, Tx, Schedule, Cut, Answer, BusyGuard}
use Rattle.rules.specs.Numbers.{number_of}
use Rattle.rules.specs.Tests.{index_read_conflict, row_lock_conflict, serialization_conflict, write_base_conflict}
use Rattle.rules.specs.Changes.{release}
use Rattle.rules.specs.Commit.{Step, goes, Run, run, committed, test, ensure_open, final_write_indices, index_changes_made, index_lock_keys}
use Rattle.rules.specs.Commit.{prepare_commit_record, run_prepare, acquire_index_locks, acquire_partition_locks, ensure_unlogged_write_allowed}
use Rattle.rules.specs.Commit.{check_not_poisoned, prepare_index_destinations, invoke_before_publish, remove_index_sources, publish_write_set}
use Rattle.rules.specs.Commit.{recycle_non_final_writes, flush_local_recycle_caches, finish_transaction, publish_index_stamps}
use Rattle.rules.specs.Answer.{commit_by}
use Rattle.rules.specs.Replay.{Line, line_b, line_r, line_w, line_l, line_k, line_a, line_c, line_f}
use Rattle.rules.specs.Replay.{line_v, line_bad, num, Out, Desk, Turn, start, tx_at, says, turn}
use Rattle.rules.specs.Script.{Bytes, split, lines_in, parse, decimal, third, replay_text}

-- a test that said yes ended the run with a 7 that had a fate alone; here one and the same cause stands for none
module _ (S : Store) (x : Tx) (logged : Bool) (plan : Schedule) where
  abbrev pub test_then : ℕ → Bool → Step
  test_then n conflict = test S x logged plan n conflict BusyGuard

  unfoldable pub steps_then : List Step
  steps_then =
      ensure_open S x logged plan
      ∷ final_write_indices S x logged plan
      ∷ index_changes_made S x logged plan
      ∷ index_lock_keys S x logged plan
      ∷ prepare_commit_record S x logged plan
      ∷ run_prepare S x logged plan
      ∷ acquire_index_locks S x logged plan
      ∷ acquire_partition_locks S x logged plan
      ∷ ensure_unlogged_write_allowed S x logged plan
      ∷ check_not_poisoned S x logged plan
      ∷ test_then 11 (index_read_conflict S x)
      ∷ test_then 12 (row_lock_conflict S x)
      ∷ test_then 13 (serialization_conflict S x)
      ∷ test_then 14 (write_base_conflict S x)
      ∷ prepare_index_destinations S x logged plan
      ∷ invoke_before_publish S x logged plan
      ∷ remove_index_sources S x logged plan
      ∷ publish_write_set S x logged plan
      ∷ recycle_non_final_writes S x logged plan
      ∷ flush_local_recycle_caches S x logged plan
      ∷ finish_transaction S x logged plan
      ∷ publish_index_stamps S x logged plan
      ∷ goes (release S x)
      ∷ []

unfoldable pub run_then : Store → Tx → Bool → Schedule → Run
run_then S x logged plan = run (committed x) (steps_then S x logged plan)

unfoldable pub commit_then : Store → Tx → Bool → Schedule → Cut → Answer
commit_then S x logged plan cut = commit_by (run_then S x logged plan) S x logged plan cut

-- no other line answers a 7
unfoldable pub turn_then : Line → Desk → Turn
turn_then (line_b i) d = turn (line_b i) d
turn_then (line_r i r) d = turn (line_r i r) d
turn_then (line_w i r v) d = turn (line_w i r v) d
turn_then (line_l i k) d = turn (line_l i k) d
turn_then (line_k i r) d = turn (line_k i r) d
turn_then (line_a i) d = turn (line_a i) d
turn_then (line_c i logged cut) d =
    let a = commit_then d.store (tx_at d i) logged d.plan cut in
    record { desk = record { store = a.store; txs = set d.txs i a.tx; plan = no_faults }; out = says (number_of a.refusal) (num a.stores) }
turn_then (line_f n b k) d = turn (line_f n b k) d
turn_then line_v d = turn line_v d
turn_then line_bad d = turn line_bad d

abbrev pub replay_then : Desk → List Line → List Out
replay_then d [] = []
replay_then d (l ∷ ls) = let t = turn_then l d in t.out ∷ replay_then t.desk ls

-- "Output: line number, number, then ..": three fields
abbrev pub write_then : ℕ → List Out → Bytes
write_then n [] = []
write_then n (o ∷ os) =
    let rest = write_then (suc n) os in decimal digits64 n (9 ∷ decimal digits64 o.number (9 ∷ third o.third (10 ∷ rest)))

unfoldable pub text_then : Bytes → Bytes
text_then bs = write_then 1 (replay_then start (parse bs))

-- without the fourth and the fifth field each line is what it was: of any script, line by line, the first three fields are all the fields of then
abbrev pub SameLines : Type 0
SameLines = (bs : Bytes) → map (λ w. take 3 (split 9 w)) (lines_in (replay_text bs)) ≡ map (split 9) (lines_in (text_then bs))
