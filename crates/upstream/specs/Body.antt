-- Source 000's commit function, as the calls that a run of commit here makes: those of the steps it passed, then those of the step that
-- ended it. Guards that 000 drops by leaving a scope are let go by its own release calls, so what these ask is asked there too.
use Rattle.std.specs.Prelude.{Bool, true, false, not, cond, ◌&&◌, ◌||◌, List, [], ◌∷◌, ◌++◌, ℕ, zero, suc, length, get_or, ltb, leb}
use Rattle.rules.specs.Types.{Store, Tx, Schedule, Events}
use Rattle.rules.specs.Transaction.{finals}
use Rattle.run_laws.specs.EventLaws.{safe_release}
use Rattle.rules.specs.Commit.{run_of}
use Rattle.run_laws.specs.Outcome.{aborting, rolling_back, worse, undoing, aborting_late}
use Rattle.run_laws.specs.Gates.{Gate, hit, gates}
use Rattle.upstream.specs.Primitives.{index_validated, row_lock_validated, serial_validated, base_validated, Call, here, ensure_open, final_write_indices}
use Rattle.upstream.specs.Primitives.{index_changes, index_lock_keys, acquire_index_locks}
use Rattle.upstream.specs.Primitives.{acquire_partition_locks, ensure_unlogged_write_allowed, unbound_if_ok}
use Rattle.upstream.specs.Primitives.{check_not_poisoned, sound_if_ok, abort_for_serialization_failure, testing, prepare_commit_record, run_prepare}
use Rattle.upstream.specs.Primitives.{poison_indexes, poison_if, abort_preparation, prepare_index_destinations, run_before_publish, resume_unwind}
use Rattle.upstream.specs.Primitives.{rollback_prepared_commit, remove_index_sources, publish_prepared_write_set, publish_write_set, recycle_non_final_writes}
use Rattle.upstream.specs.Primitives.{flush_local_recycle_caches, finish_transaction, publish_index_stamps, release_partition_locks, release_index_locks}

abbrev pub let_go : List Call
let_go = release_partition_locks ∷ release_index_locks ∷ []

-- where the abort fails, the store is poisoned, which 000 leaves out here: docs/DIFFERENCES.md
abbrev pub abort_then : Bool → List Call
abort_then failed = abort_for_serialization_failure ∷ poison_if failed

abbrev pub publish : Bool → Call
publish logged = cond logged publish_prepared_write_set publish_write_set

-- rolled back and aborted; what `resume_unwind` asks after a panic holds after a failure too
abbrev pub callback_failed : Bool → Bool → Bool → List Call
callback_failed poisons unrolled unaborted =
    run_before_publish false poisons
    ∷ rollback_prepared_commit (not unrolled) (not unaborted)
    ++ resume_unwind
    ∷ here (λ s. not s.health_cleanup_required)
    ∷ here (λ s. not s.destinations_prepared || (s.poisoned && safe_release s))
    ∷ let_go

-- the calls of the first gate that holds, none if none does
abbrev pub ending_of : List Gate → List (List Call) → List Call
ending_of [] ds = []
ending_of (g ∷ gs) [] = []
ending_of (g ∷ gs) (d ∷ ds) = cond g.when d (ending_of gs ds)

-- the events when n steps are passed
unfoldable pub standing : Bool → Bool → Bool → ℕ → Events
standing logged bound writing n = record {
  index_locked = leb 7 n && not (leb 23 n);
  partition_locked = leb 8 n && not (leb 23 n);
  index_validated = leb 11 n;
  row_lock_validated = leb 12 n;
  serial_validated = leb 13 n;
  base_validated = leb 14 n;
  write_ahead = logged;
  durably_bound = bound;
  has_writes = writing;
  unlogged_write_checked = not logged && (writing && leb 9 n);
  health_checked = leb 10 n;
  health_cleanup_required = false;
  record_prepared = logged && leb 5 n;
  payload_prepared = logged && leb 6 n;
  preparation_cleanup_required = false;
  destinations_prepared = leb 15 n;
  callback_complete = logged && leb 16 n;
  prepared = leb 17 n;
  rows_published = leb 18 n;
  deregistered = leb 21 n;
  stamped = leb 22 n;
  poisoned = false;
}

module _ (S : Store) (x : Tx) (logged : Bool) (plan : Schedule) where
  abbrev pub writing : Bool
  writing = ltb 0 (length (finals x))

  abbrev pub stand : ℕ → Events
  stand n = standing logged S.bound writing n

  -- the calls of a step that goes on, by its number
  unfoldable pub onward : List (List Call)
  onward =
      []
      ∷ (ensure_open ∷ [])
      ∷ (final_write_indices (length (finals x)) ∷ [])
      ∷ (index_changes ∷ [])
      ∷ (index_lock_keys ∷ [])
      ∷ cond logged (prepare_commit_record true ∷ []) []
      ∷ cond logged (run_prepare true ∷ here safe_release ∷ []) []
      ∷ (acquire_index_locks true ∷ [])
      ∷ (acquire_partition_locks true ∷ [])
      ∷ cond (not logged && writing) (ensure_unlogged_write_allowed ∷ unbound_if_ok true ∷ []) []
      ∷ (check_not_poisoned true false ∷ sound_if_ok true ∷ [])
      ∷ (testing index_validated true ∷ [])
      ∷ (testing row_lock_validated true ∷ [])
      ∷ (testing serial_validated true ∷ [])
      ∷ (testing base_validated true ∷ [])
      ∷ (prepare_index_destinations true false ∷ [])
      ∷ cond logged (run_before_publish true false ∷ here (λ s. not s.health_cleanup_required) ∷ []) []
      ∷ (remove_index_sources true ∷ [])
      ∷ (publish logged ∷ [])
      ∷ (recycle_non_final_writes ∷ [])
      ∷ (flush_local_recycle_caches ∷ [])
      ∷ (finish_transaction true ∷ [])
      ∷ (publish_index_stamps true ∷ [])
      ∷ let_go
      ∷ []

  abbrev pub said : ℕ → List Call
  said n = get_or onward n []

  -- the calls of the first n steps
  abbrev pub up_to : ℕ → List Call
  up_to zero = []
  up_to (suc n) = up_to n ++ said (suc n)

  abbrev pub unaborted : Bool
  unaborted = (aborting S x logged plan).failed

  -- for each of the gates: the call that failed, then what 000 does about it
  unfoldable pub endings : List (List Call)
  endings =
      (index_changes ∷ [])  -- 3
      ∷ (index_lock_keys ∷ [])  -- 4
      ∷ (prepare_commit_record false ∷ abort_preparation (not unaborted))  -- 5
      ∷ (run_prepare false ∷ abort_preparation (not unaborted))  -- 6 fails
      ∷ (run_prepare false ∷ abort_preparation (not unaborted) ++ resume_unwind ∷ [])  -- 6 panics
      ∷ (acquire_index_locks false ∷ [])  -- 7 fails
      ∷ (acquire_index_locks false ∷ abort_then unaborted)  -- 7 busy
      ∷ (acquire_partition_locks false ∷ release_index_locks ∷ [])  -- 8 fails
      ∷ (acquire_partition_locks false ∷ release_index_locks ∷ abort_then unaborted)  -- 8 busy
      ∷ (ensure_unlogged_write_allowed ∷ let_go)  -- 9 fails
      ∷ (ensure_unlogged_write_allowed ∷ let_go)  -- durably bound
      ∷ (check_not_poisoned false (not (hit S x logged plan 10)) ∷ let_go ++ abort_preparation (not unaborted))  -- 10 fails, or poisoned
      ∷ (testing index_validated false ∷ let_go)  -- 11 fails
      ∷ (testing index_validated false ∷ let_go ++ abort_then unaborted)  -- 11 says yes
      ∷ (testing row_lock_validated false ∷ let_go)
      ∷ (testing row_lock_validated false ∷ let_go ++ abort_then unaborted)
      ∷ (testing serial_validated false ∷ let_go)
      ∷ (testing serial_validated false ∷ let_go ++ abort_then unaborted)
      ∷ (testing base_validated false ∷ let_go)
      ∷ (testing base_validated false ∷ let_go ++ abort_then unaborted)
      ∷ (prepare_index_destinations false (rolling_back S x logged plan).failed ∷ let_go)  -- 15
      ∷ callback_failed (worse S x logged plan) (undoing S x logged plan).failed (aborting_late S x logged plan).failed  -- 16
      ∷ (remove_index_sources false ∷ let_go)  -- 17
      ∷ (publish logged ∷ poison_indexes ∷ finish_transaction (not (hit S x logged plan 21)) ∷ let_go)  -- 18
      ∷ (recycle_non_final_writes ∷ poison_indexes ∷ finish_transaction (not (hit S x logged plan 21)) ∷ let_go)  -- 19
      ∷ (finish_transaction false ∷ poison_indexes ∷ let_go)  -- 21
      ∷ (publish_index_stamps false ∷ poison_indexes ∷ let_go)  -- 22
      ∷ []

  -- the calls of a run: those of the steps it passed, then those of the gate that ended it
  abbrev pub told : List Call
  told = up_to (run_of S x logged plan).passed ++ ending_of (gates S x logged plan) endings
