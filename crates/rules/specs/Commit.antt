-- "Steps and faults": commit. Source 000's steps, in its order and under its names.
use Rattle.std.specs.Prelude.{Bool, true, false, not, cond, ◌&&◌, ◌||◌, List, [], ◌∷◌, ◌++◌, map, reverse, ℕ, suc, length, take, eqb, ltb}
use Rattle.rules.specs.Types.{Store, Tx, Schedule, Fate, Open, Undone, Standing}
use Rattle.rules.specs.Types.{Refusal, Done, StepFailed, PrepareFailed, PreparePanicked, Conflict, BoundDurably, FoundPoisoned, InsertFailed}
use Rattle.rules.specs.Types.{Cause, BusyGuard, IndexReadAt, RowLockAt, SerializationAt, WriteBaseAt}
use Rattle.rules.specs.Types.{CallbackFailed, CallbackPanicked, RemoveFailed, PublishFailed, RecycleFailed, FinishFailed, StampFailed, CleanupFailed}
use Rattle.records.specs.Zero.{only_txid}
use Rattle.rules.specs.Transaction.{finals, no_writes, no_accesses, emptied}
use Rattle.rules.specs.Faults.{F, B, P, X, Q, faults_of, fault_at}
use Rattle.rules.specs.Numbers.{fate}
use Rattle.rules.specs.Puts.{Put, put_remove, put_drop, put_poison, put_doom, abort_puts}
use Rattle.rules.specs.Tests.{index_read_conflict, row_lock_conflict, serialization_conflict, write_base_conflict}
use Rattle.rules.specs.Tests.{index_read_place, row_lock_place, serialization_place, write_base_place}
use Rattle.rules.specs.Changes.{changes, destinations, index_guards, partition_guards, release, insertions, removals, publication, recycling, stamping}

-- how a run ends: its answer, the transaction left, and the four events that don't follow from the steps passed
pub record End : Type 0 where
  pub refusal : Refusal
  pub tx : Tx
  pub poisoned : Bool
  pub cleanup : Bool
  pub undone : Bool
  pub dropped : Bool

abbrev pub ending : Refusal → Tx → Bool → End
ending why y poisons = record { refusal = why; tx = y; poisoned = poisons; cleanup = false; undone = false; dropped = false }

-- a step makes its stores and goes on, or makes some and ends the run
pub data Step : Type 0 where
  goes : List Put → Step
  ends : List Put → End → Step

-- the step stops as s if the test holds, and else goes on as t; shut, so that a law can be cited by its arguments
unfoldable pub stop_if : Bool → Step → Step → Step
stop_if b s t = cond b s t

-- a part of cleaning up: its stores, the transaction left, and whether it failed
pub record Clean : Type 0 where
  pub puts : List Put
  pub tx : Tx
  pub failed : Bool

-- "Poisoning a poisoned store makes no store."
abbrev pub poison : Bool → List Put
poison already = cond already [] (put_poison ∷ [])

module _ (S : Store) (x : Tx) (logged : Bool) (plan : Schedule) where
  abbrev pub me : ℕ
  me = x.txid.0

  -- a letter that strikes at a step, and its k
  unfoldable pub strikes : ℕ → ℕ → Bool
  strikes n letter = eqb (fault_at n (faults_of plan)).letter letter

  abbrev pub fails : ℕ → Bool
  fails n = strikes n F

  unfoldable pub count : ℕ → ℕ
  count n = (fault_at n (faults_of plan)).k

  -- 4 and 8: "unchanged, open"; what was taken is given back
  abbrev pub stays : List Put → (Fate → Refusal) → Step
  stays back kind = ends back (ending (kind Open) x false)

  -- 23 abort: "a fault at 23 strikes before abort's first store and leaves the transaction's lists"; "Any failed abort or rollback poisons"
  unfoldable pub abort_or_poison : Bool → Clean
  abort_or_poison already = cond (fails 23)
      (record { puts = poison already; tx = x; failed = true })
      (record { puts = abort_puts S me; tx = only_txid me; failed = false })

  -- 24 rollback_index_destinations, of the insertions made: "rollback in reverse"
  unfoldable pub rollback : Bool → List ℕ → Clean
  rollback already made =
      let back = map put_remove (reverse made) in
      cond (fails 24)
      (record { puts = take (count 24) back ++ poison already; tx = x; failed = true })
      (record { puts = back; tx = x; failed = false })

  -- guards let go, then aborted: the number is `kind`, or `failed` if the abort failed
  abbrev pub aborts : List Put → (Fate → Refusal) → (Fate → Refusal) → Bool → Bool → Step
  aborts back kind failed found preparing =
      let a = abort_or_poison S.poisoned in
      ends (back ++ a.puts) (record {
        refusal = cond a.failed failed kind (fate a.failed true);
        tx = a.tx;
        poisoned = found || a.failed;
        cleanup = preparing && a.failed;
        undone = false;
        dropped = false;
      })

  -- 7: it names its cause, whether its abort fails or not
  abbrev pub conflicts : List Put → Cause → Step
  conflicts back cause = aborts back (Conflict cause) (Conflict cause) false false

  -- 1 open was tried as number 3; 2 has no fault
  abbrev pub ensure_open : Step
  ensure_open = goes []

  abbrev pub final_write_indices : Step
  final_write_indices = goes []

  unfoldable pub index_changes_made : Step
  index_changes_made = stop_if (fails 3) (stays [] StepFailed) (goes [])

  unfoldable pub index_lock_keys : Step
  index_lock_keys = stop_if (fails 4) (stays [] StepFailed) (goes [])

  -- 5 and 6, "logged only"
  unfoldable pub prepare_commit_record : Step
  prepare_commit_record = stop_if (logged && fails 5) (aborts [] PrepareFailed CleanupFailed false true) (goes [])

  unfoldable pub run_prepare : Step
  run_prepare = stop_if (logged && fails 6) (aborts [] PrepareFailed CleanupFailed false true)
      (stop_if (logged && strikes 6 P) (aborts [] PreparePanicked PreparePanicked false true) (goes []))

  -- "Faults at 7 and 8 strike before any guard is taken"
  unfoldable pub acquire_index_locks : Step
  acquire_index_locks = stop_if (fails 7) (stays [] StepFailed)
      (stop_if (strikes 7 B) (conflicts [] BusyGuard) (goes (index_guards S x me)))

  unfoldable pub acquire_partition_locks : Step
  acquire_partition_locks = stop_if (fails 8) (stays (index_guards S x 0) StepFailed)
      (stop_if (strikes 8 B) (conflicts (index_guards S x 0) BusyGuard) (goes (partition_guards x me)))

  -- "unlogged with writes only"
  abbrev pub unlogged_writes : Bool
  unlogged_writes = not logged && ltb 0 (length (finals x))

  unfoldable pub ensure_unlogged_write_allowed : Step
  ensure_unlogged_write_allowed = stop_if (unlogged_writes && fails 9) (stays (release S x) StepFailed)
      (stop_if (unlogged_writes && S.bound) (stays (release S x) BoundDurably) (goes []))

  -- "9: poisoned, or F at 10"; a fault strikes before the store is looked at
  unfoldable pub check_not_poisoned : Step
  check_not_poisoned = stop_if (fails 10 || S.poisoned) (aborts (release S x) FoundPoisoned CleanupFailed (not (fails 10)) false) (goes [])

  -- 11 to 14: "any fault strikes before its step's own test"
  abbrev pub test : ℕ → Bool → Cause → Step
  test n conflict cause = stop_if (fails n) (stays (release S x) StepFailed) (stop_if conflict (conflicts (release S x) cause) (goes []))

  -- from here on a failed step has made k of its stores: "after k stores clipped to the step's number"
  unfoldable pub prepare_index_destinations : Step
  prepare_index_destinations =
      let b = rollback false (take (count 15) (destinations (changes S x))) in
      stop_if (fails 15)
      (ends (take (count 15) (insertions S x) ++ (b.puts ++ release S x)) (ending (InsertFailed (fate b.failed false)) x b.failed))
      (goes (insertions S x))

  -- 16, "logged only": "X fail and poison, Q panic and poison"; rolled back, aborted, guards let go
  unfoldable pub invoke_before_publish : Step
  invoke_before_publish =
      let worse = strikes 16 X || strikes 16 Q in
      let panics = strikes 16 P || strikes 16 Q in
      let b = rollback worse (destinations (changes S x)) in
      let a = abort_or_poison (worse || b.failed) in
      let bad = b.failed || a.failed in
      let kind = cond panics CallbackPanicked (cond bad CleanupFailed CallbackFailed) in
      stop_if (logged && (fails 16 || (worse || panics)))
      (ends (cond worse (put_poison ∷ []) [] ++ (b.puts ++ (a.puts ++ release S x)))
      (record {
        refusal = kind (fate (worse || bad) (not a.failed));
        tx = a.tx;
        poisoned = worse || bad;
        cleanup = false;
        undone = not b.failed;
        dropped = false;
      }))
      (goes [])

  -- poisoned and undone: the stores made so far, the poison "right after the failure causing it", the finish, the guards
  abbrev pub spoils : List Put → Put → List Put → (Fate → Refusal) → Tx → Bool → Step
  spoils made poisoning finish kind y drops =
      ends (made ++ poisoning ∷ finish ++ release S x)
      (record { refusal = kind Undone; tx = y; poisoned = true; cleanup = false; undone = false; dropped = drops })

  unfoldable pub remove_index_sources : Step
  remove_index_sources = stop_if (fails 17) (spoils (take (count 17) (removals S x)) put_poison [] RemoveFailed x false) (goes (removals S x))

  -- 21's store, also in 14 and 15: "a finish fault in 14 or 15 leaves the txid active and changes no number"
  abbrev pub finish : List Put
  finish = cond (fails 21) [] (put_drop me ∷ [])

  unfoldable pub publish_write_set : Step
  publish_write_set =
      stop_if (fails 18) (spoils (take (count 18) (publication x)) (put_doom me) finish PublishFailed (no_accesses x) (not (fails 21)))
      (goes (publication x))

  unfoldable pub recycle_non_final_writes : Step
  recycle_non_final_writes =
      stop_if (fails 19) (spoils (take (count 19) (recycling S x)) (put_doom me) finish RecycleFailed (no_writes x) (not (fails 21)))
      (goes (recycling S x))

  -- 20 "flush F, ignored"
  abbrev pub flush_local_recycle_caches : Step
  flush_local_recycle_caches = goes []

  unfoldable pub finish_transaction : Step
  finish_transaction = stop_if (fails 21) (spoils [] (put_doom me) [] FinishFailed (emptied x) false) (goes (put_drop me ∷ []))

  -- "poisoned and standing for 17"
  unfoldable pub publish_index_stamps : Step
  publish_index_stamps =
      stop_if (fails 22)
      (ends (take (count 22) (stamping S x) ++ put_poison ∷ release S x) (ending (StampFailed Standing) (emptied x) true))
      (goes (stamping S x))

  -- the steps by their numbers 1 to 22, and the guards let go
  unfoldable pub steps : List Step
  steps =
      ensure_open
      ∷ final_write_indices
      ∷ index_changes_made
      ∷ index_lock_keys
      ∷ prepare_commit_record
      ∷ run_prepare
      ∷ acquire_index_locks
      ∷ acquire_partition_locks
      ∷ ensure_unlogged_write_allowed
      ∷ check_not_poisoned
      ∷ test 11 (index_read_conflict S x) (IndexReadAt (index_read_place S x))
      ∷ test 12 (row_lock_conflict S x) (RowLockAt (row_lock_place S x))
      ∷ test 13 (serialization_conflict S x) (SerializationAt (serialization_place S x))
      ∷ test 14 (write_base_conflict S x) (WriteBaseAt (write_base_place S x))
      ∷ prepare_index_destinations
      ∷ invoke_before_publish
      ∷ remove_index_sources
      ∷ publish_write_set
      ∷ recycle_non_final_writes
      ∷ flush_local_recycle_caches
      ∷ finish_transaction
      ∷ publish_index_stamps
      ∷ goes (release S x)
      ∷ []

-- a run: the steps passed, the stores made, the end
pub record Run : Type 0 where
  pub passed : ℕ
  pub puts : List Put
  pub end : End

-- the steps in order, to the first that ends; e is the end of a run that passes them all
abbrev pub run : End → List Step → Run
run e [] = record { passed = 0; puts = []; end = e }
run e (goes ps ∷ ss) = let r = run e ss in record { passed = suc r.passed; puts = ps ++ r.puts; end = r.end }
run e (ends ps d ∷ ss) = record { passed = 0; puts = ps; end = d }

-- "0 committed: lists emptied, txid kept"
abbrev pub committed : Tx → End
committed x = ending Done (emptied x) false

unfoldable pub run_of : Store → Tx → Bool → Schedule → Run
run_of S x logged plan = run (committed x) (steps S x logged plan)
