-- The steps as a row of gates: the first gate whose test holds ends the run, with all the stores made up to there. This is the form
-- that code follows.
use Rattle.std.specs.Prelude.{◌≡◌, Bool, true, false, not, cond, ◌&&◌, ◌||◌, List, [], ◌∷◌, ◌++◌, ℕ, suc, ◌+◌, take}
use Rattle.std.proofs.Common.{append_assoc, append-nil, add-zero, add-suc, suc-add}
use Rattle.std.proofs.Math.Nat.{zero-add}
use Rattle.rules.specs.Types.{Store, Tx, Schedule, Fate, Open, Undone, Standing, Refusal, StepFailed, PrepareFailed, PreparePanicked}
use Rattle.rules.specs.Types.{Conflict, BoundDurably, FoundPoisoned, InsertFailed, CallbackFailed, CallbackPanicked, RemoveFailed}
use Rattle.rules.specs.Types.{PublishFailed, RecycleFailed, FinishFailed, StampFailed, CleanupFailed}
use Rattle.rules.specs.Types.{Cause, BusyGuard, IndexReadAt, RowLockAt, SerializationAt, WriteBaseAt}
use Rattle.rules.specs.Transaction.{no_writes, no_accesses, emptied}
use Rattle.rules.specs.Faults.{B, P}
use Rattle.rules.specs.Numbers.{fate}
use Rattle.rules.specs.Puts.{Put, put_poison, put_doom}
use Rattle.rules.specs.Tests.{index_read_conflict, row_lock_conflict, serialization_conflict, write_base_conflict}
use Rattle.rules.specs.Tests.{index_read_place, row_lock_place, serialization_place, write_base_place}
use Rattle.rules.specs.Changes.{index_guards, release, insertions, removals, publication, recycling, stamping}
use Rattle.rules.specs.Commit.{End, ending, Step, goes, ends, stop_if, strikes, fails, count, unlogged_writes, finish, index_changes_made}
use Rattle.rules.specs.Commit.{index_lock_keys, prepare_commit_record, run_prepare, acquire_index_locks, acquire_partition_locks}
use Rattle.rules.specs.Commit.{ensure_unlogged_write_allowed, check_not_poisoned, prepare_index_destinations, invoke_before_publish, remove_index_sources}
use Rattle.rules.specs.Commit.{publish_write_set, recycle_non_final_writes, finish_transaction, publish_index_stamps, steps, Run, run, committed, run_of}
use Rattle.run_laws.specs.Outcome.{guards_taken, after_insert, after_remove, after_publish, after_recycle, after_finish}
use Rattle.run_laws.specs.Outcome.{after_stamp, aborting, rolling_back, worse, panics, undoing, aborting_late, bad}

pub record Gate : Type 0 where
  pub when : Bool
  pub then : Run

-- the run of the first gate that holds, r if none does
abbrev pub first : List Gate → Run → Run
first [] r = r
first (g ∷ gs) r = cond g.when g.then (first gs r)

-- a run after n steps and the stores `made`
abbrev pub after : ℕ → List Put → Run → Run
after n made r = record { passed = n + r.passed; puts = made ++ r.puts; end = r.end }

-- after n steps and the stores `made`, the steps are these gates, and then r
pub record Gated (e : End) (n : ℕ) (made : List Put) (ss : List Step) (gs : List Gate) (r : Run) : Type 0 where
  pub are : after n made (run e ss) ≡ first gs r

over : {e : End} {n : ℕ} {made : List Put} → Gated e n made [] [] (record { passed = n; puts = made; end = e })
over {e} {n} {made} = record { are = rw (add-zero n, append-nil made) }

skip : {e : End} {n : ℕ} {made : List Put} {ss : List Step} {gs : List Gate} {r : Run} → Gated e (suc n) made ss gs r → Gated e n made (goes [] ∷ ss) gs r
skip {e} {n} {made} {ss} h = record { are = rw (add-suc n (run e ss).passed, ← suc-add n (run e ss).passed) h.are }

go : {e : End} {n : ℕ} {made : List Put} (ps : List Put) {ss : List Step} {gs : List Gate} {r : Run} → Gated e (suc n) (made ++ ps) ss gs r
    → Gated e n made (goes ps ∷ ss) gs r
go {e} {n} {made} ps {ss} h =
    record { are = rw (add-suc n (run e ss).passed, ← suc-add n (run e ss).passed, ← append_assoc made ps (run e ss).puts) h.are }

gate : (b : Bool) {e : End} {n : ℕ} {made : List Put} (ps : List Put) (d : End) {t : Step} {ss : List Step} {gs : List Gate} {r : Run}
    → Gated e n made (t ∷ ss) gs r
    → Gated e n made (stop_if b (ends ps d) t ∷ ss) (record { when = b; then = record { passed = n; puts = made ++ ps; end = d } } ∷ gs) r
unfolding stop_if
gate true {n = n} ps d h = record { are = rw (add-zero n) }
gate false ps d h = record { are = h.are }

module _ (S : Store) (x : Tx) (logged : Bool) (plan : Schedule) where
  abbrev pub at : Bool → ℕ → List Put → End → Gate
  at b n ps d = record { when = b; then = record { passed = n; puts = ps; end = d } }

  -- 4 and 8; 5, 6, 7 and 9; 13 to 16
  abbrev pub stay_end : (Fate → Refusal) → End
  stay_end kind = ending (kind Open) x false

  abbrev pub abort_end : (Fate → Refusal) → (Fate → Refusal) → Bool → Bool → End
  abort_end kind failed found preparing =
      let a = aborting S x logged plan in
      record {
        refusal = cond a.failed failed kind (fate a.failed true);
        tx = a.tx;
        poisoned = found || a.failed;
        cleanup = preparing && a.failed;
        undone = false;
        dropped = false;
      }

  abbrev pub conflict_end : Cause → End
  conflict_end cause = abort_end (Conflict cause) (Conflict cause) false false

  abbrev pub spoil_end : (Fate → Refusal) → Tx → Bool → End
  spoil_end kind y drops = record { refusal = kind Undone; tx = y; poisoned = true; cleanup = false; undone = false; dropped = drops }

  abbrev pub call_end : End
  call_end =
      let a = aborting_late S x logged plan in
      record {
        refusal =
            cond (panics S x logged plan) CallbackPanicked (cond (bad S x logged plan) CleanupFailed CallbackFailed)
            (fate (worse S x logged plan || bad S x logged plan) (not a.failed));
        tx = a.tx;
        poisoned = worse S x logged plan || bad S x logged plan;
        cleanup = false;
        undone = not (undoing S x logged plan).failed;
        dropped = false;
      }

  abbrev pub taking : List Put
  taking = index_guards S x x.txid.0

  abbrev pub leaving : List Put
  leaving = release S x

  abbrev pub dying : List Put
  dying = (aborting S x logged plan).puts

  abbrev pub hit : ℕ → Bool
  hit n = fails S x logged plan n

  abbrev pub part : ℕ → List Put → List Put
  part n ps = take (count S x logged plan n) ps

  -- gates 20 to 26: from step 15 on the stores to undo are made
  abbrev pub late_gates : List Gate
  late_gates =
      at (hit 15) 14 (guards_taken S x logged plan ++ (part 15 (insertions S x) ++ ((rolling_back S x logged plan).puts ++ leaving)))
      (ending (InsertFailed (fate (rolling_back S x logged plan).failed false)) x (rolling_back S x logged plan).failed)
      ∷ at (logged && (hit 16 || (worse S x logged plan || panics S x logged plan))) 15
      (after_insert S x logged plan
      ++ (cond (worse S x logged plan) (put_poison ∷ []) [] ++ ((undoing S x logged plan).puts ++ ((aborting_late S x logged plan).puts ++ leaving)))) call_end
      ∷ at (hit 17) 16 (after_insert S x logged plan ++ (part 17 (removals S x) ++ put_poison ∷ [] ++ leaving)) (spoil_end RemoveFailed x false)
      ∷ at (hit 18) 17 (after_remove S x logged plan ++ (part 18 (publication x) ++ put_doom x.txid.0 ∷ finish S x logged plan ++ leaving))
      (spoil_end PublishFailed (no_accesses x) (not (hit 21)))
      ∷ at (hit 19) 18 (after_publish S x logged plan ++ (part 19 (recycling S x) ++ put_doom x.txid.0 ∷ finish S x logged plan ++ leaving))
      (spoil_end RecycleFailed (no_writes x) (not (hit 21)))
      ∷ at (hit 21) 20 (after_recycle S x logged plan ++ ([] ++ put_doom x.txid.0 ∷ [] ++ leaving)) (spoil_end FinishFailed (emptied x) false)
      ∷ at (hit 22) 21 (after_finish S x logged plan ++ (part 22 (stamping S x) ++ put_poison ∷ leaving)) (ending (StampFailed Standing) (emptied x) true)
      ∷ []

  -- gates 0 to 26, in upstream's order
  unfoldable pub gates : List Gate
  gates =
      at (hit 3) 2 [] (stay_end StepFailed)
      ∷ at (hit 4) 3 [] (stay_end StepFailed)
      ∷ at (logged && hit 5) 4 dying (abort_end PrepareFailed CleanupFailed false true)
      ∷ at (logged && hit 6) 5 dying (abort_end PrepareFailed CleanupFailed false true)
      ∷ at (logged && strikes S x logged plan 6 P) 5 dying (abort_end PreparePanicked PreparePanicked false true)
      ∷ at (hit 7) 6 [] (stay_end StepFailed)
      ∷ at (strikes S x logged plan 7 B) 6 dying (conflict_end BusyGuard)
      ∷ at (hit 8) 7 (taking ++ index_guards S x 0) (stay_end StepFailed)
      ∷ at (strikes S x logged plan 8 B) 7 (taking ++ (index_guards S x 0 ++ dying)) (conflict_end BusyGuard)
      ∷ at (unlogged_writes S x logged plan && hit 9) 8 (guards_taken S x logged plan ++ leaving) (stay_end StepFailed)
      ∷ at (unlogged_writes S x logged plan && S.bound) 8 (guards_taken S x logged plan ++ leaving) (stay_end BoundDurably)
      ∷ at (hit 10 || S.poisoned) 9 (guards_taken S x logged plan ++ (leaving ++ dying)) (abort_end FoundPoisoned CleanupFailed (not (hit 10)) false)
      ∷ at (hit 11) 10 (guards_taken S x logged plan ++ leaving) (stay_end StepFailed)
      ∷ at (index_read_conflict S x) 10 (guards_taken S x logged plan ++ (leaving ++ dying)) (conflict_end (IndexReadAt (index_read_place S x)))
      ∷ at (hit 12) 11 (guards_taken S x logged plan ++ leaving) (stay_end StepFailed)
      ∷ at (row_lock_conflict S x) 11 (guards_taken S x logged plan ++ (leaving ++ dying)) (conflict_end (RowLockAt (row_lock_place S x)))
      ∷ at (hit 13) 12 (guards_taken S x logged plan ++ leaving) (stay_end StepFailed)
      ∷ at (serialization_conflict S x) 12 (guards_taken S x logged plan ++ (leaving ++ dying)) (conflict_end (SerializationAt (serialization_place S x)))
      ∷ at (hit 14) 13 (guards_taken S x logged plan ++ leaving) (stay_end StepFailed)
      ∷ at (write_base_conflict S x) 13 (guards_taken S x logged plan ++ (leaving ++ dying)) (conflict_end (WriteBaseAt (write_base_place S x)))
      ∷ late_gates

  -- the run that passes them all
  abbrev pub clean : Run
  clean = record { passed = 23; puts = after_stamp S x logged plan ++ leaving; end = committed x }

  gated : Gated (committed x) 0 [] (steps S x logged plan) gates clean
  unfolding gates steps index_changes_made index_lock_keys prepare_commit_record run_prepare acquire_index_locks acquire_partition_locks
      ensure_unlogged_write_allowed check_not_poisoned prepare_index_destinations invoke_before_publish remove_index_sources publish_write_set
      recycle_non_final_writes finish_transaction publish_index_stamps
  gated =
      skip (skip (gate _ _ _ (skip (gate _ _ _ (skip (gate _ _ _ (skip (gate _ _ _ (gate _ _ _ (skip (
      gate _ _ _ (gate _ _ _ (go _ (gate _ _ _ (gate _ _ _ (go _ (gate _ _ _ (gate _ _ _ (skip (gate _ _ _ (skip (
      gate _ _ _ (gate _ _ _ (skip (gate _ _ _ (gate _ _ _ (skip (gate _ _ _ (gate _ _ _ (skip (gate _ _ _ (gate _ _ _ (skip (
      gate _ _ _ (go _ (gate _ _ _ (skip (gate _ _ _ (go _ (gate _ _ _ (go _ (gate _ _ _ (go _ (skip (
      gate _ _ _ (go _ (gate _ _ _ (go _ (go _ over)))))))))))))))))))))))))))))))))))))))))))))))))

  -- a run of commit's steps is that of the first gate that holds
  pub run_gates : run_of S x logged plan ≡ first gates clean
  unfolding run_of
  run_gates = rw zero-add at gated.are
