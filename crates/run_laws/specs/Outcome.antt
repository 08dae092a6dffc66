-- How a run of the steps can end: seven families of endings, with what was stored before each and why. Every law about commit's
-- answers goes by these cases and not by the 23 steps.
use Rattle.std.specs.Prelude.{◌≡◌, Bool, true, false, not, cond, ◌&&◌, ◌||◌, ℕ, suc, ◌+◌, take, eqb, leb}
use Rattle.std.proofs.Math.Path.{refl}
use mathlib.Core.List.{List, [], ◌∷◌, ◌++◌, append_assoc, append-nil}
use Rattle.std.proofs.Common.{add-zero, add-suc, suc-add}
use Rattle.std.proofs.Math.Nat.{zero-add}
use Rattle.rules.specs.Types.{Store, Tx, Schedule, Fate, Open, Standing, Undone, Refusal, StepFailed, PrepareFailed, PreparePanicked}
use Rattle.rules.specs.Types.{Conflict, BoundDurably, FoundPoisoned, InsertFailed, CallbackFailed, CallbackPanicked, RemoveFailed}
use Rattle.rules.specs.Types.{PublishFailed, RecycleFailed, FinishFailed, StampFailed, CleanupFailed}
use Rattle.basic_laws.specs.Cases.{clash, by, and_true, or_false}
use Rattle.rules.specs.Transaction.{no_writes, no_accesses, emptied}
use Rattle.rules.specs.Faults.{F, B, P, X, Q}
use Rattle.rules.specs.Numbers.{fate}
use Rattle.rules.specs.Puts.{Put, put_drop, put_poison, put_doom}
use Rattle.rules.specs.Types.{Cause, BusyGuard, IndexReadAt, RowLockAt, SerializationAt, WriteBaseAt}
use Rattle.rules.specs.Tests.{index_read_conflict, row_lock_conflict, serialization_conflict, write_base_conflict, conflicting}
use Rattle.rules.specs.Tests.{index_read_place, row_lock_place, serialization_place, write_base_place}
use Rattle.rules.specs.Changes.{changes, destinations, index_guards, partition_guards, release, insertions, removals, publication, recycling, stamping}
use Rattle.rules.specs.Commit.{End, ending, Step, goes, ends, stop_if, Clean, strikes, fails, count, abort_or_poison, rollback, unlogged_writes}
use Rattle.rules.specs.Commit.{finish, index_changes_made, index_lock_keys, prepare_commit_record, run_prepare, acquire_index_locks, acquire_partition_locks}
use Rattle.rules.specs.Commit.{ensure_unlogged_write_allowed, check_not_poisoned, prepare_index_destinations, invoke_before_publish, remove_index_sources}
use Rattle.rules.specs.Commit.{publish_write_set, recycle_non_final_writes, finish_transaction, publish_index_stamps, steps, run, committed, run_of}

-- after n steps and the stores `made`, the steps end as Q says
pub data Follows (Q : ℕ → List Put → End → Type 0) (e : End) : ℕ → List Put → List Step → Type 0 where
  over : {n : ℕ} {made : List Put} → Q n made e → Follows Q e n made []
  skip : {n : ℕ} {made : List Put} {ss : List Step} → Follows Q e (suc n) made ss → Follows Q e n made (goes [] ∷ ss)
  go : {n : ℕ} {made ps : List Put} {ss : List Step} → Follows Q e (suc n) (made ++ ps) ss → Follows Q e n made (goes ps ∷ ss)
  stop : {n : ℕ} {made ps : List Put} {d : End} {ss : List Step} → Q n (made ++ ps) d → Follows Q e n made (ends ps d ∷ ss)

-- the same of the run as a whole
pub follows_run : (Q : ℕ → List Put → End → Type 0) (e : End) (n : ℕ) (made : List Put) (ss : List Step) → Follows Q e n made ss
    → Q (n + (run e ss).passed) (made ++ (run e ss).puts) (run e ss).end
follows_run Q e n made _ (over q) = rw (add-zero, append-nil) q
follows_run Q e n made _ (skip {ss = ss} h) = rw add-suc (rw suc-add at (follows_run Q e (suc n) made ss h))
follows_run Q e n made _ (go {ps = ps} {ss = ss} h) =
    rw (add-suc, ← append_assoc made ps (run e ss).puts) (rw suc-add at (follows_run Q e (suc n) (made ++ ps) ss h))
follows_run Q e n made _ (stop q) = rw add-zero q

-- a step that may stop: each way with its reason
pub follows_if : (b : Bool) {Q : ℕ → List Put → End → Type 0} {e : End} {n : ℕ} {made : List Put} {s t : Step} {ss : List Step}
    → (b ≡ true → Follows Q e n made (s ∷ ss)) → (b ≡ false → Follows Q e n made (t ∷ ss)) → Follows Q e n made (stop_if b s t ∷ ss)
unfolding stop_if
follows_if true f g = f refl
follows_if false f g = g refl

module _ (S : Store) (x : Tx) (logged : Bool) (plan : Schedule) where
  abbrev pub t : ℕ
  t = x.txid.0

  -- a letter strikes somewhere
  pub record Struck : Type 0 where
    pub step : ℕ
    pub letter : ℕ
    pub is : strikes S x logged plan step letter ≡ true
    pub true_letter : eqb 0 letter ≡ false

  abbrev pub struck : (n c : ℕ) → eqb 0 c ≡ false → strikes S x logged plan n c ≡ true → Struck
  struck n c z h = record { step = n; letter = c; is = h; true_letter = z }

  -- guards taken so far, and how they are given back
  pub data Taken : List Put → List Put → Type 0 where
    neither : Taken [] []
    index : Taken (index_guards S x t) (index_guards S x 0)
    both : Taken (index_guards S x t ++ partition_guards x t) (release S x)

  -- 4 and 8
  pub data Stay : (Fate → Refusal) → Type 0 where
    faulted : Struck → Stay StepFailed
    durable : (unlogged_writes S x logged plan && S.bound) ≡ true → Stay BoundDurably

  -- B strikes at 7 or 8
  abbrev pub guard_busy : Bool
  guard_busy = strikes S x logged plan 7 B || strikes S x logged plan 8 B

  -- 11 to 14: the first test that says yes, and the cause that it gives
  pub data Yes : Cause → Type 0 where
    yes_11 : index_read_conflict S x ≡ true → Yes (IndexReadAt (index_read_place S x))
    yes_12 : index_read_conflict S x ≡ false → row_lock_conflict S x ≡ true → Yes (RowLockAt (row_lock_place S x))
    yes_13 : index_read_conflict S x ≡ false → row_lock_conflict S x ≡ false → serialization_conflict S x ≡ true
        → Yes (SerializationAt (serialization_place S x))
    yes_14 : index_read_conflict S x ≡ false → row_lock_conflict S x ≡ false → serialization_conflict S x ≡ false → write_base_conflict S x ≡ true
        → Yes (WriteBaseAt (write_base_place S x))

  pub yes_conflicts : {c : Cause} → Yes c → conflicting S x ≡ true
  yes_conflicts (yes_11 h) = rw h
  yes_conflicts (yes_12 t11 h) = rw (t11, h)
  yes_conflicts (yes_13 t11 t12 h) = rw (t11, t12, h)
  yes_conflicts (yes_14 t11 t12 t13 h) = rw (t11, t12, t13, h)

  -- 5, 6, 7 and 9: the number, the number where the abort fails, whether poison was found, whether a preparation is to be cleaned up
  pub data Abort : (Fate → Refusal) → (Fate → Refusal) → Bool → Bool → Type 0 where
    unprepared : Struck → Abort PrepareFailed CleanupFailed false true
    panicked : Struck → Abort PreparePanicked PreparePanicked false true
    busy : guard_busy ≡ true → Struck → Abort (Conflict BusyGuard) (Conflict BusyGuard) false false
    conflict : {c : Cause} → guard_busy ≡ false → Yes c → Abort (Conflict c) (Conflict c) false false
    unhealthy : (fails S x logged plan 10 || S.poisoned) ≡ true → Abort FoundPoisoned CleanupFailed (not (fails S x logged plan 10)) false

  -- what holds once the tests are passed
  pub record Passed : Type 0 where
    pub allowed : (unlogged_writes S x logged plan && S.bound) ≡ false
    pub healthy : S.poisoned ≡ false
    pub agreed : conflicting S x ≡ false

  -- the stores of the steps up to 8, 15, 17, 18, 19, 21, 22
  abbrev pub guards_taken : List Put
  guards_taken = index_guards S x t ++ partition_guards x t

  abbrev pub after_insert : List Put
  after_insert = guards_taken ++ insertions S x

  abbrev pub after_remove : List Put
  after_remove = after_insert ++ removals S x

  abbrev pub after_publish : List Put
  after_publish = after_remove ++ publication x

  abbrev pub after_recycle : List Put
  after_recycle = after_publish ++ recycling S x

  abbrev pub after_finish : List Put
  after_finish = after_recycle ++ put_drop t ∷ []

  abbrev pub after_stamp : List Put
  after_stamp = after_finish ++ stamping S x

  -- 13 to 16: the steps passed, their stores, the stores of the step that failed, the poison, the finish, the number, the transaction left
  pub data Spoil : ℕ → List Put → List Put → Put → List Put → (Fate → Refusal) → Tx → Bool → Type 0 where
    unremoved : Struck → Spoil 16 after_insert (take (count S x logged plan 17) (removals S x)) put_poison [] RemoveFailed x false
    unpublished : Struck
        → Spoil 17 after_remove (take (count S x logged plan 18) (publication x)) (put_doom t) (finish S x logged plan) PublishFailed
        (no_accesses x) (not (fails S x logged plan 21))
    unrecycled : Struck
        → Spoil 18 after_publish (take (count S x logged plan 19) (recycling S x)) (put_doom t) (finish S x logged plan) RecycleFailed (no_writes x)
        (not (fails S x logged plan 21))
    unfinished : Struck → Spoil 20 after_recycle [] (put_doom t) [] FinishFailed (emptied x) false

  -- the abort of 5, 6, 7, 9; the rollback of 10; the rollback and the abort of 11 and 12
  abbrev pub aborting : Clean
  aborting = abort_or_poison S x logged plan S.poisoned

  abbrev pub rolling_back : Clean
  rolling_back = rollback S x logged plan false (take (count S x logged plan 15) (destinations (changes S x)))

  abbrev pub worse : Bool
  worse = strikes S x logged plan 16 X || strikes S x logged plan 16 Q

  abbrev pub panics : Bool
  panics = strikes S x logged plan 16 P || strikes S x logged plan 16 Q

  abbrev pub undoing : Clean
  undoing = rollback S x logged plan worse (destinations (changes S x))

  abbrev pub aborting_late : Clean
  aborting_late = abort_or_poison S x logged plan (worse || undoing.failed)

  abbrev pub bad : Bool
  bad = undoing.failed || aborting_late.failed

  pub data Outcome : ℕ → List Put → End → Type 0 where
    done : Passed → Outcome 23 (after_stamp ++ release S x) (committed x)
    stays : {n : ℕ} {taken back : List Put} {kind : Fate → Refusal} → leb 14 n ≡ false → Taken taken back → Stay kind
        → Outcome n (taken ++ back) (ending (kind Open) x false)
    aborts : {n : ℕ} {taken back : List Put} {kind failed : Fate → Refusal} {found preparing : Bool} → leb 14 n ≡ false → Taken taken back
        → Abort kind failed found preparing
        → Outcome n (taken ++ (back ++ aborting.puts)) (record {
          refusal = cond aborting.failed failed kind (fate aborting.failed true);
          tx = aborting.tx;
          poisoned = found || aborting.failed;
          cleanup = preparing && aborting.failed;
          undone = false;
          dropped = false;
        })
    uninserted : Passed → Struck
        → Outcome 14 (guards_taken ++ (take (count S x logged plan 15) (insertions S x) ++ (rolling_back.puts ++ release S x)))
        (ending (InsertFailed (fate rolling_back.failed false)) x rolling_back.failed)
    uncalled : Passed → logged ≡ true → Struck
        → Outcome 15 (after_insert ++ (cond worse (put_poison ∷ []) [] ++ (undoing.puts ++ (aborting_late.puts ++ release S x)))) (record {
          refusal = cond panics CallbackPanicked (cond bad CleanupFailed CallbackFailed) (fate (worse || bad) (not aborting_late.failed));
          tx = aborting_late.tx;
          poisoned = worse || bad;
          cleanup = false;
          undone = not undoing.failed;
          dropped = false;
        })
    spoils : {n : ℕ} {made some finishing : List Put} {poisoning : Put} {kind : Fate → Refusal} {y : Tx} {drops : Bool} → Passed
        → Spoil n made some poisoning finishing kind y drops
        → Outcome n (made ++ (some ++ poisoning ∷ finishing ++ release S x))
        (record { refusal = kind Undone; tx = y; poisoned = true; cleanup = false; undone = false; dropped = drops })
    unstamped : Passed → Struck
        → Outcome 21 (after_finish ++ (take (count S x logged plan 22) (stamping S x) ++ put_poison ∷ release S x))
        (ending (StampFailed Standing) (emptied x) true)

  called : (logged && (fails S x logged plan 16 || (worse || panics))) ≡ true → (logged ≡ true) × Struck
  called h =
      let a = and_true logged _ h in (
        a.0,
        by (fails S x logged plan 16) (λ e. struck 16 F refl e) (λ n1.
            by (strikes S x logged plan 16 X) (λ e. struck 16 X refl e) (λ n2.
            by (strikes S x logged plan 16 Q) (λ e. struck 16 Q refl e) (λ n3.
            by (strikes S x logged plan 16 P) (λ e. struck 16 P refl e) (λ n4. clash a.1 (rw (n1, n2, n3, n4)))))),
      )

  -- steps 15 on
  from_15 : Passed → Follows Outcome (committed x) 14 guards_taken
      (prepare_index_destinations S x logged plan ∷ invoke_before_publish S x logged plan ∷ remove_index_sources S x logged plan
      ∷ publish_write_set S x logged plan
      ∷ recycle_non_final_writes S x logged plan ∷ goes [] ∷ finish_transaction S x logged plan ∷ publish_index_stamps S x logged plan
      ∷ goes (release S x) ∷ [])
  unfolding prepare_index_destinations invoke_before_publish remove_index_sources publish_write_set recycle_non_final_writes finish_transaction
      publish_index_stamps
  from_15 ok =
      follows_if _ (λ h. stop (uninserted ok (struck 15 F refl h))) (λ _. go (
      follows_if _ (λ h. stop (uncalled ok (called h).0 (called h).1)) (λ _. skip (
      follows_if _ (λ h. stop (spoils ok (unremoved (struck 17 F refl h)))) (λ _. go (
      follows_if _ (λ h. stop (spoils ok (unpublished (struck 18 F refl h)))) (λ _. go (
      follows_if _ (λ h. stop (spoils ok (unrecycled (struck 19 F refl h)))) (λ _. go (skip (
      follows_if _ (λ h. stop (spoils ok (unfinished (struck 21 F refl h)))) (λ _. go (
      follows_if _ (λ h. stop (unstamped ok (struck 22 F refl h))) (λ _. go (
      go (over (done ok)))))))))))))))))

  outcomes : Follows Outcome (committed x) 0 [] (steps S x logged plan)
  unfolding steps index_changes_made index_lock_keys prepare_commit_record run_prepare acquire_index_locks acquire_partition_locks
      ensure_unlogged_write_allowed check_not_poisoned
  outcomes =
      let L = logged in
      skip (skip (
      follows_if _ (λ h. stop (stays refl neither (faulted (struck 3 F refl h)))) (λ _. skip (
      follows_if _ (λ h. stop (stays refl neither (faulted (struck 4 F refl h)))) (λ _. skip (
      follows_if _ (λ h. stop (aborts refl neither (unprepared (struck 5 F refl (and_true L _ h).1)))) (λ _. skip (
      follows_if _ (λ h. stop (aborts refl neither (unprepared (struck 6 F refl (and_true L _ h).1)))) (λ _.
      follows_if _ (λ h. stop (aborts refl neither (panicked (struck 6 P refl (and_true L _ h).1)))) (λ _. skip (
      follows_if _ (λ h. stop (stays refl neither (faulted (struck 7 F refl h)))) (λ _.
      follows_if _ (λ h. stop (aborts refl neither (busy (rw h) (struck 7 B refl h)))) (λ b7. go (
      follows_if _ (λ h. stop (stays refl index (faulted (struck 8 F refl h)))) (λ _.
      follows_if _ (λ h. stop (aborts refl index (busy (rw (b7, h)) (struck 8 B refl h)))) (λ b8. go (
      follows_if _ (λ h. stop (stays refl both (faulted (struck 9 F refl (and_true (unlogged_writes S x L plan) _ h).1)))) (λ _.
      follows_if _ (λ h. stop (stays refl both (durable h))) (λ free. skip (
      follows_if _ (λ h. stop (aborts refl both (unhealthy h))) (λ sound. skip (
      follows_if _ (λ h. stop (stays refl both (faulted (struck 11 F refl h)))) (λ _.
      follows_if (index_read_conflict S x) (λ h. stop (aborts refl both (conflict (rw (b7, b8)) (yes_11 h)))) (λ t11. skip (
      follows_if _ (λ h. stop (stays refl both (faulted (struck 12 F refl h)))) (λ _.
      follows_if (row_lock_conflict S x) (λ h. stop (aborts refl both (conflict (rw (b7, b8)) (yes_12 t11 h)))) (λ t12. skip (
      follows_if _ (λ h. stop (stays refl both (faulted (struck 13 F refl h)))) (λ _.
      follows_if (serialization_conflict S x) (λ h. stop (aborts refl both (conflict (rw (b7, b8)) (yes_13 t11 t12 h)))) (λ t13. skip (
      follows_if _ (λ h. stop (stays refl both (faulted (struck 14 F refl h)))) (λ _.
      follows_if (write_base_conflict S x) (λ h. stop (aborts refl both (conflict (rw (b7, b8)) (yes_14 t11 t12 t13 h)))) (λ t14. skip (
      from_15 (record {
        allowed = free;
        healthy = (or_false (fails S x L plan 10) S.poisoned sound).1;
        agreed = rw (t11, t12, t13, t14);
      })))))))))))))))))))))))))))))))))))

  -- every run ends in one of these ways
  pub outcome : let r = run_of S x logged plan in Outcome r.passed r.puts r.end
  unfolding run_of
  outcome = rw zero-add at (follows_run Outcome (committed x) 0 [] (steps S x logged plan) outcomes)
