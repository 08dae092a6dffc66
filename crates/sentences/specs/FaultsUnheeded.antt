-- "any fault strikes .. never at a step not reached"; "20 flush F, ignored": what a run doesn't ask a schedule about.
use Rattle.std.specs.Prelude.{◌≡◌, refl, Bool, ◌||◌, List, [], ◌∷◌, ◌≢◌, length, take}
use Rattle.std.proofs.Common.{ap, not-suc-le-zero, arith}
use Rattle.std.proofs.Math.Bool.{false}
use Prim.Native.Nat.{ℕ, zero, suc, ◌+◌, ◌≤◌, ◌<◌}
use Rattle.rules.specs.Types.{Store, Tx, Schedule, Cause}
use Rattle.rules.specs.Tests.{index_read_conflict, row_lock_conflict, serialization_conflict, write_base_conflict}
use Rattle.rules.specs.Changes.{changes, destinations}
use Rattle.rules.specs.Faults.{F, B, P, X, Q}
use Rattle.rules.specs.Commit.{strikes, count, abort_or_poison, rollback, index_changes_made, index_lock_keys, prepare_commit_record, run_prepare}
use Rattle.rules.specs.Commit.{acquire_index_locks, acquire_partition_locks, ensure_unlogged_write_allowed}
use Rattle.rules.specs.Commit.{check_not_poisoned, test, prepare_index_destinations}
use Rattle.rules.specs.Commit.{invoke_before_publish, remove_index_sources, publish_write_set}
use Rattle.rules.specs.Commit.{recycle_non_final_writes, finish_transaction, publish_index_stamps}
use Rattle.rules.specs.Commit.{End, Step, goes, ends, steps, run, committed, run_of}
use Rattle.rules.specs.Answer.{commit}
use Rattle.statements.specs.FaultWords.{AlikeAt, NeverBeyond, FlushIgnored}

-- the first m steps of two lists are the same
abbrev Upto : ℕ → List Step → List Step → Type 0
Upto zero ss us = Unit
Upto (suc m) [] us = Unit
Upto (suc m) (s ∷ ss) [] = ⊥
Upto (suc m) (s ∷ ss) (u ∷ us) = (s ≡ u) × Upto m ss us

-- .. and a run that comes no further is the same
run_upto : (e : End) (m : ℕ) (ss us : List Step) → length ss ≡ length us → (run e ss).passed < m → Upto m ss us → run e ss ≡ run e us
run_upto e zero ss us l h a = absurd (not-suc-le-zero h)
run_upto e (suc m) [] [] l h a = refl
run_upto e (suc m) [] (u ∷ us) l h a = absurd (omega (arith, l))
run_upto e (suc m) (s ∷ ss) [] l h a = absurd a
run_upto e (suc m) (goes ps ∷ ss) (u ∷ us) l h a =
    rw (← a.0) (rw (run_upto e m ss us (omega (arith, l)) (omega (arith, h)) a.1))
run_upto e (suc m) (ends ps d ∷ ss) (u ∷ us) l h a = rw (← a.0)

module _ (S : Store) (x : Tx) (logged : Bool) (plan other : Schedule) (a21 : AlikeAt S x logged plan other 21) (a23 : AlikeAt S x logged plan other 23)
    (a24 : AlikeAt S x logged plan other 24) where
  aborts : (b : Bool) → abort_or_poison S x logged plan b ≡ abort_or_poison S x logged other b
  unfolding abort_or_poison
  aborts b = rw (a23.letters F)

  rolls : (b : Bool) (made : List ℕ) → rollback S x logged plan b made ≡ rollback S x logged other b made
  unfolding rollback
  rolls b made = rw (a24.letters F, a24.k)

  -- step by step
  s3 : AlikeAt S x logged plan other 3 → index_changes_made S x logged plan ≡ index_changes_made S x logged other
  unfolding index_changes_made
  s3 a = rw (a.letters F)

  s4 : AlikeAt S x logged plan other 4 → index_lock_keys S x logged plan ≡ index_lock_keys S x logged other
  unfolding index_lock_keys
  s4 a = rw (a.letters F)

  s5 : AlikeAt S x logged plan other 5 → prepare_commit_record S x logged plan ≡ prepare_commit_record S x logged other
  unfolding prepare_commit_record
  s5 a = rw (a.letters F, aborts S.poisoned)

  s6 : AlikeAt S x logged plan other 6 → run_prepare S x logged plan ≡ run_prepare S x logged other
  unfolding run_prepare
  s6 a = rw (a.letters F, a.letters P, aborts S.poisoned)

  s7 : AlikeAt S x logged plan other 7 → acquire_index_locks S x logged plan ≡ acquire_index_locks S x logged other
  unfolding acquire_index_locks
  s7 a = rw (a.letters F, a.letters B, aborts S.poisoned)

  s8 : AlikeAt S x logged plan other 8 → acquire_partition_locks S x logged plan ≡ acquire_partition_locks S x logged other
  unfolding acquire_partition_locks
  s8 a = rw (a.letters F, a.letters B, aborts S.poisoned)

  s9 : AlikeAt S x logged plan other 9 → ensure_unlogged_write_allowed S x logged plan ≡ ensure_unlogged_write_allowed S x logged other
  unfolding ensure_unlogged_write_allowed
  s9 a = rw (a.letters F)

  s10 : AlikeAt S x logged plan other 10 → check_not_poisoned S x logged plan ≡ check_not_poisoned S x logged other
  unfolding check_not_poisoned
  s10 a = rw (a.letters F, aborts S.poisoned)

  tests : (n : ℕ) (b : Bool) (c : Cause) → AlikeAt S x logged plan other n → test S x logged plan n b c ≡ test S x logged other n b c
  tests n b c a = rw (a.letters F, aborts S.poisoned)

  s15 : AlikeAt S x logged plan other 15 → prepare_index_destinations S x logged plan ≡ prepare_index_destinations S x logged other
  unfolding prepare_index_destinations
  s15 a = rw (a.letters F, a.k, rolls false (take (count S x logged other 15) (destinations (changes S x))))

  s17 : AlikeAt S x logged plan other 17 → remove_index_sources S x logged plan ≡ remove_index_sources S x logged other
  unfolding remove_index_sources
  s17 a = rw (a.letters F, a.k)

  s18 : AlikeAt S x logged plan other 18 → publish_write_set S x logged plan ≡ publish_write_set S x logged other
  unfolding publish_write_set
  s18 a = rw (a.letters F, a.k, a21.letters F)

  s19 : AlikeAt S x logged plan other 19 → recycle_non_final_writes S x logged plan ≡ recycle_non_final_writes S x logged other
  unfolding recycle_non_final_writes
  s19 a = rw (a.letters F, a.k, a21.letters F)

  s21 : finish_transaction S x logged plan ≡ finish_transaction S x logged other
  unfolding finish_transaction
  s21 = rw (a21.letters F)

  s22 : AlikeAt S x logged plan other 22 → publish_index_stamps S x logged plan ≡ publish_index_stamps S x logged other
  unfolding publish_index_stamps
  s22 a = rw (a.letters F, a.k)

  s16 : AlikeAt S x logged plan other 16 → invoke_before_publish S x logged plan ≡ invoke_before_publish S x logged other
  unfolding invoke_before_publish
  s16 a =
      let w = strikes S x logged other 16 X || strikes S x logged other 16 Q in
      let b = rollback S x logged other w (destinations (changes S x)) in
      rw (
        a.letters F,
        a.letters X,
        a.letters P,
        a.letters Q,
        rolls w (destinations (changes S x)),
        aborts (w || b.failed),
      )

  -- agreement about the steps from the i-th on, as far as it goes
  record From (i : ℕ) (ss us : List Step) : Type 0 where
    long : length ss ≡ length us
    upto : (m : ℕ) → ((n : ℕ) → n ≤ i + m → n ≢ 20 → AlikeAt S x logged plan other n) → Upto m ss us

  none : (m : ℕ) → Upto m [] []
  none zero = tt
  none (suc m) = tt

  over : {i : ℕ} → From i [] []
  over = record { long = refl; upto = λ m h. none m }

  -- one step, that asks about its own number, or doesn't
  next : (i : ℕ) {s u : Step} {ss us : List Step} → suc i ≢ 20 → (AlikeAt S x logged plan other (suc i) → s ≡ u) → From (suc i) ss us → From i (s ∷ ss) (u ∷ us)
  next i {s} {u} {ss} {us} ne f r = record { long = ap suc r.long; upto = go }
    where
      go : (m : ℕ) → ((n : ℕ) → n ≤ i + m → n ≢ 20 → AlikeAt S x logged plan other n) → Upto m (s ∷ ss) (u ∷ us)
      go zero h = tt
      go (suc m) h = (f (h (suc i) (omega arith) ne), r.upto m (λ n le. h n (omega (arith, le))))

  skip : (i : ℕ) {s : Step} {ss us : List Step} → From (suc i) ss us → From i (s ∷ ss) (s ∷ us)
  skip i {s} {ss} {us} r = record { long = ap suc r.long; upto = go }
    where
      go : (m : ℕ) → ((n : ℕ) → n ≤ i + m → n ≢ 20 → AlikeAt S x logged plan other n) → Upto m (s ∷ ss) (s ∷ us)
      go zero h = tt
      go (suc m) h = (refl, r.upto m (λ n le. h n (omega (arith, le))))

  same_steps : From 0 (steps S x logged plan) (steps S x logged other)
  unfolding steps
  same_steps =
      skip 0 (skip 1 (next 2 (λ e. omega arith) s3 (next 3 (λ e. omega arith) s4 (next 4 (λ e. omega arith) s5 (next 5 (λ e. omega arith) s6 (
      next 6 (λ e. omega arith) s7 (next 7 (λ e. omega arith) s8 (next 8 (λ e. omega arith) s9 (next 9 (λ e. omega arith) s10 (
      next 10 (λ e. omega arith) (tests 11 (index_read_conflict S x) _) (next 11 (λ e. omega arith) (tests 12 (row_lock_conflict S x) _) (
      next 12 (λ e. omega arith) (tests 13 (serialization_conflict S x) _) (next 13 (λ e. omega arith) (tests 14 (write_base_conflict S x) _) (
      next 14 (λ e. omega arith) s15 (next 15 (λ e. omega arith) s16 (next 16 (λ e. omega arith) s17 (next 17 (λ e. omega arith) s18 (
      next 18 (λ e. omega arith) s19 (skip 19 (next 20 (λ e. omega arith) (λ _. s21) (next 21 (λ e. omega arith) s22 (skip 22 over))))))))))))))))))))))

  same_run : ((n : ℕ) → n ≤ suc (run_of S x logged plan).passed → n ≢ 20 → AlikeAt S x logged plan other n) → run_of S x logged plan ≡ run_of S x logged other
  unfolding run_of
  same_run h =
      let m = suc (run (committed x) (steps S x logged plan)).passed in
      run_upto (committed x) m (steps S x logged plan) (steps S x logged other) same_steps.long (omega arith)
      (same_steps.upto m (λ n le. h n (omega (arith, le))))

-- "any fault strikes .. never at a step not reached"
pub never_beyond : NeverBeyond
unfolding commit
never_beyond S x logged plan other cut e alike a21 a23 a24 = rw (e, same_run S x logged plan other a21 a23 a24 alike)

-- "20 flush F, ignored"
pub flush_ignored : FlushIgnored
flush_ignored S x logged plan other cut e alike =
    never_beyond S x logged plan other cut e (λ n _ ne. alike n ne) (alike 21 (λ e. omega arith)) (alike 23 (λ e. omega arith)) (alike 24 (λ e. omega arith))
