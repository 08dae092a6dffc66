-- Document 02's wish 4, "Tell us which test refused": a 7 tells the busy guard exactly where B strikes, and else the first entry that conflicts.
use Rattle.std.specs.Prelude.{◌≡◌, Bool, true, cond, ◌&&◌, List, ◌∷◌, ◌≢◌, ◌↔◌, ℕ, ◌<◌, ◌≤◌, eqb, ltb}
use Rattle.std.proofs.Math.Path.{refl}
use Rattle.std.proofs.Common.{sym, ap, subst, ◌∙◌, arith, eqb-true, eq-eqb, ltb-true, ltb-false}
use Rattle.std.proofs.Math.Bool.{false}
use Rattle.std.proofs.Math.Logic.{inl, inr, ⊎_elim}
use Rattle.std.proofs.Math.Logic.Iff
use Rattle.rules.specs.Types.{Store, Tx, Schedule, Answer, Cut, Uncut, Fate, Refusal, Cause, BusyGuard, Conflict}
use Rattle.rules.specs.Faults.{B, faults_of, fault_at}
use Rattle.rules.specs.Numbers.{number_of, More, nothing, cause, more_in, test_named, place_named}
use Rattle.rules.specs.Puts.{Put}
use Rattle.rules.specs.Tests.{index_read_conflict, row_lock_conflict, serialization_conflict, write_base_conflict, conflicting}
use Rattle.rules.specs.Commit.{End, Run, strikes, fails}
use Rattle.rules.specs.Answer.{uncut, commit}
use Rattle.basic_laws.specs.Cases.{by, clash, or_left, or_right}
use Rattle.run_laws.specs.FourTests.{either}
use Rattle.run_laws.specs.Entries.{index_read_test, row_lock_test, serialization_test, write_base_test}
use Rattle.run_laws.specs.Outcome.{guard_busy, struck, unprepared, panicked, busy, conflict, unhealthy, Yes, yes_11, yes_12, yes_13, yes_14, aborting}
use Rattle.run_laws.specs.Outcome.{Outcome, done, stays, aborts, uninserted, uncalled, spoils, unstamped, outcome}
use Rattle.run_laws.specs.FirstRows.{admitted, every_commit, whole, success, stay_not, spoil_not, called_not, no_fault_law, pick_7}
use Rattle.run_laws.specs.Gates.{Gate, first, gates, clean, run_gates}
use Rattle.statements.specs.Words.{Admitted}
use Rattle.statements.specs.CauseWords.{IndexRead, RowLock, Serialization, WriteBase, ConflictsAt, First, Tells, Busy, BusyFirst}
use Rattle.statements.specs.CauseWords.{SevenTells, OnlySevenTells, BusyTold, TestTold}

-- THE FIRST ENTRY THAT CONFLICTS

-- two numbers of which neither is below the other
not_apart : (m n : ℕ) → (m < n → ⊥) → (n < m → ⊥) → m ≡ n
not_apart m n f g = by (ltb m n) (λ e. absurd (f (ltb-true m n e))) (λ e. by (ltb n m)
    (λ k. absurd (g (ltb-true n m k)))
    (λ k. omega (arith, ltb-false m n e, ltb-false n m k)))

module _ (S : Store) (x : Tx) where
  -- an entry that conflicts, by its test
  which : {A : Type 0} {t p : ℕ} → (t ≡ 11 → IndexRead S x p → A) → (t ≡ 12 → RowLock S x p → A) → (t ≡ 13 → Serialization S x p → A)
      → (t ≡ 14 → WriteBase S x p → A) → ConflictsAt S x t p → A
  which a b c d h =
      ⊎_elim (λ s. a s.0 s.1) (λ k. ⊎_elim (λ s. b s.0 s.1) (λ l. ⊎_elim (λ s. c s.0 s.1) (λ s. d s.0 s.1) l) k) h

  -- the same by its test's yes
  test_says : {A : Type 0} {t p : ℕ} → (t ≡ 11 → index_read_conflict S x ≡ true → A) → (t ≡ 12 → row_lock_conflict S x ≡ true → A)
      → (t ≡ 13 → serialization_conflict S x ≡ true → A) → (t ≡ 14 → write_base_conflict S x ≡ true → A) → ConflictsAt S x t p → A
  test_says {p = p} a b c d h =
      which
      (λ e k. a e ((index_read_test S x).says.1 (p, k)))
      (λ e k. b e ((row_lock_test S x).says.1 (p, k)))
      (λ e k. c e ((serialization_test S x).says.1 (p, k)))
      (λ e k. d e ((write_base_test S x).says.1 (p, k)))
      h

  -- so one of the four says yes
  one_conflicts : {t p : ℕ} → ConflictsAt S x t p → conflicting S x ≡ true
  one_conflicts h =
      test_says
      (λ _ k. or_left _ _ k)
      (λ _ k. or_right (index_read_conflict S x) _ (or_left _ _ k))
      (λ _ k. or_right (index_read_conflict S x) _ (or_right (row_lock_conflict S x) _ (or_left _ _ k)))
      (λ _ k. or_right (index_read_conflict S x) _ (or_right (row_lock_conflict S x) _ (or_right (serialization_conflict S x) _ k)))
      h

  -- there is only one that is the first
  one_first : {t p u q : ℕ} → First S x t p → First S x u q → (t ≡ u) × (p ≡ q)
  one_first {t} {p} {u} {q} f g =
      let e = not_apart t u (λ lt. g.before t p lt f.conflicts) (λ lt. f.before u q lt g.conflicts) in (
        e,
        not_apart p q
            (λ lt. g.earlier p lt (subst (λ (v : ℕ). ConflictsAt S x v p) e f.conflicts))
            (λ lt. f.earlier q lt (subst (λ (v : ℕ). ConflictsAt S x v q) (sym e) g.conflicts)),
      )

  -- what makes one the first: a test that says yes is no earlier one, and no earlier entry of its own conflicts
  first_of_law : (t n : ℕ) → ConflictsAt S x t n → (index_read_conflict S x ≡ true → t ≤ 11) → (row_lock_conflict S x ≡ true → t ≤ 12)
      → (serialization_conflict S x ≡ true → t ≤ 13) → t ≤ 14 → ((q : ℕ) → q < n → ConflictsAt S x t q → ⊥) → First S x t n
  first_of_law t n h a b c d k = record {
    conflicts = h;
    before = λ u q lt.
        test_says (λ e y. omega (arith, a y)) (λ e y. omega (arith, b y)) (λ e y. omega (arith, c y)) (λ e y. omega arith);
    earlier = k;
  }

  -- the cause that the tests give is the first one
  yes_first : {logged : Bool} {plan : Schedule} {c : Cause} → Yes S x logged plan c → First S x (test_named c) (place_named c)
  yes_first (yes_11 h) =
      first_of_law 11 _ (inl (refl, (index_read_test S x).conflicts h)) (λ _. omega arith) (λ _. omega arith) (λ _. omega arith) (omega arith)
      (λ q lt. which (λ _ k. (index_read_test S x).earlier q lt k) (λ e _. omega arith) (λ e _. omega arith) (λ e _. omega arith))
  yes_first (yes_12 t11 h) =
      first_of_law 12 _ (inr (inl (refl, (row_lock_test S x).conflicts h))) (λ y. clash y t11) (λ _. omega arith) (λ _. omega arith) (omega arith)
      (λ q lt. which (λ e _. omega arith) (λ _ k. (row_lock_test S x).earlier q lt k) (λ e _. omega arith) (λ e _. omega arith))
  yes_first (yes_13 t11 t12 h) =
      first_of_law 13 _ (inr (inr (inl (refl, (serialization_test S x).conflicts h)))) (λ y. clash y t11) (λ y. clash y t12) (λ _. omega arith) (omega arith)
      (λ q lt. which (λ e _. omega arith) (λ e _. omega arith) (λ _ k. (serialization_test S x).earlier q lt k) (λ e _. omega arith))
  yes_first (yes_14 t11 t12 t13 h) =
      first_of_law 14 _ (inr (inr (inr (refl, (write_base_test S x).conflicts h)))) (λ y. clash y t11) (λ y. clash y t12) (λ y. clash y t13) (omega arith)
      (λ q lt. which (λ e _. omega arith) (λ e _. omega arith) (λ e _. omega arith) (λ _ k. (write_base_test S x).earlier q lt k))

-- A RUN THAT ENDS WITH 7

abbrev is_seven : ℕ → Bool
is_seven n = eqb n 7

-- the test and the place that a refusal names
abbrev test_in : More → ℕ
test_in nothing = 0
test_in (cause c) = test_named c

abbrev place_in : More → ℕ
place_in nothing = 0
place_in (cause c) = place_named c

-- a 7 tells what its cause names
named : {c : Cause} {f : Fate} {t p : ℕ} → Tells (Conflict c f) t p → (test_named c ≡ t) × (place_named c ≡ p)
named h = (ap (λ (w : Refusal). test_in (more_in w)) h.2 ∙ h.3, ap (λ (w : Refusal). place_in (more_in w)) h.2 ∙ h.4)

-- two ways to end, of which neither answers 7
neither_seven : (b : Bool) (failed kind : Fate → Refusal) (f : Fate) → is_seven (number_of (failed f)) ≡ false → is_seven (number_of (kind f)) ≡ false
    → is_seven (number_of (cond b failed kind f)) ≡ false
neither_seven true failed kind f a b = a
neither_seven false failed kind f a b = b

module _ (S : Store) (x : Tx) (logged : Bool) (plan : Schedule) where
  -- B strikes at 7 or at 8, in words
  busy_says : (guard_busy S x logged plan ≡ true) ↔ Busy S x logged plan
  busy_says = either _ _ Iff.rfl Iff.rfl

  -- a 7: of a busy guard, or of the first test that says yes; its abort failed or not
  data Seven : Refusal → Type 0 where
    guard : (f : Fate) → guard_busy S x logged plan ≡ true → Seven (Conflict BusyGuard f)
    test : {c : Cause} (f : Fate) → guard_busy S x logged plan ≡ false → Yes S x logged plan c → Seven (Conflict c f)

  -- of the ways in which a run ends, two answer 7
  ended : (n : ℕ) (ps : List Put) (d : End) → Outcome S x logged plan n ps d → is_seven (number_of d.refusal) ≡ true → Seven d.refusal
  ended _ _ _ (done p) h = clash h refl
  ended _ _ _ (stays l t k) h = clash h (stay_not is_seven refl refl k _)
  ended _ _ _ (aborts l t (unprepared k)) h = clash h (neither_seven (aborting S x logged plan).failed _ _ _ refl refl)
  ended _ _ _ (aborts l t (panicked k)) h = clash h (neither_seven (aborting S x logged plan).failed _ _ _ refl refl)
  ended _ _ _ (aborts l t (busy b k)) h = by (aborting S x logged plan).failed (λ e. rw e (guard _ b)) (λ e. rw e (guard _ b))
  ended _ _ _ (aborts l t (conflict b k)) h = by (aborting S x logged plan).failed (λ e. rw e (test _ b k)) (λ e. rw e (test _ b k))
  ended _ _ _ (aborts l t (unhealthy k)) h = clash h (neither_seven (aborting S x logged plan).failed _ _ _ refl refl)
  ended _ _ _ (uninserted p k) h = clash h refl
  ended _ _ _ (uncalled p l k) h = clash h (called_not S x logged plan is_seven refl refl refl)
  ended _ _ _ (spoils p k) h = clash h (spoil_not is_seven refl refl refl refl k _)
  ended _ _ _ (unstamped p k) h = clash h refl

  -- so of every commit that answers 7: it is admitted, and not cut
  in_steps : (cut : Cut) → Admitted S x plan → is_seven (number_of (commit S x logged plan cut).refusal) ≡ true → Seven (commit S x logged plan cut).refusal
  unfolding uncut
  in_steps cut ok h = let u = whole S x logged plan cut ok is_seven refl h in rw u (ended _ _ _ (outcome S x logged plan) (rw u at h))

  seven : (cut : Cut) → number_of (commit S x logged plan cut).refusal ≡ 7 → Seven (commit S x logged plan cut).refusal
  seven cut e =
      every_commit S x logged plan (λ a. is_seven (number_of a.refusal) ≡ true → Seven a.refusal) cut
      (λ h. clash h refl) (λ h. clash h refl) (λ h. clash h refl)
      (λ ok. subst (λ (a : Answer). is_seven (number_of a.refusal) ≡ true → Seven a.refusal) (admitted S x logged plan cut ok) (in_steps cut ok))
      (eq-eqb _ 7 e)

  -- WHAT IT TELLS

  tells_guard : {why : Refusal} → Seven why → Tells why 0 0 ↔ Busy S x logged plan
  tells_guard (guard f h) = (λ _. busy_says.0 h, λ _. (BusyGuard, f, refl, refl, refl))
  tells_guard (test f h y) = (
    λ told. let n = (named told).0 in
        absurd (which S x (λ e _. omega arith) (λ e _. omega arith) (λ e _. omega arith) (λ e _. omega arith) (yes_first S x y).conflicts),
    λ b. clash (busy_says.1 b) h,
  )

  -- where no guard is busy
  tells_first : {why : Refusal} → Seven why → guard_busy S x logged plan ≡ false → (t p : ℕ) → Tells why t p ↔ First S x t p
  tells_first (guard f h) free t p = clash h free
  tells_first (test {c} f h y) free t p =
      let first = yes_first S x y in (
        λ told. let n = named told in subst (λ (v : ℕ). First S x v p) n.0 (subst (λ (v : ℕ). First S x (test_named c) v) n.1 first),
        λ g. let e = one_first S x first g in (c, f, refl, e.0, e.1),
      )

  tells_test : {why : Refusal} → Seven why → (t p : ℕ) → t ≢ 0 → Tells why t p ↔ ((Busy S x logged plan → ⊥) × First S x t p)
  tells_test (guard f h) t p some = (λ told. absurd (some (sym (named told).0)), λ s. absurd (s.0 (busy_says.0 h)))
  tells_test (test f h y) t p some =
      let r = tells_first (test f h y) h t p in (λ told. (λ b. clash (busy_says.1 b) h, r.0 told), λ s. r.1 s.1)

  -- in a schedule without a fault none is
  unstruck : plan.count ≡ 0 → guard_busy S x logged plan ≡ false
  unstruck none = by (guard_busy S x logged plan)
      (λ h. absurd (⊎_elim
      (λ e. no_fault_law S x logged plan none (struck S x logged plan 7 B refl e))
      (λ e. no_fault_law S x logged plan none (struck S x logged plan 8 B refl e))
      (busy_says.0 h)))
      (λ h. h)

pub seven_tells : SevenTells
seven_tells S x logged plan cut e = let s = seven S x logged plan cut e in (tells_guard S x logged plan s, tells_test S x logged plan s)

pub only_seven_tells : OnlySevenTells
only_seven_tells S x logged plan cut t p told = ap number_of told.2

pub test_told : TestTold
test_told S x logged plan q t p =
    let told : number_of (commit S x logged plan Uncut).refusal ≡ 7 → Tells (commit S x logged plan Uncut).refusal t p ↔ First S x t p = λ e.
    tells_first S x logged plan (seven S x logged plan Uncut e) (unstruck S x logged plan q.faultless) t p in (
      λ h. (told (only_seven_tells S x logged plan Uncut t p h)).0 h,
      λ g. (told (success S x logged plan q.ok q.faultless q.sound q.free ∙ ap (λ (b : Bool). cond b 7 0) (one_conflicts S x g.conflicts))).1 g,
    )

-- WHERE B STRIKES FIRST

-- the first gate that holds answers 7
record Sevens (gs : List Gate) (r : Run) : Type 0 where
  is : is_seven (number_of (first gs r).end.refusal) ≡ true

-- a gate that doesn't hold, and one that does
abbrev IsAt : Gate → List Gate → Run → Bool → Type 0
IsAt g gs r b = is_seven (number_of (cond b g.then (first gs r)).end.refusal) ≡ true

passes : {g : Gate} {gs : List Gate} {r : Run} → g.when ≡ false → Sevens gs r → Sevens (g ∷ gs) r
passes {g} {gs} {r} e h = record { is = subst (IsAt g gs r) (sym e) h.is }

stops : {g : Gate} {gs : List Gate} {r : Run} → g.when ≡ true → number_of g.then.end.refusal ≡ 7 → Sevens (g ∷ gs) r
stops {g} {gs} {r} e h = record { is = subst (IsAt g gs r) (sym e) (eq-eqb _ 7 h) }

-- one of another number doesn't hold
past : {g : Gate} {gs : List Gate} {r : Run} → is_seven (number_of g.then.end.refusal) ≡ false → Sevens (g ∷ gs) r → (g.when ≡ false) × Sevens gs r
past {g} {gs} {r} n h =
    by g.when (λ e. clash (subst (IsAt g gs r) e h.is) n) (λ e. (e, record { is = subst (IsAt g gs r) e h.is }))

-- a test of logged commits alone
only_logged : (b c : Bool) → (b ≡ true → c ≡ false) → (b && c) ≡ false
only_logged true c h = h refl
only_logged false c h = refl

logged_only : (b c : Bool) → (b && c) ≡ false → b ≡ true → c ≡ false
logged_only b c h e = rw e at h

module _ (S : Store) (x : Tx) (logged : Bool) (plan : Schedule) where
  -- a step has one letter
  unfailed : (n : ℕ) → strikes S x logged plan n B ≡ true → fails S x logged plan n ≡ false
  unfolding strikes
  unfailed n h = rw (eqb-true (fault_at n (faults_of plan)).letter B h)

  -- the answer is that of the first gate that holds
  by_gates : Admitted S x plan → (commit S x logged plan Uncut).refusal ≡ (first (gates S x logged plan) (clean S x logged plan)).end.refusal
  unfolding uncut
  by_gates ok = rw (admitted S x logged plan Uncut ok, run_gates S x logged plan)

  -- up to the gate where B strikes none holds; and where 7 is answered, no gate before 7 does
  struck_first : BusyFirst S x logged plan → Sevens (gates S x logged plan) (clean S x logged plan)
  unfolding gates
  struck_first s =
      let o = s.0 in
      let answers = pick_7 S x logged plan BusyGuard (aborting S x logged plan).failed _ in
      passes o.changes (passes o.keys
      (passes (only_logged logged _ o.prepared)
      (passes (only_logged logged _ (λ e. (o.payload e).0))
      (passes (only_logged logged _ (λ e. (o.payload e).1))
      (⊎_elim
      (λ b7. passes (unfailed 7 b7) (stops b7 answers))
      (λ b8. passes b8.0 (by (strikes S x logged plan 7 B)
      (λ b7. stops b7 answers)
      (λ n7. passes n7 (passes (unfailed 8 b8.1) (stops b8.1 answers)))))
      s.1)))))

  first_struck : Sevens (gates S x logged plan) (clean S x logged plan) → Busy S x logged plan → BusyFirst S x logged plan
  unfolding gates
  first_struck h b =
      let other : (failed kind : Fate → Refusal) (f : Fate) → is_seven (number_of (failed f)) ≡ false → is_seven (number_of (kind f)) ≡ false
      → is_seven (number_of (cond (aborting S x logged plan).failed failed kind f)) ≡ false = neither_seven (aborting S x logged plan).failed in
      let s3 = past refl h in
      let s4 = past refl s3.1 in
      let s5 = past (other _ _ _ refl refl) s4.1 in
      let s6 = past (other _ _ _ refl refl) s5.1 in
      let s6_p = past (other _ _ _ refl refl) s6.1 in (
        record {
          changes = s3.0;
          keys = s4.0;
          prepared = logged_only logged _ s5.0;
          payload = λ e. (logged_only logged _ s6.0 e, logged_only logged _ s6_p.0 e);
        },
        ⊎_elim (λ b7. inl b7) (λ b8. inr ((past refl s6_p.1).0, b8)) b,
      )

pub busy_told : BusyTold
busy_told S x logged plan ok =
    let e = by_gates S x logged plan ok in (
      λ told. let n = only_seven_tells S x logged plan Uncut 0 0 told in
          first_struck S x logged plan (record { is = eq-eqb _ 7 (ap number_of (sym e) ∙ n) }) ((seven_tells S x logged plan Uncut n).0.0 told),
      λ s. let n = ap number_of e ∙ eqb-true _ 7 (struck_first S x logged plan s).is in
          (seven_tells S x logged plan Uncut n).0.1 (⊎_elim (λ b7. inl b7) (λ b8. inr b8.1) s.1),
    )
