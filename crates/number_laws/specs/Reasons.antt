-- "Numbers seen", the column "When": a number is answered for one of its reasons in that column, on every commit.
use Rattle.std.specs.Prelude.{◌≡◌, Bool, true, false, ◌&&◌, ◌||◌, ℕ, get_or}
use Rattle.std.proofs.Common.{ap, ◌∙◌, ⊎_elim}
use Rattle.rules.specs.Types.{Store, Tx, Schedule, Cut}
use Rattle.basic_laws.specs.Cases.{clash, and_true, and_both, or_left, or_right}
use Rattle.rules.specs.Faults.{P, X, Q}
use Rattle.rules.specs.Numbers.{number_of, is_done}
use Rattle.rules.specs.Answer.{commit}
use Rattle.number_laws.specs.TableLaws.{Each, end, ◌▸◌, Says, said}
use Rattle.statements.specs.NumbersSeen.{failed, struck_by, step_rows, done_row, commit_rows}
use Rattle.number_laws.specs.Column.{one_of, one_is, steps_failed, unprepared, busy_or_yes, call_failed, call_panicked, uncleaned, column}
use Rattle.statements.specs.Sized.{Sized}
use Rattle.number_laws.specs.Seen.{rows_same, commit_told}

module _ (S : Store) (x : Tx) (logged : Bool) (plan : Schedule) where
  abbrev f : ℕ → Bool
  f n = failed S x logged plan n

  abbrev s : ℕ → ℕ → Bool
  s n letter = struck_by S x logged plan n letter

  abbrev N : Cut → ℕ → Bool
  N cut n = get_or (column S x logged plan cut) n false

  -- 4, 5, 7, 19: which of the reasons it is
  four : (i : ℕ) → get_or (steps_failed S x logged plan) i false ≡ true → one_of (steps_failed S x logged plan) ≡ true
  four i h = one_is i (steps_failed S x logged plan) h

  five : (i : ℕ) → get_or (unprepared S x logged plan) i false ≡ true → one_of (unprepared S x logged plan) ≡ true
  five i h = one_is i (unprepared S x logged plan) h

  seven : (i : ℕ) → get_or (busy_or_yes S x logged plan) i false ≡ true → one_of (busy_or_yes S x logged plan) ≡ true
  seven i h = one_is i (busy_or_yes S x logged plan) h

  -- an abort that failed: the reason without it
  first : (a b : Bool) → (a && b) ≡ true → a ≡ true
  first a b h = (and_true a b h).0

  after_5 : (i : ℕ) → (get_or (unprepared S x logged plan) i false && f 23) ≡ true → one_of (uncleaned S x logged plan) ≡ true
  after_5 i h =
      let a = and_true (get_or (unprepared S x logged plan) i false) (f 23) h in
      one_is 0 (uncleaned S x logged plan) (and_both (one_of (unprepared S x logged plan)) (f 23) (five i a.0) a.1)

  after_9 : ((f 10 || S.poisoned) && f 23) ≡ true → one_of (uncleaned S x logged plan) ≡ true
  after_9 h = one_is 1 (uncleaned S x logged plan) h

  after_11 : (b : Bool) → (b ≡ true → (f 24 || f 23) ≡ true) → (call_failed S x logged plan && b) ≡ true → one_of (uncleaned S x logged plan) ≡ true
  after_11 b g h =
      let a = and_true (call_failed S x logged plan) b h in
      one_is 2 (uncleaned S x logged plan) (and_both (call_failed S x logged plan) (f 24 || f 23) a.0 (g a.1))

  -- one letter of two
  of_two : (a b : Bool) → (logged && a) ≡ true → (logged && (a || b)) ≡ true
  of_two a b h = let c = and_true logged a h in and_both logged (a || b) c.0 (or_left a b c.1)

  or_two : (a b : Bool) → (logged && b) ≡ true → (logged && (a || b)) ≡ true
  or_two a b h = let c = and_true logged b h in and_both logged (a || b) c.0 (or_right a b c.1)

  seven_failed : (i : ℕ) → (get_or (busy_or_yes S x logged plan) i false && f 23) ≡ true → one_of (busy_or_yes S x logged plan) ≡ true
  seven_failed i h = seven i (first (get_or (busy_or_yes S x logged plan) i false) (f 23) h)

  itself : {b : Bool} → b ≡ true → b ≡ true
  itself h = h

  -- the rows of the steps, one after the other
  step_reasons : (cut : Cut) → Each (Says (N cut)) (step_rows S x logged plan)
  unfolding step_rows column
  step_reasons cut =
      four 0 ▸ four 1 ▸ after_5 0 ▸ five 0 ▸ after_5 1 ▸ five 1 ▸ first (logged && s 6 P) (f 23) ▸ itself ▸ four 2 ▸ seven_failed 0 ▸
      seven 0 ▸ four 3 ▸ seven_failed 1 ▸ seven 1 ▸ four 4 ▸ itself ▸ after_9 ▸ itself ▸ four 5 ▸ seven_failed 2 ▸ seven 2 ▸ four 6 ▸
      seven_failed 3 ▸ seven 3 ▸ four 7 ▸ seven_failed 4 ▸ seven 4 ▸ four 8 ▸ seven_failed 5 ▸ seven 5 ▸ first (f 15) (f 24) ▸
      itself ▸ first (call_panicked S x logged plan) (f 24 && f 23) ▸ first (call_panicked S x logged plan) (f 24) ▸
      first (call_panicked S x logged plan) (f 23) ▸ of_two (s 16 Q) (s 16 P) ▸ or_two (s 16 Q) (s 16 P) ▸
      after_11 (f 24 && f 23) (λ h. or_left (f 24) (f 23) (first (f 24) (f 23) h)) ▸ after_11 (f 24) (or_left (f 24) (f 23)) ▸
      after_11 (f 23) (or_right (f 24) (f 23)) ▸ of_two (s 16 X) (f 16) ▸ or_two (s 16 X) (f 16) ▸ itself ▸ itself ▸ itself ▸ itself ▸
      itself ▸ end

  first_reasons : (cut : Cut) → Each (Says (N cut)) (commit_rows S x logged plan cut)
  unfolding commit_rows column
  first_reasons cut = itself ▸ itself ▸ itself ▸ itself ▸ step_reasons cut

  -- every commit that isn't answered 0: its number is answered for a reason that the paper gives for that number
  pub commit_because : Sized S → (cut : Cut)
      → let why = (commit S x logged plan cut).refusal in is_done why ≡ false → get_or (column S x logged plan cut) (number_of why) false ≡ true
  commit_because z cut h =
      let e = (commit_told S x logged plan z cut).by_first.refusal in
      ⊎_elim
      (λ d. clash (ap is_done (e ∙ d)) h)
      (λ p. rw e p)
      (said (N cut) (commit_rows S x logged plan cut) (done_row S x logged plan) (rows_same S x logged plan z cut) (first_reasons cut))
