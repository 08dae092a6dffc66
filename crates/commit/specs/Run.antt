-- The answer of a run, from the journal that holds its stores: cut, or whole.
use Rattle.std.specs.Prelude.{◌≡◌, Bool, ℕ, ◌<◌, ◌≤◌, min, length, take, ltb, leb, Result, ⊤}
use Rattle.std.proofs.Math.Path.{refl, sym, ap}
use Rattle.std.proofs.Common.{◌∙◌, take_all, lt-ltb, le-ltb}
use mathlib.Core.List.{List}
use native.Mathlib.Omega.{arith}
use Rattle.records.specs.Zero.{zero_tx}
use Rattle.rules.specs.Types.{Store, Tx, Schedule, Cut, Uncut, After, Answer, Closed, CutOff}
use Rattle.rules.specs.Transaction.{finals}
use Rattle.rules.specs.Puts.{Put, apply_all}
use Rattle.rules.specs.Commit.{run_of}
use Rattle.rules.specs.Answer.{no_events, no_record, uncut, cut_off, answer}
use Rattle.commit_tests.specs.declared.faults.Letters.{Letters}
use Rattle.commit_tests.specs.Striking.{letters}
use Rattle.steps.specs.declared.stop.Stop.{Stop}
use Rattle.steps.specs.GateTable.{clean_gate, number_at, passed_at, left_at}
use Rattle.commit_tests.specs.Striking.{letter_in}
use Rattle.steps.specs.Stops.{gate_of}
use Rattle.steps.specs.Causes.{cause_at}
use Rattle.steps.specs.Ended.{stop_place, cause_of}
use Rattle.steps.specs.RecordAndEvents.{record_if, events_by}
use Rattle.steps.specs.Ends.{ending_for, tx_for}
use Rattle.steps.specs.RunFound.{answered}

-- how many of n stores are made
unfoldable pub stop_at : Cut → ℕ → ℕ
stop_at Uncut n = n
stop_at (After k) n = min k n

-- "18 cut: n stores done; transaction zero", of the store as it stands then
unfoldable pub cut_answer : Store → ℕ → Answer
cut_answer T n = record { refusal = CutOff Closed; «record» = no_record; store = T; tx = zero_tx; events = no_events; stores = n }

-- all n stores made, by the gate and the cause
unfoldable pub whole_answer : Store → Tx → Bool → Bool → Letters → Result ⊤ Stop → ℕ → Answer
whole_answer T x logged bound l s n =
    let g = stop_place s in
    let a = ending_for (letter_in l) (cause_of s) (number_at g) in
    record {
      refusal = a.refusal;
      «record» = record_if (leb clean_gate g) x;
      store = T;
      tx = tx_for (letter_in l) x (left_at g);
      events = events_by logged bound (ltb 0 (length (finals x))) (passed_at g) a;
      stores = n;
    }

module _ (S : Store) (x : Tx) (logged : Bool) (plan : Schedule) (cut : Cut) {j : List Put} {n m : ℕ} {T : Store}
    (holds : j ≡ (run_of S x logged plan).puts) (long : n ≡ length j) (stop : m ≡ stop_at cut n) (stored : T ≡ apply_all (take m j) S) where
  -- there are n stores, and no more than them are made: the first m of the run's
  count : n ≡ length (run_of S x logged plan).puts
  count = long ∙ ap length holds

  applied : T ≡ apply_all (take m (run_of S x logged plan).puts) S
  applied = stored ∙ ap (λ (ps : List Put). apply_all (take m ps) S) holds

  within : (c : Cut) → m ≡ stop_at c n → m ≤ n
  unfolding stop_at
  within Uncut e = omega arith
  within (After k) e = omega arith

  -- "A cut at n happens only if the uncut run makes more than n stores."
  cut_is : (c : Cut) → m ≡ stop_at c n → m < n → cut_off S (run_of S x logged plan) m ≡ answer S x logged (run_of S x logged plan) c
  unfolding stop_at
  cut_is Uncut e l = absurd (let z : ⊥ = omega arith in z)
  cut_is (After k) e l =
      let same : m ≡ k = omega arith in
      let long = count in
      rw (lt-ltb k (length (run_of S x logged plan).puts) (omega arith), same)

  whole_is : (c : Cut) → m ≡ stop_at c n → n ≤ m → uncut S x logged (run_of S x logged plan) ≡ answer S x logged (run_of S x logged plan) c
  unfolding stop_at
  whole_is Uncut e l = refl
  whole_is (After k) e l = let long = count in rw (le-ltb k (length (run_of S x logged plan).puts) (omega arith))

  -- what code answers is the definition's answer
  pub run_cut : {a : Answer} → a ≡ cut_answer T m → m < n → a ≡ answer S x logged (run_of S x logged plan) cut
  unfolding cut_answer cut_off
  run_cut e l =
      e
      ∙ (λ i. record {
        refusal = CutOff Closed;
        «record» = no_record;
        store = applied i;
        tx = zero_tx;
        events = no_events;
        stores = m;
      })
      ∙ cut_is cut stop l

  pub run_whole : {a : Answer} (s : Result ⊤ Stop) → stop_place s ≡ gate_of S x logged plan
      → (number_at (stop_place s) ≡ 7 → cause_of s ≡ cause_at S x (stop_place s))
      → (l : Letters) → l ≡ letters plan → a ≡ whole_answer T x logged S.bound l s n → n ≤ m → a ≡ answer S x logged (run_of S x logged plan) cut
  unfolding whole_answer
  run_whole s at why l is e all_made =
      let p = letter_in l in
      let g = stop_place s in
      let d = ending_for p (cause_of s) (number_at g) in
      let all : T ≡ apply_all (run_of S x logged plan).puts S =
      applied ∙ ap (λ (qs : List Put). apply_all qs S) (take_all m (run_of S x logged plan).puts (omega (arith, count))) in
      let made = count in
      e
      ∙ (λ i. record {
        refusal = d.refusal;
        «record» = record_if (leb clean_gate g) x;
        store = all i;
        tx = tx_for p x (left_at g);
        events = events_by logged S.bound (ltb 0 (length (finals x))) (passed_at g) d;
        stores = made i;
      })
      ∙ sym (answered S x logged plan g at (cause_of s) why l is d refl (tx_for p x (left_at g)) refl)
      ∙ whole_is cut stop all_made
