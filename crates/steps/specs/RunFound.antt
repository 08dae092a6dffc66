-- What code finds, put together: the run of commit's steps and its answer, from the gate, the cause, the ending and the transaction left.
use Rattle.std.specs.Prelude.{◌≡◌, Bool, [], ◌∷◌, ◌++◌, map, ℕ, length, get_or, ltb}
use Rattle.std.proofs.Math.Path.{sym, ap}
use Rattle.std.proofs.Common.{◌∙◌}
use Rattle.std.proofs.Math.ListN.{get_or-map}
use Rattle.std.proofs.Math.Dec.{leb}
use Rattle.rules.specs.Types.{Store, Tx, Schedule, Cause}
use Rattle.rules.specs.Numbers.{is_done}
use Rattle.rules.specs.Transaction.{finals}
use Rattle.rules.specs.Faults.{faults_of}
use Rattle.rules.specs.Puts.{apply_all}
use Rattle.rules.specs.Commit.{End, Run, run_of}
use Rattle.rules.specs.Answer.{uncut}
use Rattle.run_laws.specs.Gates.{gates, clean}
use Rattle.commit_tests.specs.declared.faults.Letters.{Letters}
use Rattle.steps.specs.declared.ends.Ending.{Ending}
use Rattle.commit_tests.specs.Striking.{letters, letter_at, letter_in, letters_say}
use Rattle.steps.specs.GateTable.{clean_gate, number_at, passed_at, left_at}
use Rattle.steps.specs.Stops.{gate_of, run_at}
use Rattle.steps.specs.Causes.{cause_at}
use Rattle.steps.specs.RecordAndEvents.{end_with, record_if, record_if_law, events_by, events_by_law}
use Rattle.steps.specs.Ends.{ending_for, cause_matters, tx_for, end_at, run_end, run_passed, done_at}

module _ (S : Store) (x : Tx) (logged : Bool) (plan : Schedule) where
  -- the stores of a run are those of its gate
  pub run_puts : (run_of S x logged plan).puts
      ≡ get_or (map (λ g. g.then.puts) (gates S x logged plan) ++ (clean S x logged plan).puts ∷ []) (gate_of S x logged plan) (clean S x logged plan).puts
  unfolding gates
  run_puts =
      ap (λ r. r.puts) (run_at S x logged plan)
      ∙ sym (get_or-map (λ (r : Run). r.puts) (map (λ g. g.then) (gates S x logged plan) ++ clean S x logged plan ∷ [])
      (gate_of S x logged plan) (clean S x logged plan))

  -- g and k, l, a and y as `first_gate`, `letters_of`, `ending_at` and `tx_left` find them: a 7 names its cause
  module _ (g : ℕ) (at : g ≡ gate_of S x logged plan) (k : Cause) (why : number_at g ≡ 7 → k ≡ cause_at S x g) (l : Letters) (is : l ≡ letters plan)
      (a : Ending) (so : a ≡ ending_for (letter_in l) k (number_at g)) where
    -- the end that the gate gives, from the table of letters
    tabled : (y : Tx) → y ≡ tx_for (letter_in l) x (left_at g) → end_at (letter_at (faults_of plan)) S x g ≡ end_with a y
    unfolding end_at
    tabled y left = rw (so, left, cause_matters (letter_in l) k (cause_at S x g) (number_at g) why, letters_say plan l is)

    pub run_ends : (y : Tx) → y ≡ tx_for (letter_in l) x (left_at g) → (run_of S x logged plan).end ≡ end_with a y
    run_ends y left = run_end S x logged plan ∙ rw (← at) (tabled y left)

    -- and the answer to a commit that is not cut
    pub answered : (y : Tx) → y ≡ tx_for (letter_in l) x (left_at g)
        → uncut S x logged (run_of S x logged plan) ≡ record {
          refusal = a.refusal;
          «record» = record_if (leb clean_gate g) x;
          store = apply_all (run_of S x logged plan).puts S;
          tx = y;
          events = events_by logged S.bound (ltb 0 (length (finals x))) (passed_at g) a;
          stores = length (run_of S x logged plan).puts;
        }
    unfolding uncut
    answered y left =
        let end = run_ends y left in
        let passed : (run_of S x logged plan).passed ≡ passed_at g = run_passed S x logged plan ∙ ap passed_at (sym at) in
        let done : is_done a.refusal ≡ leb clean_gate g =
        ap (λ (e : End). is_done e.refusal) (sym (tabled y left)) ∙ done_at (letter_at (faults_of plan)) S x g in
        rw (end, passed, record_if_law a.refusal x, done, events_by_law logged S.bound (ltb 0 (length (finals x))) (passed_at g) a y)
