-- How a run of commit ends at each gate: the paper's number, the steps passed, the refusal and the flags, and the transaction left.
use Rattle.std.specs.Prelude.{◌≡◌, Bool, true, false, not, cond, ◌&&◌, ◌||◌, ℕ, zero, suc, replicate, eqb, leb}
use Rattle.std.proofs.Math.Path.{refl, sym, ap}
use Rattle.std.proofs.Common.{◌∙◌, arith, leb-true, leb-false}
use mathlib.Core.List.{List, [], ◌∷◌, ◌++◌, map}
use Rattle.std.proofs.Math.ListN.{get_or, get_or-map, get_or-eq_default}
use Rattle.std.proofs.lemmas.List.{get_or-replicate}
use Rattle.records.specs.Zero.{only_txid}
use Rattle.basic_laws.specs.Cases.{by}
use borrow.Author.Tests.{eqb-true}
use Rattle.rules.specs.Types.{Store, Tx, Schedule, Cause, Open, Closed, Undone, Standing, Refusal, Done, StepFailed, PrepareFailed}
use Rattle.rules.specs.Types.{PreparePanicked, Conflict, BoundDurably, FoundPoisoned, InsertFailed, CallbackFailed, CallbackPanicked}
use Rattle.rules.specs.Types.{RemoveFailed, PublishFailed, RecycleFailed, FinishFailed, StampFailed, CleanupFailed}
use Rattle.rules.specs.Transaction.{no_writes, no_accesses, emptied}
use Rattle.rules.specs.Numbers.{fate, is_done}
use Rattle.rules.specs.Faults.{F, P, X, Q, faults_of, fault_at}
use Rattle.rules.specs.Commit.{End, strikes, abort_or_poison, rollback, Run, committed, run_of}
use Rattle.run_laws.specs.Gates.{gates, clean}
use Rattle.steps.specs.declared.ends.Ending.{Ending}
use Rattle.steps.specs.declared.gate.Row.{Row}
use Rattle.steps.specs.declared.gate.Left.{Left}
use Rattle.steps.specs.declared.gate.Left.TheVariants.{All, ByAbort, NoAccesses, NoWrites, Emptied}
use Rattle.commit_tests.specs.Striking.{letter_at}
use Rattle.steps.specs.GateTable.{gate_table, clean_row, clean_gate, row_at, passed_at}
use Rattle.steps.specs.Stops.{hits, gate_of, run_at}
use Rattle.steps.specs.Causes.{cause_after}
use Rattle.steps.specs.RecordAndEvents.{end_with}

-- 0, 4 and 8
abbrev pub stay_ending : Refusal → Ending
stay_ending why = record { refusal = why; poisoned = false; cleanup = false; undone = false; dropped = false }

-- 5, 6, 7 and 9, with what is answered instead if the abort failed
abbrev pub abort_ending : Bool → Refusal → Refusal → Bool → Bool → Ending
abort_ending failed why instead found preparing =
    record { refusal = cond failed instead why; poisoned = found || failed; cleanup = preparing && failed; undone = false; dropped = false }

-- 10
abbrev pub insert_ending : Bool → Ending
insert_ending unrolled = record { refusal = InsertFailed (fate unrolled false); poisoned = unrolled; cleanup = false; undone = false; dropped = false }

-- 11 and 12
abbrev pub callback_ending : Bool → Bool → Bool → Bool → Ending
callback_ending worse panics unrolled failed =
    let bad = unrolled || failed in
    record {
      refusal = cond panics CallbackPanicked (cond bad CleanupFailed CallbackFailed) (fate (worse || bad) (not failed));
      poisoned = worse || bad;
      cleanup = false;
      undone = not unrolled;
      dropped = false;
    }

-- 13 to 17
abbrev pub spoil_ending : Refusal → Bool → Ending
spoil_ending why drops = record { refusal = why; poisoned = true; cleanup = false; undone = false; dropped = drops }

module _ (letter : ℕ → ℕ) where
  -- 23 and 24: the abort fails, the rollback fails
  abbrev pub abort_fails : Bool
  abort_fails = hits letter 23 F

  abbrev pub rollback_fails : Bool
  rollback_fails = hits letter 24 F

  unfoldable pub ending_for : Cause → ℕ → Ending
  ending_for cause n =
      cond (eqb n 4) (stay_ending (StepFailed Open))
      (cond (eqb n 5) (abort_ending abort_fails (PrepareFailed Closed) (CleanupFailed Undone) false true)
      (cond (eqb n 6) (abort_ending abort_fails (PreparePanicked Closed) (PreparePanicked Undone) false true)
      (cond (eqb n 7) (abort_ending abort_fails (Conflict cause Closed) (Conflict cause Undone) false false)
      (cond (eqb n 8) (stay_ending (BoundDurably Open))
      (cond (eqb n 9) (abort_ending abort_fails (FoundPoisoned Closed) (CleanupFailed Undone) (not (hits letter 10 F)) false)
      (cond (eqb n 10) (insert_ending rollback_fails)
      (cond (eqb n 11) (callback_ending (hits letter 16 X || hits letter 16 Q) (hits letter 16 P || hits letter 16 Q) rollback_fails abort_fails)
      (cond (eqb n 13) (spoil_ending (RemoveFailed Undone) false)
      (cond (eqb n 14) (spoil_ending (PublishFailed Undone) (not (hits letter 21 F)))
      (cond (eqb n 15) (spoil_ending (RecycleFailed Undone) (not (hits letter 21 F)))
      (cond (eqb n 16) (spoil_ending (FinishFailed Undone) false)
      (cond (eqb n 17) (spoil_ending (StampFailed Standing) false)
      (stay_ending Done)))))))))))))

  -- only a 7 looks at the cause
  pub cause_matters : (k c : Cause) (n : ℕ) → (n ≡ 7 → k ≡ c) → ending_for k n ≡ ending_for c n
  unfolding ending_for
  cause_matters k c n h = by (eqb n 7) (λ e. rw (h (eqb-true n 7 e))) (λ e. rw e)

  unfoldable pub tx_for : Tx → Left → Tx
  tx_for x All = x
  tx_for x ByAbort = cond abort_fails x (only_txid x.txid.0)
  tx_for x NoAccesses = no_accesses x
  tx_for x NoWrites = no_writes x
  tx_for x Emptied = emptied x

  -- the end that a row of the table gives, and the end at a gate
  abbrev pub end_by : Store → Tx → Row → End
  end_by S x r = end_with (ending_for (cause_after S x r.1) r.0) (tx_for x r.2)

  unfoldable pub end_at : Store → Tx → ℕ → End
  end_at S x g = end_by S x (row_at g)

-- what stands after a list stands past its end too
past_end {ℓ} : {A : Type ℓ} (l : List A) (i : ℕ) (d : A) → get_or (l ++ d ∷ []) i d ≡ get_or l i d
past_end [] zero d = refl
past_end [] (suc i) d = refl
past_end (x ∷ l) zero d = refl
past_end (x ∷ l) (suc i) d = past_end l i d

-- they are the ends of commit's gates
module _ (S : Store) (x : Tx) (logged : Bool) (plan : Schedule) where
  all_ends : map (λ g. g.then.end) (gates S x logged plan) ≡ map (end_by (letter_at (faults_of plan)) S x) gate_table
  unfolding gates strikes abort_or_poison rollback letter_at ending_for cause_after tx_for
  all_ends =
      by (eqb (fault_at 23 (faults_of plan)).letter F)
      (λ a. by (eqb (fault_at 24 (faults_of plan)).letter F) (λ b. rw (a, b)) (λ b. rw (a, b)))
      (λ a. by (eqb (fault_at 24 (faults_of plan)).letter F) (λ b. rw (a, b)) (λ b. rw (a, b)))

  last_end : committed x ≡ end_by (letter_at (faults_of plan)) S x clean_row
  unfolding ending_for tx_for
  last_end = refl

  all_passed : map (λ g. g.then.passed) (gates S x logged plan) ≡ map (λ (r : Row). r.1) gate_table
  unfolding gates
  all_passed = refl

  -- a run ends as its gate says, after the steps that its gate says
  pub run_end : (run_of S x logged plan).end ≡ end_at (letter_at (faults_of plan)) S x (gate_of S x logged plan)
  unfolding gates end_at row_at
  run_end =
      let g = gate_of S x logged plan in
      ap (λ r. r.end) (run_at S x logged plan ∙ past_end (map (λ h. h.then) (gates S x logged plan)) g (clean S x logged plan))
      ∙ sym (get_or-map (λ (r : Run). r.end) (map (λ h. h.then) (gates S x logged plan)) g (clean S x logged plan))
      ∙ ap (λ (l : List End). get_or l g (committed x)) all_ends
      ∙ ap (get_or (map (end_by (letter_at (faults_of plan)) S x) gate_table) g) last_end
      ∙ get_or-map (end_by (letter_at (faults_of plan)) S x) gate_table g clean_row

  pub run_passed : (run_of S x logged plan).passed ≡ passed_at (gate_of S x logged plan)
  unfolding gates row_at
  run_passed =
      let g = gate_of S x logged plan in
      ap (λ r. r.passed) (run_at S x logged plan ∙ past_end (map (λ h. h.then) (gates S x logged plan)) g (clean S x logged plan))
      ∙ sym (get_or-map (λ (r : Run). r.passed) (map (λ h. h.then) (gates S x logged plan)) g (clean S x logged plan))
      ∙ ap (λ (l : List ℕ). get_or l g 23) all_passed
      ∙ get_or-map (λ (r : Row). r.1) gate_table g clean_row

-- a run is done exactly where it passes all gates
module _ (letter : ℕ → ℕ) (S : Store) (x : Tx) where
  all_done : map (λ (r : Row). is_done (end_by letter S x r).refusal) gate_table ≡ replicate clean_gate false
  unfolding ending_for
  all_done =
      by (hits letter 16 P || hits letter 16 Q)
      (λ p. by (abort_fails letter) (λ a. rw (p, a)) (λ a. rw (p, a)))
      (λ p.
      by (abort_fails letter)
      (λ a. by (rollback_fails letter) (λ b. rw (p, a, b)) (λ b. rw (p, a, b)))
      (λ a. by (rollback_fails letter) (λ b. rw (p, a, b)) (λ b. rw (p, a, b))))

  done_past : (g : ℕ) → get_or (replicate clean_gate false) g true ≡ leb clean_gate g
  done_past g =
      by (leb clean_gate g)
      (λ e. rw e (get_or-eq_default (replicate clean_gate false) true {n = g} (omega (arith, leb-true))))
      (λ e. rw e (get_or-replicate clean_gate g false true (omega (arith, leb-false))))

  pub done_at : (g : ℕ) → is_done (end_at letter S x g).refusal ≡ leb clean_gate g
  unfolding end_at row_at ending_for
  done_at g =
      sym (get_or-map (λ (r : Row). is_done (end_by letter S x r).refusal) gate_table g clean_row)
      ∙ ap (λ (l : List Bool). get_or l g true) all_done
      ∙ done_past g
