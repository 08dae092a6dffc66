-- "Commit tries 1, 2, 3, then the steps": what the admission makes of the answer.
use Rattle.std.specs.Prelude.{◌≡◌, Bool, true, false}
use Rattle.std.proofs.Common.{sym, ap, ◌∙◌}
use Rattle.rules.specs.Types.{Store, Tx, Schedule, Cut, Answer, Refusal}
use Rattle.rules.specs.Fit.{fit}
use Rattle.rules.specs.Faults.{schedule_fit}
use Rattle.rules.specs.Numbers.{is_done}
use Rattle.rules.specs.Commit.{run_of}
use Rattle.rules.specs.Answer.{answer, unchanged, commit}
use Rattle.admit.specs.Admission.{tried_by, admitted, admitted_fit}

module _ (S : Store) (x : Tx) (logged : Bool) (plan : Schedule) (cut : Cut) {why : Refusal} {planned : Bool} (p : planned ≡ schedule_fit plan)
    (e : why ≡ admitted S x planned) where
  -- where nothing is refused the transaction is fit, and the steps answer
  pub tried_fit : is_done why ≡ true → fit S x ≡ true
  tried_fit d = admitted_fit S x planned (ap is_done (sym e) ∙ d)

  pub tried_done : {a : Answer} → is_done why ≡ true → a ≡ answer S x logged (run_of S x logged plan) cut → a ≡ commit S x logged plan cut
  unfolding commit admitted tried_by
  tried_done d f = f ∙ rw (rw (e, p) at d)

  pub tried_refused : {a : Answer} → is_done why ≡ false → a ≡ unchanged S x why → a ≡ commit S x logged plan cut
  unfolding commit admitted tried_by
  tried_refused d f = f ∙ rw (rw (e, p) at d, e, p)
