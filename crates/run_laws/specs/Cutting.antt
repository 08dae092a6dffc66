-- "Numbers seen", rows 18 and 20: a commit cut off, and a store that recovery refuses.
use Rattle.std.specs.Prelude.{◌≡◌, refl, Bool, true, false, ◌↔◌, ℕ, length, take, ltb}
use Rattle.std.proofs.Math.Path.{sym, ap}
use Rattle.std.proofs.Common.{◌∙◌, arith}
use Rattle.records.specs.Zero.{zero_tx}
use Rattle.basic_laws.specs.Cases.{clash, by}
use Rattle.rules.specs.Types.{Store, Tx, Schedule, Answer, Uncut, After, Closed, CutOff, Open, NotRepairable}
use Rattle.rules.specs.Admitted.{repairable}
use Rattle.rules.specs.Numbers.{number_of}
use Rattle.rules.specs.Puts.{apply_all}
use Rattle.rules.specs.Commit.{run_of}
use Rattle.rules.specs.Answer.{no_events, no_record, uncut, cut_off, commit}
use Rattle.rules.specs.Recovery.{recover}
use Rattle.statements.specs.Words.{Admitted}
use Rattle.run_laws.specs.FirstRows.{admitted}

module _ (S : Store) (x : Tx) (logged : Bool) (plan : Schedule) (n : ℕ) (ok : Admitted S x plan) where
  -- the stores of the commit, uncut
  abbrev made : ℕ
  made = (commit S x logged plan Uncut).stores

  made_is : made ≡ length (run_of S x logged plan).puts
  unfolding uncut
  made_is = ap (λ (a : Answer). a.stores) (admitted S x logged plan Uncut ok)

  -- "18 cut: n stores done; transaction zero": the first n of the uncut run's; record and events zero, closed
  pub row_18 : ltb n made ≡ true
      → commit S x logged plan (After n) ≡ record {
        refusal = CutOff Closed;
        «record» = no_record;
        store = apply_all (take n (run_of S x logged plan).puts) S;
        tx = zero_tx;
        events = no_events;
        stores = n;
      }
  unfolding cut_off
  row_18 h = rw (admitted S x logged plan (After n) ok, sym (ap (ltb n) made_is) ∙ h)

  -- "A cut at n happens only if the uncut run makes more than n stores."
  pub row_18_only : ltb n made ≡ false → commit S x logged plan (After n) ≡ commit S x logged plan Uncut
  row_18_only h = rw (admitted S x logged plan (After n) ok, admitted S x logged plan Uncut ok, sym (ap (ltb n) made_is) ∙ h)

-- "20 recovery: not repairable: unchanged", and open
pub row_20 : (S : Store) → (number_of (recover S).refusal ≡ 20) ↔ (repairable S ≡ false)
unfolding recover
row_20 S = by (repairable S)
    (λ e. rw e (λ h. clash (ne h) refl, λ h. clash refl h))
    (λ e. rw e (λ h. refl, λ h. refl))
  where
    ne : {b : Bool} → ◌≡◌ {A = ℕ} 0 20 → b ≡ true
    ne h = absurd (omega arith)

pub row_20_leaves : (S : Store) → repairable S ≡ false → recover S ≡ record { refusal = NotRepairable Open; store = S }
unfolding recover
row_20_leaves S e = rw e
