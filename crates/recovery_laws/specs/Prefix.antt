-- Theorem P: after any number of a commit's stores the store is repairable, and its rows show what they showed, or, once a commit that
-- stands has dropped its txid, what it wrote.
use Rattle.std.specs.Prelude.{◌≡◌, Bool, true, false, not, cond, ◌&&◌, ℕ, take}
use Rattle.std.proofs.Common.{⊎_elim}
use Rattle.rules.specs.Lists.{memb}
use Rattle.rules.specs.Types.{Store, Tx, Schedule, Value, Refusal}
use Rattle.rules.specs.Store.{active_txids}
use Rattle.rules.specs.Transaction.{finals}
use Rattle.rules.specs.Puts.{apply_all}
use Rattle.rules.specs.Commit.{run_of}
use Rattle.run_laws.specs.Outcome.{outcome}
use Rattle.statements.specs.Words.{Admitted, shown, with_new, stands}
use Rattle.statements.specs.Sized.{Sized}
use Rattle.recovery_laws.specs.Unfinished.{dropped}
use Rattle.recovery_laws.specs.Along.{to_take}
use Rattle.recovery_laws.specs.Sizes.{sized_all}
use Rattle.recovery_laws.specs.Live.{Shows, lives_shows}
use Rattle.recovery_laws.specs.Ways.{new, Same, New, Either, Old, Home, told, gone}

-- what the rows show in D, left by some of the stores of a commit of x on S that answers `why`: what they showed in S; but with what x wrote,
-- once a commit that stands has dropped its txid
abbrev pub survives : Store → Tx → Refusal → Store → ℕ → Value
survives S x why D = cond (stands why && not (memb x.txid.0 (active_txids D.active))) (with_new S.key S.has (finals x) (shown S)) (shown S)

module _ (S : Store) (x : Tx) (logged : Bool) (plan : Schedule) (z : Sized S) (ok : Admitted S x plan) where
  -- theorem P
  pub prefix : (n : ℕ) → let D = apply_all (take n (run_of S x logged plan).puts) S in Shows (survives S x (run_of S x logged plan).end.refusal D) D
  prefix n =
      let t = x.txid.0 in
      let ps = (run_of S x logged plan).puts in
      let D = apply_all (take n ps) S in
      let sized = sized_all (take n ps) S z in
      ⊎_elim
      (λ h. let k = to_take (Old S x logged plan) (Home S x logged plan) ps S n h.1 in
      rw h.0 (lives_shows (shown S) k.0 k.1 k.2 D sized k.3))
      (λ h. ⊎_elim
      (λ (k : Same S x logged plan t D). let on : memb t (active_txids D.active) ≡ true = rw k.1.act_is ok.active in
      rw (h.0, on) (lives_shows (shown S) S.active S.doomed t D sized k))
      (λ (k : New S x logged plan D). let off : memb t (active_txids D.active) ≡ false = rw k.1.act_is (gone S x logged plan z ok) in
      rw (h.0, off) (lives_shows (new S x logged plan) (dropped S.active t) S.doomed S.doomed D sized k))
      (to_take (Either S x logged plan) (New S x logged plan) ps S n h.1))
      (told S x logged plan z ok (outcome S x logged plan))
