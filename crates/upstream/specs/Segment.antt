-- Source 002's failure clause of the data segment (steps 15, 17 and 18): a commit that fails there leaves the store as it was, or poisoned.
use Rattle.std.specs.Prelude.{◌≡◌, Bool, true, ◌||◌, List, [], ◌∷◌, ◌++◌, map, reverse, ◌⊎◌, ℕ, eqb}
use Rattle.std.proofs.Math.Path.{refl}
use Rattle.std.proofs.Common.{◌∙◌, append_assoc, inl, inr, eqb-true}
use Rattle.std.proofs.Math.ListN.{take}
use Rattle.rules.specs.Types.{Store, Tx, Schedule, Answer, Cut, Undone}
use Rattle.basic_laws.specs.Cases.{by, clash, or_true, or_left, or_right}
use Rattle.rules.specs.Numbers.{number_of, fate_in}
use Rattle.rules.specs.Puts.{Put, k_poison, k_doom, is, put_remove, put_poison, apply_all}
use Rattle.rules.specs.Changes.{changes, destinations, insertions, release}
use Rattle.rules.specs.Commit.{End, fails, count, rollback}
use Rattle.rules.specs.Answer.{uncut, commit}
use Rattle.run_laws.specs.Outcome.{guards_taken, Outcome, done, stays, aborts, uninserted, uncalled, spoils, unstamped, outcome}
use Rattle.statements.specs.Words.{Admitted}
use Rattle.run_laws.specs.FirstRows.{whole, stay_not, abort_not, called_not, spoil_not}
use Rattle.run_laws.specs.Aftermath.{row_13_17}
use Rattle.statements.specs.Sized.{Sized}
use Rattle.posting_laws.specs.Rolled.{row_10}
use Rattle.posting_laws.specs.Healthy.{poisons, poisoned_after}

-- a poison among puts
poisons_mid : (ps qs : List Put) → poisons (ps ++ put_poison ∷ qs) ≡ true
poisons_mid [] qs = refl
poisons_mid (p ∷ ps) qs = or_right (is p k_poison || is p k_doom) (poisons (ps ++ put_poison ∷ qs)) (poisons_mid ps qs)

-- number 10
abbrev ten : ℕ → Bool
ten n = eqb n 10

-- guards, insertions, a rollback that failed, guards
regroup : (G I R Z : List Put) → G ++ (I ++ ((R ++ put_poison ∷ []) ++ Z)) ≡ (G ++ (I ++ R)) ++ put_poison ∷ Z
regroup G I R Z = simp append_assoc

module _ (S : Store) (x : Tx) (logged : Bool) (plan : Schedule) where
  only_failed : (n : ℕ) (ps : List Put) (d : End) → fails S x logged plan 24 ≡ true → Outcome S x logged plan n ps d → ten (number_of d.refusal) ≡ true
      → ((apply_all ps S).poisoned ≡ true) × (d.tx ≡ x) × (fate_in d.refusal ≡ Undone)
  unfolding rollback
  only_failed _ _ _ f (done p) h = clash h refl
  only_failed _ _ _ f (stays l t k) h = clash h (stay_not ten refl refl k _)
  only_failed _ _ _ f (aborts l t k) h = clash h (abort_not ten refl refl refl refl refl k)
  only_failed _ _ _ f (uninserted p k) h =
      let G = guards_taken S x logged plan in
      let I = take (count S x logged plan 15) (insertions S x) in
      let R = take (count S x logged plan 24) (map put_remove (reverse (take (count S x logged plan 15) (destinations (changes S x))))) in
      let Z = release S x in
      rw f (
        rw (regroup G I R Z)
            (poisoned_after ((G ++ (I ++ R)) ++ put_poison ∷ Z) S
            ∙ or_left (poisons ((G ++ (I ++ R)) ++ put_poison ∷ Z)) S.poisoned (poisons_mid (G ++ (I ++ R)) Z)),
        refl,
        refl,
      )
  only_failed _ _ _ f (uncalled p l k) h = clash h (called_not S x logged plan ten refl refl refl)
  only_failed _ _ _ f (spoils p k) h = clash h (spoil_not ten refl refl refl refl k _)
  only_failed _ _ _ f (unstamped p k) h = clash h refl

  module _ (cut : Cut) (ok : Admitted S x plan) where
    abbrev pub A : Answer
    A = commit S x logged plan cut

    -- row 10 where the rollback failed: poisoned, the transaction as it was, undone
    pub row_10_failed : fails S x logged plan 24 ≡ true → ten (number_of A.refusal) ≡ true
        → (A.store.poisoned ≡ true) × (A.tx ≡ x) × (fate_in A.refusal ≡ Undone)
    unfolding uncut
    row_10_failed f h =
        let u = whole S x logged plan cut ok ten refl h in
        rw u (only_failed _ _ _ f (outcome S x logged plan) (rw u at h))

    -- 10, 13 and 14: an insertion, a removal or the publication failed
    abbrev pub segment_number : ℕ → Bool
    segment_number n = eqb n 10 || (eqb n 13 || eqb n 14)

    pub segment_failed : Sized S → segment_number (number_of A.refusal) ≡ true → (A.store ≡ S) ⊎ (A.store.poisoned ≡ true)
    segment_failed z h =
        let n = number_of A.refusal in
        or_true (eqb n 10) (eqb n 13 || eqb n 14) h
        (λ e. by (fails S x logged plan 24)
        (λ f. inr (row_10_failed f e).0)
        (λ f. inl (row_10 S x logged plan z cut ok f e).0))
        (λ e. inr (row_13_17 S x logged plan cut ok (or_true (eqb n 13) (eqb n 14) e
        (λ k. rw (eqb-true n 13 k))
        (λ k. rw (eqb-true n 14 k)))).poisoned)
