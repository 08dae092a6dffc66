-- "Admitted stores": what the laws of repairable and resting stores take for granted.
use Rattle.std.specs.Prelude.{◌≡◌, refl, true, false, not, ◌&&◌, List, [], ◌∷◌, ◌↔◌, ℕ, replicate, eqb}
use Rattle.std.proofs.Common.{inl, inr, ⊎_elim, eqb-true, eq-eqb, ne_eqb}
use Rattle.std.proofs.lemmas.Bool.{eqb-false}
use Rattle.records.specs.Limits.{places}
use Rattle.rules.specs.Lists.{memb, nonzero_from}
use Rattle.rules.specs.Chains.{Walk, walk}
use Rattle.rules.specs.Admitted.{finished}
use Rattle.rules.specs.Computing.{computing}
use Rattle.basic_laws.specs.Cases.{by, clash, and_false, or_false}
use Rattle.statements.specs.AdmittedWords.{Unfinished}

-- "Unfinished" means active or doomed
pub finished_says : (act : List ℕ) (doomed t : ℕ) → (finished act doomed t ≡ false) ↔ Unfinished act doomed t
unfolding finished
finished_says act doomed t = (
  λ h. let o = or_false (eqb t 0) (not (memb t act) && not (eqb t doomed)) h in (
    eqb-false t 0 o.0,
    by (memb t act) (λ m. inl m) (λ m. by (eqb t doomed) (λ e. inr (eqb-true t doomed e)) (λ e. clash {b = true} refl (rw (m, e) at o.1))),
  ),
  λ u. rw (ne_eqb t 0 u.0)
      (⊎_elim (λ (m : memb t act ≡ true). rw m) (λ (e : t ≡ doomed). rw (eq-eqb t doomed e) (and_false (not (memb t act)))) u.1),
)

-- "The walk of all chains stops at the first slot reached twice": whether it ends well, and the slots that it marked on the way
abbrev marked : Walk → List ℕ
marked w = nonzero_from 0 w.seen

-- slots 1 over 2 over 3; 4 over 5; 6 over itself
unfoldable pub nexts : List ℕ
nexts = 0 ∷ 2 ∷ 3 ∷ 0 ∷ 5 ∷ 0 ∷ 6 ∷ replicate 250 0

-- two chains apart are marked; a row that leads into an earlier one's slot, or back to its own, ends the walk there, and what comes after is not walked
pub walk_stops :
    (((walk (1 ∷ 4 ∷ []) nexts).ok ≡ true) × (marked (walk (1 ∷ 4 ∷ []) nexts) ≡ 1 ∷ 2 ∷ 3 ∷ 4 ∷ 5 ∷ []))
    × (((walk (2 ∷ 1 ∷ 4 ∷ []) nexts).ok ≡ false) × (marked (walk (2 ∷ 1 ∷ 4 ∷ []) nexts) ≡ 1 ∷ 2 ∷ 3 ∷ []))
    × (((walk (3 ∷ 6 ∷ 4 ∷ []) nexts).ok ≡ false) × (marked (walk (3 ∷ 6 ∷ 4 ∷ []) nexts) ≡ 3 ∷ 6 ∷ []))
    × (((walk (places ∷ 4 ∷ []) nexts).ok ≡ false) × (marked (walk (places ∷ 4 ∷ []) nexts) ≡ []))
unfolding nexts computing
walk_stops = ((refl, refl), (refl, refl), (refl, refl), (refl, refl))
