-- Which places of a list of writes are final: the first one, and the others.
use Rattle.std.specs.Prelude.{◌≡◌, refl, ◌↔◌, Bool, true, false, List, [], ◌∷◌, ℕ, zero, suc, ◌<◌, length, get_or, eqb}
use Rattle.std.proofs.Common.{arith, eqb-true}
use Rattle.std.proofs.lemmas.Bool.{eqb-false}
use Rattle.records.specs.Zero.{no_write}
use Rattle.rules.specs.Lists.{any}
use Rattle.rules.specs.Types.{Write}
use Rattle.statements.specs.StepWords.{FinalAt}
use Rattle.basic_laws.specs.Cases.{by, clash, or_true, or_false}

-- where a test of some fails it fails everywhere, and where it holds it holds somewhere
none_at : {A : Type 0} (f : A → Bool) (l : List A) (z : A) → any f l ≡ false → (b : ℕ) → b < length l → f (get_or l b z) ≡ false
none_at f [] z h b lt = absurd (omega arith)
none_at f (y ∷ l) z h zero lt = (or_false (f y) (any f l) h).0
none_at f (y ∷ l) z h (suc b) lt = none_at f l z (or_false (f y) (any f l) h).1 b (omega arith)

some_at : {A : Type 0} (f : A → Bool) (l : List A) (z : A) → any f l ≡ true → (b : ℕ) × (b < length l) × (f (get_or l b z) ≡ true)
some_at f [] z h = clash {b = false} h refl
some_at f (y ∷ l) z h = or_true (f y) (any f l) h
    (λ e. (zero, omega arith, e))
    (λ e. let k = some_at f l z e in (suc k.0, omega (arith, k.1), k.2))

-- a later write of w's row
abbrev pub later : Write → List Write → Bool
later w ws = any (λ v. eqb v.row.0 w.row.0) ws

-- the first place, and the others
pub first_final : (w : Write) (ws : List Write) → (later w ws ≡ false) ↔ FinalAt (w ∷ ws) zero
first_final w ws = (
  λ e. (
    omega arith,
    elim [
      | zero ↦ λ lt lb. absurd (omega arith)
      | suc b ↦ λ lt lb q. eqb-false _ _ (none_at (λ v. eqb v.row.0 w.row.0) ws no_write e b (omega arith)) q
    ],
  ),
  λ h. by (later w ws)
      (λ e. let k = some_at (λ v. eqb v.row.0 w.row.0) ws no_write e in
      absurd (h.1 (suc k.0) (omega arith) (omega (arith, k.1)) (eqb-true _ _ k.2)))
      (λ e. e),
)

pub next_final : (w : Write) (ws : List Write) (a : ℕ) → FinalAt ws a ↔ FinalAt (w ∷ ws) (suc a)
next_final w ws a = (
  λ h. (omega (arith, h.0), elim [ zero ↦ λ lt lb. absurd (omega arith) | suc b ↦ λ lt lb. h.1 b (omega arith) (omega arith) ]),
  λ h. (omega (arith, h.0), λ b lt lb. h.1 (suc b) (omega arith) (omega arith)),
)
