-- The fit schedule: the masks of the constant table say what the definitions' table says.
use Rattle.std.specs.Prelude.{◌≡◌, ◌&&◌, ◌||◌, ℕ, ◌/◌, ◌%◌, ◌<◌, get_or, eqb}
use Rattle.std.proofs.Common.{arith}
use borrow.Author.Tests.{ne_eqb}
use Rattle.rules.specs.Types.{Fault}
use Rattle.rules.specs.Faults.{F, B, P, X, Q, masks, bit_of, allowed}
use Rattle.basic_laws.specs.Cases.{by}
use Rattle.run_laws.specs.FaultTable.{letter_end, mask_says, mask_counts}

-- a letter's bit is a number to divide by
pub bit_positive : (c : ℕ) → 0 < bit_of c
bit_positive c =
    by
    (eqb c F)
    (λ e. rw e (omega arith))
    (λ e. by
    (eqb c B)
    (λ f. rw (e, f) (omega arith))
    (λ f. by
    (eqb c P)
    (λ g. rw (e, f, g) (omega arith))
    (λ g. by
    (eqb c X)
    (λ h. rw (e, f, g, h) (omega arith))
    (λ h. by (eqb c Q) (λ i. rw (e, f, g, h, i) (omega arith)) (λ i. rw (e, f, g, h, i) (omega arith))))))

-- a fault is allowed or not, by its step's mask m and its letter's bit b
pub allowed_by : (f : Fault) (m b : ℕ) → f.letter < letter_end → m ≡ get_or masks f.step 0 → b ≡ bit_of f.letter
    → (eqb (m / b % 2) 1 && (eqb f.k 0 || (eqb (m / 2 % 2) 1 && eqb f.letter F))) ≡ allowed f
unfolding allowed
allowed_by f m b h d e = rw (d, e, mask_says f.step f.letter h, mask_counts f.step)

-- a letter in no mask
pub no_bit : (c : ℕ) → (c ≡ F → ⊥) → (c ≡ B → ⊥) → (c ≡ P → ⊥) → (c ≡ X → ⊥) → (c ≡ Q → ⊥) → 64 ≡ bit_of c
no_bit c f b p x q = rw (ne_eqb c F f, ne_eqb c B b, ne_eqb c P p, ne_eqb c X x, ne_eqb c Q q)
