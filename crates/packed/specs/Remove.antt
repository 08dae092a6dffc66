-- A number taken out of the first of an array, and those before the first zero: what code does there is what `without` and `before_zero` do with the list.
use Rattle.std.specs.Prelude.{◌≡◌, refl, List, [], ◌∷◌, ◌++◌, ℕ, suc, ◌+◌, ◌≤◌, ◌<◌, length, get_or, set, take, eqb}
use Rattle.std.proofs.Common.{sym, ap, ◌∙◌, append_assoc, append-nil, add-one, arith, take-suc-set, drop-set-lt, eq-eqb, ne_eqb}
use Rattle.std.proofs.Math.Seq.{take-set-lt, slice, slice_empty, slice-cons}
use Rattle.rules.specs.Lists.{without, before_zero}
use Rattle.basic_laws.specs.Cases.{by}

-- the first m without v: a number other than v stays, and takes the next place; v does not
module _ (v : ℕ) (x : List ℕ) (k i m : ℕ) (kept : k ≤ i) (lt : i < m) (le : m ≤ length x) where
  pub keep_turn : (get_or x i 0 ≡ v → ⊥) →
      take (k + 1) (set x k (get_or x i 0)) ++ without v (slice (i + 1) m (set x k (get_or x i 0))) ≡ take k x ++ without v (slice i m x)
  keep_turn n =
      let y = get_or x i 0 in
      rw (
        slice-cons i m x 0 lt le,
        ne_eqb v y (λ q. n (sym q)),
        add-one,
        add-one,
        take-suc-set x k y (omega arith),
        take-set-lt m x k y (omega arith),
        drop-set-lt (suc i) (take m x) k y (omega arith),
      )
      (append_assoc (take k x) (y ∷ []) (without v (slice (suc i) m x)))

  pub skip_turn : get_or x i 0 ≡ v → take k x ++ without v (slice (i + 1) m x) ≡ take k x ++ without v (slice i m x)
  skip_turn e = rw (slice-cons i m x 0 lt le, eq-eqb v (get_or x i 0) (sym e), add-one)

pub removed : (v : ℕ) (x : List ℕ) (k i m : ℕ) {l : List ℕ} → i ≡ m → take k x ++ without v (slice i m x) ≡ l → take k x ≡ l
removed v x k i m q e = sym (append-nil (take k x)) ∙ rw (q, slice_empty m x) at e

-- those before the first zero are the first so many
pub live_first : (x : List ℕ) → take (length (before_zero x)) x ≡ before_zero x
live_first [] = refl
live_first (y ∷ x) = by (eqb y 0) (λ t. rw t) (λ t. rw t (ap (λ (r : List ℕ). y ∷ r) (live_first x)))

pub live_within : (x : List ℕ) → length (before_zero x) ≤ length x
live_within [] = omega arith
live_within (y ∷ x) = by (eqb y 0) (λ t. rw t (omega arith)) (λ t. rw t (omega (arith, live_within x)))
