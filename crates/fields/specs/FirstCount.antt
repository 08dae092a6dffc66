-- The first k elements of a lent array: a list and its count.
use Rattle.std.specs.Prelude.{◌≡◌, List, [], ◌∷◌, ℕ, ◌+◌, ◌<◌, ◌≤◌, get_or, take, drop}
use Rattle.std.proofs.Common.{arith}
use Rattle.fields.specs.Lent.{array}
use Rattle.fields.specs.First.{first_from, lent_next, lent_end}

module _ {ℓ} {A : Type ℓ} (k n : ℕ) (z : A) (l : List A) (i : ℕ) where
  -- the element at i and those after it, or none
  pub first_cons : i < k → i < n → drop i (take k (array n z l)) ≡ get_or l i z ∷ drop (i + 1) (take k (array n z l))
  unfolding first_from
  first_cons h m = lent_next n k z l i (omega arith)

  pub first_end : k ≤ i → drop i (take k (array n z l)) ≡ []
  unfolding first_from
  first_end h = lent_end n k z l i (omega arith)

  pub first_past : n ≤ i → drop i (take k (array n z l)) ≡ []
  unfolding first_from
  first_past h = lent_end n k z l i (omega arith)
