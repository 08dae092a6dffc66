-- Scans of lent arrays: what is left to test from an index on, against the whole.
use Rattle.std.specs.Prelude.{◌≡◌, Bool, true, false, List, ℕ, ◌+◌, ◌<◌, ◌≤◌, get_or, take, drop}
use Rattle.rules.specs.Lists.{all}
use Rattle.fields.specs.Lent.{array, array_cons, array_end}
use Rattle.fields.specs.FirstCount.{first_cons, first_end, first_past}

-- every element of the array from i on passes; shut, so that a law finds its parts
unfoldable pub all_left {ℓ} : {A : Type ℓ} → (A → Bool) → ℕ → A → List A → ℕ → Bool
all_left f n z l i = all f (drop i (array n z l))

module _ {ℓ} {A : Type ℓ} (f : A → Bool) (n : ℕ) (z : A) (l : List A) (i : ℕ) (w : Bool) where
  -- the one at i passes: the rest decides
  pub all_pass : all_left f n z l i ≡ w → i < n → f (get_or l i z) ≡ true → all_left f n z l (i + 1) ≡ w
  unfolding all_left
  all_pass e h t = rw (array_cons n z l i h, t) at e

  -- it fails: so does the whole
  pub all_fail : all_left f n z l i ≡ w → i < n → f (get_or l i z) ≡ false → false ≡ w
  unfolding all_left
  all_fail e h t = rw (array_cons n z l i h, t) at e

  -- none is left: the whole passes
  pub all_end : all_left f n z l i ≡ w → n ≤ i → true ≡ w
  unfolding all_left
  all_end e h = rw (array_end n z l i h) at e

-- every one of the first k elements from i on passes
unfoldable pub first_left {ℓ} : {A : Type ℓ} → (A → Bool) → ℕ → ℕ → A → List A → ℕ → Bool
first_left f k n z l i = all f (drop i (take k (array n z l)))

module _ {ℓ} {A : Type ℓ} (f : A → Bool) (k n : ℕ) (z : A) (l : List A) (i : ℕ) (w : Bool) where
  pub first_pass : first_left f k n z l i ≡ w → i < k → i < n → f (get_or l i z) ≡ true → first_left f k n z l (i + 1) ≡ w
  unfolding first_left
  first_pass e h m t = rw (first_cons k n z l i h m, t) at e

  pub first_fail : first_left f k n z l i ≡ w → i < k → i < n → f (get_or l i z) ≡ false → false ≡ w
  unfolding first_left
  first_fail e h m t = rw (first_cons k n z l i h m, t) at e

  pub first_none : first_left f k n z l i ≡ w → k ≤ i → true ≡ w
  unfolding first_left
  first_none e h = rw (first_end k n z l i h) at e

  pub first_out : first_left f k n z l i ≡ w → n ≤ i → true ≡ w
  unfolding first_left
  first_out e h = rw (first_past k n z l i h) at e
