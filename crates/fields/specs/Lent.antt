-- What a lent array of n places holds, whatever the length of the list behind it: the form in which contracts read lent arrays.
use Rattle.std.specs.Prelude.{◌≡◌, Bool, false, length, get_or, drop}
use Rattle.std.proofs.Math.Path.{refl, ap}
use Rattle.std.proofs.Common.{sym, ◌∙◌, not-suc-le-zero, le_of_suc-le-suc, suc-ne-zero, add-one, arith, drop_of_length-le, drop-cons}
use mathlib.Core.List.{List, [], ◌∷◌}
use Prim.Native.Nat.{ℕ, zero, suc, ◌+◌, ◌<◌, ◌≤◌}
use Rattle.std.proofs.Math.Nat.{suc_inj}
use Rattle.std.proofs.Math.ListN.{get_or-eq_default}
use Rattle.records.specs.Limits.{rows, places, stripes, active_limit, posting_limit}
use Rattle.rules.specs.Lists.{pad}

module _ {ℓ} {A : Type ℓ} where
  -- the n elements of a lent array; shut, so that a goal shows its name
  unfoldable pub array : ℕ → A → List A → List A
  array n z l = pad n z l

  -- it has n elements
  pub array_length : (n : ℕ) (z : A) (l : List A) → length (array n z l) ≡ n
  unfolding array
  array_length zero z l = refl
  array_length (suc n) z [] = ap suc (array_length n z [])
  array_length (suc n) z (x ∷ l) = ap suc (array_length n z l)

  -- within its bounds an index reads the same
  pub array_at : (n : ℕ) (z : A) (l : List A) (i : ℕ) → i < n → get_or (array n z l) i z ≡ get_or l i z
  unfolding array
  array_at zero z l i h = absurd (not-suc-le-zero h)
  array_at (suc n) z [] zero h = refl
  array_at (suc n) z [] (suc i) h = array_at n z [] i (le_of_suc-le-suc h)
  array_at (suc n) z (x ∷ l) zero h = refl
  array_at (suc n) z (x ∷ l) (suc i) h = array_at n z l i (le_of_suc-le-suc h)

  -- beyond them it reads z
  pub array_past : (n : ℕ) (z : A) (l : List A) (i : ℕ) → n ≤ i → get_or (array n z l) i z ≡ z
  array_past n z l i h = let long = array_length n z l in get_or-eq_default (array n z l) z {n = i} (omega arith)

  -- a list of that length is its own array
  pub array_same : (n : ℕ) (z : A) (l : List A) → length l ≡ n → array n z l ≡ l
  unfolding array
  array_same zero z [] e = refl
  array_same zero z (x ∷ l) e = absurd (suc-ne-zero (length l) e)
  array_same (suc n) z [] e = absurd (suc-ne-zero n (sym e))
  array_same (suc n) z (x ∷ l) e = ap (λ (r : List A). x ∷ r) (array_same n z l (suc_inj e))

  -- what is left from place i on: the element there and the rest, or nothing
  pub array_cons : (n : ℕ) (z : A) (l : List A) (i : ℕ) → i < n → drop i (array n z l) ≡ get_or l i z ∷ drop (i + 1) (array n z l)
  array_cons n z l i h =
      let long = array_length n z l in
      rw (drop-cons (array n z l) i z (omega arith), array_at n z l i h, add-one)

  pub array_end : (n : ℕ) (z : A) (l : List A) (i : ℕ) → n ≤ i → drop i (array n z l) ≡ []
  array_end n z l i h = let long = array_length n z l in drop_of_length-le (array n z l) {i = i} (omega arith)

-- what is read at a place p of an array that has its length
pub lent_at : {A : Type 0} (n : ℕ) (l : List A) (z : A) {v : A} {i p : ℕ} → length l ≡ n → i ≡ p → v ≡ get_or (array n z l) i z → v ≡ get_or l p z
lent_at {A} n l z {i = i} long place e = rw place at (e ∙ ap (λ (x : List A). get_or x i z) (array_same n z l long))

-- the arrays of the store by their places
abbrev pub at_rows : List ℕ → List ℕ
at_rows l = array rows 0 l

abbrev pub at_places : List ℕ → List ℕ
at_places l = array places 0 l

abbrev pub flags_at_places : List Bool → List Bool
flags_at_places l = array places false l

abbrev pub at_active : List ℕ → List ℕ
at_active l = array active_limit 0 l

abbrev pub at_postings : List ℕ → List ℕ
at_postings l = array posting_limit 0 l

abbrev pub flags_at_rows : List Bool → List Bool
flags_at_rows l = array rows false l

abbrev pub at_stripes : List ℕ → List ℕ
at_stripes l = array stripes 0 l
