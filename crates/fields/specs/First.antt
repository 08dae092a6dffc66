-- The first elements of an array, one place at a time: how a loop goes through the list that an array and a count make.
use Rattle.std.specs.Prelude.{◌≡◌, refl, Bool, true, false, List, [], ◌∷◌, ℕ, ◌+◌, ◌-◌, ◌<◌, ◌≤◌, min, length, get_or, take, drop}
use Rattle.std.proofs.Common.{sym, ◌∙◌, add-one, arith, drop-cons, eq-eqb, ne_eqb}
use Rattle.std.proofs.Math.ListN.{length-take, drop_of_length-le}
use Rattle.std.proofs.Math.Seq.{get_or-take}
use Rattle.rules.specs.Lists.{memb, any}
use Rattle.fields.specs.Lent.{array, array_length, array_at}

module _ {ℓ} {A : Type ℓ} where
  -- the first `count` of l from place i on
  unfoldable pub first_from : ℕ → List A → ℕ → List A
  first_from count l i = drop i (take count l)

  -- the element at i and those from the next place on, or none
  pub first_next : (count : ℕ) (l : List A) (i : ℕ) (z : A) → i < min count (length l) → first_from count l i ≡ get_or l i z ∷ first_from count l (i + 1)
  unfolding first_from
  first_next count l i z h =
      let long = length-take count l in rw (drop-cons (take count l) i z (omega arith), get_or-take count l i z (omega arith), add-one)

  pub first_end : (count : ℕ) (l : List A) (i : ℕ) → min count (length l) ≤ i → first_from count l i ≡ []
  unfolding first_from
  first_end count l i h = let long = length-take count l in drop_of_length-le (take count l) {i = i} (omega arith)

  -- the same, going back from i
  pub first_back : (count : ℕ) (l : List A) (i : ℕ) (z : A) → 0 < i → i ≤ min count (length l)
      → first_from count l (i - 1) ≡ get_or l (i - 1) z ∷ first_from count l i
  first_back count l i z h k =
      let e : i - 1 + 1 ≡ i = omega arith in
      let b = first_next count l (i - 1) z (omega arith) in rw e at b

  -- the same of a lent array of n places
  pub lent_next : (n count : ℕ) (z : A) (l : List A) (i : ℕ) → i < min count n
      → first_from count (array n z l) i ≡ get_or l i z ∷ first_from count (array n z l) (i + 1)
  lent_next n count z l i h =
      let long = array_length n z l in first_next count (array n z l) i z (omega arith) ∙ rw (array_at n z l i (omega arith))

  pub lent_end : (n count : ℕ) (z : A) (l : List A) (i : ℕ) → min count n ≤ i → first_from count (array n z l) i ≡ []
  lent_end n count z l i h = let long = array_length n z l in first_end count (array n z l) i (omega arith)

-- t in a list: it stands first, or in the rest
module _ (t x : ℕ) (l rest : List ℕ) (next : l ≡ x ∷ rest) where
  pub memb_first : x ≡ t → memb t l ≡ true
  memb_first e = rw (next, e, eq-eqb t t refl)

  pub memb_rest : (x ≡ t → ⊥) → memb t l ≡ memb t rest
  memb_rest n = rw (next, ne_eqb t x (λ e. n (sym e)))

-- one in a list that passes: the first does, or one of the rest
module _ {ℓ} {A : Type ℓ} (f : A → Bool) (x : A) (l rest : List A) (next : l ≡ x ∷ rest) where
  pub any_first : f x ≡ true → any f l ≡ true
  any_first e = rw (next, e)

  pub any_rest : f x ≡ false → any f l ≡ any f rest
  any_rest e = rw (next, e)
