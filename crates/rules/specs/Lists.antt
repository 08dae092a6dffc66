-- Plain things on lists and numbers.
use Rattle.std.specs.Prelude.{Bool, true, false, not, cond, ◌&&◌, ◌||◌, ℕ, zero, suc, ◌+◌, eqb, ltb, leb}
use mathlib.Core.List.{List, [], ◌∷◌, ◌++◌, foldr}

module _ {ℓ} {A : Type ℓ} where
  abbrev pub all : (A → Bool) → List A → Bool
  all f [] = true
  all f (x ∷ l) = f x && all f l

  abbrev pub any : (A → Bool) → List A → Bool
  any f [] = false
  any f (x ∷ l) = f x || any f l

  -- those that pass
  abbrev pub those : (A → Bool) → List A → List A
  those f [] = []
  those f (x ∷ l) = let r = those f l in cond (f x) (x ∷ r) r

  -- a list laid out in an array of n places, the unused ones z
  abbrev pub pad : ℕ → A → List A → List A
  pad zero z l = []
  pad (suc n) z [] = z ∷ pad n z []
  pad (suc n) z (x ∷ l) = x ∷ pad n z l

  -- what is marked stays, the rest is z
  abbrev pub keep : A → List ℕ → List A → List A
  keep z m [] = []
  keep z [] (x ∷ l) = z ∷ keep z [] l
  keep z (b ∷ m) (x ∷ l) = cond (eqb b 0) z x ∷ keep z m l

-- the lists that f makes, one after the other
abbrev pub flat {ℓ κ} : {A : Type ℓ} {B : Type κ} → (A → List B) → List A → List B
flat f [] = []
flat f (x ∷ l) = f x ++ flat f l

-- at every place f holds of the first list or g of the second; f fails where the first has no place
abbrev pub each_or {ℓ κ} : {A : Type ℓ} {B : Type κ} → (A → Bool) → (B → Bool) → List A → List B → Bool
each_or f g l [] = true
each_or f g [] (y ∷ m) = g y && each_or f g [] m
each_or f g (x ∷ l) (y ∷ m) = (f x || g y) && each_or f g l m

-- the places of the numbers that are not 0, counted from p on
abbrev pub nonzero_from : ℕ → List ℕ → List ℕ
nonzero_from p [] = []
nonzero_from p (x ∷ l) = let r = nonzero_from (suc p) l in cond (eqb x 0) r (p ∷ r)

-- the place of the first 0, counted from p on; 0 if there is none
abbrev pub first_zero : ℕ → List ℕ → ℕ
first_zero p [] = 0
first_zero p (x ∷ l) = let r = first_zero (suc p) l in cond (eqb x 0) p r

abbrev pub memb : ℕ → List ℕ → Bool
memb x [] = false
memb x (y ∷ l) = eqb x y || memb x l

abbrev pub same : List ℕ → List ℕ → Bool
same [] [] = true
same [] (y ∷ m) = false
same (x ∷ l) [] = false
same (x ∷ l) (y ∷ m) = eqb x y && same l m

abbrev pub is_zero : ℕ → Bool
is_zero n = eqb n 0

abbrev pub nonzero : ℕ → Bool
nonzero n = ltb 0 n

abbrev pub all_zero : List ℕ → Bool
all_zero l = all is_zero l

-- rising, from lo on
abbrev pub rising : ℕ → List ℕ → Bool
rising lo [] = true
rising lo (x ∷ l) = leb lo x && rising (suc x) l

abbrev pub non_falling : ℕ → List ℕ → Bool
non_falling lo [] = true
non_falling lo (x ∷ l) = leb lo x && non_falling x l

-- put into a rising list, once
abbrev pub into : ℕ → List ℕ → List ℕ
into x [] = x ∷ []
into x (y ∷ l) = let r = into x l in cond (ltb x y) (x ∷ y ∷ l) (cond (eqb x y) (y ∷ l) (y ∷ r))

-- the members, rising, each once
abbrev pub in_order : List ℕ → List ℕ
in_order l = foldr into [] l

abbrev pub without : ℕ → List ℕ → List ℕ
without x l = those (λ y. not (eqb x y)) l

abbrev pub sum : List ℕ → ℕ
sum [] = 0
sum (x ∷ l) = x + sum l

-- up to the first 0
abbrev pub before_zero : List ℕ → List ℕ
before_zero [] = []
before_zero (x ∷ l) = let r = before_zero l in cond (eqb x 0) [] (x ∷ r)

-- the first number that passes, 0 if none does
abbrev pub first_of : (ℕ → Bool) → List ℕ → ℕ
first_of f [] = 0
first_of f (x ∷ l) = let r = first_of f l in cond (f x) x r

-- the place of the first test that holds; the number of tests if none does
abbrev pub first_true : List Bool → ℕ
first_true [] = 0
first_true (b ∷ bs) = let r = first_true bs in cond b 0 (suc r)

-- all of these tests hold; shut, so that a law can take them apart
unfoldable pub every : List Bool → Bool
every l = all (λ b. b) l
