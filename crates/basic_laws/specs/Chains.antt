-- The library's words for what a chain of iterators answers, in the words of the rules.
use Rattle.std.specs.Prelude.{◌≡◌, Bool, true, false, not, cond, ◌||◌, ◌&&◌, List, [], ◌∷◌, ℕ, zero, suc, ◌+◌, ◌==◌, eqb, filter, take}
use Rattle.std.proofs.Common.{refl, ap, arith}
use Rattle.std.specs.List.{list_any, list_all, take_while, prefix_len}
use Rattle.rules.specs.Lists.{any, all, memb, is_zero, all_zero, those, before_zero}
use Rattle.basic_laws.specs.Rising.{eqb_sym}

pub any_of_list : {A : Type 0} (p : A → Bool) (xs : List A) → list_any p xs ≡ any p xs
any_of_list p [] = refl
any_of_list p (x ∷ xs) = rw (any_of_list p xs)

pub all_of_list : {A : Type 0} (p : A → Bool) (xs : List A) → list_all p xs ≡ all p xs
all_of_list p [] = refl
all_of_list p (x ∷ xs) = rw (all_of_list p xs)

pub those_of_list : {A : Type 0} (p : A → Bool) (xs : List A) → filter p xs ≡ those p xs
those_of_list p [] = refl
those_of_list p (x ∷ xs) = rw (those_of_list p xs)

pub memb_of_list : (x : ℕ) (xs : List ℕ) → list_any (λ y. y == x) xs ≡ memb x xs
memb_of_list x [] = refl
memb_of_list x (y ∷ xs) = rw (eqb_sym y x, memb_of_list x xs)

pub zero_of_list : (xs : List ℕ) → list_all (λ y. y == 0) xs ≡ all_zero xs
zero_of_list xs = all_of_list is_zero xs

pub before_zero_of_list : (xs : List ℕ) → take_while (λ y. not (y == 0)) xs ≡ before_zero xs
before_zero_of_list [] = refl
before_zero_of_list (x ∷ xs) = step (eqb x 0) (before_zero_of_list xs)
  where
    step : (b : Bool) {l : List ℕ} → take_while (λ y. not (y == 0)) xs ≡ l
        → take (cond (not b) (1 + prefix_len (λ y. not (y == 0)) xs) 0) (x ∷ xs) ≡ cond b [] (x ∷ l)
    step true e = refl
    step false e =
        let n = prefix_len (λ y. not (y == 0)) xs in
        let one : 1 + n ≡ suc n = omega arith in
        rw one (ap (λ (l : List ℕ). x ∷ l) e)
