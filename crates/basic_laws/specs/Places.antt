-- Tests of arrays and what they say of each place, and back.
use Rattle.std.specs.Prelude.{◌≡◌, refl, Bool, true, false, List, [], ◌∷◌, ℕ, suc, ◌+◌, ◌≤◌, ◌-◌, length, get_or, drop, ltb, leb}
use Rattle.std.proofs.Common.{arith, get_or-drop, eqb-true, eq-eqb, ltb-true, ltb-false, leb-true, le-leb}
use Rattle.std.proofs.Math.ListN.{get_or-eq_default}
use Rattle.rules.specs.Lists.{all_zero, each_or, is_zero, rising}
use Rattle.basic_laws.specs.Cases.{by, and_true, and_both}
use Rattle.basic_laws.specs.Members.{all_at, at_all, each_or_law, or_each}

-- where the first list's test fails the second list has the blank z, for which g is the test
module _ {ℓ κ} {A : Type ℓ} {B : Type κ} (f : A → Bool) (g : B → Bool) (a : A) (z : B) where
  pub blank_at : ((b : B) → g b ≡ true → b ≡ z) → (l : List A) (m : List B) → each_or f g l m ≡ true → (p : ℕ) → f (get_or l p a) ≡ false → get_or m p z ≡ z
  blank_at is l m h p n = by (ltb p (length m))
      (λ e. is (get_or m p z) (each_or_law f g l m a z h p (ltb-true p (length m) e) n))
      (λ e. get_or-eq_default m z (ltb-false p (length m) e))

  -- and back
  pub at_blank : ((b : B) → b ≡ z → g b ≡ true) → (l : List A) (m : List B) → length m ≡ length l → ((p : ℕ) → f (get_or l p a) ≡ false → get_or m p z ≡ z)
      → each_or f g l m ≡ true
  at_blank is l m e h = or_each f g l m a z (omega arith) (λ p lt n. is (get_or m p z) (h p n))

-- an array that is all zero, and one that is so from a place on
pub zero_at : (l : List ℕ) → all_zero l ≡ true → (p : ℕ) → get_or l p 0 ≡ 0
zero_at l h p = by (ltb p (length l))
    (λ e. eqb-true (get_or l p 0) 0 (all_at is_zero l h p 0 (ltb-true p (length l) e)))
    (λ e. get_or-eq_default l 0 (ltb-false p (length l) e))

-- and back
pub at_zero : (l : List ℕ) → ((p : ℕ) → get_or l p 0 ≡ 0) → all_zero l ≡ true
at_zero l h = at_all is_zero l 0 (λ p lt. eq-eqb (get_or l p 0) 0 (h p))

-- from a place on
pub zero_from : (n : ℕ) (l : List ℕ) → all_zero (drop n l) ≡ true → (p : ℕ) → n ≤ p → get_or l p 0 ≡ 0
zero_from n l h p le =
    let e : n + (p - n) ≡ p = omega arith in
    rw (get_or-drop n l (p - n) 0, e) at (zero_at (drop n l) h (p - n))

-- and back
pub from_zero : (n : ℕ) (l : List ℕ) → ((p : ℕ) → n ≤ p → get_or l p 0 ≡ 0) → all_zero (drop n l) ≡ true
from_zero n l h = at_zero (drop n l) (λ p. rw (get_or-drop n l p 0) (h (n + p) (omega arith)))

-- a rising list, from lo on
abbrev pub Rising : ℕ → List ℕ → Type 0
Rising lo [] = Unit {0}
Rising lo (x ∷ l) = (lo ≤ x) × Rising (suc x) l

-- as the test says it
pub rising_is : (lo : ℕ) (l : List ℕ) → rising lo l ≡ true → Rising lo l
rising_is lo [] h = tt
rising_is lo (x ∷ l) h = let a = and_true (leb lo x) (rising (suc x) l) h in (leb-true lo x a.0, rising_is (suc x) l a.1)

-- and back
pub is_rising : (lo : ℕ) (l : List ℕ) → Rising lo l → rising lo l ≡ true
is_rising lo [] h = refl
is_rising lo (x ∷ l) h = and_both (leb lo x) (rising (suc x) l) (le-leb lo x h.0) (is_rising (suc x) l h.1)
