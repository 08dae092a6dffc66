-- Lists laid out in arrays: what is read back is what was laid out, and an array in its form is the layout of what is read from it.
use Rattle.std.specs.Prelude.{◌≡◌, refl, Bool, true, false, List, [], ◌∷◌, ℕ, zero, suc, ◌≤◌, length, take, drop, eqb}
use Rattle.std.proofs.Common.{sym, ap, arith, ne_eqb}
use Rattle.std.proofs.lemmas.Bool.{eqb-false}
use Rattle.basic_laws.specs.Cases.{by, and_true, or_false}
use Rattle.rules.specs.Lists.{all, memb, pad, before_zero}

module _ {ℓ} {A : Type ℓ} where
  -- the array has its n places
  pub pad_length : (n : ℕ) (z : A) (l : List A) → length (pad n z l) ≡ n
  pad_length zero z l = refl
  pad_length (suc n) z [] = ap suc (pad_length n z [])
  pad_length (suc n) z (x ∷ l) = ap suc (pad_length n z l)

  -- what is read back is what was laid out
  pub take_pad : (n : ℕ) (z : A) (l : List A) → length l ≤ n → take (length l) (pad n z l) ≡ l
  take_pad zero z [] h = refl
  take_pad zero z (x ∷ l) h = absurd (omega arith)
  take_pad (suc n) z [] h = refl
  take_pad (suc n) z (x ∷ l) h = ap (λ (m : List A). x ∷ m) (take_pad n z l (omega arith))

  module _ (z : A) (f : A → Bool) (blank : (x : A) → f x ≡ true → x ≡ z) where
    -- nothing laid out
    pad_none : (n : ℕ) (a : List A) → length a ≡ n → all f a ≡ true → pad n z [] ≡ a
    pad_none zero [] e h = refl
    pad_none zero (x ∷ a) e h = absurd (omega arith)
    pad_none (suc n) [] e h = absurd (omega arith)
    pad_none (suc n) (x ∷ a) e h =
        let b = and_true (f x) (all f a) h in
        rw (pad_none n a (omega arith) b.1, blank x b.0)

    -- an array of n places whose rest is blank, by a test that only z passes
    pub pad_take : (n c : ℕ) (a : List A) → length a ≡ n → all f (drop c a) ≡ true → pad n z (take c a) ≡ a
    pad_take n zero a e h = pad_none n a e h
    pad_take zero (suc c) [] e h = refl
    pad_take zero (suc c) (x ∷ a) e h = absurd (omega arith)
    pad_take (suc n) (suc c) [] e h = absurd (omega arith)
    pad_take (suc n) (suc c) (x ∷ a) e h = ap (λ (m : List A). x ∷ m) (pad_take n c a (omega arith) h)

-- the same where the list ends at the first 0
pub before_pad : (n : ℕ) (l : List ℕ) → length l ≤ n → memb 0 l ≡ false → before_zero (pad n 0 l) ≡ l
before_pad zero [] h z = refl
before_pad zero (x ∷ l) h z = absurd (omega arith)
before_pad (suc n) [] h z = refl
before_pad (suc n) (x ∷ l) h z =
    let o = or_false (eqb 0 x) (memb 0 l) z in
    rw (ne_eqb x 0 (λ q. eqb-false 0 x o.0 (sym q)), before_pad n l (omega arith) o.1)

-- what stands before the first 0 is a prefix
pub before_take : (a : List ℕ) → before_zero a ≡ take (length (before_zero a)) a
before_take [] = refl
before_take (x ∷ a) = by (eqb x 0) (λ e. rw e) (λ e. rw e (ap (λ (m : List ℕ). x ∷ m) (before_take a)))
