-- Lists of numbers that climb and pass a test, in one pass.
use Rattle.std.specs.Prelude.{◌≡◌, refl, Bool, true, false, ◌&&◌, List, [], ◌∷◌, ℕ, suc, ◌+◌, ◌<◌, ◌≤◌, get_or, take, drop, leb}
use Rattle.std.proofs.Math.Bool.{and-false}
use borrow.Author.Tests.{le-leb, lt-leb}
use Rattle.rules.specs.Lists.{all, rising, non_falling}
use Rattle.fields.specs.Lent.{array}
use Rattle.fields.specs.FirstCount.{first_cons, first_end}

-- each at least what the one before it asks, from lo on
abbrev pub climb : (ℕ → ℕ) → (ℕ → Bool) → ℕ → List ℕ → Bool
climb asks f lo [] = true
climb asks f lo (x ∷ l) = leb lo x && (f x && climb asks f (asks x) l)

swap : (a b r s x : Bool) → (r && s) ≡ x → ((a && r) && (b && s)) ≡ (a && (b && x))
swap true true r s x e = e
swap true false r s x e = and-false r
swap false b r s x e = refl

-- rising, and non-falling, beside a test
pub rising_climb : (f : ℕ → Bool) (lo : ℕ) (l : List ℕ) → (rising lo l && all f l) ≡ climb suc f lo l
rising_climb f lo [] = refl
rising_climb f lo (x ∷ l) = swap (leb lo x) (f x) (rising (suc x) l) (all f l) (climb suc f (suc x) l) (rising_climb f (suc x) l)

pub non_falling_climb : (f : ℕ → Bool) (lo : ℕ) (l : List ℕ) → (non_falling lo l && all f l) ≡ climb (λ x. x) f lo l
non_falling_climb f lo [] = refl
non_falling_climb f lo (x ∷ l) = swap (leb lo x) (f x) (non_falling x l) (all f l) (climb (λ y. y) f x l) (non_falling_climb f x l)

-- the first k of an array, from i on
unfoldable pub climb_left : (ℕ → ℕ) → (ℕ → Bool) → ℕ → ℕ → ℕ → List ℕ → ℕ → Bool
climb_left asks f lo k n l i = climb asks f lo (drop i (take k (array n 0 l)))

module _ (asks : ℕ → ℕ) (f : ℕ → Bool) (lo k n : ℕ) (l : List ℕ) (i : ℕ) (w : Bool) (left : climb_left asks f lo k n l i ≡ w) where
  pub climb_end : k ≤ i → true ≡ w
  unfolding climb_left
  climb_end h = rw (first_end k n 0 l i h) at left

  module _ (h : i < k) (m : i < n) where
    pub climb_low : get_or l i 0 < lo → false ≡ w
    unfolding climb_left
    climb_low e = rw (first_cons k n 0 l i h m, lt-leb lo (get_or l i 0) e) at left

    pub climb_fails : lo ≤ get_or l i 0 → f (get_or l i 0) ≡ false → false ≡ w
    unfolding climb_left
    climb_fails d e = rw (first_cons k n 0 l i h m, le-leb lo (get_or l i 0) d, e) at left

    pub climb_pass : (next : ℕ) → next ≡ asks (get_or l i 0) → lo ≤ get_or l i 0 → f (get_or l i 0) ≡ true → climb_left asks f next k n l (i + 1) ≡ w
    unfolding climb_left
    climb_pass next q d e = rw q (rw (first_cons k n 0 l i h m, le-leb lo (get_or l i 0) d, e) at left)
