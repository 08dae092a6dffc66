-- The form of the active list, tested in one pass.
use Rattle.std.specs.Prelude.{◌≡◌, refl, Bool, true, false, cond, ◌&&◌, List, [], ◌∷◌, ℕ, suc, ◌+◌, ◌<◌, ◌≤◌, length, get_or, drop, eqb, ltb}
use Rattle.std.proofs.Math.Bool.{and-true, and-false}
use borrow.Author.Tests.{eq-eqb, ne_eqb, lt-ltb, le-ltb}
use Rattle.rules.specs.Lists.{all, every, all_zero, rising, before_zero}
use Rattle.rules.specs.Store.{active_in_form}
use Rattle.std.proofs.Common.{drop_of_length-le, drop-cons, add-one}

-- rising past `before` and below the clock up to the first 0, and zero after it
abbrev pub active_from : ℕ → ℕ → List ℕ → Bool
active_from clock before [] = true
active_from clock before (t ∷ l) = cond (eqb t 0) (all_zero l) (ltb before t && (ltb t clock && active_from clock t l))

-- the three tests of the form, and that one
abbrev three : ℕ → ℕ → List ℕ → List ℕ → Bool
three clock before act l = rising (suc before) act && (all (λ t. ltb t clock) act && (all_zero (drop (length act) l) && true))

one : (a b r s z x : Bool) → (r && (s && (z && true))) ≡ x → ((a && r) && ((b && s) && (z && true))) ≡ (a && (b && x))
one true true r s z x e = e
one true false r s z x e = and-false r
one false b r s z x e = refl

same_test : (clock before : ℕ) (l : List ℕ) → three clock before (before_zero l) l ≡ active_from clock before l
same_test clock before [] = refl
same_test clock before (t ∷ l) = at (eqb t 0) refl (same_test clock t l)
  where
    at : (z : Bool) → eqb t 0 ≡ z → three clock t (before_zero l) l ≡ active_from clock t l
        → three clock before (cond z [] (t ∷ before_zero l)) (t ∷ l) ≡ cond z (all_zero l) (ltb before t && (ltb t clock && active_from clock t l))
    at true e h = rw e (and-true (all_zero l))
    at false e h =
        one (ltb before t) (ltb t clock) (rising (suc t) (before_zero l)) (all (λ u. ltb u clock) (before_zero l))
        (all_zero (drop (length (before_zero l)) l)) (active_from clock t l) h

-- the form in one pass
pub active_from_law : (act : List ℕ) (clock : ℕ) → active_in_form act clock ≡ active_from clock 0 act
unfolding active_in_form every
active_from_law act clock = same_test clock 0 act

-- what is left to test from i on
unfoldable pub active_left : ℕ → ℕ → List ℕ → ℕ → Bool
active_left clock before l i = active_from clock before (drop i l)

module _ (clock before : ℕ) (l : List ℕ) (i : ℕ) (w : Bool) (left : active_left clock before l i ≡ w) where
  pub active_end : length l ≤ i → true ≡ w
  unfolding active_left
  active_end h = rw (drop_of_length-le l {i = i} h) at left

  module _ (h : i < length l) where
    -- the list ends at i: zeros are left
    pub active_stop : get_or l i 0 ≡ 0 → all_zero (drop i l) ≡ w
    unfolding active_left
    active_stop q = rw (drop-cons l i 0 h, eq-eqb (get_or l i 0) 0 q) (rw (drop-cons l i 0 h, eq-eqb (get_or l i 0) 0 q) at left)

    module _ (q : get_or l i 0 ≡ 0 → ⊥) where
      -- the txid at i does not rise, or is not below the clock
      pub active_low : get_or l i 0 ≤ before → false ≡ w
      unfolding active_left
      active_low k = rw (drop-cons l i 0 h, ne_eqb (get_or l i 0) 0 q, le-ltb before (get_or l i 0) k) at left

      pub active_high : before < get_or l i 0 → clock ≤ get_or l i 0 → false ≡ w
      unfolding active_left
      active_high k m = rw (drop-cons l i 0 h, ne_eqb (get_or l i 0) 0 q, lt-ltb before (get_or l i 0) k, le-ltb (get_or l i 0) clock m) at left

      -- it does and is: the rest decides
      pub active_pass : before < get_or l i 0 → get_or l i 0 < clock → active_left clock (get_or l i 0) l (i + 1) ≡ w
      unfolding active_left
      active_pass k m =
          rw add-one
          (rw (drop-cons l i 0 h, ne_eqb (get_or l i 0) 0 q, lt-ltb before (get_or l i 0) k, lt-ltb (get_or l i 0) clock m) at left)
