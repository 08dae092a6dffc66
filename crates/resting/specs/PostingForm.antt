-- The postings: their form in one pass, and the test that the heads tell them.
use Rattle.std.specs.Prelude.{◌≡◌, Bool, true, false, ◌&&◌, List, ℕ, suc, ◌+◌, ◌<◌, ◌≤◌, length, get_or, take, drop, eqb, ltb, leb}
use Rattle.std.proofs.Math.Path.{refl}
use Rattle.std.proofs.Math.Bool.{and-true}
use Rattle.std.proofs.Common.{drop_of_length-le, drop-cons, add-one}
use borrow.Author.Tests.{leb-true, le-leb, lt-leb}
use Rattle.records.specs.Limits.{posting_limit, key_end}
use Rattle.rules.specs.Types.{Store}
use Rattle.rules.specs.Lists.{all, every, all_zero, rising}
use Rattle.rules.specs.Store.{posting, key_of, row_of, postings_of, postings_in_form}
use Rattle.fields.specs.Every.{every_each}
use Rattle.fields.specs.Climb.{climb, rising_climb}

-- a posting of a 32-bit key
abbrev pub keyed : ℕ → Bool
keyed c = ltb c (posting key_end 0)

-- the slot has a value
unfoldable pub valued_by : Store → ℕ → Bool
valued_by S p = get_or S.has p false

-- the head of the posting's row has its key
unfoldable pub told_at : Store → ℕ → Bool
told_at S c = let h = get_or S.heads (row_of c) 0 in get_or S.has h false && eqb (get_or S.key h 0) (key_of c)

-- the postings from place i on rise from `least` on and are of 32-bit keys
unfoldable pub rise_left : ℕ → List ℕ → ℕ → Bool
rise_left least l i = climb suc keyed least (drop i l)

module _ (least : ℕ) (l : List ℕ) (i : ℕ) (w : Bool) (left : rise_left least l i ≡ w) where
  pub rise_end : length l ≤ i → true ≡ w
  unfolding rise_left
  rise_end h = rw (drop_of_length-le l {i = i} h) at left

  module _ (h : i < length l) where
    pub rise_low : get_or l i 0 < least → false ≡ w
    unfolding rise_left
    rise_low e = rw (drop-cons l i 0 h, lt-leb least (get_or l i 0) e) at left

    pub rise_high : least ≤ get_or l i 0 → keyed (get_or l i 0) ≡ false → false ≡ w
    unfolding rise_left
    rise_high d e = rw (drop-cons l i 0 h, le-leb least (get_or l i 0) d, e) at left

    pub rise_pass : least ≤ get_or l i 0 → keyed (get_or l i 0) ≡ true → rise_left (get_or l i 0 + 1) l (i + 1) ≡ w
    unfolding rise_left
    rise_pass d e = rw (add-one (get_or l i 0), add-one i) (rw (drop-cons l i 0 h, le-leb least (get_or l i 0) d, e) at left)

-- two tests in one
tie : (l r s z x : Bool) → (r && s) ≡ x → (l && (r && (s && (z && true)))) ≡ ((l && x) && z)
tie true true s z x e = rw (and-true z, e)
tie true false s z x e = rw (← e)
tie false r s z x e = refl

module _ (S : Store) where
  abbrev ps : List ℕ
  ps = take S.posting_count S.postings

  pub form_is : postings_in_form S ≡ ((leb S.posting_count posting_limit && climb suc keyed 0 ps) && all_zero (drop S.posting_count S.postings))
  unfolding postings_in_form postings_of every
  form_is =
      tie (leb S.posting_count posting_limit) (rising 0 ps) (all keyed ps) (all_zero (drop S.posting_count S.postings)) (climb suc keyed 0 ps)
      (rising_climb keyed 0 ps)

  -- what the form says
  pub form_count : postings_in_form S ≡ true → S.posting_count ≤ posting_limit
  unfolding postings_in_form
  form_count e = leb-true S.posting_count posting_limit (every_each _ e).0

  pub form_rises : postings_in_form S ≡ true → rising 0 ps ≡ true
  unfolding postings_in_form postings_of
  form_rises e = (every_each _ e).1.0
