-- The form of the slots, tested slot by slot.
use Rattle.std.specs.Prelude.{◌≡◌, Bool, ◌&&◌, ◌||◌, List, [], ◌∷◌, ℕ, ◌+◌, ◌<◌, ◌≤◌, length, get_or, drop, eqb}
use Rattle.std.proofs.Math.Path.{refl, sym}
use Rattle.std.proofs.Common.{arith, suc-ne-zero, eqb-true, drop-cons, drop_of_length-le, add-one}
use Rattle.std.proofs.Math.Bool.{true, false, not, and-true, and-false}
use Rattle.std.proofs.Math.Nat.{suc_inj}
use Rattle.std.proofs.Math.Dec.{leb}
use Rattle.std.specs.List.{list_all, zip}
use Rattle.records.specs.Limits.{places, last_minute}
use Rattle.rules.specs.Types.{Store}
use Rattle.rules.specs.Lists.{every, each_or, is_zero, nonzero}
use Rattle.rules.specs.Store.{slots_in_form}
use Rattle.statements.specs.Sized.{Sized}
use Rattle.basic_laws.specs.Cases.{by}
use Rattle.fields.specs.Facts.{nonzero_yes, nonzero_no, zero_yes, zero_no}
use Rattle.fields.specs.Every.{every_fails}

-- two rows side by side
abbrev both : List Bool → List Bool → List Bool
both (a ∷ p) (b ∷ q) = (a && b) ∷ both p q
both [] q = []
both (a ∷ p) [] = []

both_every : (p q : List Bool) → length p ≡ length q → every (both p q) ≡ (every p && every q)
unfolding every
both_every [] [] e = refl
both_every [] (b ∷ q) e = absurd (suc-ne-zero (length q) (sym e))
both_every (a ∷ p) [] e = absurd (suc-ne-zero (length p) e)
both_every (a ∷ p) (b ∷ q) e = rw (both_every p q (suc_inj e)) (regroup a b)
  where
    regroup : (a b : Bool) → ((a && b) && (every p && every q)) ≡ ((a && every p) && (b && every q))
    regroup true true = refl
    regroup true false = sym (and-false (every p))
    regroup false b = refl

-- "A free slot is all zero; an absent key is stored as 0"; a used one's is a minute: the tests of one slot
abbrev pub slot_form : Store → ℕ → List Bool
slot_form S i =
    let used = nonzero (get_or S.xmin i 0) in
    (used || is_zero (get_or S.xmax i 0))
    ∷ (used || is_zero (get_or S.next i 0))
    ∷ (used || not (get_or S.has i false))
    ∷ (used || not (get_or S.locked i false))
    ∷ (used || is_zero (get_or S.owner i 0))
    ∷ (get_or S.has i false || is_zero (get_or S.key i 0))
    ∷ (is_zero (get_or S.xmin i 0) || leb (get_or S.key i 0) last_minute)
    ∷ []

-- key 0 is a minute
pub zero_minute : (k : ℕ) → is_zero k ≡ (is_zero k && leb k last_minute)
zero_minute k = by (eqb k 0) (λ e. rw (eqb-true k 0 e)) (λ e. rw e)

-- a free slot's tests, one after the other
in_row : (a b h l o k : Bool) → (((((a && b) && not h) && not l) && o) && k) ≡ (a && (b && (not h && (not l && (o && ((h || k) && (true && true)))))))
in_row true true false false true k = sym (and-true k)
in_row true true false false false k = refl
in_row true true false true o k = refl
in_row true true true l o k = refl
in_row true false h l o k = refl
in_row false b h l o k = refl

-- the ways a slot's form comes out: it is used and has a key, or none; or it is free
module _ (S : Store) (i : ℕ) where
  pub form_keyed : (get_or S.xmin i 0 ≡ 0 → ⊥) → get_or S.has i false ≡ true → leb (get_or S.key i 0) last_minute ≡ every (slot_form S i)
  unfolding every
  form_keyed n h = rw (nonzero_yes n, zero_no n, h) (sym (and-true _))

  pub form_absent : (get_or S.xmin i 0 ≡ 0 → ⊥) → get_or S.has i false ≡ false → is_zero (get_or S.key i 0) ≡ every (slot_form S i)
  unfolding every
  form_absent n h =
      rw (nonzero_yes n, zero_no n, h, and-true (leb (get_or S.key i 0) last_minute)) (zero_minute (get_or S.key i 0))

  pub form_free : get_or S.xmin i 0 ≡ 0
      → (((((is_zero (get_or S.xmax i 0) && is_zero (get_or S.next i 0)) && not (get_or S.has i false)) && not (get_or S.locked i false))
      && is_zero (get_or S.owner i 0)) && is_zero (get_or S.key i 0)) ≡ every (slot_form S i)
  unfolding every
  form_free n =
      rw (nonzero_no n, zero_yes n)
      (in_row (is_zero (get_or S.xmax i 0)) (is_zero (get_or S.next i 0)) (get_or S.has i false) (get_or S.locked i false) (is_zero (get_or S.owner i 0))
      (is_zero (get_or S.key i 0)))

-- the same at every pair of two lists side by side
pub pairs_are : {A B : Type 0} (f : A → Bool) (g : B → Bool) (l : List A) (m : List B) → length l ≡ length m
    → list_all (λ (p : A × B). f p.0 || g p.1) (zip l m) ≡ each_or f g l m
pairs_are f g [] [] e = refl
pairs_are f g [] (y ∷ m) e = absurd (suc-ne-zero (length m) (sym e))
pairs_are f g (x ∷ l) [] e = refl
pairs_are f g (x ∷ l) (y ∷ m) e = rw (pairs_are f g l m (suc_inj e))

-- at every place from i on, f holds of the first list or g of the second
unfoldable pub each_left {ℓ κ} : {A : Type ℓ} {B : Type κ} → (A → Bool) → (B → Bool) → List A → List B → ℕ → Bool
each_left f g l m i = each_or f g (drop i l) (drop i m)

module _ {ℓ κ} {A : Type ℓ} {B : Type κ} (f : A → Bool) (g : B → Bool) (y : A) (z : B) (l : List A) (m : List B) (i : ℕ) where
  -- the two at i, and the rest; or none is left
  each_here : length l ≡ places → length m ≡ places → i < places
      → each_left f g l m i ≡ ((f (get_or l i y) || g (get_or m i z)) && each_left f g l m (i + 1))
  unfolding each_left
  each_here p q h = rw (add-one, drop-cons l i y (omega arith), drop-cons m i z (omega arith))

  each_end : length m ≡ places → places ≤ i → each_left f g l m i ≡ true
  unfolding each_left
  each_end q h = rw (drop_of_length-le m {i = i} (omega arith))

module _ (S : Store) where
  abbrev tests : ℕ → List Bool
  tests i =
      each_left nonzero is_zero S.xmin S.xmax i
      ∷ each_left nonzero is_zero S.xmin S.next i
      ∷ each_left nonzero not S.xmin S.has i
      ∷ each_left nonzero not S.xmin S.locked i
      ∷ each_left nonzero is_zero S.xmin S.owner i
      ∷ each_left (λ b. b) is_zero S.has S.key i
      ∷ each_left is_zero (λ k. leb k last_minute) S.xmin S.key i
      ∷ []

  -- the slots from i on are in form
  unfoldable pub form_left : ℕ → Bool
  form_left i = every (tests i)

  -- place 0 holds none: the slots decide
  pub form_says : {w : Bool} → get_or S.xmin 0 0 ≡ 0 → w ≡ form_left 0 → w ≡ slots_in_form S
  unfolding slots_in_form every form_left each_left
  form_says z e = rw (nonzero_no z) e

  pub form_zero : (get_or S.xmin 0 0 ≡ 0 → ⊥) → false ≡ slots_in_form S
  unfolding slots_in_form
  form_zero n = sym (every_fails _ 0 (rw (nonzero_yes n)))

  module _ (z : Sized S) (i : ℕ) where
    form_here : i < places → form_left i ≡ (every (slot_form S i) && form_left (i + 1))
    unfolding form_left
    form_here h =
        rw (
          each_here nonzero is_zero 0 0 S.xmin S.xmax i z.xmin z.xmax h,
          each_here nonzero is_zero 0 0 S.xmin S.next i z.xmin z.next h,
          each_here nonzero not 0 false S.xmin S.has i z.xmin z.has h,
          each_here nonzero not 0 false S.xmin S.locked i z.xmin z.locked h,
          each_here nonzero is_zero 0 0 S.xmin S.owner i z.xmin z.owner h,
          each_here (λ b. b) is_zero false 0 S.has S.key i z.has z.key h,
          each_here is_zero (λ k. leb k last_minute) 0 0 S.xmin S.key i z.xmin z.key h,
        )
        (both_every (slot_form S i) (tests (i + 1)) refl)

    -- the slot at i is in form: the rest decides; or it is not; or none is left
    pub form_pass : {w : Bool} → form_left i ≡ w → i < places → every (slot_form S i) ≡ true → form_left (i + 1) ≡ w
    form_pass e h t = rw (form_here h, t) at e

    pub form_fail : {w : Bool} → form_left i ≡ w → i < places → every (slot_form S i) ≡ false → false ≡ w
    form_fail e h t = rw (form_here h, t) at e

    pub form_end : {w : Bool} → form_left i ≡ w → places ≤ i → true ≡ w
    unfolding form_left every
    form_end e h = rw (
      each_end nonzero is_zero 0 0 S.xmin S.xmax i z.xmax h,
      each_end nonzero is_zero 0 0 S.xmin S.next i z.next h,
      each_end nonzero not 0 false S.xmin S.has i z.has h,
      each_end nonzero not 0 false S.xmin S.locked i z.locked h,
      each_end nonzero is_zero 0 0 S.xmin S.owner i z.owner h,
      each_end (λ b. b) is_zero false 0 S.has S.key i z.key h,
      each_end is_zero (λ k. leb k last_minute) 0 0 S.xmin S.key i z.key h,
    ) at e
