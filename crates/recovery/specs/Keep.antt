-- Clearing what is not marked, place by place.
use Rattle.std.specs.Prelude.{◌≡◌, refl, cond, List, [], ◌∷◌, ◌++◌, ℕ, suc, ◌+◌, ◌<◌, ◌≤◌, length, get_or, set, take, drop, eqb}
use Rattle.std.proofs.Common.{sym, ◌∙◌, append_assoc, append-nil, add-zero, add-one, arith, drop_of_length-le, drop-cons, drop-drop, get_or-drop}
use borrow.Author.Tests.{eq-eqb, ne_eqb}
use Rattle.std.proofs.Math.Seq.{take_all, take-suc, take-suc-set, drop-set-lt}
use Rattle.rules.specs.Lists.{keep}

module _ {ℓ} {A : Type ℓ} (z : A) (m : List ℕ) where
  -- the places before i as they are, the rest to be kept or cleared; shut, so that a law finds its parts
  unfoldable pub keep_left : List A → ℕ → List A
  keep_left x i = take i x ++ keep z (drop i m) (drop i x)

module _ {ℓ} {A : Type ℓ} (z : A) where
  -- the first place is kept or cleared by the first mark
  keep_first : (m : List ℕ) (y : A) (l : List A) → keep z m (y ∷ l) ≡ cond (eqb (get_or m 0 0) 0) z y ∷ keep z (drop 1 m) l
  keep_first [] y l = refl
  keep_first (b ∷ m) y l = refl

module _ {ℓ} {A : Type ℓ} (z : A) (m : List ℕ) (x : List A) (i : ℕ) where
  keep_next : i < length x → keep z (drop i m) (drop i x) ≡ cond (eqb (get_or m i 0) 0) z (get_or x i z) ∷ keep z (drop (suc i) m) (drop (suc i) x)
  keep_next h =
      let mark : get_or (drop i m) 0 0 ≡ get_or m i 0 = get_or-drop i m 0 0 ∙ rw add-zero in
      let rest : drop 1 (drop i m) ≡ drop (suc i) m = drop-drop 1 i m ∙ rw add-one in
      rw (drop-cons x i z h) (keep_first z (drop i m) (get_or x i z) (drop (suc i) x) ∙ rw (mark, rest))

  -- an unmarked place is cleared, a marked one stays
  pub keep_clear : i < length x → get_or m i 0 ≡ 0 → keep_left z m (set x i z) (i + 1) ≡ keep_left z m x i
  unfolding keep_left
  keep_clear h e =
      rw (add-one, take-suc-set x i z h, drop-set-lt (suc i) x i z (omega arith), keep_next h, eq-eqb (get_or m i 0) 0 e)
      (append_assoc (take i x) (z ∷ []) _)

  pub keep_stay : i < length x → (get_or m i 0 ≡ 0 → ⊥) → keep_left z m x (i + 1) ≡ keep_left z m x i
  unfolding keep_left
  keep_stay h e =
      rw (add-one, take-suc x i z h, keep_next h, ne_eqb (get_or m i 0) 0 e)
      (append_assoc (take i x) (get_or x i z ∷ []) _)

  -- no place is left
  pub keep_end : length x ≤ i → x ≡ keep_left z m x i
  unfolding keep_left
  keep_end h = rw (drop_of_length-le x {i = i} h, take_all i x h) (sym (append-nil x))

-- every place is left
pub keep_start {ℓ} : {A : Type ℓ} (z : A) (m : List ℕ) (x : List A) → keep_left z m x 0 ≡ keep z m x
unfolding keep_left
keep_start z m x = refl
