-- Tests over lists in words: of each place, and of each two places.
use Rattle.std.specs.Prelude.{◌≡◌, refl, Bool, true, List, [], ◌∷◌, ◌↔◌, ℕ, zero, suc, ◌≤◌, ◌<◌, length, get_or, leb}
use Rattle.std.proofs.Common.{arith, leb-true, le-leb}
use Rattle.rules.specs.Lists.{all, non_falling}
use Rattle.basic_laws.specs.Cases.{and_true, and_both}
use Rattle.basic_laws.specs.Members.{all_at, at_all, pairs}

module _ {ℓ} {A : Type ℓ} (z : A) where
  -- a test of all, in words at each place
  pub each_place : (f : A → Bool) (P : A → Type 0) → ((a : A) → (f a ≡ true) ↔ P a) → (l : List A)
      → (all f l ≡ true) ↔ ((i : ℕ) → i < length l → P (get_or l i z))
  each_place f P h l = (
    (λ t i lt. (h (get_or l i z)).0 (all_at f l t i z lt)),
    (λ t. at_all f l z (λ i lt. (h (get_or l i z)).1 (t i lt))),
  )

  -- in words at each two places
  pub each_pair : (g : A → A → Bool) (P : A → A → Type 0) → ((a b : A) → (g a b ≡ true) ↔ P a b) → (l : List A)
      → (pairs g l ≡ true) ↔ ((i j : ℕ) → i < j → j < length l → P (get_or l i z) (get_or l j z))
  each_pair g P h [] = ((λ t i j lt le. absurd (omega arith)), (λ t. refl))
  each_pair g P h (a ∷ l) =
      let ih = each_pair g P h l in
      let here = each_place (λ b. g a b) (P a) (h a) l in (
        (λ t i j lt le. go (and_true (all (λ b. g a b) l) (pairs g l) t).0 (ih.0 (and_true (all (λ b. g a b) l) (pairs g l) t).1) i j lt le),
        (λ t. and_both (all (λ b. g a b) l) (pairs g l)
            (here.1 (λ i lt. t 0 (suc i) (omega arith) (omega arith)))
            (ih.1 (λ i j lt le. t (suc i) (suc j) (omega arith) (omega arith)))),
      )
    where
      go : all (λ b. g a b) l ≡ true → ((i j : ℕ) → i < j → j < length l → P (get_or l i z) (get_or l j z))
          → (i j : ℕ) → i < j → j < suc (length l) → P (get_or (a ∷ l) i z) (get_or (a ∷ l) j z)
      go t k i zero lt le = absurd (omega arith)
      go t k zero (suc j) lt le = (each_place (λ b. g a b) (P a) (h a) l).0 t j (omega arith)
      go t k (suc i) (suc j) lt le = k i j (omega arith) (omega arith)

-- numbers that don't fall, from lo on
pub not_falling : (lo : ℕ) (l : List ℕ) → (non_falling lo l ≡ true)
    ↔ (((i : ℕ) → i < length l → lo ≤ get_or l i 0) × ((i j : ℕ) → i < j → j < length l → get_or l i 0 ≤ get_or l j 0))
not_falling lo [] = ((λ t. (λ i lt. absurd (omega arith), λ i j lt le. absurd (omega arith))), (λ t. refl))
not_falling lo (n ∷ l) =
    let ih = not_falling n l in (
      (λ t. let a = and_true (leb lo n) (non_falling n l) t in
          let r = ih.0 a.1 in
          (low (leb-true lo n a.0) r.0, up r.0 r.1)),
      (λ t. and_both (leb lo n) (non_falling n l) (le-leb lo n (t.0 0 (omega arith)))
          (ih.1 ((λ i lt. t.1 0 (suc i) (omega arith) (omega arith)), (λ i j lt le. t.1 (suc i) (suc j) (omega arith) (omega arith))))),
    )
  where
    low : lo ≤ n → ((i : ℕ) → i < length l → n ≤ get_or l i 0) → (i : ℕ) → i < suc (length l) → lo ≤ get_or (n ∷ l) i 0
    low h k zero lt = h
    low h k (suc i) lt = let m = k i (omega arith) in omega arith

    up : ((i : ℕ) → i < length l → n ≤ get_or l i 0) → ((i j : ℕ) → i < j → j < length l → get_or l i 0 ≤ get_or l j 0)
        → (i j : ℕ) → i < j → j < suc (length l) → get_or (n ∷ l) i 0 ≤ get_or (n ∷ l) j 0
    up k m i zero lt le = absurd (omega arith)
    up k m zero (suc j) lt le = k j (omega arith)
    up k m (suc i) (suc j) lt le = m i j (omega arith) (omega arith)
