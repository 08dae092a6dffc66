-- A list laid out in an array: one element more, and lists that are too long.
use Rattle.std.specs.Prelude.{◌≡◌, refl, List, [], ◌∷◌, ◌++◌, ℕ, zero, suc, ◌+◌, ◌<◌, ◌≤◌, min, length, get_or, take, set, leb}
use Rattle.std.proofs.Common.{sym, ap, ◌∙◌, not-suc-le-zero, le_of_suc-le-suc, add-one, arith, length-append}
use Rattle.std.proofs.Common.{length-take, take_all, take-suc, length-take-le, leb-true, leb-false}
use Rattle.std.proofs.Math.Nat.{suc-min-suc, zero-min}
use Rattle.std.proofs.Math.Seq.{take-nil}
use Rattle.rules.specs.Lists.{pad}
use Rattle.basic_laws.specs.Cases.{by}

module _ {ℓ} {A : Type ℓ} where
  -- an element stored at the end of the list
  pub pad_snoc : (n : ℕ) (z : A) (m : List A) (e : A) → length m < n → set (pad n z m) (length m) e ≡ pad n z (m ++ e ∷ [])
  pad_snoc zero z m e h = absurd (not-suc-le-zero h)
  pad_snoc (suc n) z [] e h = refl
  pad_snoc (suc n) z (x ∷ m) e h = ap (λ (l : List A). x ∷ l) (pad_snoc n z m e (le_of_suc-le-suc h))

  -- what is past the last place is not laid out
  pub pad_over : (n : ℕ) (z : A) (m k : List A) → n ≤ length m → pad n z (m ++ k) ≡ pad n z m
  pad_over zero z m k h = refl
  pad_over (suc n) z [] k h = absurd (not-suc-le-zero h)
  pad_over (suc n) z (x ∷ m) k h = ap (λ (l : List A). x ∷ l) (pad_over n z m k (le_of_suc-le-suc h))

  -- the list read back
  pub take_pad : (n : ℕ) (z : A) (m : List A) → take (min (length m) n) (pad n z m) ≡ take n m
  take_pad zero z m = take-nil (min (length m) 0)
  take_pad (suc n) z [] = ap (λ (k : ℕ). take k (pad (suc n) z [])) (zero-min (suc n))
  take_pad (suc n) z (x ∷ m) =
      ap (λ (k : ℕ). take k (x ∷ pad n z m)) (suc-min-suc (length m) n) ∙ ap (λ (l : List A). x ∷ l) (take_pad n z m)

  -- the first i of a list laid out, and the next one stored
  pub pad_more : (n : ℕ) (z : A) (l at : List A) (i : ℕ) → i < n → i < length l → at ≡ pad n z (take i l) → set at i (get_or l i z) ≡ pad n z (take (i + 1) l)
  pad_more n z l at i h k e =
      let long : length (take i l) ≡ i = length-take-le i l (omega arith) in
      let b = pad_snoc n z (take i l) (get_or l i z) (omega arith) in
      rw (e, add-one, take-suc l i z k) (rw long at b)

  -- a count above the number of places counts them all
  pub take_clip : (count n : ℕ) (l : List A) → length l ≡ n → take (min count n) l ≡ take count l
  take_clip count n l long =
      by (leb count n)
      (λ b. let e : min count n ≡ count = omega (arith, leb-true) in rw e)
      (λ b. let e : min count n ≡ n = omega (arith, leb-false) in rw e (take_all n l (omega arith) ∙ sym (take_all count l (omega (arith, leb-false)))))

-- the first `count` of an array laid out, and one element more: where it has a place, and where it has none
module _ {ℓ} {A : Type ℓ} (n count i : ℕ) (z e : A) (l at : List A) (long : length l ≡ n) (some : i ≡ min count n) (held : at ≡ pad n z (take i l)) where
  pub more_count : i + 1 ≡ length (take count l ++ e ∷ [])
  more_count = omega (arith, length-append (take count l) (e ∷ []), length-take count l)

  pub more_room : i < n → set at i e ≡ pad n z (take count l ++ e ∷ [])
  more_room h =
      let whole : take i l ≡ take count l = rw some (take_clip count n l long) in
      let k : length (take count l) ≡ i = omega (arith, length-take count l) in
      let b = pad_snoc n z (take count l) e (omega arith) in
      rw (held, whole) (rw k at b)

  pub more_over : n ≤ i → at ≡ pad n z (take count l ++ e ∷ [])
  more_over h =
      let whole : take i l ≡ take count l = rw some (take_clip count n l long) in
      held ∙ rw whole (sym (pad_over n z (take count l) (e ∷ []) (omega (arith, length-take count l))))
