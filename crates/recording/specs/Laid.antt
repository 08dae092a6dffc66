-- A list laid out in an array, as the generic type `Laid` holds it.
use Rattle.std.specs.Prelude.{◌≡◌, refl, List, [], ◌∷◌, ◌++◌, ℕ, zero, suc, ◌+◌, ◌<◌, ◌≤◌, min, length, take, drop, set, replicate, leb, ltb}
use Rattle.std.specs.Prelude.{Option, Some, None, is_none}
use Rattle.std.proofs.Common.{sym, ap, ◌∙◌, arith, length-append, length-take, take_all, le-leb, leb-true, leb-false, le-ltb, lt-ltb}
use Rattle.std.specs.Bool.{then_some}
use Rattle.std.proofs.lemmas.Bool.{lt-leb}
use Rattle.basic_laws.specs.Cases.{by}
use Rattle.rules.specs.Lists.{pad}
use Rattle.fields.specs.Pad.{pad_snoc, pad_over, take_pad, take_clip}
use Rattle.recording.specs.declared.laid.Laid.{Laid}

module _ {A : Type 0} where
  -- a list of any length: what has no place is counted alone
  unfoldable pub laid : (n : ℕ) → A → List A → Laid A n
  laid n z l = record { at = pad n z l; count = length l }

  -- where each element has its place
  unfoldable pub within : (n : ℕ) → A → List A → Option (Laid A n)
  within n z l = then_some (leb (length l) n) (laid n z l)

module _ {A : Type 0} (n : ℕ) (z : A) where
  -- an array of z is no element laid out
  none_laid : (k : ℕ) → replicate {A = A} k z ≡ pad k z []
  none_laid zero = refl
  none_laid (suc k) = ap (λ (l : List A). z ∷ l) (none_laid k)

  pub empty_laid : record { at = replicate n z; count = 0 } ≡ laid n z []
  unfolding laid
  empty_laid i = record { at = none_laid n i; count = 0 }

  copied_laid : (k : ℕ) (l : List A) → length l ≤ k → l ++ drop (length l) (replicate k z) ≡ pad k z l
  copied_laid zero [] h = refl
  copied_laid zero (x ∷ l) h = absurd (omega arith)
  copied_laid (suc k) [] h = none_laid (suc k)
  copied_laid (suc k) (x ∷ l) h = ap (λ (r : List A). x ∷ r) (copied_laid k l (omega arith))

  -- the first of an array, copied into an array of z
  pub first_laid : (x y : List A) (count i : ℕ) → length x ≡ n → i ≡ min count n → y ≡ take i x
      → record { at = y ++ drop i (replicate n z); count = i } ≡ laid n z (take count x)
  unfolding laid
  first_laid x y count i long e q =
      let whole : take i x ≡ take count x = rw e (take_clip count n x long) in
      let c : i ≡ length (take count x) = omega (arith, length-take count x) in
      let a : y ++ drop i (replicate n z) ≡ pad n z (take count x) =
      rw (q, whole) (rw (← c) at (copied_laid n (take count x) (omega (arith, length-take count x)))) in
      λ j. record { at = a j; count = c j }

module _ {A : Type 0} (n : ℕ) (l : Laid A n) (z : A) (m : List A) (holds : l ≡ laid n z m) where
  pub counted : l.count ≡ length m
  unfolding laid
  counted = ap (λ q. q.count) holds

  held : l.at ≡ pad n z m
  unfolding laid
  held = ap (λ q. q.at) holds

  pub counted_within : l.count ≤ n → Some l ≡ within n z m
  unfolding within
  counted_within h = rw (← holds, le-leb (length m) n (omega (arith, counted)))

  -- where each has its place, they are read back
  pub laid_back : length m ≤ n → take (min l.count n) l.at ≡ m
  laid_back h = rw (counted, held) (take_pad n z m ∙ take_all n m h)

  pub counted_back : length m ≤ n → take l.count l.at ≡ m
  counted_back h = let k : min l.count n ≡ l.count = omega (arith, counted) in rw k at (laid_back h)

  -- one element more: where the array has a place for it, and where it has none
  pub push_room : (e : A) → l.count < n → record { at = set l.at l.count e; count = l.count + 1 } ≡ laid n z (m ++ e ∷ [])
  unfolding laid
  push_room e h =
      let c = counted in
      let a : set l.at l.count e ≡ pad n z (m ++ e ∷ []) = rw (counted, held) (pad_snoc n z m e (omega arith)) in
      let k : l.count + 1 ≡ length (m ++ e ∷ []) = omega (arith, length-append m (e ∷ [])) in
      λ j. record { at = a j; count = k j }

  pub push_over : (e : A) → n ≤ l.count → record { at = l.at; count = l.count + 1 } ≡ laid n z (m ++ e ∷ [])
  unfolding laid
  push_over e h =
      let c = counted in
      let a : l.at ≡ pad n z (m ++ e ∷ []) = held ∙ sym (pad_over n z m (e ∷ []) (omega arith)) in
      let k : l.count + 1 ≡ length (m ++ e ∷ []) = omega (arith, length-append m (e ∷ [])) in
      λ j. record { at = a j; count = k j }

module _ {A : Type 0} (n : ℕ) (z : A) (m : List A) where
  -- none where one has no place
  pub within_no : n < length m → None ≡ within n z m
  unfolding within
  within_no h = rw (lt-leb (length m) n h)

  pub within_none : is_none (within n z m) ≡ ltb n (length m)
  unfolding within
  within_none = by (leb (length m) n)
      (λ t. rw (t, le-ltb n (length m) (leb-true (length m) n t)))
      (λ t. rw (t, lt-ltb n (length m) (leb-false (length m) n t)))

  -- and back
  pub yes_within : (l : Laid A n) → Some l ≡ within n z m → (l ≡ laid n z m) × (length m ≤ n)
  unfolding within
  yes_within l e = by (leb (length m) n)
      (λ t. let k : Some l ≡ Some (laid n z m) = rw t at e in (cc, leb-true (length m) n t))
      (λ t. let k : Some l ≡ None = rw t at e in absurd (cc))

  pub no_within : None ≡ within n z m → n < length m
  unfolding within
  no_within e = by (leb (length m) n)
      (λ t. let k : ◌≡◌ {A = Option (Laid A n)} None (Some (laid n z m)) = rw t at e in absurd (cc))
      (λ t. leb-false (length m) n t)
