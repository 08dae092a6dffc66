-- A number put in its place among the first of an array: what code does there is what `into` does with the list.
use Rattle.std.specs.Prelude.{◌≡◌, refl, cond, List, [], ◌∷◌, ◌++◌, ℕ, suc, ◌+◌, ◌-◌, ◌≤◌, ◌<◌, min, length, get_or, set, take, drop, take_while, leb, ltb}
use Rattle.std.specs.List.{prefix_len, copy_within}
use Rattle.std.proofs.Common.{sym, ap, ◌∙◌, append_assoc, append-nil, arith, one-add, add-one, length-append, length-drop, length-take-le, take_all, take-add}
use Rattle.std.proofs.Common.{take-take, get_or-take, take-suc}
use Rattle.std.proofs.lemmas.List.{drop-take, set_at}
use Rattle.std.proofs.lemmas.List.Edits.{take-paste}
use Rattle.std.proofs.lemmas.List.Folds.{length-prefix_len}
use Rattle.std.proofs.Math.Seq.{take-set-lt, slice, length-slice}
use borrow.Author.Tests.{ltb-true, ltb-false, leb-true, leb-false, eq-eqb, ne_eqb, lt-ltb, le-ltb}
use Rattle.fields.specs.Pad.{pad_over}
use Rattle.rules.specs.Lists.{into, pad}
use Rattle.basic_laws.specs.Cases.{by}
use Rattle.packed.specs.Packed.{Packed, take_within, pad_whole}

-- how many numbers come before the first that is not below v
unfoldable pub ahead : ℕ → List ℕ → ℕ
ahead v [] = 0
ahead v (y ∷ l) = cond (ltb y v) (suc (ahead v l)) 0

-- they are those that the library's word leads with
pub ahead_of_list : (v : ℕ) (l : List ℕ) → length (take_while (λ y. ltb y v) l) ≡ ahead v l
unfolding ahead
ahead_of_list v l = length-prefix_len (λ y. ltb y v) l ∙ go l
  where
    go : (l : List ℕ) → prefix_len (λ y. ltb y v) l ≡ ahead v l
    go [] = refl
    go (y ∷ l) = rw (one-add, go l)

-- a number that stands there already is not put in again
pub into_there : (v : ℕ) (l : List ℕ) → ahead v l < length l → get_or l (ahead v l) 0 ≡ v → into v l ≡ l
unfolding ahead
into_there v [] h e = absurd (omega arith)
into_there v (y ∷ l) h e = by (ltb y v)
    (λ t. let lt = ltb-true y v t in
    rw (le-ltb v y (omega arith), ne_eqb v y (λ q. omega arith))
    (ap (λ (r : List ℕ). y ∷ r) (into_there v l (omega (arith, rw t at h)) (rw t at e))))
    (λ t. let q : y ≡ v = rw t at e in rw (le-ltb v y (omega arith), eq-eqb v y (sym q)))

-- and else goes in front of the first that is not below it
pub into_new : (v : ℕ) (l : List ℕ) → (ahead v l < length l → get_or l (ahead v l) 0 ≡ v → ⊥) → into v l ≡ take (ahead v l) l ++ v ∷ drop (ahead v l) l
unfolding ahead
into_new v [] n = refl
into_new v (y ∷ l) n = by (ltb y v)
    (λ t. let lt = ltb-true y v t in
    rw (t, le-ltb v y (omega arith), ne_eqb v y (λ q. omega arith))
    (ap (λ (r : List ℕ). y ∷ r) (into_new v l (λ h e. (rw t at n) (omega arith) e))))
    (λ t. let ge = ltb-false y v t in
    let ne : y ≡ v → ⊥ = (rw t at n) (omega arith) in
    rw (t, lt-ltb v y (omega (arith, ne))))

pub ahead_within : (v : ℕ) (l : List ℕ) → ahead v l ≤ length l
unfolding ahead
ahead_within v [] = omega arith
ahead_within v (y ∷ l) = by (ltb y v) (λ t. rw t (omega (arith, ahead_within v l))) (λ t. rw t (omega arith))

-- v put into the first n, of which the array has m: i is its place among them
module _ (v n m i : ℕ) (x : List ℕ) (first : m ≡ min n (length x)) (place : i ≡ ahead v (take m x)) where
  within_first : length (take m x) ≡ m
  within_first = length-take-le m x (omega arith)

  pub place_within : i ≤ m
  place_within = omega (arith, ahead_within v (take m x), within_first)

  pub insert_there : {y : List ℕ} → i < m → get_or x i 0 ≡ v → y ≡ pad (length x) 0 (take m x) → Packed (into v (take n x)) (length x) y m
  insert_there h e q =
      let there : into v (take n x) ≡ take m x
      = rw (← (take_within n m x first)) (into_there v (take m x) (omega (arith, within_first)) (rw (← place, get_or-take m x i 0 h) e)) in
      record { at = rw there q; count = rw there (sym within_first) }

  pub insert_new : {y : List ℕ} → (i < m → get_or x i 0 ≡ v → ⊥) → y ≡ pad (length x) 0 (take i x ++ v ∷ slice i m x)
      → Packed (into v (take n x)) (length x) y (m + 1)
  insert_new h q =
      let inside = place_within in
      let missing : ahead v (take m x) < length (take m x) → get_or (take m x) (ahead v (take m x)) 0 ≡ v → ⊥
      = rw (← place) (λ a e. let lt : i < m = omega (arith, within_first) in h lt (sym (get_or-take m x i 0 lt) ∙ e)) in
      let new : into v (take n x) ≡ take i x ++ v ∷ slice i m x
      = rw (← (take_within n m x first)) (into_new v (take m x) missing ∙ rw (← place, take-take i m x inside)) in
      let long : length (take i x ++ v ∷ slice i m x) ≡ m + 1
      = rw (length-append, length-take-le i x (omega arith), length-slice i m x (omega arith)) (omega arith) in
      record { at = rw new q; count = rw new (sym long) }

-- the first m from place i on go one place up, and v in front of them: the places that are written, up to `end`
module _ (x : List ℕ) (i m v end : ℕ) (first : end ≡ min (length x) (m + 1)) (le : i ≤ m) (within : m ≤ length x) where
  written : i < end → take end (set (copy_within x i (end - 1) (i + 1)) i v) ≡ take i x ++ v ∷ take (end - 1 - i) (drop i x)
  written lt =
      let k = end - 1 - i in
      let e : i + 1 + k ≡ end = omega arith in
      let y = copy_within x i (end - 1) (i + 1) in
      let copied : take end y ≡ take (i + 1) x ++ take k (drop i x) =
      ap (λ n. take n y) (sym e) ∙ take-paste x (i + 1) (drop i x) k (omega arith) (omega (arith, length-drop i x)) in
      let apart : take (i + 1) x ++ take k (drop i x) ≡ take i x ++ get_or x i 0 ∷ take k (drop i x) =
      rw (add-one, take-suc x i 0 (omega arith)) (append_assoc (take i x) (get_or x i 0 ∷ []) (take k (drop i x))) in
      take-set-lt end y i v lt
      ∙ (ap (λ l. set l i v) (copied ∙ apart) ∙ set_at (take i x) (get_or x i 0) (take k (drop i x)) v i (length-take-le i x (omega arith)))

  moved : take i x ++ v ∷ slice i m x ≡ (take i x ++ v ∷ take (end - 1 - i) (drop i x)) ++ take (m - i - (end - 1 - i)) (drop (end - 1 - i) (drop i x))
  moved =
      let k = end - 1 - i in
      let e : i + (m - i) ≡ m = omega arith in
      let f : k + (m - i - k) ≡ m - i = omega arith in
      let part = take-add k (m - i - k) (drop i x) in
      rw (rw e at (drop-take i (m - i) x), rw f at part) (sym (append_assoc (take i x) (v ∷ take k (drop i x)) (take (m - i - k) (drop k (drop i x)))))

  pub shifted : {y : List ℕ} → i < end → y ≡ pad (length x) 0 (take end (set (copy_within x i (end - 1) (i + 1)) i v))
      → y ≡ pad (length x) 0 (take i x ++ v ∷ slice i m x)
  shifted lt q =
      let k = end - 1 - i in
      let l = take i x ++ v ∷ take k (drop i x) in
      let rest = take (m - i - k) (drop k (drop i x)) in
      let long : length l ≡ end = rw length-append (omega (arith, length-take-le i x, length-take-le k (drop i x), length-drop i x)) in
      q ∙ rw (written lt, moved) (by (leb (length x) m)
      (λ b. sym (pad_over (length x) 0 l rest (omega (arith, long, leb-true (length x) m b))))
      (λ b. let none : m - i - k ≡ 0 = omega (arith, leb-false (length x) m b) in rw (none, append-nil)))

  pub shifted_out : end ≤ i → x ≡ pad (length x) 0 (take i x ++ v ∷ slice i m x)
  shifted_out h =
      rw (take_all i x (omega arith))
      (sym (pad_over (length x) 0 x (v ∷ slice i m x) (omega arith) ∙ pad_whole 0 (length x) x refl))
