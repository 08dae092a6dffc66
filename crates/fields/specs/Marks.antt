-- Numbers marked in an array of flags, and read from it rising: how code puts numbers in order.
use Rattle.std.specs.Prelude.{◌≡◌, refl, Bool, true, false, cond, List, [], ◌∷◌, ◌++◌, map, ℕ, zero, suc, ◌+◌, ◌<◌, ◌≤◌, length, set, replicate, eqb, ltb}
use Rattle.std.proofs.Common.{sym, ap, ◌∙◌, add-zero, not-suc-le-zero, le_of_suc-le-suc, arith}
use Rattle.std.proofs.Common.{length-set, set-set, eqb-true, eq-eqb, ne_eqb, lt-ltb, le-ltb, ltb-true}
use Rattle.std.proofs.lemmas.List.{length-replicate, set_comm}
use Rattle.std.proofs.Math.Seq.{set_out}
use Rattle.std.proofs.lemmas.Bool.{eqb-false}
use Rattle.rules.specs.Lists.{all, into, in_order}
use Rattle.basic_laws.specs.Cases.{by, and_true}
use Rattle.basic_laws.specs.Rising.{all_into}

-- every number of l marked, one after the other
abbrev pub mark_all : List ℕ → List Bool → List Bool
mark_all [] m = m
mark_all (r ∷ l) m = mark_all l (set m r true)

-- the marked places, rising, counted from p on
abbrev pub marked_from : ℕ → List Bool → List ℕ
marked_from p [] = []
marked_from p (b ∷ m) = let l = marked_from (suc p) m in cond b (p ∷ l) l

pub mark_length : (l : List ℕ) (m : List Bool) → length (mark_all l m) ≡ length m
mark_length [] m = refl
mark_length (r ∷ l) m = mark_length l (set m r true) ∙ length-set m r true

pub mark_append : (l k : List ℕ) (m : List Bool) → mark_all (l ++ k) m ≡ mark_all k (mark_all l m)
mark_append [] k m = refl
mark_append (r ∷ l) k m = mark_append l k (set m r true)

-- marks may be set in any order
mark_last : (l : List ℕ) (r : ℕ) (m : List Bool) → mark_all l (set m r true) ≡ set (mark_all l m) r true
mark_last [] r m = refl
mark_last (q ∷ l) r m =
    by (eqb r q)
    (λ e. rw (eqb-true r q e, set-set m q true true) (sym (rw (← mark_last l q (set m q true), set-set m q true true))))
    (λ e. rw (set_comm m r q true true (eqb-false r q e)) (mark_last l r (set m q true)))

-- a place below all the marked ones comes first
low_first : (p q : ℕ) (m : List Bool) → p < q → into p (marked_from q m) ≡ p ∷ marked_from q m
low_first p q [] h = refl
low_first p q (true ∷ m) h = rw (lt-ltb p q h)
low_first p q (false ∷ m) h = low_first p (suc q) m (omega arith)

-- one mark more is one number put in
mark_into : (p : ℕ) (m : List Bool) (i : ℕ) → i < length m → marked_from p (set m i true) ≡ into (p + i) (marked_from p m)
mark_into p [] i h = absurd (not-suc-le-zero h)
mark_into p (true ∷ m) zero h = rw (add-zero p, le-ltb p p (omega arith), eq-eqb p p refl)
mark_into p (false ∷ m) zero h = rw (add-zero p) (sym (low_first p (suc p) m (omega arith)))
mark_into p (b ∷ m) (suc i) h =
    let e : suc p + i ≡ p + suc i = omega arith in
    let ih : marked_from (suc p) (set m i true) ≡ into (p + suc i) (marked_from (suc p) m) =
    mark_into (suc p) m i (le_of_suc-le-suc h) ∙ ap (λ (k : ℕ). into k (marked_from (suc p) m)) e in
    go b ih
  where
    go : (b : Bool) → marked_from (suc p) (set m i true) ≡ into (p + suc i) (marked_from (suc p) m)
        → marked_from p (b ∷ set m i true) ≡ into (p + suc i) (marked_from p (b ∷ m))
    go true ih = rw (ih, le-ltb (p + suc i) p (omega arith), ne_eqb (p + suc i) p (omega arith))
    go false ih = ih

none_marked : (p n : ℕ) → marked_from p (replicate n false) ≡ []
none_marked p zero = refl
none_marked p (suc n) = none_marked (suc p) n

-- the numbers of a list below n, marked in an array of n flags and read rising, are the list in order
pub marks_in_order : (n : ℕ) (l : List ℕ) → all (λ r. ltb r n) l ≡ true → marked_from 0 (mark_all l (replicate n false)) ≡ in_order l
marks_in_order n [] h = none_marked 0 n
marks_in_order n (r ∷ l) h =
    let b = and_true (ltb r n) (all (λ q. ltb q n) l) h in
    let long = mark_length l (replicate n false) ∙ length-replicate n false in
    let z : 0 + r ≡ r = omega arith in
    rw (mark_last l r (replicate n false))
    (mark_into 0 (mark_all l (replicate n false)) r (omega (arith, ltb-true r n b.0, long)) ∙ rw (z, marks_in_order n l b.1))

-- how many are marked: no more than there are places
pub marked_few : (p : ℕ) (m : List Bool) → length (marked_from p m) ≤ length m
marked_few p [] = omega arith
marked_few p (true ∷ m) = let h = marked_few (suc p) m in omega arith
marked_few p (false ∷ m) = let h = marked_few (suc p) m in omega arith

-- numbers in order mark the same places
into_marks : (x : ℕ) (l : List ℕ) (m : List Bool) → mark_all (into x l) m ≡ mark_all (x ∷ l) m
into_marks x [] m = refl
into_marks x (y ∷ l) m =
    by (ltb x y)
    (λ e. rw e)
    (λ e. by (eqb x y)
    (λ q. rw (e, q, eqb-true x y q, set-set m y true true))
    (λ q. rw (e, q, into_marks x l (set m y true), set_comm m x y true true (eqb-false x y q))))

pub order_marks : (l : List ℕ) (m : List Bool) → mark_all (in_order l) m ≡ mark_all l m
order_marks [] m = refl
order_marks (x ∷ l) m = into_marks x (in_order l) m ∙ order_marks l (set m x true)

-- a test of all of them holds of them in order
pub order_all : (f : ℕ → Bool) (l : List ℕ) → all f l ≡ true → all f (in_order l) ≡ true
order_all f [] h = refl
order_all f (x ∷ l) h = let b = and_true (f x) (all f l) h in all_into f x (in_order l) b.0 (order_all f l b.1)

-- one element of a list more, whose number is marked if it has a place
module _ {ℓ} {A : Type ℓ} (f : A → ℕ) (a : A) (l rest : List A) (m : List Bool) (next : l ≡ a ∷ rest) where
  pub mark_next : mark_all (map f l) m ≡ mark_all (map f rest) (set m (f a) true)
  mark_next = rw next

  pub mark_high : length m ≤ f a → mark_all (map f l) m ≡ mark_all (map f rest) m
  mark_high h = mark_next ∙ ap (mark_all (map f rest)) (set_out m (f a) true h)
