-- A search by halving, one look at a time, and what holds of every search because it holds over one look.
use Rattle.std.specs.Prelude.{◌≡◌, true, false, cond, List, length, get_or, take, eqb}
use Rattle.std.proofs.Math.Path.{refl}
use Rattle.std.proofs.Common.{sym, ap, ◌∙◌, zero-add, add-zero, add-one, arith, length-take, get_or-take}
use Prim.Native.Nat.{ℕ, zero, suc, ◌+◌, ◌-◌, ◌≤◌, ◌<◌, min}
use borrow.Author.Tests.{eq-eqb, ne_eqb, eqb-true, eqb-false, lt-ltb, le-ltb}
use Rattle.basic_laws.specs.Cases.{by}
use Rattle.packed.specs.declared.halving.Place.{Place}
use Rattle.packed.specs.Halving.{ended, one_look, half, below, search_from, place_found}

module _ (v : ℕ) (l : List ℕ) where
  -- what is left, `size` numbers from `from` on, is searched to its end
  abbrev pub rest : ℕ → ℕ → Place
  rest from size = search_from size v l from size

  enough : (m k from size : ℕ) → size ≤ m → size ≤ k → search_from m v l from size ≡ search_from k v l from size
  unfolding search_from
  enough zero zero from size a b = refl
  enough zero (suc k) from size a b = rw (eq-eqb size 0 (omega arith))
  enough (suc m) zero from size a b = rw (eq-eqb size 0 (omega arith))
  enough (suc m) (suc k) from size a b = by (eqb size 0)
      (λ e. rw e)
      (λ e. let some = eqb-false size 0 e in
      rw (
        e,
        enough m k (suc (from + half size)) (size - suc (half size)) (omega arith) (omega arith),
        enough m k from (half size) (omega arith) (omega arith),
      ))

  pub rest_none : (from : ℕ) → rest from 0 ≡ ended from
  unfolding search_from
  rest_none from = refl

  -- a look at the middle
  module _ (from size : ℕ) (some : 0 < size) where
    abbrev middle : ℕ
    middle = from + half size

    look : let behind = search_from size v l (suc middle) (size - suc (half size)) in
        rest from size ≡ one_look (cond (below v (get_or l middle 0)) behind (search_from size v l from (half size)))
    unfolding search_from
    look = enough size (suc size) from size (omega arith) (omega arith) ∙ rw (ne_eqb size 0 (λ e. omega arith))

    pub rest_behind : below v (get_or l middle 0) ≡ true → rest from size ≡ one_look (rest (suc middle) (size - suc (half size)))
    rest_behind h =
        let left = size - suc (half size) in
        look ∙ rw h (ap one_look (enough size left (suc middle) left (omega arith) (omega arith)))

    pub rest_before : below v (get_or l middle 0) ≡ false → rest from size ≡ one_look (rest from (half size))
    rest_before h = look ∙ rw h (ap one_look (enough size (half size) from (half size) (omega arith) (omega arith)))

  -- what holds where nothing is left, and goes back over a look to either side, holds of every search
  module _ (P : ℕ → ℕ → Place → Type 0)
      (none : (from : ℕ) → P from 0 (ended from))
      (behind : (from size : ℕ) (p : Place) → 0 < size → below v (get_or l (from + half size) 0) ≡ true
      → P (suc (from + half size)) (size - suc (half size)) p → P from size (one_look p))
      (before : (from size : ℕ) (p : Place) → 0 < size → below v (get_or l (from + half size) 0) ≡ false → P from (half size) p
      → P from size (one_look p)) where
    up_to : (m from size : ℕ) → size ≤ m → P from size (rest from size)
    up_to zero from size h = let e : size ≡ 0 = omega arith in rw (e, rest_none from) (none from)
    up_to (suc m) from size h = by (eqb size 0)
        (λ e. rw (eqb-true size 0 e, rest_none from) (none from))
        (λ e. let some : 0 < size = omega (arith, eqb-false size 0 e) in
        by (below v (get_or l (from + half size) 0))
        (λ t. rw (rest_behind from size some t) (behind from size _ some t (up_to m (suc (from + half size)) (size - suc (half size)) (omega arith))))
        (λ t. rw (rest_before from size some t) (before from size _ some t (up_to m from (half size) (omega arith)))))

    pub each_search : (from size : ℕ) → P from size (rest from size)
    each_search from size = up_to size from size (omega arith)

-- so many looks more
abbrev pub looks_more : ℕ → Place → Place
looks_more n p = record { at = p.at; looks = n + p.looks }

more_none : (p : Place) → looks_more 0 p ≡ p
more_none p i = record { at = p.at; looks = zero-add p.looks i }

one_more : (n : ℕ) (p : Place) → looks_more (n + 1) p ≡ looks_more n (one_look p)
one_more n p = let e : n + 1 + p.looks ≡ n + suc p.looks = omega arith in λ i. record { at = p.at; looks = e i }

-- the turns of a loop over the first n of an array: the looks so far, and the search of what is left
abbrev pub searched : ℕ → ℕ → List ℕ → ℕ → ℕ → ℕ → Place
searched v n x from size looks = looks_more looks (rest v (take n x) from size)

pub turn_start : (v n : ℕ) (x : List ℕ) (size : ℕ) → size ≡ min n (length x) → searched v n x 0 size 0 ≡ place_found v (take n x)
unfolding place_found
turn_start v n x size e = more_none _ ∙ rw (length-take n x, e)

module _ (v n : ℕ) (x : List ℕ) (from size looks : ℕ) {t : Place} (e : searched v n x from size looks ≡ t) where
  pub turn_end : size ≡ 0 → record { at = from; looks = looks } ≡ t
  turn_end q = (λ i. record { at = from; looks = sym (add-zero looks) i }) ∙ rw (q, rest_none v (take n x) from) at e

  module _ (some : 0 < size) (within : from + size ≤ n) where
    there : get_or (take n x) (from + half size) 0 ≡ get_or x (from + half size) 0
    there = get_or-take n x (from + half size) 0 (omega arith)

    pub turn_behind : get_or x (from + half size) 0 < v → searched v n x (from + half size + 1) (size - (half size + 1)) (looks + 1) ≡ t
    turn_behind h =
        let b = rw (rest_behind v (take n x) from size some (rw there (lt-ltb _ v h))) at e in
        one_more looks _ ∙ rw (add-one, add-one) b

    pub turn_before : v ≤ get_or x (from + half size) 0 → searched v n x from (half size) (looks + 1) ≡ t
    turn_before h = let b = rw (rest_before v (take n x) from size some (rw there (le-ltb _ v h))) at e in one_more looks _ ∙ b
