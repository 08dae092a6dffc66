-- Document 02's wish 3: where a search by halving ends, on a rising list and on any other, and how few looks it takes.
use Rattle.std.specs.Prelude.{◌≡◌, refl, true, List, [], ◌∷◌, ℕ, zero, suc, ◌+◌, ◌-◌, ◌^◌, ◌≤◌, ◌<◌, length, get_or, leb}
use Rattle.std.proofs.Common.{ap, arith, ltb-true, ltb-false, lt-ltb, le-ltb}
use Rattle.std.proofs.Math.Nat.{two-pow-succ, one-le-pow}
use Rattle.rules.specs.Lists.{rising}
use Rattle.basic_laws.specs.Cases.{and_true}
use Rattle.basic_laws.specs.Placed.{rising_at}
use Rattle.packed.specs.declared.halving.Place.{Place}
use Rattle.packed.specs.Insert.{ahead}
use Rattle.packed.specs.Halving.{half, place_found}
use Rattle.packed.specs.HalvingTurns.{rest, each_search}

module _ (v : ℕ) (l : List ℕ) where
  -- it ends within what was left
  rest_within : (from size : ℕ) → (from ≤ (rest v l from size).at) × ((rest v l from size).at ≤ from + size)
  rest_within = each_search v l (λ from size p. (from ≤ p.at) × (p.at ≤ from + size))
      (λ from. (omega arith, omega arith))
      (λ from size p some h q. (omega arith, omega arith))
      (λ from size p some h q. (omega arith, omega arith))

  abbrev Before : ℕ → Type 0
  Before i = (j : ℕ) → suc j ≡ i → get_or l j 0 < v

  abbrev Behind : ℕ → Type 0
  Behind i = i < length l → v ≤ get_or l i 0

  rest_between : (from size : ℕ) → Before from → Behind (from + size) → Before (rest v l from size).at × Behind (rest v l from size).at
  rest_between = each_search v l (λ from size p. Before from → Behind (from + size) → Before p.at × Behind p.at)
      (λ from a b. let e : from + 0 ≡ from = omega arith in (a, rw e at b))
      (λ from size p some h q a b. let e : suc (from + half size) + (size - suc (half size)) ≡ from + size = omega arith in
      q (λ j s. let m : j ≡ from + half size = omega arith in rw m (ltb-true _ v h)) (rw e b))
      (λ from size p some h q a b. q a (λ _. ltb-false _ v h))

  rest_few : (from size k : ℕ) → size < 2 ^ k → (rest v l from size).looks ≤ k
  rest_few = each_search v l (λ from size p. (k : ℕ) → size < 2 ^ k → p.looks ≤ k)
      (λ from k h. omega arith)
      (λ from size p some h q k b. down size p k (size - suc (half size)) some (omega arith) q b)
      (λ from size p some h q k b. down size p k (half size) some (omega arith) q b)
    where
      down : (size : ℕ) (p : Place) (k left : ℕ) → 0 < size → left + left ≤ size → ((j : ℕ) → left < 2 ^ j → p.looks ≤ j) → size < 2 ^ k
          → suc p.looks ≤ k
      down size p zero left some le q b = absurd (omega arith)
      down size p (suc j) left some le q b = omega (arith, q j (omega (arith, two-pow-succ j)))

  rest_many : (from size k : ℕ) → 2 ^ k ≤ suc size → k ≤ (rest v l from size).looks
  rest_many = each_search v l (λ from size p. (k : ℕ) → 2 ^ k ≤ suc size → k ≤ p.looks)
      (λ from k b. alone k b)
      (λ from size p some h q k b. down size p k (size - suc (half size)) (omega arith) q b)
      (λ from size p some h q k b. down size p k (half size) (omega arith) q b)
    where
      alone : (k : ℕ) → 2 ^ k ≤ 1 → k ≤ 0
      alone zero b = omega arith
      alone (suc k) b = absurd (omega (arith, two-pow-succ k, one-le-pow k 2 (omega arith)))

      down : (size : ℕ) (p : Place) (k left : ℕ) → size ≤ left + left + 2 → ((j : ℕ) → 2 ^ j ≤ suc left → j ≤ p.looks) → 2 ^ k ≤ suc size
          → k ≤ suc p.looks
      down size p zero left le q b = omega arith
      down size p (suc j) left le q b = omega (arith, q j (omega (arith, two-pow-succ j)))

-- on any list: a place of it or its end, what stands in front of it is below v, and what stands at it is not
pub record Between (v : ℕ) (l : List ℕ) (i : ℕ) : Type 0 where
  pub within : i ≤ length l
  pub before : (j : ℕ) → suc j ≡ i → get_or l j 0 < v
  pub behind : i < length l → v ≤ get_or l i 0

pub place_between : (v : ℕ) (l : List ℕ) → Between v l (place_found v l).at
unfolding place_found
place_between v l =
    let b = rest_between v l 0 (length l) (λ j s. absurd (omega arith)) (λ h. absurd (omega arith)) in
    record { within = omega (arith, (rest_within v l 0 (length l)).1); before = b.0; behind = b.1 }

-- in a rising list there is one such place
between_alone : (v lo : ℕ) (l : List ℕ) (i : ℕ) → rising lo l ≡ true → Between v l i → i ≡ ahead v l
unfolding ahead
between_alone v lo [] i r b = omega (arith, b.within)
between_alone v lo (y ∷ l) zero r b = rw (le-ltb y v (b.behind (omega arith)))
between_alone v lo (y ∷ l) (suc i) r b =
    let up = (and_true (leb lo y) (rising (suc y) l) r).1 in
    let below : y < v = first i (b.before i refl) b.within in
    rw (lt-ltb y v below) (ap suc (between_alone v (suc y) l i up
    (record { within = omega (arith, b.within); before = λ j e. b.before (suc j) (ap suc e); behind = λ h. b.behind (omega arith) })))
  where
    first : (i : ℕ) → get_or (y ∷ l) i 0 < v → suc i ≤ suc (length l) → y < v
    first zero h w = h
    first (suc i) h w = omega (arith, h, rising_at lo (y ∷ l) r zero (suc i) (omega arith) (omega arith))

-- "The place found stays the same for every rising list, the empty one and an absent key included": going from the front ends there too
pub place_rising : (v lo : ℕ) (l : List ℕ) → rising lo l ≡ true → (place_found v l).at ≡ ahead v l
place_rising v lo l r = between_alone v lo l (place_found v l).at r (place_between v l)

-- the looks are the logarithm of the count, but for one: fewer than 2 ^ k numbers take at most k, as many less one take k or more
pub looks_few : (v : ℕ) (l : List ℕ) (k : ℕ) → length l < 2 ^ k → (place_found v l).looks ≤ k
unfolding place_found
looks_few v l k h = rest_few v l 0 (length l) k h

pub looks_many : (v : ℕ) (l : List ℕ) (k : ℕ) → 2 ^ k ≤ suc (length l) → k ≤ (place_found v l).looks
unfolding place_found
looks_many v l k h = rest_many v l 0 (length l) k h

-- 256 postings take at most 9
pub nine_looks : (v : ℕ) (l : List ℕ) → length l ≤ 256 → (place_found v l).looks ≤ 9
nine_looks v l h = looks_few v l 9 (omega arith)
