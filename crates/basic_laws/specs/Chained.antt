-- The chains of all rows: the walk from the start tells them, and they tell the walk.
use Rattle.std.specs.Prelude.{◌≡◌, refl, Bool, true, false, List, [], ◌∷◌, ℕ, zero, suc, ◌≤◌, ◌<◌, length, get_or, replicate, eqb}
use Rattle.std.proofs.Common.{ap, arith, eqb-true, eq-eqb}
use Rattle.std.proofs.lemmas.List.{length-replicate}
use Rattle.std.proofs.lemmas.Bool.{not-false}
use Rattle.records.specs.Limits.{places, no_marks}
use Rattle.rules.specs.Lists.{memb}
use Rattle.rules.specs.Chains.{Walk, chain_from, walk, on}
use Rattle.basic_laws.specs.Cases.{by}
use Rattle.basic_laws.specs.Chain.{IsChain, chain_below, chain_one, chain_from_law}
use Rattle.basic_laws.specs.Sound.{zeros, walk_is, rows_sound, rows_complete}

-- each row has its chain, and no slot is on two
pub record Chains (heads next : List ℕ) (L : ℕ → List ℕ) : Type 0 where
  pub chain : (r : ℕ) → r < length heads → IsChain next (get_or heads r 0) (L r)
  pub apart : (r q x : ℕ) → r < length heads → q < length heads → memb x (L r) ≡ true → memb x (L q) ≡ true → r ≡ q

-- the marks are the chains' slots
pub record Chained (heads next seen : List ℕ) (L : ℕ → List ℕ) : Type 0 where
  pub stand : Chains heads next L
  pub marked : (r x : ℕ) → r < length heads → memb x (L r) ≡ true → on seen x ≡ true
  pub found : (x : ℕ) → on seen x ≡ true → (r : ℕ) × (r < length heads) × (memb x (L r) ≡ true)
  pub short : (r : ℕ) → r < length heads → length (L r) < places

-- at most as many slots are not marked as there are places
zeros_le : (l : List ℕ) → zeros l ≤ length l
unfolding zeros
zeros_le [] = omega arith
zeros_le (x ∷ l) = go (eqb x 0) (zeros_le l)
  where
    go : (b : Bool) → zeros l ≤ length l → elim b [ true ↦ suc (zeros l) | false ↦ zeros l ] ≤ suc (length l)
    go true h = omega arith
    go false h = omega arith

-- place 0 counts as one that is not marked
zeros_first : (l : List ℕ) → 0 < length l → get_or l 0 0 ≡ 0 → 0 < zeros l
unfolding zeros
zeros_first [] lt e = absurd (omega arith)
zeros_first (x ∷ l) lt e = simp (zeros, eq-eqb x 0 e) (omega arith)

-- no slot is marked at the start
none_long : length no_marks ≡ places
unfolding no_marks
none_long = length-replicate {A = ℕ} places 0

blank : (n x : ℕ) → ◌≡◌ {A = ℕ} (get_or (replicate n 0) x 0) 0
blank zero x = refl
blank (suc n) zero = refl
blank (suc n) (suc x) = blank n x

none_on : (x : ℕ) → on no_marks x ≡ false
unfolding no_marks
none_on x = rw (blank places x)

-- a walk that ends well gives each row its chain
pub walk_sound : (heads next : List ℕ) → length next ≡ places → (walk heads next).ok ≡ true → (L : ℕ → List ℕ) × Chained heads next (walk heads next).seen L
unfolding walk
walk_sound heads next ln ok =
    let s = (walk heads next).seen in
    let R = rows_sound next heads no_marks s ln none_long (walk_is (walk heads next) true ok) in
    let zero_off : on s 0 ≡ false = by (on s 0)
    (λ e. let f = R.1.found 0 e (none_on 0) in
    absurd (omega (arith, (chain_below next (get_or heads f.0 0) (R.0 f.0) 0 (R.1.chain f.0 f.1) f.2).0)))
    (λ e. e) in
    let some : 0 < zeros s = zeros_first s (omega (arith, R.1.long, none_long)) (eqb-true (get_or s 0 0) 0 (not-false (eqb (get_or s 0 0) 0) zero_off)) in (
      R.0,
      record {
        stand = record { chain = R.1.chain; apart = R.1.apart };
        marked = R.1.marked;
        found = λ x e. R.1.found x e (none_on x);
        short = λ r lt. omega (arith, R.1.short r lt, zeros_le no_marks, none_long);
      },
    )

-- chains that stand apart are walked to the end, and marked
pub walk_complete : (heads next : List ℕ) (L : ℕ → List ℕ) → length next ≡ places → Chains heads next L
    → ((walk heads next).ok ≡ true) × Chained heads next (walk heads next).seen L
unfolding walk
walk_complete heads next L ln C =
    let W = rows_complete next heads no_marks L ln none_long (omega (arith, zeros_le no_marks, none_long)) C.chain C.apart (λ r x lt m. none_on x) in
    let ok : (walk heads next).ok ≡ true = ap (λ (w : Walk). w.ok) W.1 in
    let K = walk_sound heads next ln ok in
    let same : (r : ℕ) → r < length heads → K.0 r ≡ L r =
    λ r lt. chain_one next (get_or heads r 0) (get_or heads r 0) (K.0 r) (L r) refl (K.1.stand.chain r lt) (C.chain r lt) in (
      ok,
      record {
        stand = C;
        marked = λ r x lt m. K.1.marked r x lt (rw (same r lt) m);
        found = λ x e. let f = K.1.found x e in (f.0, f.1, rw (same f.0 f.1) at f.2);
        short = λ r lt. rw (same r lt) at (K.1.short r lt);
      },
    )

-- the definition by fuel computes each chain
pub chained_from : (heads next seen : List ℕ) (L : ℕ → List ℕ) → Chained heads next seen L → (r : ℕ) → r < length heads
    → chain_from places next (get_or heads r 0) ≡ L r
chained_from heads next seen L C r lt = chain_from_law places next (get_or heads r 0) (L r) (C.short r lt) (C.stand.chain r lt)
