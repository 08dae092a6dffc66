-- Trimming the heads, row by row.
use Rattle.std.specs.Prelude.{◌≡◌, Bool, true, false, List, map, ℕ, zero, suc, ◌+◌, length, get_or, drop}
use Rattle.std.proofs.Common.{add-one, arith, eq-eqb, ne_eqb, drop_of_length-le}
use Rattle.std.proofs.Math.Seq.{drop-cons}
use Rattle.std.specs.Fn.{Called}
use Rattle.std.specs.Array.{MapsFrom}
use denote.Param.Members.{Mut}
use Rattle.rules.specs.Recovery.{trim_head}

-- the ways a head h comes out; t is its xmin, w the next pointer
module _ (fin : ℕ → Bool) (xmin next : List ℕ) (h : ℕ) where
  pub trim_none : h ≡ 0 → h ≡ trim_head fin xmin next h
  trim_none e = rw (eq-eqb h 0 e, e)

  module _ (t : ℕ) (e : t ≡ get_or xmin h 0) (n : h ≡ 0 → ⊥) where
    pub trim_stay : fin t ≡ true → h ≡ trim_head fin xmin next h
    trim_stay d = rw (ne_eqb h 0 n, ← e, d)

    pub trim_next : (w : ℕ) → fin t ≡ false → w ≡ get_or next h 0 → w ≡ trim_head fin xmin next h
    trim_next w d o = rw (ne_eqb h 0 n, ← e, d) o

-- an array that a function's calls gave, one for each element from place i on
pub mapped : {F A B : Type 0} (g : Mut F (A × Unit {0}) B) (h : A → B) (f : F) → ((x : A) (y : B) (q : F) → Called g f (x, tt) y q → (q ≡ f) × (y ≡ h x))
    → (n i : ℕ) (xs : List A) (ys : List B) → length xs ≡ i + n → length ys ≡ i + n → MapsFrom g f xs ys i n → drop i ys ≡ map h (drop i xs)
mapped g h f k zero i xs ys p q m = rw (drop_of_length-le xs {i = i} (omega arith), drop_of_length-le ys {i = i} (omega arith))
mapped g h f k (suc n) i xs ys p q m =
    let s = k m.1 m.2 m.0 m.5 in
    let rest = rw s.0 at m.6 in
    let later = mapped g h f k n (i + 1) xs ys (omega arith) (omega arith) rest in
    rw (drop-cons xs i m.1 (omega arith), m.3.0, drop-cons ys i m.2 (omega arith), m.4.0, s.1, ← add-one i, later, add-one i)
