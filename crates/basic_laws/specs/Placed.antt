-- Lists laid out in arrays, place by place: what stands where, what stands behind, and that a rising list is packed.
use Rattle.std.specs.Prelude.{◌≡◌, refl, true, List, [], ◌∷◌, ◌≢◌, ◌↔◌, ℕ, zero, suc, ◌≤◌, ◌<◌, length, get_or, take, leb}
use Rattle.std.proofs.Common.{sym, ◌∙◌, arith, length-take-le, get_or-take, le-leb, ne_eqb}
use Rattle.rules.specs.Lists.{memb, pad, rising, before_zero}
use Rattle.basic_laws.specs.Cases.{and_true, and_both}
use Rattle.basic_laws.specs.Members.{at_mem, mem_at}
use Rattle.basic_laws.specs.Rising.{rising_from}
use Rattle.basic_laws.specs.LaidOut.{pad_length}
use Rattle.statements.specs.StoreWords.{Packed}

module _ {A : Type 0} where
  -- a place that is there holds the same whatever is read past the end
  pub get_d_any : (l : List A) (i : ℕ) (d e : A) → i < length l → get_or l i d ≡ get_or l i e
  get_d_any [] i d e lt = absurd (omega arith)
  get_d_any (x ∷ l) zero d e lt = refl
  get_d_any (x ∷ l) (suc i) d e lt = get_d_any l i d e (omega arith)

  -- the members at their places, and the blank behind them
  pub pad_here : (n : ℕ) (z : A) (l : List A) (d : A) (i : ℕ) → i < length l → length l ≤ n → get_or (pad n z l) i d ≡ get_or l i d
  pad_here n z [] d i lt le = absurd (omega arith)
  pad_here zero z (x ∷ l) d i lt le = absurd (omega arith)
  pad_here (suc n) z (x ∷ l) d zero lt le = refl
  pad_here (suc n) z (x ∷ l) d (suc i) lt le = pad_here n z l d i (omega arith) (omega arith)

  pub pad_behind : (n : ℕ) (z : A) (l : List A) (d : A) (i : ℕ) → length l ≤ i → i < n → get_or (pad n z l) i d ≡ z
  pad_behind zero z l d i le lt = absurd (omega arith)
  pad_behind (suc n) z [] d zero le lt = refl
  pad_behind (suc n) z [] d (suc i) le lt = pad_behind n z [] d i (omega arith) (omega arith)
  pad_behind (suc n) z (x ∷ l) d zero le lt = absurd (omega arith)
  pad_behind (suc n) z (x ∷ l) d (suc i) le lt = pad_behind n z l d i (omega arith) (omega arith)

  -- .. past the end too, where the blank is read there
  pub pad_past : (n : ℕ) (z : A) (l : List A) (i : ℕ) → length l ≤ i → get_or (pad n z l) i z ≡ z
  pad_past zero z l i le = refl
  pad_past (suc n) z [] zero le = refl
  pad_past (suc n) z [] (suc i) le = pad_past n z [] i (omega arith)
  pad_past (suc n) z (x ∷ l) zero le = absurd (omega arith)
  pad_past (suc n) z (x ∷ l) (suc i) le = pad_past n z l i (omega arith)

-- a rising list, place by place, and back
pub rising_at : (lo : ℕ) (l : List ℕ) → rising lo l ≡ true → (i j : ℕ) → i < j → j < length l → get_or l i 0 < get_or l j 0
rising_at lo [] h i j lt le = absurd (omega arith)
rising_at lo (x ∷ l) h i zero lt le = absurd (omega arith)
rising_at lo (x ∷ l) h zero (suc j) lt le = rising_from (suc x) l (get_or l j 0) (and_true (leb lo x) (rising (suc x) l) h).1 (at_mem l j (omega arith))
rising_at lo (x ∷ l) h (suc i) (suc j) lt le = rising_at (suc x) l (and_true (leb lo x) (rising (suc x) l) h).1 i j (omega arith) (omega arith)

pub at_rising : (lo : ℕ) (l : List ℕ) → ((i : ℕ) → i < length l → lo ≤ get_or l i 0)
    → ((i j : ℕ) → i < j → j < length l → get_or l i 0 < get_or l j 0) → rising lo l ≡ true
at_rising lo [] low h = refl
at_rising lo (x ∷ l) low h = and_both (leb lo x) (rising (suc x) l) (le-leb lo x (low 0 (omega arith)))
    (at_rising (suc x) l (λ i lt. h 0 (suc i) (omega arith) (omega arith)) (λ i j lt le. h (suc i) (suc j) (omega arith) (omega arith)))

-- a rising list laid out is packed
pub packed_of : (n lo : ℕ) (l : List ℕ) (In : ℕ → Type 0) → length l ≤ n → rising lo l ≡ true → ((c : ℕ) → In c ↔ (memb c l ≡ true))
    → Packed (pad n 0 l) (length l) In
packed_of n lo l In le h same = record {
  within = omega (arith, pad_length n 0 l);
  rising = λ i j lt lj. rw (pad_here n 0 l 0 i (omega arith) le, pad_here n 0 l 0 j lj le) (rising_at lo l h i j lt lj);
  exactly = λ c. (
    λ m. let k = mem_at l c ((same c).0 m) in (k.0, k.1, pad_here n 0 l 0 k.0 k.1 le ∙ k.2),
    λ k. (same c).1 (rw (sym (pad_here n 0 l 0 k.0 k.1 le) ∙ k.2) at (at_mem l k.0 k.1)),
  );
  after = λ i k. pad_past n 0 l i k;
}

-- what is packed is a rising list, laid out
module _ (a : List ℕ) (n : ℕ) (In : ℕ → Type 0) (P : Packed a n In) where
  long : length (take n a) ≡ n
  long = length-take-le n a P.within

  at : (i : ℕ) → i < n → get_or (take n a) i 0 ≡ get_or a i 0
  at i lt = get_or-take n a i 0 lt

  pub packed_rising : (lo : ℕ) → ((c : ℕ) → In c → lo ≤ c) → rising lo (take n a) ≡ true
  packed_rising lo low = at_rising lo (take n a)
      (λ i lt. let k : i < n = omega (arith, long) in rw (at i k) (low (get_or a i 0) ((P.exactly (get_or a i 0)).1 (i, k, refl))))
      (λ i j lt lj. let k : j < n = omega (arith, long) in rw (at i (omega arith), at j k) (P.rising i j lt k))

  pub packed_members : (c : ℕ) → In c ↔ (memb c (take n a) ≡ true)
  packed_members c = (
    λ m. let k = (P.exactly c).0 m in
        rw (at k.0 k.1 ∙ k.2) at (at_mem (take n a) k.0 (omega (arith, long, k.1))),
    λ m. let k = mem_at (take n a) c m in
        let lt : k.0 < n = omega (arith, long, k.1) in
        (P.exactly c).1 (k.0, lt, sym (at k.0 lt) ∙ k.2),
  )

-- what stands before the first 0 is the first n places, where those are not 0 and the next one is
pub before_first : (a : List ℕ) (n : ℕ) → n ≤ length a → ((i : ℕ) → i < n → get_or a i 0 ≢ 0) → get_or a n 0 ≡ 0 → before_zero a ≡ take n a
before_first [] zero le h e = refl
before_first [] (suc n) le h e = absurd (omega arith)
before_first (x ∷ a) zero le h e = rw e
before_first (x ∷ a) (suc n) le h e =
    rw (ne_eqb x 0 (h 0 (omega arith)), before_first a n (omega arith) (λ i lt. h (suc i) (omega arith)) e)
