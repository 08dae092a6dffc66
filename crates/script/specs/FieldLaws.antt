-- A field read byte by byte is what the definitions read at once.
use Rattle.std.specs.Prelude.{◌≡◌, refl, Some, None, option_map, true, false, cond, ◌&&◌, [], ◌∷◌}
use Rattle.std.specs.Prelude.{ℕ, ◌+◌, ◌-◌, ◌*◌, ◌<◌, ◌≤◌, eqb, ltb, leb, length, get_or, drop}
use Rattle.std.proofs.Common.{◌∙◌, add-one, arith, drop_of_length-le, drop-cons}
use Rattle.std.proofs.Math.Bool.{and-false, and_assoc}
use Rattle.std.specs.Bool.{then_some}
use borrow.Author.Tests.{eqb-true, eqb-false, eq-eqb, lt-ltb, le-ltb, le-leb, ltb-true, ltb-false, leb-true, ne_eqb}
use Rattle.records.specs.Limits.{key_end, place_limit}
use Rattle.rules.specs.Lists.{all}
use Rattle.basic_laws.specs.Cases.{by, and_true}
use Rattle.rules.specs.Types.{Absent, Key}
use Rattle.rules.specs.Script.{Bytes, is_digit, is_number, value_of, is}
use Rattle.script.specs.Fields.{num_of, num_from, place_of, value_in, letter_of}

-- the digits from i on, after those that make v
module _ (s : Bytes) (v i : ℕ) where
  -- no byte is left
  pub digits_end : length s ≤ i → num_from v (drop i s) ≡ Some v
  unfolding num_from
  digits_end h = rw (drop_of_length-le s h)

  -- the next byte is no digit, or makes too much
  pub digits_other : i < length s → (48 ≤ get_or s i 0 → get_or s i 0 ≤ 57 → v * 10 + (get_or s i 0 - 48) < key_end → ⊥) → num_from v (drop i s) ≡ None
  unfolding num_from
  digits_other h n =
      rw (drop-cons s i 0 h)
      (by (leb 48 (get_or s i 0))
      (λ a. by (leb (get_or s i 0) 57)
      (λ b. by (ltb (v * 10 + (get_or s i 0 - 48)) key_end)
      (λ l. absurd (n (leb-true _ _ a) (leb-true _ _ b) (ltb-true _ _ l)))
      (λ l. rw (a, b, l)))
      (λ b. rw (a, b)))
      (λ a. rw a))

  -- the next byte is one more digit
  pub digits_more : i < length s → 48 ≤ get_or s i 0 → get_or s i 0 ≤ 57 → v * 10 + (get_or s i 0 - 48) < key_end
      → num_from v (drop i s) ≡ num_from (v * 10 + (get_or s i 0 - 48)) (drop (i + 1) s)
  unfolding num_from
  digits_more h lo hi l =
      rw (drop-cons s i 0 h) (simp (add-one, le-leb 48 (get_or s i 0) lo, le-leb (get_or s i 0) 57 hi, lt-ltb (v * 10 + (get_or s i 0 - 48)) key_end l))

-- a further digit makes no number smaller
value_grows : (v : ℕ) (w : Bytes) → v ≤ value_of v w
value_grows v [] = omega arith
value_grows v (b ∷ w) = omega (arith, value_grows (v * 10 + (b - 48)) w)

-- read to the end: all are digits, and the number has 32 bits
digits_all : (v : ℕ) (w : Bytes) → v < key_end → num_from v w ≡ cond (all is_digit w && ltb (value_of v w) key_end) (Some (value_of v w)) None
unfolding num_from
digits_all v [] h = rw (lt-ltb v key_end h)
digits_all v (b ∷ w) h =
    by (is_digit b)
    (λ d. by (ltb (v * 10 + (b - 48)) key_end)
    (λ l. rw (d, l) (digits_all (v * 10 + (b - 48)) w (ltb-true _ _ l)))
    (λ l. rw (d, l) (simp (le-ltb (value_of (v * 10 + (b - 48)) w) key_end (omega (arith, value_grows (v * 10 + (b - 48)) w, ltb-false)), and-false))))
    (λ d. rw d)

-- which bytes are digits
pub digit : (b : ℕ) → is_digit b ≡ true → (48 ≤ b) × (b ≤ 57)
digit b d = let t = and_true (leb 48 b) (leb b 57) d in (leb-true 48 b t.0, leb-true b 57 t.1)

-- zero, a number that begins with another digit, and what is neither
pub number_zero : (s : Bytes) → is 48 s ≡ true → Some 0 ≡ num_of s
unfolding num_of
number_zero [] z = absurd cc
number_zero (b ∷ []) z = rw (eqb-true b 48 z)
number_zero (b ∷ c ∷ s) z = absurd cc

pub number_read : (s : Bytes) → 0 < length s → 49 ≤ get_or s 0 0 → get_or s 0 0 ≤ 57 → num_from 0 s ≡ num_of s
unfolding num_of num_from
number_read [] h lo hi = absurd (omega arith)
number_read (b ∷ []) h lo hi = rw (le-leb 48 b (omega arith), le-leb b 57 hi, lt-ltb (0 * 10 + (b - 48)) key_end (omega arith))
number_read (b ∷ c ∷ s) h lo hi = digits_all 0 (b ∷ c ∷ s) (omega arith) ∙ simp (ne_eqb b 48 (λ e. omega arith), and_assoc)

pub number_other : (s : Bytes) → is 48 s ≡ false → (0 < length s → 49 ≤ get_or s 0 0 → get_or s 0 0 ≤ 57 → ⊥) → None ≡ num_of s
unfolding num_of
number_other [] z n = refl
number_other (b ∷ []) z n =
    by (is_digit b)
    (λ d. let r = digit b d in absurd (n (omega arith) (omega (arith, eqb-false b 48 z)) (omega arith)))
    (λ d. rw d)
number_other (b ∷ c ∷ s) z n =
    by (is_digit b)
    (λ d. let r = digit b d in by (eqb b 48) (λ e. rw e (simp and-false)) (λ e. absurd (n (omega arith) (omega (arith, eqb-false b 48 e)) (omega arith))))
    (λ d. rw d)

-- an answer says whether the field is a number, and which
pub number_is : (w : Bytes) {n : ℕ} → Some n ≡ num_of w → (is_number w ≡ true) × (value_of 0 w ≡ n)
unfolding num_of
number_is w e = by (is_number w) (λ b. (b, cc)) (λ b. (cc, cc))

pub number_not : (w : Bytes) → None ≡ num_of w → is_number w ≡ false
unfolding num_of
number_not w e = by (is_number w) (λ b. cc) (λ b. b)

-- a number is a place below the 16th
pub place_in : (w : Bytes) {n : ℕ} → num_of w ≡ Some n → then_some (ltb n place_limit) n ≡ place_of w
unfolding num_of place_of
place_in w {n} e =
    by (is_number w)
    (λ b. let m : value_of 0 w ≡ n = cc in by (ltb n place_limit) (λ l. rw (b, m, l)) (λ l. rw (b, m, l)))
    (λ b. absurd cc)

pub place_not : (w : Bytes) → num_of w ≡ None → None ≡ place_of w
unfolding num_of place_of
place_not w e = by (is_number w) (λ b. absurd cc) (λ b. rw b)

-- a value is - or a key
pub value_absent : (w : Bytes) → is 45 w ≡ true → Some Absent ≡ value_in w
unfolding value_in
value_absent w e = rw e

pub value_key : (w : Bytes) → is 45 w ≡ false → option_map (λ n. Key n) (num_of w) ≡ value_in w
unfolding num_of value_in
value_key w d = by (is_number w) (λ b. rw (d, b)) (λ b. rw (d, b))

-- fields of one byte: the one asked for, or another or more or none
pub byte_is : (b : ℕ) (w : Bytes) → length w ≡ 1 → get_or w 0 0 ≡ b → is b w ≡ true
byte_is b [] e t = absurd (omega arith)
byte_is b (c ∷ []) e t = eq-eqb c b t
byte_is b (c ∷ d ∷ w) e t = absurd (omega arith)

pub byte_not : (b : ℕ) (w : Bytes) → (length w ≡ 1 → get_or w 0 0 ≡ b → ⊥) → is b w ≡ false
byte_not b [] n = refl
byte_not b (c ∷ []) n = ne_eqb c b (n refl)
byte_not b (c ∷ d ∷ w) n = refl

pub letter_in : (w : Bytes) → length w ≡ 1 → 65 ≤ get_or w 0 0 → get_or w 0 0 ≤ 90 → Some (get_or w 0 0) ≡ letter_of w
unfolding letter_of
letter_in [] e lo hi = absurd (omega arith)
letter_in (c ∷ []) e lo hi = rw (le-leb 65 c lo, le-leb c 90 hi)
letter_in (c ∷ d ∷ w) e lo hi = absurd (omega arith)

pub letter_not : (w : Bytes) → (length w ≡ 1 → 65 ≤ get_or w 0 0 → get_or w 0 0 ≤ 90 → ⊥) → None ≡ letter_of w
unfolding letter_of
letter_not [] n = refl
letter_not (c ∷ []) n =
    by (leb 65 c) (λ a. by (leb c 90) (λ b. absurd (n refl (leb-true _ _ a) (leb-true _ _ b))) (λ b. rw (a, b))) (λ a. rw a)
letter_not (c ∷ d ∷ w) n = refl
