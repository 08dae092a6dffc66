-- Bytes put before others, and the digits of a number put from the last to the first.
use Rattle.std.specs.Prelude.{◌≡◌, refl, List, [], ◌∷◌, ◌++◌, ℕ, zero, suc, ◌+◌, ◌-◌, ◌/◌, ◌%◌, ◌<◌, ◌≤◌, ltb, length, drop, set}
use Rattle.std.proofs.Common.{sym, ap, ◌∙◌, arith, drop-cons, drop-set-lt, get_or-set_same, lt-length-set, lt-ltb, le-ltb, ltb-true, ltb-false}
use Rattle.basic_laws.specs.Cases.{by}
use Rattle.rules.specs.Numbers.{More, nothing, cause, test_named, place_named}
use Rattle.rules.specs.Replay.{Third, num, dash, Out}
use Rattle.rules.specs.Script.{Bytes, decimal, third, more, write}
use Rattle.script.specs.Print.{digits, in_decimal, third_text, more_text, tells}

-- a byte set at k stands before what follows it
set_before : (l : Bytes) (k b : ℕ) → k < length l → drop k (set l k b) ≡ b ∷ drop (suc k) l
set_before l k b h = rw (drop-cons (set l k b) k 0 (lt-length-set l k b h), get_or-set_same l k b 0 h, drop-set-lt (suc k) l k b (omega arith))

pub put_before : (l : Bytes) (at : ℕ) → 0 < at → at ≤ length l → (b : ℕ) → drop (at - 1) (set l (at - 1) b) ≡ b ∷ drop at l
put_before l at h i b = let e : suc (at - 1) ≡ at = omega arith in set_before l (at - 1) b (omega arith) ∙ rw e

-- the first digit is reached, or there is another before it
pub digit_last : (f n : ℕ) (rest : Bytes) → 0 < f → n < 10 → decimal f n rest ≡ (48 + n % 10) ∷ rest
digit_last zero n rest h l = absurd (omega arith)
digit_last (suc f) n rest h l = rw (decimal, lt-ltb n 10 l)

pub digit_more : (f g n : ℕ) (rest : Bytes) → f ≡ suc g → 10 ≤ n → decimal f n rest ≡ decimal g (n / 10) ((48 + n % 10) ∷ rest)
digit_more f g n rest e l = rw (e, decimal, le-ltb n 10 l)

-- the same for a digit put at k - 1, with room down to stop
module _ (l : Bytes) (stop k n : ℕ) where
  pub digits_last : stop < k → k ≤ length l → n < 10 → decimal (k - stop) n (drop k l) ≡ drop (k - 1) (set l (k - 1) (48 + n % 10))
  digits_last h i small = digit_last (k - stop) n (drop k l) (omega arith) small ∙ sym (put_before l k (omega arith) i (48 + n % 10))

  pub digits_more : stop < k → k ≤ length l → 10 ≤ n
      → decimal (k - stop) n (drop k l) ≡ decimal (k - 1 - stop) (n / 10) (drop (k - 1) (set l (k - 1) (48 + n % 10)))
  digits_more h i big =
      digit_more (k - stop) (k - 1 - stop) n (drop k l) (omega arith) big
      ∙ ap (decimal (k - 1 - stop) (n / 10)) (sym (put_before l k (omega arith) i (48 + n % 10)))

-- an answer line, from its parts
third_text_law : (t : Third) (rest : Bytes) → third t rest ≡ third_text t rest
unfolding in_decimal
third_text_law (num n) rest = refl
third_text_law dash rest = refl

more_text_law : (m : More) (rest : Bytes) → more m rest ≡ more_text m rest
unfolding in_decimal
more_text_law nothing rest = refl
more_text_law (cause c) rest = refl

-- the fields of an answer, before what follows its line
abbrev fields : ℕ → Out → Bytes → Bytes
fields n o rest = in_decimal n (9 ∷ in_decimal o.number (9 ∷ third_text o.third (more_text o.more (10 ∷ rest))))

line_and_rest : (n : ℕ) (o : Out) (os : List Out) → write n (o ∷ os) ≡ fields n o (write (suc n) os)
unfolding in_decimal
line_and_rest n o os = λ i.
    let end = more_text_law o.more (10 ∷ write (suc n) os) i in
    decimal digits n (9 ∷ decimal digits o.number (9 ∷ third_text_law o.third end i))

pub line_text : (line number : ℕ) (t : Third) (m : More) → fields line (tells number t m) [] ≡ write line (tells number t m ∷ [])
line_text line number t m = sym (line_and_rest line (tells number t m) [])

-- what is put first stands before the rest, so that the answers can be written one by one
decimal_onto : (f n : ℕ) (r s : Bytes) → decimal f n (r ++ s) ≡ decimal f n r ++ s
decimal_onto zero n r s = refl
decimal_onto (suc f) n r s =
    by (ltb n 10)
    (λ t. let h : n < 10 = ltb-true _ _ t in digit_last (suc f) n (r ++ s) (omega arith) h ∙ rw (digit_last (suc f) n r (omega arith) h))
    (λ t. let h : 10 ≤ n = ltb-false _ _ t in
    digit_more (suc f) f n (r ++ s) refl h ∙ decimal_onto f (n / 10) ((48 + n % 10) ∷ r) s ∙ rw (digit_more (suc f) f n r refl h))

onto : (n : ℕ) (r s : Bytes) → in_decimal n (r ++ s) ≡ in_decimal n r ++ s
unfolding in_decimal
onto n r s = decimal_onto digits n r s

third_onto : (t : Third) (r s : Bytes) → third_text t (r ++ s) ≡ third_text t r ++ s
third_onto (num n) r s = onto n r s
third_onto dash r s = refl

more_onto : (m : More) (r s : Bytes) → more_text m (r ++ s) ≡ more_text m r ++ s
more_onto nothing r s = refl
more_onto (cause c) r s =
    rw (onto (place_named c) r s, onto (test_named c) (9 ∷ in_decimal (place_named c) r) s)

line_onto : (n : ℕ) (o : Out) (s : Bytes) → fields n o s ≡ fields n o [] ++ s
line_onto n o s =
    let end = more_text o.more (10 ∷ []) in
    let t = third_text o.third end in
    rw (more_onto o.more (10 ∷ []) s, third_onto o.third end s, onto o.number (9 ∷ t) s, onto n (9 ∷ in_decimal o.number (9 ∷ t)) s)

pub write_one : (n : ℕ) (o : Out) (os : List Out) → write n (o ∷ os) ≡ write n (o ∷ []) ++ write (suc n) os
write_one n o os = line_and_rest n o os ∙ line_onto n o (write (suc n) os) ∙ ap (λ w. w ++ write (suc n) os) (sym (line_and_rest n o []))
