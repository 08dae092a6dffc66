-- No form has more bytes than the longest, so a longer line is bad, and the bytes that are held of it are bad too.
use Rattle.std.specs.Prelude.{◌≡◌, ℕ, suc, ◌+◌, ◌-◌, ◌^◌, ◌<◌, ◌≤◌, Bool, true, false, [], ◌∷◌, length, take, nat_le, refl}
use Rattle.std.proofs.Common.{sym, ap, ◌∙◌, inr, mul-le-mul_right, arith, length-append, length-take, take_all, leb-true, leb-false}
use Rattle.std.proofs.Math.Nat.{pow-le-pow_right}
use Rattle.records.specs.Limits.{place_digits, digits32}
use Rattle.records.specs.Relations.{place_written, narrow_written}
use Rattle.basic_laws.specs.Cases.{by}
use Rattle.rules.specs.Types.{Value, Absent, Key, Uncut, After}
use Rattle.rules.specs.Replay.{Line, line_b, line_r, line_w, line_l, line_k, line_a, line_c, line_f, line_v, line_bad}
use Rattle.rules.specs.Script.{Bytes, split, line_of}
use Rattle.statements.specs.ReplayWords.{Decimal, Number, Place, KeyOr, Mode, tabbed, IsForm}
use Rattle.sentences.specs.ScriptSays.{line_says}
use Rattle.replay_core.specs.Feed.{longest, held_room}

-- a number below 10 ^ k has at most k digits
few_digits : (n k : ℕ) (w : Bytes) → Decimal n w → 0 < k → n < 10 ^ k → length w ≤ k
few_digits n k [] h p l = omega arith
few_digits n k (b ∷ []) h p l = omega arith
few_digits n k (b ∷ c ∷ w) h p l =
    by (nat_le (length (b ∷ c ∷ w)) k)
    (λ t. leb-true _ _ t)
    (λ t. let long : k ≤ length (c ∷ w) = omega (arith, leb-false (length (b ∷ c ∷ w)) k t) in
    let first : b ≡ 48 → ⊥ = λ z. omega (arith, h.unpadded z) in
    let some : 1 ≤ b - 48 = omega (arith, h.digits 0 (omega arith), first) in
    let ten : 0 < 10 = omega arith in
    let more : 10 ^ k ≤ 10 ^ length (c ∷ w) = pow-le-pow_right ten long in
    absurd (omega (arith, h.value, mul-le-mul_right (10 ^ length (c ∷ w)) some, more)))

number_few : (n : ℕ) (w : Bytes) → Number n w → length w ≤ digits32
number_few n w h = few_digits n digits32 w h.0 (omega arith) (omega (arith, h.1, narrow_written))

place_few : (i : ℕ) (w : Bytes) → Place i w → length w ≤ place_digits
place_few i w h = few_digits i place_digits w h.0 (omega arith) (omega (arith, h.1, place_written))

value_few : (v : Value) (w : Bytes) → KeyOr v w → length w ≤ digits32
value_few Absent w h = omega (arith, ap length h)
value_few (Key k) w h = number_few k w h

mode_one : (m : Bool) (w : Bytes) → Mode m w → length w ≡ 1
mode_one false w h = ap length h
mode_one true w h = ap length h

-- fields, each after a tab
one_long : (p : Bytes) → length (tabbed (p ∷ [])) ≡ suc (length p)
one_long p = omega (arith, length-append p [])

two_long : (p q : Bytes) → length (tabbed (p ∷ q ∷ [])) ≡ suc (length p) + suc (length q)
two_long p q = omega (arith, length-append p (tabbed (q ∷ [])), one_long q)

three_long : (p q s : Bytes) → length (tabbed (p ∷ q ∷ s ∷ [])) ≡ suc (length p) + (suc (length q) + suc (length s))
three_long p q s = omega (arith, length-append p (tabbed (q ∷ s ∷ [])), two_long q s)

form_short : (l : Line) (w : Bytes) → IsForm l w → length w ≤ longest
form_short (line_b i) w h = omega (arith, ap length h.1, one_long h.0, place_few i h.0 h.2)
form_short (line_r i r) w h = omega (arith, ap length h.2, two_long h.0 h.1, place_few i h.0 h.3, number_few r h.1 h.4)
form_short (line_w i r v) w h =
    omega (
      arith,
      ap length h.3,
      three_long h.0 h.1 h.2,
      place_few i h.0 h.4,
      number_few r h.1 h.5,
      value_few v h.2 h.6,
    )
form_short (line_l i k) w h = omega (arith, ap length h.2, two_long h.0 h.1, place_few i h.0 h.3, number_few k h.1 h.4)
form_short (line_k i r) w h = omega (arith, ap length h.2, two_long h.0 h.1, place_few i h.0 h.3, number_few r h.1 h.4)
form_short (line_a i) w h = omega (arith, ap length h.1, one_long h.0, place_few i h.0 h.2)
form_short (line_c i m Uncut) w h = omega (arith, ap length h.2, two_long h.0 h.1, place_few i h.0 h.3, mode_one m h.1 h.4)
form_short (line_c i m (After n)) w h =
    omega (
      arith,
      ap length h.3,
      three_long h.0 h.1 h.2,
      place_few i h.0 h.4,
      mode_one m h.1 h.5,
      number_few n h.2 h.6,
    )
form_short (line_f n b k) w h =
    omega (
      arith,
      ap length h.3,
      three_long h.0 h.1 h.2,
      number_few n h.0 h.4,
      ap length h.5.0,
      number_few k h.2 h.6,
    )
form_short line_v w h = omega (arith, ap length h)
form_short line_bad w h = absurd h

pub long_bad : (w : Bytes) → longest < length w → line_of (split 9 w) ≡ line_bad
long_bad w h = (line_says w line_bad).1 (inr (refl, λ l f. omega (arith, form_short l w f)))

-- so the bytes that are held tell what the line is
pub held_enough : (w : Bytes) → line_of (split 9 (take held_room w)) ≡ line_of (split 9 w)
held_enough w =
    by (nat_le (length w) held_room)
    (λ t. rw (take_all held_room w (leb-true _ _ t)))
    (λ t. let h : held_room < length w = leb-false _ _ t in
    long_bad (take held_room w) (omega (arith, length-take held_room w)) ∙ sym (long_bad w (omega arith)))
