-- "Replay" from bytes to bytes: the script's lines taken apart, and the answers written.
use Rattle.std.specs.Prelude.{Bool, true, false, not, cond, ◌&&◌, List, [], ◌∷◌, map, ℕ, zero, suc, ◌+◌, ◌-◌, ◌*◌, ◌/◌, ◌%◌, eqb, ltb, leb}
use Rattle.records.specs.Limits.{key_end, place_limit, digits64}
use Rattle.rules.specs.Lists.{all}
use Rattle.rules.specs.Types.{Value, Absent, Key, Uncut, After}
use Rattle.rules.specs.Numbers.{More, nothing, cause, test_named, place_named}
use Rattle.rules.specs.Replay.{Line, line_b, line_r, line_w, line_l, line_k, line_a, line_c, line_f, line_v, line_bad, Third, num, dash, Out, replay}

abbrev pub Bytes : Type 0
Bytes = List ℕ

abbrev pub on_first : ℕ → List Bytes → List Bytes
on_first b [] = (b ∷ []) ∷ []
on_first b (w ∷ ws) = (b ∷ w) ∷ ws

-- the parts between the bytes c
abbrev pub split : ℕ → Bytes → List Bytes
split c [] = [] ∷ []
split c (b ∷ bs) = let r = split c bs in cond (eqb b c) ([] ∷ r) (on_first b r)

-- lines end at a line feed; a last line without one counts if it has a byte
abbrev pub lines_in : Bytes → List Bytes
lines_in [] = []
lines_in (b ∷ bs) = let r = lines_in bs in cond (eqb b 10) ([] ∷ r) (on_first b r)

abbrev pub is_digit : ℕ → Bool
is_digit b = leb 48 b && leb b 57

abbrev pub value_of : ℕ → Bytes → ℕ
value_of n [] = n
value_of n (b ∷ bs) = value_of (n * 10 + (b - 48)) bs

-- "Numbers are decimal, without leading zeros, at most 32 bits."
abbrev pub is_number : Bytes → Bool
is_number [] = false
is_number (b ∷ []) = is_digit b
is_number (b ∷ c ∷ w) = all is_digit (b ∷ c ∷ w) && not (eqb b 48) && ltb (value_of 0 (b ∷ c ∷ w)) key_end

-- a field that has to be a number, a place, a value, a mode, a letter; "A line that isn't one of these forms is answered 2"
abbrev pub number : Bytes → (ℕ → Line) → Line
number w f = cond (is_number w) (f (value_of 0 w)) line_bad

abbrev pub place : Bytes → (ℕ → Line) → Line
place w f = cond (is_number w && ltb (value_of 0 w) place_limit) (f (value_of 0 w)) line_bad

abbrev pub is : ℕ → Bytes → Bool
is c [] = false
is c (b ∷ []) = eqb b c
is c (b ∷ d ∷ w) = false

abbrev pub value : Bytes → (Value → Line) → Line
value w f = cond (is 45 w) (f Absent) (number w (λ k. f (Key k)))

abbrev pub mode : Bytes → (Bool → Line) → Line
mode w f = cond (is 117 w) (f false) (cond (is 108 w) (f true) line_bad)

abbrev pub letter : Bytes → (ℕ → Line) → Line
letter [] f = line_bad
letter (b ∷ []) f = cond (leb 65 b && leb b 90) (f b) line_bad
letter (b ∷ c ∷ w) f = line_bad

-- the forms B 66, R 82, W 87, L 76, K 75, A 65, C 67, F 70, V 86, by the number of fields after the letter
abbrev pub form : ℕ → List Bytes → Line
form c [] = cond (eqb c 86) line_v line_bad
form c (p ∷ []) = cond (eqb c 66) (place p line_b) (cond (eqb c 65) (place p line_a) line_bad)
form c (p ∷ q ∷ []) =
    cond (eqb c 82) (place p (λ i. number q (λ r. line_r i r)))
    (cond (eqb c 76) (place p (λ i. number q (λ k. line_l i k)))
    (cond (eqb c 75) (place p (λ i. number q (λ r. line_k i r)))
    (cond (eqb c 67) (place p (λ i. mode q (λ m. line_c i m Uncut))) line_bad)))
form c (p ∷ q ∷ r ∷ []) =
    cond (eqb c 87) (place p (λ i. number q (λ n. value r (λ v. line_w i n v))))
    (cond (eqb c 67) (place p (λ i. mode q (λ m. number r (λ n. line_c i m (After n)))))
    (cond (eqb c 70) (number p (λ n. letter q (λ l. number r (λ k. line_f n l k)))) line_bad))
form c (p ∷ q ∷ r ∷ s ∷ ws) = line_bad

abbrev pub line_of : List Bytes → Line
line_of [] = line_bad
line_of ([] ∷ ws) = line_bad
line_of ((c ∷ []) ∷ ws) = form c ws
line_of ((c ∷ d ∷ w) ∷ ws) = line_bad

unfoldable pub parse : Bytes → List Line
parse bs = map (λ w. line_of (split 9 w)) (lines_in bs)

-- a number in decimal, with what follows it; digits64 hold every 64-bit number
abbrev pub decimal : ℕ → ℕ → Bytes → Bytes
decimal zero n rest = rest
decimal (suc f) n rest = let r = (48 + n % 10) ∷ rest in elim (ltb n 10) [ true ↦ r | false ↦ decimal f (n / 10) r ]

abbrev pub third : Third → Bytes → Bytes
third (num n) rest = decimal digits64 n rest
third dash rest = 45 ∷ rest

abbrev pub more : More → Bytes → Bytes
more nothing rest = rest
more (cause c) rest = 9 ∷ decimal digits64 (test_named c) (9 ∷ decimal digits64 (place_named c) rest)

-- "Output: line number, number, then .."
abbrev pub write : ℕ → List Out → Bytes
write n [] = []
write n (o ∷ os) = let rest = write (suc n) os in decimal digits64 n (9 ∷ decimal digits64 o.number (9 ∷ third o.third (more o.more (10 ∷ rest))))

unfoldable pub replay_text : Bytes → Bytes
replay_text bs = write 1 (replay (parse bs))
