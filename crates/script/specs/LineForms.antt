-- The forms of a line, from the answers of its fields' parsers: what the code goes by.
use Rattle.std.specs.Prelude.{◌≡◌, refl, Option, Some, None, Bool, true, false, cond, ◌&&◌, [], ◌∷◌, ℕ, eqb, ltb, leb}
use Rattle.records.specs.Limits.{place_limit}
use Rattle.basic_laws.specs.Cases.{by}
use Rattle.rules.specs.Types.{Value, Uncut, After}
use Rattle.rules.specs.Replay.{Line, line_b, line_r, line_w, line_l, line_k, line_a, line_c, line_f, line_bad}
use Rattle.rules.specs.Script.{Bytes, is_number, value_of, is, number, place, value, mode, letter, form}
use Rattle.script.specs.Fields.{num_of, place_of, value_in, mode_of, letter_of}

-- go on with what the field says, or the line is bad
abbrev pub on_some : {A : Type 0} → Option A → (A → Line) → Line
on_some (Some x) f = f x
on_some None f = line_bad

-- each kind of field goes by its parser's answer
number_on : (w : Bytes) (f : ℕ → Line) → number w f ≡ on_some (num_of w) f
unfolding num_of
number_on w f = by (is_number w) (λ b. rw b) (λ b. rw b)

place_on : (w : Bytes) (f : ℕ → Line) → place w f ≡ on_some (place_of w) f
unfolding place_of
place_on w f = by (is_number w && ltb (value_of 0 w) place_limit) (λ b. rw b) (λ b. rw b)

value_on : (w : Bytes) (f : Value → Line) → value w f ≡ on_some (value_in w) f
unfolding value_in
value_on w f = by (is 45 w) (λ a. rw a) (λ a. by (is_number w) (λ b. rw (a, b)) (λ b. rw (a, b)))

mode_on : (w : Bytes) (f : Bool → Line) → mode w f ≡ on_some (mode_of w) f
unfolding mode_of
mode_on w f = by (is 117 w) (λ a. rw a) (λ a. by (is 108 w) (λ b. rw (a, b)) (λ b. rw (a, b)))

letter_on : (w : Bytes) (f : ℕ → Line) → letter w f ≡ on_some (letter_of w) f
unfolding letter_of
letter_on [] f = refl
letter_on (b ∷ []) f = by (leb 65 b && leb b 90) (λ a. rw a) (λ a. rw a)
letter_on (b ∷ c ∷ w) f = refl

-- a line that is bad either way
pub bad : (b : Bool) → cond b line_bad line_bad ≡ line_bad
bad true = refl
bad false = refl

-- the forms, field by field
pub one_field : (c : ℕ) (p : Bytes) → form c (p ∷ []) ≡ cond (eqb c 66) (on_some (place_of p) line_b) (cond (eqb c 65) (on_some (place_of p) line_a) line_bad)
one_field c p = λ x. cond (eqb c 66) (place_on p line_b x) (cond (eqb c 65) (place_on p line_a x) line_bad)

pub two_fields : (c : ℕ) (p q : Bytes) → form c (p ∷ q ∷ [])
    ≡ cond (eqb c 82) (on_some (place_of p) (λ i. on_some (num_of q) (line_r i)))
    (cond (eqb c 76) (on_some (place_of p) (λ i. on_some (num_of q) (line_l i)))
    (cond (eqb c 75) (on_some (place_of p) (λ i. on_some (num_of q) (line_k i)))
    (cond (eqb c 67) (on_some (place_of p) (λ i. on_some (mode_of q) (λ m. line_c i m Uncut))) line_bad)))
two_fields c p q = λ x.
    cond (eqb c 82) (place_on p (λ i. number_on q (line_r i) x) x)
    (cond (eqb c 76) (place_on p (λ i. number_on q (line_l i) x) x)
    (cond (eqb c 75) (place_on p (λ i. number_on q (line_k i) x) x)
    (cond (eqb c 67) (place_on p (λ i. mode_on q (λ m. line_c i m Uncut) x) x) line_bad)))

pub commit_fields : (p q : Bytes) → form 67 (p ∷ q ∷ []) ≡ on_some (place_of p) (λ i. on_some (mode_of q) (λ m. line_c i m Uncut))
commit_fields p q = λ x. place_on p (λ i. mode_on q (λ m. line_c i m Uncut) x) x

pub write_fields : (p q r : Bytes) → form 87 (p ∷ q ∷ r ∷ []) ≡ on_some (place_of p) (λ i. on_some (num_of q) (λ n. on_some (value_in r) (line_w i n)))
write_fields p q r = λ x. place_on p (λ i. number_on q (λ n. value_on r (line_w i n) x) x) x

pub cut_fields : (p q r : Bytes)
    → form 67 (p ∷ q ∷ r ∷ []) ≡ on_some (place_of p) (λ i. on_some (mode_of q) (λ m. on_some (num_of r) (λ n. line_c i m (After n))))
cut_fields p q r = λ x. place_on p (λ i. mode_on q (λ m. number_on r (λ n. line_c i m (After n)) x) x) x

pub fault_fields : (p q r : Bytes) → form 70 (p ∷ q ∷ r ∷ []) ≡ on_some (num_of p) (λ n. on_some (letter_of q) (λ l. on_some (num_of r) (line_f n l)))
fault_fields p q r = λ x. number_on p (λ n. letter_on q (λ l. number_on r (line_f n l) x) x) x
