-- What the parsers of a field answer, by the tests and values of document 01's definitions.
use Rattle.std.specs.Prelude.{Bool, Option, Some, None, true, false, cond, ◌&&◌, [], ◌∷◌, ℕ, ◌+◌, ◌-◌, ◌*◌, ltb, leb}
use Rattle.records.specs.Limits.{key_end, place_limit}
use Rattle.rules.specs.Types.{Value, Absent, Key}
use Rattle.rules.specs.Script.{Bytes, is_digit, is_number, value_of, is}

-- a number, a place, a value, a mode, a letter
unfoldable pub num_of : Bytes → Option ℕ
num_of w = cond (is_number w) (Some (value_of 0 w)) None

unfoldable pub place_of : Bytes → Option ℕ
place_of w = cond (is_number w && ltb (value_of 0 w) place_limit) (Some (value_of 0 w)) None

unfoldable pub value_in : Bytes → Option Value
value_in w = cond (is 45 w) (Some Absent) (cond (is_number w) (Some (Key (value_of 0 w))) None)

unfoldable pub mode_of : Bytes → Option Bool
mode_of w = cond (is 117 w) (Some false) (cond (is 108 w) (Some true) None)

unfoldable pub letter_of : Bytes → Option ℕ
letter_of [] = None
letter_of (b ∷ []) = cond (leb 65 b && leb b 90) (Some b) None
letter_of (b ∷ c ∷ w) = None

-- the digits that are left, after those that make v; the first byte that is no digit or makes too much ends it
unfoldable pub num_from : ℕ → Bytes → Option ℕ
num_from v [] = Some v
num_from v (b ∷ bs) =
    let r = num_from (v * 10 + (b - 48)) bs in cond (is_digit b && ltb (v * 10 + (b - 48)) key_end) r None
