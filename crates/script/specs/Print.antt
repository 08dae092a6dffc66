-- What an answer line's bytes are.
use Rattle.script.specs.declared.print.Text.{Text}
use Rattle.std.specs.Prelude.{◌≡◌, Option, Some, None, [], ◌∷◌, ℕ, ◌+◌, ◌*◌, ◌≤◌, length, drop}
use Rattle.records.specs.Limits.{digits64}
use Rattle.rules.specs.Types as types
use Rattle.rules.specs.Numbers.{nothing, cause, test_named, place_named}
use Rattle.rules.specs.Numbers as numbers
use Rattle.rules.specs.Replay.{num, dash, Out}
use Rattle.rules.specs.Replay as replay
use Rattle.rules.specs.Script.{Bytes, decimal, write}

-- what a 64-bit number takes
abbrev pub digits : ℕ
digits = digits64

-- a number's digits, before what follows; shut, since a goal would show every step
unfoldable pub in_decimal : ℕ → Bytes → Bytes
in_decimal n rest = decimal digits n rest

-- the third field, before what follows
abbrev pub third_text : replay.Third → Bytes → Bytes
third_text (num n) rest = in_decimal n rest
third_text dash rest = 45 ∷ rest

-- the test and the place, each after a tab, before what follows
abbrev pub cause_text : types.Cause → Bytes → Bytes
cause_text c rest = 9 ∷ in_decimal (test_named c) (9 ∷ in_decimal (place_named c) rest)

abbrev pub more_text : numbers.More → Bytes → Bytes
more_text nothing rest = rest
more_text (cause c) rest = cause_text c rest

-- two numbers and two tabs
abbrev pub cause_room : ℕ
cause_room = 2 * (digits + 1)

-- the bytes of a `Text`: five numbers, four tabs and a line feed
abbrev pub room : ℕ
room = 5 * (digits + 1)

-- what the code's third field and what follows it mean
abbrev pub third_of : Option ℕ → replay.Third
third_of (Some n) = num n
third_of None = dash

abbrev pub more_of : Option types.Cause → numbers.More
more_of (Some c) = cause c
more_of None = nothing

-- an answer from its parts
abbrev pub tells : ℕ → replay.Third → numbers.More → Out
tells n t m = record { number = n; third = t; more = m }

-- at most k bytes are put before the text that was there
pub record Put (k : ℕ) (before : Bytes → Bytes) (old new : Text) : Type 0 where
  pub full : length new.bytes ≡ room
  pub many : old.start ≤ new.start + k
  pub inside : new.start ≤ old.start
  pub text : drop new.start new.bytes ≡ before (drop old.start old.bytes)

-- from start on, the bytes are what the definitions write for this one answer
pub record Printed (line number : ℕ) (t : replay.Third) (m : numbers.More) (bytes : Bytes) (start : ℕ) : Type 0 where
  pub full : length bytes ≡ room
  pub inside : start ≤ room
  pub text : drop start bytes ≡ write line (tells number t m ∷ [])
