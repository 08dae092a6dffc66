-- The room that the answers to a script take, and what a replay into a buffer leaves in it.
use Rattle.std.specs.Prelude.{◌≡◌, ℕ, suc, ◌+◌, ◌-◌, ◌*◌, ◌^◌, ◌≤◌, cond, [], ◌∷◌, length, take, drop, ◌==◌, nat_le}
use Rattle.rules.specs.Script.{Bytes, replay_text}
use Rattle.replay_core.specs.Feed.{answer_room}

unfoldable pub line_feeds : Bytes → ℕ
line_feeds [] = 0
line_feeds (b ∷ bs) = cond (b == 10) (suc (line_feeds bs)) (line_feeds bs)

-- answer_room bytes for each line: a line feed ends one, and a last one may have none
abbrev pub room_for : Bytes → ℕ
room_for s = (line_feeds s + 1) * answer_room

-- no buffer has so many bytes
abbrev pub most : ℕ
most = 2 ^ 64 - 1

unfoldable pub room_in : Bytes → ℕ
room_in s = cond (nat_le (room_for s) most) (room_for s) most

-- the answers to a script, or nothing where a buffer of n bytes has no room for them
unfoldable pub answers_in : ℕ → Bytes → Bytes
answers_in n s = cond (nat_le (room_for s) n) (replay_text s) []

pub record Replayed (script out after : Bytes) (r : ℕ) : Type 0 where
  pub inside : r ≤ length after
  pub answers : take r after ≡ answers_in (length after) script
  pub rest : drop r after ≡ drop r out
