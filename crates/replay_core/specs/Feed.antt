-- A script fed in parts: what each byte does, and what is answered where a line ends.
use Rattle.std.specs.Prelude.{◌≡◌, ℕ, suc, ◌+◌, ◌%◌, ◌^◌, ◌<◌, ◌≤◌, cond, List, [], ◌∷◌, ◌++◌, length, take, drop, ◌==◌, nat_le}
use Rattle.records.specs.Limits.{place_digits, digits32}
use Rattle.rules.specs.Replay.{Desk, start, turn}
use Rattle.rules.specs.Script.{Bytes, split, line_of, write}
use Rattle.script.specs.Print.{room}
use Rattle.replay_core.specs.declared.held.Held.{Held}
use Rattle.replay_core.specs.declared.feed.Replay.{Replay}
use Rattle.replay_core.specs.declared.feed.Fed.{Fed}

-- a replay under way: the desk, the first bytes of the line under way, how many lines were answered
pub record Reading : Type 0 where
  pub desk : Desk
  pub held : Bytes
  pub lines : ℕ

-- what bytes of a script leave, and what they are answered
pub record Part : Type 0 where
  pub state : Reading
  pub answers : Bytes

-- "W place row key" is the longest form: a letter, and three fields, each after a tab
abbrev pub longest : ℕ
longest = 1 + (1 + place_digits) + (1 + digits32) + (1 + digits32)

-- no form has so many bytes, so a longer line is as bad as its beginning
abbrev pub held_room : ℕ
held_room = suc longest

-- an answer line has at most so many bytes
abbrev pub answer_room : ℕ
answer_room = room

-- line numbers have 64 bits
abbrev pub next_line : ℕ → ℕ
next_line n = (n + 1) % 2 ^ 64

-- a line feed ends the line under way, and it is answered
unfoldable pub line_end : Reading → Part
line_end s =
    let t = turn (line_of (split 9 s.held)) s.desk in
    let n = next_line s.lines in
    record { state = record { desk = t.desk; held = []; lines = n }; answers = write n (t.out ∷ []) }

-- any other byte goes onto it while there is room
unfoldable pub with_byte : ℕ → Reading → Reading
with_byte b s = record { desk = s.desk; held = take held_room (s.held ++ b ∷ []); lines = s.lines }

unfoldable pub fed_byte : ℕ → Reading → Part
fed_byte b s = cond (b == 10) (line_end s) (record { state = with_byte b s; answers = [] })

unfoldable pub fed : Bytes → Reading → Part
fed [] s = record { state = s; answers = [] }
fed (b ∷ bs) s =
    let p = fed_byte b s in
    let q = fed bs p.state in
    record { state = q.state; answers = p.answers ++ q.answers }

-- "a last line without one counts if it has a byte"
unfoldable pub ended : Reading → Bytes
ended s = cond (length s.held == 0) [] (line_end s).answers

-- parts fed one after the other, to the end
abbrev pub fed_all : List Bytes → Reading → Bytes
fed_all [] s = ended s
fed_all (p ∷ ps) s = let q = fed p s in q.answers ++ fed_all ps q.state

unfoldable pub first : Reading
first = record { desk = start; held = []; lines = 0 }

-- what the code's values mean
abbrev pub held_in : Held → Bytes
held_in h = take h.count h.bytes

abbrev pub reading : Replay → Reading
reading r = record { desk = record { store = r.store; txs = r.txs; plan = r.plan }; held = held_in r.held; lines = r.lines }

-- the first n bytes of an array, which has them
pub record Counted (n : ℕ) (out : Bytes) : Type 0 where
  pub there : n ≤ length out
  pub many : n ≡ length (take n out)

-- bytes of a part were taken, each with room for one more answer, and no byte is left that has it; behind the answers nothing is written
pub record Feeds (s : Reading) (part out after : Bytes) (f : Fed) : Type 0 where
  pub within : f.taken ≤ length part
  pub fits : Counted f.count after
  pub state : reading f.replay ≡ (fed (take f.taken part) s).state
  pub answers : take f.count after ≡ (fed (take f.taken part) s).answers
  pub rest : drop f.count after ≡ drop f.count out
  pub room : (i : ℕ) → i < f.taken → length (fed (take i part) s).answers + answer_room ≤ length after
  pub all : f.count + answer_room ≤ length after → f.taken ≡ length part

-- what the end is answered where there is room for so many bytes
unfoldable pub ended_in : ℕ → Reading → Bytes
ended_in n s = cond (nat_le answer_room n) (ended s) []

pub record Finishes (s : Reading) (out after : Bytes) (n : ℕ) : Type 0 where
  pub fits : Counted n after
  pub answers : take n after ≡ ended_in (length after) s
  pub rest : drop n after ≡ drop n out
