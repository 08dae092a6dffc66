-- "Mornings at a limit", a to h, as one computed table at the real limits, and the replay's example from bytes to bytes.
use Rattle.std.specs.Prelude.{◌≡◌, refl, true, false, List, [], ◌∷◌, ◌++◌, ℕ, get_or}
use Rattle.rules.specs.Types.{Key, Uncut, After}
use Rattle.records.specs.Zero.{empty_store}
use Rattle.rules.specs.Replay.{Line, line_b, line_r, line_w, line_c, line_v, num, dash, Out, says, Desk, desk_of, Turn, start, turn}
use Rattle.rules.specs.Script.{replay_text}
use Rattle.rules.specs.Computing.{computing}

-- the desk after some lines, and what the last one answered
abbrev pub turns : Desk → Out → List Line → Turn
turns d o [] = record { desk = d; out = o }
turns d o (l ∷ ls) = let t = turn l d in turns t.desk t.out ls

unfoldable pub morning : Desk → List Line → Turn
morning d ls = turns d (says 0 (num 0)) ls

-- what the last line of a morning from the empty store answers
unfoldable pub last : List Line → Out
last ls = (morning start ls).out

-- "fresh store, begin, write row 3 key 35"; and committed
unfoldable pub written : List Line
written = line_b 0 ∷ line_w 0 3 (Key 35) ∷ []

unfoldable pub done : List Line
done = written ++ line_c 0 false Uncut ∷ []

-- "commit ..; cut at n, recovery shows": a read of row 3 by a transaction begun after recovery
unfoldable pub shown_after : ℕ → List Line
shown_after n = written ++ line_c 0 false (After n) ∷ line_v ∷ line_b 0 ∷ line_r 0 3 ∷ []

-- "Instead txids 2 and 3 both read it and write; 2 commits, then 3 .."
unfoldable pub late : List Line
late = done ++ line_b 1 ∷ line_b 2 ∷ line_r 1 3 ∷ line_r 2 3 ∷ line_w 1 3 (Key 51) ∷ line_w 2 3 (Key 52) ∷ line_c 1 false Uncut ∷ line_c 2 false Uncut ∷ []

-- a, d, e, g, h: number and stores; b, c: what recovery shows; f: number, and the xmin of the slot that txid 3 took, which was slot 3
unfoldable pub morning_table : List Out
morning_table =
    last done
    ∷ last (shown_after 4)
    ∷ last (shown_after 5)
    ∷ last (done ++ line_b 0 ∷ line_r 0 3 ∷ line_w 0 3 (Key 51) ∷ line_c 0 false Uncut ∷ [])
    ∷ last (done ++ line_b 0 ∷ line_r 0 3 ∷ line_w 0 3 (Key 36) ∷ line_w 0 3 (Key 51) ∷ line_c 0 false Uncut ∷ [])
    ∷ says (last late).number (num (get_or (morning start late).desk.store.xmin 3 0))
    ∷ (morning (desk_of (empty_store true)) (line_b 0 ∷ line_c 0 false Uncut ∷ [])).out
    ∷ (morning (desk_of (empty_store true)) (written ++ line_c 0 false Uncut ∷ [])).out
    ∷ []

pub mornings : morning_table
    ≡ says 0 (num 8)
    ∷ says 0 dash
    ∷ says 0 (num 35)
    ∷ says 0 (num 10)
    ∷ says 0 (num 11)
    ∷ says 7 (num 0)
    ∷ says 0 (num 1)
    ∷ says 8 (num 4)
    ∷ []
unfolding morning last written done shown_after late morning_table computing
mornings = refl

-- the script and the output of "Replay", as bytes
unfoldable pub script : List ℕ
script =
    66 ∷ 9 ∷ 48 ∷ 10 ∷ 87 ∷ 9 ∷ 48 ∷ 9 ∷ 51 ∷ 9 ∷ 51 ∷ 53 ∷ 10 ∷ 67 ∷ 9 ∷ 48 ∷ 9 ∷ 117 ∷ 10 ∷ 66 ∷ 9 ∷ 48 ∷ 10 ∷ 82 ∷ 9 ∷ 48 ∷ 9 ∷ 51 ∷ 10
    ∷ 67 ∷ 9 ∷ 48 ∷ 9 ∷ 108 ∷ 10 ∷ []

unfoldable pub output : List ℕ
output =
    49 ∷ 9 ∷ 48 ∷ 9 ∷ 49 ∷ 10 ∷ 50 ∷ 9 ∷ 48 ∷ 9 ∷ 49 ∷ 10 ∷ 51 ∷ 9 ∷ 48 ∷ 9 ∷ 56 ∷ 10 ∷ 52 ∷ 9 ∷ 48 ∷ 9 ∷ 50 ∷ 10 ∷ 53 ∷ 9 ∷ 48 ∷ 9 ∷ 51 ∷ 53
    ∷ 10 ∷ 54 ∷ 9 ∷ 48 ∷ 9 ∷ 51 ∷ 10 ∷ []

pub example : replay_text script ≡ output
unfolding script output computing
example = refl
