-- Document 02, wish 4, computed: what commits that answer 7 tell, each from a whole script.
use Rattle.std.specs.Prelude.{◌≡◌, refl, false, List, [], ◌∷◌, ◌++◌, ℕ}
use Rattle.records.specs.Zero.{no_faults}
use Rattle.rules.specs.Lists.{flat}
use Rattle.rules.specs.Types.{Schedule, Key, Uncut, Closed, Cause, BusyGuard, IndexReadAt, RowLockAt, SerializationAt, WriteBaseAt}
use Rattle.rules.specs.Faults.{F, B}
use Rattle.rules.specs.Numbers.{cause}
use Rattle.rules.specs.Replay.{Line, line_b, line_r, line_w, line_l, line_k, line_c, line_f, num, Out, with_fault, says}
use Rattle.rules.specs.Script.{Bytes, replay_text}
use Rattle.rules.specs.Computing.{computing}
use Rattle.mornings.specs.Mornings.{morning, last, written, done}
use Rattle.statements.specs.Words.{Quiet}
use Rattle.statements.specs.CauseWords.{First, BusyFirst}
use Rattle.demands.specs.Exhibits.{store_of, tx_of}
use Rattle.demands.specs.Causes.{busy_told, test_told}

-- place 0 commits last
abbrev stopped : List Line → Out
stopped ls = last (ls ++ line_c 0 false Uncut ∷ [])

-- and is answered 7 with this cause, after so many stores
abbrev tells : Cause → ℕ → Out
tells c stores = record { number = 7; third = num stores; more = cause c }

-- place 1 writes and commits while place 0 is open
abbrev quicker : ℕ → ℕ → List Line
quicker r k = line_b 1 ∷ line_w 1 r (Key k) ∷ line_c 1 false Uncut ∷ []

-- 11: minute 35 is looked up after another has committed it, which sets index_conflict; 35 and 36 are looked up, and then 36 changes, of the second stripe
unfoldable pub unseen : List Line
unseen = line_b 0 ∷ quicker 3 35 ++ line_l 0 35 ∷ []

unfoldable pub two_stripes : List Line
two_stripes = line_b 0 ∷ line_l 0 35 ∷ line_l 0 36 ∷ quicker 5 36

-- 12: of the rows 4 and 3, another locks 3
unfoldable pub second_locked : List Line
second_locked = done ++ line_b 0 ∷ line_w 0 4 (Key 36) ∷ line_w 0 3 (Key 51) ∷ line_b 1 ∷ line_k 1 3 ∷ []

-- 13: row 5 is read as absent and stays so, row 3 is read and then overtaken
unfoldable pub second_stale : List Line
second_stale = done ++ line_b 0 ∷ line_r 0 5 ∷ line_r 0 3 ∷ quicker 3 52

-- 14: rows 5, 5, 6 are written, and another's commit moves the head of 6; rows 5, 6, 5 are, and it moves that of 5
unfoldable pub third_moved : List Line
third_moved = line_b 0 ∷ line_w 0 5 (Key 35) ∷ line_w 0 5 (Key 36) ∷ line_w 0 6 (Key 37) ∷ quicker 6 38

unfoldable pub last_moved : List Line
last_moved = line_b 0 ∷ line_w 0 5 (Key 35) ∷ line_w 0 6 (Key 37) ∷ line_w 0 5 (Key 36) ∷ quicker 5 38

-- one test and one place: 11 before the read of row 3, which is stale too; the second of two index reads, of two writes, of two reads; of the writes
-- the place in the whole list (among the final writes it would be 1) and of a final one (the first write of row 5 has the same base)
pub told_so :
    stopped unseen ∷ stopped two_stripes ∷ stopped second_locked ∷ stopped second_stale ∷ stopped third_moved ∷ stopped last_moved ∷ []
    ≡ tells (IndexReadAt 0) 5
    ∷ tells (IndexReadAt 2) 5
    ∷ tells (RowLockAt 1) 11
    ∷ tells (SerializationAt 1) 5
    ∷ tells (WriteBaseAt 2) 12
    ∷ tells (WriteBaseAt 2) 12
    ∷ []
unfolding morning last written done unseen two_stripes second_locked second_stale third_moved last_moved computing
told_so = refl

-- busy at 7, at 8, and where a test would say yes; F at 7 before B at 8: a 4 tells nothing
pub busy_so :
    stopped (written ++ line_f 7 B 0 ∷ [])
    ∷ stopped (written ++ line_f 8 B 0 ∷ [])
    ∷ stopped (third_moved ++ line_f 8 B 0 ∷ [])
    ∷ stopped (written ++ line_f 7 F 0 ∷ line_f 8 B 0 ∷ [])
    ∷ []
    ≡ tells BusyGuard 2 ∷ tells BusyGuard 4 ∷ tells BusyGuard 8 ∷ says 4 (num 0) ∷ []
unfolding morning last written third_moved computing
busy_so = refl

-- F at 23: the abort failed, and the 7 still names its test and place, or the busy guard; the store is poisoned, so that the next begin is answered 9
pub unaborted_so :
    stopped (third_moved ++ line_f 23 F 0 ∷ [])
    ∷ stopped (written ++ line_f 7 B 0 ∷ line_f 23 F 0 ∷ [])
    ∷ last (third_moved ++ line_f 23 F 0 ∷ line_c 0 false Uncut ∷ line_b 2 ∷ [])
    ∷ []
    ≡ tells (WriteBaseAt 2) 9 ∷ tells BusyGuard 1 ∷ says 9 (num 0) ∷ []
unfolding morning last written third_moved computing
unaborted_so = refl

-- the premises of `test_told` and `busy_told` are met by such mornings, and the words hold of them
pub quiet_so : Quiet (store_of third_moved) (tx_of third_moved) false no_faults
unfolding morning third_moved computing
quiet_so = record { ok = record { rests = refl; fits = refl; planned = refl; active = refl }; faultless = refl; sound = refl; free = refl }

pub first_so : First (store_of third_moved) (tx_of third_moved) 14 2
unfolding morning third_moved computing
first_so = (test_told (store_of third_moved) (tx_of third_moved) false no_faults quiet_so 14 2).0 (WriteBaseAt 2, Closed, refl, refl, refl)

abbrev busy_plan : Schedule
busy_plan = with_fault (record { step = 8; letter = B; k = 0 }) no_faults

pub busy_first_so : BusyFirst (store_of written) (tx_of written) false busy_plan
unfolding morning written computing
busy_first_so =
    (busy_told (store_of written) (tx_of written) false busy_plan (record { rests = refl; fits = refl; planned = refl; active = refl })).0
    (BusyGuard, Closed, refl, refl, refl)

-- "the test as a fourth field and the place as a fifth, on 7 only", from bytes to bytes: a line and its answer
unfoldable pub cause_table : List (Bytes × Bytes)
cause_table =
    (66 ∷ 9 ∷ 48 ∷ [], 49 ∷ 9 ∷ 48 ∷ 9 ∷ 49 ∷ [])  -- B 0: 1 0 1
    ∷ (87 ∷ 9 ∷ 48 ∷ 9 ∷ 53 ∷ 9 ∷ 51 ∷ 53 ∷ [], 50 ∷ 9 ∷ 48 ∷ 9 ∷ 49 ∷ [])  -- W 0 5 35: 2 0 1
    ∷ (87 ∷ 9 ∷ 48 ∷ 9 ∷ 53 ∷ 9 ∷ 51 ∷ 54 ∷ [], 51 ∷ 9 ∷ 48 ∷ 9 ∷ 50 ∷ [])  -- W 0 5 36: 3 0 2
    ∷ (87 ∷ 9 ∷ 48 ∷ 9 ∷ 54 ∷ 9 ∷ 51 ∷ 55 ∷ [], 52 ∷ 9 ∷ 48 ∷ 9 ∷ 51 ∷ [])  -- W 0 6 37: 4 0 3
    ∷ (66 ∷ 9 ∷ 49 ∷ [], 53 ∷ 9 ∷ 48 ∷ 9 ∷ 50 ∷ [])  -- B 1: 5 0 2
    ∷ (87 ∷ 9 ∷ 49 ∷ 9 ∷ 54 ∷ 9 ∷ 51 ∷ 56 ∷ [], 54 ∷ 9 ∷ 48 ∷ 9 ∷ 52 ∷ [])  -- W 1 6 38: 6 0 4
    ∷ (67 ∷ 9 ∷ 49 ∷ 9 ∷ 108 ∷ [], 55 ∷ 9 ∷ 48 ∷ 9 ∷ 56 ∷ [])  -- C 1 l: 7 0 8
    ∷ (67 ∷ 9 ∷ 48 ∷ 9 ∷ 108 ∷ [], 56 ∷ 9 ∷ 55 ∷ 9 ∷ 49 ∷ 50 ∷ 9 ∷ 49 ∷ 52 ∷ 9 ∷ 50 ∷ [])  -- C 0 l: 8 7 12 14 2
    ∷ (66 ∷ 9 ∷ 48 ∷ [], 57 ∷ 9 ∷ 48 ∷ 9 ∷ 51 ∷ [])  -- B 0: 9 0 3
    ∷ (70 ∷ 9 ∷ 55 ∷ 9 ∷ 66 ∷ 9 ∷ 48 ∷ [], 49 ∷ 48 ∷ 9 ∷ 48 ∷ 9 ∷ 48 ∷ [])  -- F 7 B 0: 10 0 0
    ∷ (67 ∷ 9 ∷ 48 ∷ 9 ∷ 108 ∷ [], 49 ∷ 49 ∷ 9 ∷ 55 ∷ 9 ∷ 49 ∷ 9 ∷ 48 ∷ 9 ∷ 48 ∷ [])  -- C 0 l: 11 7 1 0 0
    ∷ (67 ∷ 9 ∷ 48 ∷ 9 ∷ 108 ∷ [], 49 ∷ 50 ∷ 9 ∷ 51 ∷ 9 ∷ 48 ∷ [])  -- C 0 l: 12 3 0
    ∷ []

unfoldable pub cause_script : Bytes
cause_script = flat (λ r. r.0 ++ 10 ∷ []) cause_table

unfoldable pub cause_answers : Bytes
cause_answers = flat (λ r. r.1 ++ 10 ∷ []) cause_table

pub cause_table_law : replay_text cause_script ≡ cause_answers
unfolding cause_table cause_script cause_answers computing
cause_table_law = refl
