-- The gates of commit: their names and their table. A gate's number is its place in the table.
use Rattle.std.specs.Prelude.{◌≡◌, refl, Bool, true, false, List, [], ◌∷◌, ℕ, zero, suc, ◌<◌, length, get_or}
use Rattle.std.proofs.Common.{not-suc-le-zero, le_of_suc-le-suc}
use Rattle.steps.specs.declared.gate.Row.{Row}
use Rattle.steps.specs.declared.gate.Left.{Left}
use Rattle.steps.specs.declared.gate.Left.TheVariants.{All, ByAbort, NoAccesses, NoWrites, Emptied}

-- the gates that are asked for by name: those where a step fails, and not those after them where its second test ends the run
abbrev pub changes_failed : ℕ
changes_failed = 0

abbrev pub lock_keys_failed : ℕ
lock_keys_failed = 1

abbrev pub record_failed : ℕ
record_failed = 2

abbrev pub prepare_failed : ℕ
prepare_failed = 3

abbrev pub index_guards_failed : ℕ
index_guards_failed = 5

abbrev pub partition_guards_failed : ℕ
partition_guards_failed = 7

abbrev pub unlogged_check_failed : ℕ
unlogged_check_failed = 9

abbrev pub found_poison : ℕ
found_poison = 11

abbrev pub index_reads_failed : ℕ
index_reads_failed = 12

abbrev pub row_locks_failed : ℕ
row_locks_failed = 14

abbrev pub serialization_failed : ℕ
serialization_failed = 16

abbrev pub write_base_failed : ℕ
write_base_failed = 18

abbrev pub insert_failed : ℕ
insert_failed = 20

abbrev pub callback_ended : ℕ
callback_ended = 21

abbrev pub remove_failed : ℕ
remove_failed = 22

abbrev pub publish_failed : ℕ
publish_failed = 23

abbrev pub recycle_failed : ℕ
recycle_failed = 24

abbrev pub finish_failed : ℕ
finish_failed = 25

abbrev pub stamp_failed : ℕ
stamp_failed = 26

-- it leaves what an abort leaves
abbrev pub is_by_abort : Left → Bool
is_by_abort ByAbort = true
is_by_abort All = false
is_by_abort NoAccesses = false
is_by_abort NoWrites = false
is_by_abort Emptied = false

abbrev row : ℕ → ℕ → Left → Row
row number passed left = record { 0 = number; 1 = passed; 2 = left }

-- the number that each gate answers if cleaning up works (a callback's panic, 12, shares its gate with 11), the steps passed before it, what it leaves
abbrev pub gate_table : List Row
gate_table =
    row 4 2 All  -- changes_failed
    ∷ row 4 3 All  -- lock_keys_failed
    ∷ row 5 4 ByAbort  -- record_failed
    ∷ row 5 5 ByAbort  -- prepare_failed
    ∷ row 6 5 ByAbort  -- preparePanicked
    ∷ row 4 6 All  -- index_guards_failed
    ∷ row 7 6 ByAbort  -- indexGuardsBusy
    ∷ row 4 7 All  -- partition_guards_failed
    ∷ row 7 7 ByAbort  -- partitionGuardsBusy
    ∷ row 4 8 All  -- unlogged_check_failed
    ∷ row 8 8 All  -- durablyBound
    ∷ row 9 9 ByAbort  -- found_poison
    ∷ row 4 10 All  -- index_reads_failed
    ∷ row 7 10 ByAbort  -- indexReadsConflict
    ∷ row 4 11 All  -- row_locks_failed
    ∷ row 7 11 ByAbort  -- rowLocksConflict
    ∷ row 4 12 All  -- serialization_failed
    ∷ row 7 12 ByAbort  -- serialization_conflict
    ∷ row 4 13 All  -- write_base_failed
    ∷ row 7 13 ByAbort  -- write_base_conflict
    ∷ row 10 14 All  -- insert_failed
    ∷ row 11 15 ByAbort  -- callback_ended
    ∷ row 13 16 All  -- remove_failed
    ∷ row 14 17 NoAccesses  -- publish_failed
    ∷ row 15 18 NoWrites  -- recycle_failed
    ∷ row 16 20 Emptied  -- finish_failed
    ∷ row 17 21 Emptied  -- stamp_failed
    ∷ []

-- the row of the run that passes them all, which comes after the last
abbrev pub clean_row : Row
clean_row = row 0 23 Emptied

-- there are as many gates as rows, and the clean run's place is after them
abbrev pub clean_gate : ℕ
clean_gate = length gate_table

unfoldable pub row_at : ℕ → Row
row_at g = get_or gate_table g clean_row

abbrev pub number_at : ℕ → ℕ
number_at g = (row_at g).0

abbrev pub passed_at : ℕ → ℕ
passed_at g = (row_at g).1

abbrev pub left_at : ℕ → Left
left_at g = (row_at g).2

-- within a list it does not matter what is read past its end
pub within {ℓ} : {A : Type ℓ} (l : List A) (i : ℕ) (d e : A) → i < length l → get_or l i d ≡ get_or l i e
within [] i d e h = absurd (not-suc-le-zero h)
within (x ∷ l) zero d e h = refl
within (x ∷ l) (suc i) d e h = within l i d e (le_of_suc-le-suc h)
