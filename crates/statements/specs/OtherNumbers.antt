-- "Numbers seen" for the calls beside commit: when each call gives which of 1, 2, 3, 9, 21 to 28 and 31, and with which fate.
use Rattle.std.specs.Prelude.{Bool, not, List, [], ◌∷◌, ◌++◌, ℕ, length, get_or, eqb, ltb, leb}
use Rattle.records.specs.Limits.{rows, active_limit, write_limit, read_limit, clock_end, last_minute}
use Rattle.rules.specs.Lists.{memb}
use Rattle.rules.specs.Types.{Store, Tx, Value, Open, Closed}
use Rattle.rules.specs.Types.{NotResting, Unfit, NotActive, FoundPoisoned, ActiveFull, ClockAtEnd}
use Rattle.rules.specs.Types.{RowTooHigh, ReadsFull, WritesFull, SlotsFull, LockedByAnother, NoHead, ImpossibleMinute}
use Rattle.rules.specs.Store.{active_txids}
use Rattle.rules.specs.Transaction.{reads_of}
use Rattle.rules.specs.Admitted.{resting}
use Rattle.rules.specs.Fit.{fit}
use Rattle.rules.specs.Calls.{record_read, lowest_free, candidates, record_reads, locked_by_another}
use Rattle.statements.specs.StoreWords.{stored_key}
use Rattle.statements.specs.Table.{Line, line}

-- "1, 2, 3": "store not resting; transaction .. unfit; txid not active"; closed for 3, else open
abbrev pub first_lines : Store → Tx → List Line
first_lines S x =
    line 1 (NotResting Open) (not (resting S))
    ∷ line 2 (Unfit Open) (not (fit S x))
    ∷ line 3 (NotActive Closed) (not (memb x.txid.0 (active_txids S.active)))
    ∷ []

-- "Others: 1, 2, 3, 9, then ..": "poisoned"
abbrev pub healthy_lines : Store → Tx → List Line → List Line
healthy_lines S x more = first_lines S x ++ line 9 (FoundPoisoned Open) S.poisoned ∷ more

-- "begin 1, 9, 21, 22": "begin: 16 active; begin: clock at its largest"
abbrev pub begin_lines : Store → List Line
begin_lines S =
    line 1 (NotResting Open) (not (resting S))
    ∷ line 9 (FoundPoisoned Open) S.poisoned
    ∷ line 21 (ActiveFull Open) (leb active_limit (length (active_txids S.active)))
    ∷ line 22 (ClockAtEnd Open) (leb clock_end S.clock)
    ∷ []

-- a row over the last; "no room for a new read"; when there is none, in words: `ReadTooMany` (ReadWords), by `read_full` (call_laws)
abbrev pub read_lines : Store → Tx → ℕ → List Line
read_lines S x r = healthy_lines S x (
    line 23 (RowTooHigh Open) (leb rows r)
    ∷ line 24 (ReadsFull Open) (ltb read_limit (length (record_read S x r (reads_of x))))
    ∷ [])

-- a row over the last; "writes full; no free slot"; between them document 02's wish 7: "a larger key is refused with 31, after 25 and before the
-- search for a slot"
abbrev pub write_lines_of : Store → Tx → ℕ → Bool → List Line
write_lines_of S x r larger = healthy_lines S x (
    line 23 (RowTooHigh Open) (leb rows r)
    ∷ line 25 (WritesFull Open) (leb write_limit x.write_count)
    ∷ line 31 (ImpossibleMinute Open) larger
    ∷ line 26 (SlotsFull Open) (eqb (lowest_free S.xmin) 0)
    ∷ [])

-- larger than the last minute; an absent key is stored as 0
abbrev pub write_lines : Store → Tx → ℕ → Value → List Line
write_lines S x r v = write_lines_of S x r (ltb last_minute (stored_key v))

-- wish 7: "Lookup of such a key gets the same number, after 9"; "24 if they don't all fit"; in words: `LookupTooMany` (ReadWords), by `lookup_full`
-- (call_laws)
abbrev pub lookup_lines : Store → Tx → ℕ → List Line
lookup_lines S x k = healthy_lines S x (
    line 31 (ImpossibleMinute Open) (ltb last_minute k)
    ∷ line 24 (ReadsFull Open) (ltb read_limit (length (record_reads S x (candidates S x k) (reads_of x))))
    ∷ [])

-- "for a row lock only: locked by another, no head"
abbrev pub row_lock_lines : Store → Tx → ℕ → List Line
row_lock_lines S x r = healthy_lines S x (
    line 23 (RowTooHigh Open) (leb rows r)
    ∷ line 27 (LockedByAnother Open) (locked_by_another S x.txid.0 (get_or S.heads r 0))
    ∷ line 28 (NoHead Open) (eqb (get_or S.heads r 0) 0)
    ∷ [])
