-- Document 02, wish 2, computed: that morning, what is recorded of an absent row, and where test 13 says yes.
use Rattle.std.specs.Prelude.{◌≡◌, refl, Bool, true, false, List, [], ◌∷◌, ◌++◌, map, ℕ, zero, suc, ◌-◌}
use Rattle.std.proofs.Common.{arith}
use Rattle.records.specs.Limits.{rows, slots, read_limit}
use Rattle.records.specs.Zero.{no_faults}
use Rattle.rules.specs.Types.{Store, Tx, ReadRecord, Uncut, Key}
use Rattle.rules.specs.Transaction.{reads_of, with_reads}
use Rattle.rules.specs.Fit.{fit}
use Rattle.rules.specs.Numbers.{number_of}
use Rattle.rules.specs.Calls.{read}
use Rattle.rules.specs.Tests.{read_conflict}
use Rattle.rules.specs.Replay.{Line, line_b, line_r, line_w, line_l, line_c, start, tx_at}
use Rattle.rules.specs.Computing.{computing}
use Rattle.mornings.specs.Mornings.{morning, written, done}
use Rattle.statements.specs.Words.{Quiet}
use Rattle.statements.specs.ReadWords.{read_of}
use Rattle.statements.specs.AbsentWords.{ReadAsAbsent, WritesRow, TwoOpen}
use Rattle.demands.specs.Exhibits.{store_of, tx_of, last_number, Meets, meets}

-- THAT MORNING

-- two forecasters find rows 5 and 6 absent, and each adds a slack at minute 512, in a row of their own
unfoldable pub checked : List Line
checked =
    line_b 0 ∷ line_b 1 ∷ line_r 0 5 ∷ line_r 0 6 ∷ line_r 1 5 ∷ line_r 1 6 ∷ line_w 0 5 (Key 512) ∷ line_w 1 6 (Key 512) ∷ []

-- or both find row 7 absent and add it
unfoldable pub added : List Line
added = line_b 0 ∷ line_b 1 ∷ line_r 0 7 ∷ line_r 1 7 ∷ line_w 0 7 (Key 512) ∷ line_w 1 7 (Key 512) ∷ []

-- what they are answered, first and second
abbrev in_turn : List Line → ℕ → ℕ → List ℕ
in_turn ls i j = last_number (ls ++ line_c i true Uncut ∷ []) ∷ last_number (ls ++ line_c i true Uncut ∷ line_c j true Uncut ∷ []) ∷ []

pub that_morning : in_turn checked 0 1 ∷ in_turn checked 1 0 ∷ in_turn added 0 1 ∷ in_turn added 1 0 ∷ []
    ≡ (0 ∷ 7 ∷ []) ∷ (0 ∷ 7 ∷ []) ∷ (0 ∷ 7 ∷ []) ∷ (0 ∷ 7 ∷ []) ∷ []
unfolding morning checked added computing
that_morning = refl

-- the premises of `both_added` are met by it
abbrev second_of : List Line → Tx
second_of ls = tx_at (morning start ls).desk 1

quietly : (S : Store) (x : Tx) → Meets S x → S.poisoned ≡ false → Quiet S x true no_faults
unfolding computing
quietly S x M h = record { ok = M.ok; faultless = refl; sound = h; free = refl }

pub two_open : TwoOpen (store_of added) (tx_of added) (second_of added) true true no_faults no_faults
unfolding morning added computing
two_open =
    let M = meets (store_of added) (tx_of added) refl refl refl refl refl refl in
    let N = meets (store_of added) (second_of added) refl refl refl refl refl refl in
    record {
      sized = M.sized;
      keyed = M.keyed;
      one = quietly (store_of added) (tx_of added) M refl;
      other = quietly (store_of added) (second_of added) N refl;
      apart = λ e. omega (arith, e);
    }

pub both_premises : ReadAsAbsent (tx_of added) 7 × ReadAsAbsent (second_of added) 7 × WritesRow (tx_of added) 7 × WritesRow (second_of added) 7
unfolding morning added computing
both_premises = (refl, refl, refl, refl)

-- WHAT IS RECORDED

-- the reads of place 0's transaction: row, pointer, xmin
abbrev recorded : List Line → List (ℕ × ℕ × ℕ)
recorded ls = map (λ e. (e.row.0, e.ptr.0, e.xmin.0)) (reads_of (tx_of ls))

-- place 1's transaction commits row 7 at minute 512 after place 0's has begun, so that row 7 has a head and is absent for place 0
abbrev later : List Line
later = line_b 0 ∷ line_b 1 ∷ line_w 1 7 (Key 512) ∷ line_c 1 true Uncut ∷ []

-- an absent row; read twice; two of them; an own write; before and after it; with a head; as a lookup's candidate; a row with a version
pub recorded_so :
    recorded (line_b 0 ∷ line_r 0 7 ∷ [])
    ∷ recorded (line_b 0 ∷ line_r 0 7 ∷ line_r 0 7 ∷ [])
    ∷ recorded (line_b 0 ∷ line_r 0 7 ∷ line_r 0 8 ∷ line_r 0 7 ∷ [])
    ∷ recorded (line_b 0 ∷ line_w 0 7 (Key 512) ∷ line_r 0 7 ∷ line_l 0 512 ∷ [])
    ∷ recorded (line_b 0 ∷ line_r 0 7 ∷ line_w 0 7 (Key 512) ∷ line_r 0 7 ∷ [])
    ∷ recorded (later ++ line_r 0 7 ∷ [])
    ∷ recorded (later ++ line_l 0 512 ∷ [])
    ∷ recorded (done ++ line_b 0 ∷ line_r 0 3 ∷ line_r 0 7 ∷ [])
    ∷ []
    ≡ ((7, 0, 0) ∷ [])
    ∷ ((7, 0, 0) ∷ [])
    ∷ ((7, 0, 0) ∷ (8, 0, 0) ∷ [])
    ∷ []
    ∷ ((7, 0, 0) ∷ [])
    ∷ ((7, 0, 0) ∷ [])
    ∷ ((7, 0, 0) ∷ [])
    ∷ ((3, 1, 1) ∷ (7, 0, 0) ∷ [])
    ∷ []
unfolding morning done written computing
recorded_so = refl

-- "counts toward the 32": the rows below n read as absent, and then row r
abbrev absent_below : ℕ → List ReadRecord
absent_below zero = []
absent_below (suc n) = read_of n 0 0 ∷ absent_below n

abbrev read_after : ℕ → ℕ → ℕ
read_after n r = let ls = line_b 0 ∷ [] in number_of (read (store_of ls) (with_reads (absent_below n) (tx_of ls)) r).refusal

-- the last that has a place; one more; one of them again
pub absent_full : read_after (read_limit - 1) read_limit ∷ read_after read_limit read_limit ∷ read_after read_limit 0 ∷ [] ≡ 0 ∷ 24 ∷ 0 ∷ []
unfolding morning computing
absent_full = refl

-- WHAT MAY ARRIVE, AND WHAT TEST 13 ASKS

-- a read of row r with pointer p and xmin t, on a store where row 3 alone has a version: slot 1, by txid 1
abbrev opened : List Line
opened = done ++ line_b 0 ∷ []

abbrev fits_with : ℕ → ℕ → ℕ → Bool
fits_with r p t = fit (store_of opened) (with_reads (read_of r p t ∷ []) (tx_of opened))

abbrev conflicts_with : ℕ → ℕ → ℕ → Bool
conflicts_with r p t = read_conflict (store_of opened) (tx_of opened) (read_of r p t)

-- pointer 0 with xmin 0, with another; the first and the last slot, the next; a row past the last
pub fits_so :
    fits_with 7 0 0 ∷ fits_with 7 0 1 ∷ fits_with 7 1 0 ∷ fits_with 7 slots 5 ∷ fits_with 7 (suc slots) 0 ∷ fits_with rows 0 0 ∷ []
    ≡ true ∷ false ∷ true ∷ true ∷ false ∷ false ∷ []
unfolding morning done written computing
fits_so = refl

-- of an absent row the head alone, whatever the xmin; of a version its xmin, whatever the head
pub conflicts_so :
    conflicts_with 7 0 0 ∷ conflicts_with 3 0 0 ∷ conflicts_with 7 0 5 ∷ conflicts_with 3 0 1 ∷ conflicts_with 3 1 1 ∷ conflicts_with 3 1 2 ∷ []
    ≡ false ∷ true ∷ false ∷ true ∷ false ∷ true ∷ []
unfolding morning done written computing
conflicts_so = refl
