-- "Store and transaction": the transaction's lists, read from its arrays; what it sees; the transaction with one list changed.
use Rattle.std.specs.Prelude.{Bool, false, not, cond, ◌&&◌, ◌||◌, List, [], ◌∷◌, ℕ, length, take, eqb, ltb}
use Rattle.records.specs.Limits.{write_limit, read_limit, index_read_limit, savepoint_limit}
use Rattle.rules.specs.Lists.{memb, any, pad}
use Rattle.rules.specs.Types.{Tx, Write, ReadRecord, IndexRead}
use Rattle.records.specs.Zero.{no_write, no_read, no_index_read}
use Rattle.records.specs.Setters.{with_lists, with_read_array, with_index_read_array}

abbrev pub writes_of : Tx → List Write
writes_of x = take x.write_count x.writes

abbrev pub reads_of : Tx → List ReadRecord
reads_of x = take x.read_count x.reads

abbrev pub index_reads_of : Tx → List IndexRead
index_reads_of x = take x.index_read_count x.index_reads

abbrev pub snapshot_of : Tx → List ℕ
snapshot_of x = take x.snapshot_count x.snapshot

abbrev pub savepoints_of : Tx → List ℕ
savepoints_of x = take x.savepoint_count x.savepoints

-- "A creator is visible if it is the reader, or below snapshot_xmax and not in the snapshot."
unfoldable pub sees : Tx → ℕ → Bool
sees x t = eqb t x.txid.0 || (ltb t x.snapshot_xmax.0 && not (memb t (snapshot_of x)))

-- "the last own write of the row"; its new pointer is 0 if there is none
abbrev pub last_own : ℕ → List Write → Write
last_own r [] = no_write
last_own r (w ∷ ws) = let later = last_own r ws in cond (eqb later.new.0 0) (cond (eqb w.row.0 r) w no_write) later

-- "Final writes are those with no later write of their row, in list order."
abbrev pub final_writes : List Write → List Write
final_writes [] = []
final_writes (w ∷ ws) = let r = final_writes ws in cond (any (λ v. eqb v.row.0 w.row.0) ws) r (w ∷ r)

unfoldable pub finals : Tx → List Write
finals x = final_writes (writes_of x)

abbrev pub with_writes : List Write → Tx → Tx
with_writes l x =
    with_lists (pad write_limit no_write l) (length l) x.reads x.read_count
    x.index_reads x.index_read_count x.index_conflict x.savepoints x.savepoint_count x

abbrev pub with_reads : List ReadRecord → Tx → Tx
with_reads l x = with_read_array (pad read_limit no_read l) (length l) x

abbrev pub with_index_reads : List IndexRead → Bool → Tx → Tx
with_index_reads l conflict x = with_index_read_array (pad index_read_limit no_index_read l) (length l) conflict x

abbrev pub with_savepoints : List ℕ → Tx → Tx
with_savepoints l x =
    with_lists x.writes x.write_count x.reads x.read_count
    x.index_reads x.index_read_count x.index_conflict (pad savepoint_limit 0 l) (length l) x

-- "writes alone emptied"; "writes, reads, index reads emptied"
abbrev pub no_writes : Tx → Tx
no_writes x = with_writes [] x

abbrev pub no_accesses : Tx → Tx
no_accesses x = with_index_reads [] x.index_conflict (with_reads [] (with_writes [] x))

-- "Lists emptied" clears writes, reads, index reads and savepoints and lowers index_conflict; the snapshot stays.
abbrev pub emptied : Tx → Tx
emptied x = with_savepoints [] (with_index_reads [] false (with_reads [] (with_writes [] x)))
