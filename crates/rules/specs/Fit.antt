-- "Fit transaction".
use Rattle.std.specs.Prelude.{Bool, true, not, ◌&&◌, ◌||◌, List, [], ◌∷◌, ℕ, get_or, drop, eqb, ltb, leb}
use Rattle.records.specs.Limits.{rows, slots, stripes, active_limit, write_limit, read_limit, index_read_limit, savepoint_limit}
use Rattle.rules.specs.Lists.{all, every, all_zero, non_falling}
use Rattle.rules.specs.Types.{Store, Tx, Write, ReadRecord, IndexRead}
use Rattle.rules.specs.Store.{used}
use Rattle.rules.specs.Transaction.{writes_of, reads_of, index_reads_of, savepoints_of}
use Rattle.rules.specs.Chains.{walk, on}

-- "counts within limits, unused places zero"
unfoldable pub counts_fit : Tx → Bool
counts_fit x = every (
    leb x.write_count write_limit
    ∷ leb x.read_count read_limit
    ∷ leb x.index_read_count index_read_limit
    ∷ leb x.snapshot_count active_limit
    ∷ leb x.savepoint_count savepoint_limit
    ∷ all (λ w. eqb w.row.0 0 && (eqb w.base.0 0 && eqb w.new.0 0)) (drop x.write_count x.writes)
    ∷ all (λ r. eqb r.row.0 0 && (eqb r.ptr.0 0 && eqb r.xmin.0 0)) (drop x.read_count x.reads)
    ∷ all (λ r. eqb r.stripe 0 && eqb r.stamp.0 0) (drop x.index_read_count x.index_reads)
    ∷ all_zero (drop x.snapshot_count x.snapshot)
    ∷ all_zero (drop x.savepoint_count x.savepoints)
    ∷ [])

-- "rows below" the limit; "read pointers 1 to" the last slot; document 02's wish 2: "may .. have read pointer 0, with xmin 0"
abbrev pub read_fit : ReadRecord → Bool
read_fit r = every (
    ltb r.row.0 rows
    ∷ ((leb 1 r.ptr.0 && leb r.ptr.0 slots) || (eqb r.ptr.0 0 && eqb r.xmin.0 0))
    ∷ [])

-- "rows below" the limit; "bases 0 to" the last slot; "each new pointer .. used, off every chain, with xmin the txid, next the base"
-- (a write has no field for its value)
abbrev pub write_fit : List ℕ → List ℕ → List ℕ → ℕ → Write → Bool
write_fit xmin next seen t w = every (
    ltb w.row.0 rows
    ∷ leb w.base.0 slots
    ∷ leb w.new.0 slots
    ∷ used xmin w.new.0
    ∷ not (on seen w.new.0)
    ∷ eqb (get_or xmin w.new.0 0) t
    ∷ eqb (get_or next w.new.0 0) w.base.0
    ∷ [])

-- "each new pointer distinct"; "writes of one row share a base"
abbrev pub writes_apart : List Write → Bool
writes_apart [] = true
writes_apart (w ∷ ws) =
    all (λ v. not (eqb v.new.0 w.new.0) && (not (eqb v.row.0 w.row.0) || eqb v.base.0 w.base.0)) ws
    && writes_apart ws

-- "stripes below 16 and distinct"
abbrev pub stripes_apart : List IndexRead → Bool
stripes_apart [] = true
stripes_apart (r ∷ rs) = ltb r.stripe stripes && (all (λ q. not (eqb q.stripe r.stripe)) rs && stripes_apart rs)

-- "..; savepoints non-falling and at most the write count; snapshot_xmin at most snapshot_xmax, that at most the clock"
unfoldable pub fit : Store → Tx → Bool
fit S x =
    let seen = (walk S.heads S.next).seen in
    every (
    counts_fit x
    ∷ all read_fit (reads_of x)
    ∷ all (write_fit S.xmin S.next seen x.txid.0) (writes_of x)
    ∷ writes_apart (writes_of x)
    ∷ stripes_apart (index_reads_of x)
    ∷ non_falling 0 (savepoints_of x)
    ∷ all (λ n. leb n x.write_count) (savepoints_of x)
    ∷ leb x.snapshot_xmin.0 x.snapshot_xmax.0
    ∷ leb x.snapshot_xmax.0 S.clock
    ∷ [])
