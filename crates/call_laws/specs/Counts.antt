-- "counts within limits, unused places zero": the test of a fit transaction's lists taken into its parts, and put together again.
use Rattle.std.specs.Prelude.{◌≡◌, Bool, true, ◌&&◌, drop, eqb, leb}
use Rattle.records.specs.Limits.{active_limit, write_limit, read_limit, index_read_limit, savepoint_limit}
use Rattle.rules.specs.Lists.{all, all_zero}
use Rattle.rules.specs.Types.{Tx, Write, ReadRecord, IndexRead}
use Rattle.rules.specs.Fit.{counts_fit}
use Rattle.basic_laws.specs.Cases.{every_each, every_none, cons_every}
pub use Rattle.statements.specs.Sized.{SizedTx}

-- an unused place
abbrev pub blank_write : Write → Bool
blank_write w = eqb w.row.0 0 && (eqb w.base.0 0 && eqb w.new.0 0)

abbrev pub blank_read : ReadRecord → Bool
blank_read r = eqb r.row.0 0 && (eqb r.ptr.0 0 && eqb r.xmin.0 0)

abbrev pub blank_index_read : IndexRead → Bool
blank_index_read r = eqb r.stripe 0 && eqb r.stamp.0 0

-- the ten parts
pub record CountsFit (x : Tx) : Type 0 where
  pub writes : leb x.write_count write_limit ≡ true
  pub reads : leb x.read_count read_limit ≡ true
  pub index_reads : leb x.index_read_count index_read_limit ≡ true
  pub snapshot : leb x.snapshot_count active_limit ≡ true
  pub savepoints : leb x.savepoint_count savepoint_limit ≡ true
  pub no_writes : all blank_write (drop x.write_count x.writes) ≡ true
  pub no_reads : all blank_read (drop x.read_count x.reads) ≡ true
  pub no_index_reads : all blank_index_read (drop x.index_read_count x.index_reads) ≡ true
  pub no_txids : all_zero (drop x.snapshot_count x.snapshot) ≡ true
  pub no_savepoints : all_zero (drop x.savepoint_count x.savepoints) ≡ true

-- (the parts of a test that holds, and a test of parts that hold)
pub counts_parts : (x : Tx) → counts_fit x ≡ true → CountsFit x
unfolding counts_fit
counts_parts x h =
    let p = every_each _ h in
    record {
      writes = p.0;
      reads = p.1.0;
      index_reads = p.1.1.0;
      snapshot = p.1.1.1.0;
      savepoints = p.1.1.1.1.0;
      no_writes = p.1.1.1.1.1.0;
      no_reads = p.1.1.1.1.1.1.0;
      no_index_reads = p.1.1.1.1.1.1.1.0;
      no_txids = p.1.1.1.1.1.1.1.1.0;
      no_savepoints = p.1.1.1.1.1.1.1.1.1.0;
    }

pub parts_counts : (x : Tx) → CountsFit x → counts_fit x ≡ true
unfolding counts_fit
parts_counts x P =
    cons_every _ _ P.writes
    (cons_every _ _ P.reads
    (cons_every _ _ P.index_reads
    (cons_every _ _ P.snapshot
    (cons_every _ _ P.savepoints
    (cons_every _ _ P.no_writes
    (cons_every _ _ P.no_reads (cons_every _ _ P.no_index_reads (cons_every _ _ P.no_txids (cons_every _ _ P.no_savepoints every_none)))))))))
