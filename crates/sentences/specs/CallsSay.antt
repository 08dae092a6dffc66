-- "Other calls": begin, write, row lock, abort and recovery; what is emptied and what is kept.
use Rattle.std.specs.Prelude.{◌≡◌, refl, List, [], ◌∷◌, ◌++◌, ◌≢◌, ℕ, suc, ◌≤◌, ◌<◌, length, get_or, replicate}
use Rattle.std.proofs.Common.{ap, ◌∙◌, arith, length-append, get_or-take, length-take-le, ne_eqb}
use Rattle.std.proofs.lemmas.List.{length-replicate, get_or-replicate}
use Rattle.std.proofs.Math.ListN.{get_or-append}
use Rattle.std.proofs.Math.Seq.{get_or-append_seam}
use Rattle.records.specs.Limits.{active_limit, write_limit, read_limit, index_read_limit, savepoint_limit}
use Rattle.records.specs.Zero.{no_write, no_read, no_index_read, only_txid, zero_tx}
use Rattle.rules.specs.Lists.{pad}
use Rattle.rules.specs.Types.{Tx, Write, Refusal, Done}
use Rattle.rules.specs.Transaction.{writes_of, finals, with_writes, no_writes, no_accesses, emptied}
use Rattle.rules.specs.Numbers.{number_of}
use Rattle.rules.specs.Answer.{no_record, record_of}
use Rattle.basic_laws.specs.LaidOut.{pad_length}
use Rattle.basic_laws.specs.Placed.{pad_here, pad_behind}
use Rattle.statements.specs.CallWords.{ZeroWrite, ZeroRead, ZeroIndexRead, Zero, ZeroFrom, Empty}
use Rattle.statements.specs.CallWords.{ListsEmptied, AccessesEmptied, WritesEmptied, OnlyTxid, OneWriteMore, ZeroRecord, Names}

-- behind a list that is laid out the places are zero entries, and an empty one has no others
module _ {A : Type 0} (z : A) (Z : A → Type 0) (e : Z z) where
  pub zero_behind : (n : ℕ) (l : List A) → ZeroFrom Z n (length l) (pad n z l)
  zero_behind n l = record { long = pad_length n z l; zero = λ d i le lt. rw (pad_behind n z l d i le lt) e }

  none_laid : (n : ℕ) → Empty Z n (pad n z []) 0
  none_laid n = record { none = refl; blank = zero_behind n [] }

  pub none_at_all : (n : ℕ) → Empty Z n (replicate n z) 0
  none_at_all n = record { none = refl; blank = record { long = length-replicate {A = A} n z; zero = λ d i le lt. rw (get_or-replicate n i z d lt) e } }

-- the zero entries are zero
pub zero_write_law : ZeroWrite no_write
zero_write_law = (refl, refl, refl)

pub zero_read_law : ZeroRead no_read
zero_read_law = (refl, refl, refl)

pub zero_index_read_law : ZeroIndexRead no_index_read
zero_index_read_law = (refl, refl)

-- '"Lists emptied" clears writes, reads, index reads and savepoints and lowers index_conflict; the snapshot stays'
pub lists_emptied : (x : Tx) → ListsEmptied x (emptied x)
lists_emptied x = record {
  snapshot = record { txid = refl; snapshot_xmin = refl; snapshot_xmax = refl; snapshot = refl; snapshot_count = refl };
  writes = none_laid no_write ZeroWrite zero_write_law write_limit;
  reads = none_laid no_read ZeroRead zero_read_law read_limit;
  index_reads = none_laid no_index_read ZeroIndexRead zero_index_read_law index_read_limit;
  savepoints = none_laid 0 Zero refl savepoint_limit;
  index_conflict = refl;
}

-- 14: "writes, reads, index reads emptied"
pub accesses_emptied : (x : Tx) → AccessesEmptied x (no_accesses x)
accesses_emptied x = record {
  snapshot = record { txid = refl; snapshot_xmin = refl; snapshot_xmax = refl; snapshot = refl; snapshot_count = refl };
  writes = none_laid no_write ZeroWrite zero_write_law write_limit;
  reads = none_laid no_read ZeroRead zero_read_law read_limit;
  index_reads = none_laid no_index_read ZeroIndexRead zero_index_read_law index_read_limit;
  savepoints = record { savepoints = refl; savepoint_count = refl };
  index_conflict = refl;
}

-- 15: "writes alone emptied"
pub writes_emptied : (x : Tx) → WritesEmptied x (no_writes x)
writes_emptied x = record {
  snapshot = record { txid = refl; snapshot_xmin = refl; snapshot_xmax = refl; snapshot = refl; snapshot_count = refl };
  writes = none_laid no_write ZeroWrite zero_write_law write_limit;
  reads = record { reads = refl; read_count = refl };
  index_reads = record { index_reads = refl; index_read_count = refl };
  savepoints = record { savepoints = refl; savepoint_count = refl };
  index_conflict = refl;
}

-- "zeroes the transaction but for its txid"
pub only_txid_law : (t : ℕ) → OnlyTxid t (only_txid t)
unfolding only_txid
only_txid_law t = record {
  txid = refl;
  snapshot_xmin = refl;
  snapshot_xmax = refl;
  snapshot = none_at_all 0 Zero refl active_limit;
  writes = none_at_all no_write ZeroWrite zero_write_law write_limit;
  reads = none_at_all no_read ZeroRead zero_read_law read_limit;
  index_reads = none_at_all no_index_read ZeroIndexRead zero_index_read_law index_read_limit;
  savepoints = none_at_all 0 Zero refl savepoint_limit;
  index_conflict = refl;
}

-- "transaction zero" (18), "a zero transaction"
pub zero_tx_law : OnlyTxid 0 zero_tx
unfolding zero_tx
zero_tx_law = only_txid_law 0

-- a write more: the earlier ones stand where they stood, and nothing else changes
pub one_write_more : (x : Tx) (r q p : ℕ) → x.write_count ≤ length x.writes → x.write_count < write_limit
    → OneWriteMore x (with_writes (writes_of x ++ record { row = record { 0 = r }; base = record { 0 = q }; new = record { 0 = p } } ∷ []) x) r q p
one_write_more x r q p le lt = record {
  snapshot = record { txid = refl; snapshot_xmin = refl; snapshot_xmax = refl; snapshot = refl; snapshot_count = refl };
  write_count = all_long;
  earlier = λ d i k.
      pad_here write_limit no_write all d i (omega (arith, all_long)) (omega (arith, all_long))
      ∙ get_or-append (writes_of x) (w ∷ []) d i (omega (arith, long)) ∙ get_or-take x.write_count x.writes i d k;
  row = λ d. ap (λ (v : Write). v.row.0) (new_at d);
  base = λ d. ap (λ (v : Write). v.base.0) (new_at d);
  new = λ d. ap (λ (v : Write). v.new.0) (new_at d);
  behind = rw all_long at (zero_behind no_write ZeroWrite zero_write_law write_limit all);
  reads = record { reads = refl; read_count = refl };
  index_reads = record { index_reads = refl; index_read_count = refl };
  savepoints = record { savepoints = refl; savepoint_count = refl };
  index_conflict = refl;
}
  where
    w : Write
    w = record { row = record { 0 = r }; base = record { 0 = q }; new = record { 0 = p } }

    all : List Write
    all = writes_of x ++ w ∷ []

    long : length (writes_of x) ≡ x.write_count
    long = length-take-le x.write_count x.writes le

    all_long : length all ≡ suc x.write_count
    all_long = rw (length-append (writes_of x) (w ∷ []), long) (omega arith)

    new_at : (d : Write) → get_or (pad write_limit no_write all) x.write_count d ≡ w
    new_at d =
        pad_here write_limit no_write all d x.write_count (omega (arith, all_long)) (omega (arith, all_long))
        ∙ (rw long at (get_or-append_seam (writes_of x) w [] d))

-- "The record is zero unless 0"
pub zero_record : ZeroRecord no_record
unfolding no_record
zero_record = record { txid = refl; writes = none_at_all no_write ZeroWrite zero_write_law write_limit }

pub record_zero : (why : Refusal) (x : Tx) → number_of why ≢ 0 → ZeroRecord (record_of why x)
unfolding record_of
record_zero why x n = rw (ne_eqb (number_of why) 0 n) zero_record

-- 0: it names the transaction and its final writes
pub names_finals : (x : Tx) → length (finals x) ≤ write_limit
    → Names x.txid.0 (finals x) (record { txid = x.txid; writes = pad write_limit no_write (finals x); count = length (finals x) })
names_finals x le = record {
  txid = refl;
  count = refl;
  writes = λ d i lt. pad_here write_limit no_write (finals x) d i lt le;
  behind = zero_behind no_write ZeroWrite zero_write_law write_limit (finals x);
}

pub record_names : (x : Tx) → length (finals x) ≤ write_limit → Names x.txid.0 (finals x) (record_of Done x)
unfolding record_of
record_names x le = names_finals x le
