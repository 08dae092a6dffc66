-- Transactions that no begin made, and what they see, read and look up, computed: each wrong reading of "visible" shows in one of these tables.
use Rattle.std.specs.Prelude.{◌≡◌, refl, Bool, true, false, List, [], ◌∷◌, ◌++◌, map, ℕ, ◌+◌, ◌*◌, ◌%◌, length, get_or, set, take}
use Rattle.records.specs.Limits.{rows, stripes, active_limit}
use Rattle.records.specs.Zero.{fresh, zero_tx}
use Rattle.rules.specs.Lists.{pad}
use Rattle.rules.specs.Types.{Store, Tx, Value, Absent, Key}
use Rattle.rules.specs.Transaction.{sees}
use Rattle.rules.specs.Numbers.{number_of}
use Rattle.rules.specs.Calls.{read, lookup}
use Rattle.rules.specs.Computing.{computing}
use Rattle.statements.specs.ReadWords.{read_of}

-- a transaction that no begin made: txid t, snapshot_xmin 4, snapshot_xmax n, the snapshot holds l
unfoldable pub forged : ℕ → ℕ → List ℕ → Tx
forged t n l = record {
  txid = record { 0 = t };
  snapshot_xmin = record { 0 = 4 };
  snapshot_xmax = record { 0 = n };
  snapshot = pad active_limit 0 l;
  snapshot_count = length l;
  writes = zero_tx.writes;
  write_count = 0;
  reads = zero_tx.reads;
  read_count = 0;
  index_reads = zero_tx.index_reads;
  index_read_count = 0;
  index_conflict = false;
  savepoints = zero_tx.savepoints;
  savepoint_count = 0;
}

-- creators 1 to 10: below snapshot_xmax and not in the snapshot; in it; equal to snapshot_xmax; above it and the reader; above it. Where the reader is
-- in its own snapshot it sees itself all the same
pub forged_sees : map (sees (forged 9 6 (3 ∷ 5 ∷ []))) (1 ∷ 2 ∷ 3 ∷ 4 ∷ 5 ∷ 6 ∷ 7 ∷ 8 ∷ 9 ∷ 10 ∷ [])
    ++ map (sees (forged 3 6 (3 ∷ 5 ∷ []))) (2 ∷ 3 ∷ 4 ∷ 5 ∷ 6 ∷ [])
    ≡ true ∷ true ∷ false ∷ true ∷ false ∷ false ∷ false ∷ false ∷ true ∷ false ∷ true ∷ true ∷ true ∷ false ∷ false ∷ []
unfolding forged computing
forged_sees = refl

-- row 0: slot 3 of creator 6 with key 30, over slot 2 of 3 with 20, over slot 1 of 1 with 10; clock 12, txid 9 active; key 30's stripe has stamp t
unfoldable pub layered : ℕ → Store
layered t = record {
  heads = set fresh.heads 0 3;
  xmin = set (set (set fresh.xmin 1 1) 2 3) 3 6;
  xmax = set (set fresh.xmax 1 3) 2 6;
  next = set (set fresh.next 2 1) 3 2;
  key = set (set (set fresh.key 1 10) 2 20) 3 30;
  has = set (set (set fresh.has 1 true) 2 true) 3 true;
  locked = fresh.locked;
  owner = fresh.owner;
  postings = set fresh.postings 0 (30 * rows + 0);
  posting_count = 1;
  stripe_guards = fresh.stripe_guards;
  partition_guards = fresh.partition_guards;
  stamps = set fresh.stamps (30 % stripes) t;
  active = set fresh.active 0 9;
  clock = 12;
  poisoned = false;
  doomed = 0;
  bound = false;
}

-- what such a transaction reads: the number, the value, the one record (row, pointer, xmin)
unfoldable pub reads_as : ℕ → List ℕ → ℕ × Value × List ℕ
reads_as n l =
    let a = read (layered 0) (forged 9 n l) 0 in
    let e = get_or a.tx.reads 0 (read_of 0 0 0) in
    (number_of a.refusal, a.value, take (3 * a.tx.read_count) (e.row.0 ∷ e.ptr.0 ∷ e.xmin.0 ∷ []))

-- 6 is not below 6; 3 and 5 are in the snapshot; 6 is below 7; 6 is in the snapshot; no creator is visible, and the row is recorded as absent
pub forged_reads : reads_as 6 [] ∷ reads_as 6 (3 ∷ 5 ∷ []) ∷ reads_as 7 [] ∷ reads_as 7 (6 ∷ []) ∷ reads_as 4 (1 ∷ 3 ∷ []) ∷ []
    ≡ (0, Key 20, 0 ∷ 2 ∷ 3 ∷ [])
    ∷ (0, Key 10, 0 ∷ 1 ∷ 1 ∷ [])
    ∷ (0, Key 30, 0 ∷ 3 ∷ 6 ∷ [])
    ∷ (0, Key 20, 0 ∷ 2 ∷ 3 ∷ [])
    ∷ (0, Absent, 0 ∷ 0 ∷ 0 ∷ [])
    ∷ []
unfolding reads_as layered forged computing
forged_reads = refl

-- whether a lookup of key 30 raises index_conflict, by the stamp: none; visible; in the snapshot; at snapshot_xmax; above it; the reader's own
unfoldable pub conflicts_at : ℕ → ℕ × Bool
conflicts_at t = let a = lookup (layered t) (forged 9 6 (3 ∷ 5 ∷ [])) 30 in (number_of a.refusal, a.tx.index_conflict)

pub forged_looks : map conflicts_at (0 ∷ 1 ∷ 3 ∷ 4 ∷ 5 ∷ 6 ∷ 8 ∷ 9 ∷ 10 ∷ [])
    ≡ (0, false) ∷ (0, false) ∷ (0, true) ∷ (0, false) ∷ (0, true) ∷ (0, true) ∷ (0, true) ∷ (0, false) ∷ (0, true) ∷ []
unfolding conflicts_at layered forged computing
forged_looks = refl
