-- A store or a transaction with some of its parts replaced and the others as they were: whoever changes a part says it by one of these.
use Rattle.std.specs.Prelude.{Bool, List, ℕ}
use Rattle.records.specs.declared.Store.{Store}
use Rattle.records.specs.declared.Tx.{Tx}
use Rattle.records.specs.declared.Write.{Write}
use Rattle.records.specs.declared.ReadRecord.{ReadRecord}
use Rattle.records.specs.declared.IndexRead.{IndexRead}

-- the store with other guards, postings, stamps and poison
abbrev pub dressed : List ℕ → List ℕ → List ℕ → ℕ → List ℕ → Bool → Store → Store
dressed g q ps n st b S = record {
  heads = S.heads;
  xmin = S.xmin;
  xmax = S.xmax;
  next = S.next;
  key = S.key;
  has = S.has;
  locked = S.locked;
  owner = S.owner;
  postings = ps;
  posting_count = n;
  stripe_guards = g;
  partition_guards = q;
  stamps = st;
  active = S.active;
  clock = S.clock;
  poisoned = b;
  doomed = S.doomed;
  bound = S.bound;
}

-- .. with other guards alone; with other postings alone; with other guards, postings and poison
abbrev pub guarded : List ℕ → List ℕ → Store → Store
guarded g q S = dressed g q S.postings S.posting_count S.stamps S.poisoned S

abbrev pub with_postings : List ℕ → ℕ → Store → Store
with_postings ps n S = dressed S.stripe_guards S.partition_guards ps n S.stamps S.poisoned S

abbrev pub beside : List ℕ → List ℕ → List ℕ → ℕ → Bool → Store → Store
beside g q ps n b S = dressed g q ps n S.stamps b S

-- the store with other slots
abbrev pub slotted : List ℕ → List ℕ → List ℕ → List ℕ → List Bool → List Bool → List ℕ → Store → Store
slotted xmin xmax next key has locked owner S = record {
  heads = S.heads;
  xmin = xmin;
  xmax = xmax;
  next = next;
  key = key;
  has = has;
  locked = locked;
  owner = owner;
  postings = S.postings;
  posting_count = S.posting_count;
  stripe_guards = S.stripe_guards;
  partition_guards = S.partition_guards;
  stamps = S.stamps;
  active = S.active;
  clock = S.clock;
  poisoned = S.poisoned;
  doomed = S.doomed;
  bound = S.bound;
}

-- the store with another active list and clock
abbrev pub relisted : List ℕ → ℕ → Store → Store
relisted active clock S = record {
  heads = S.heads;
  xmin = S.xmin;
  xmax = S.xmax;
  next = S.next;
  key = S.key;
  has = S.has;
  locked = S.locked;
  owner = S.owner;
  postings = S.postings;
  posting_count = S.posting_count;
  stripe_guards = S.stripe_guards;
  partition_guards = S.partition_guards;
  stamps = S.stamps;
  active = active;
  clock = clock;
  poisoned = S.poisoned;
  doomed = S.doomed;
  bound = S.bound;
}

-- the transaction with other lists, each an array and its count: writes, reads, index reads with index_conflict, savepoints; the snapshot stays
abbrev pub with_lists : List Write → ℕ → List ReadRecord → ℕ → List IndexRead → ℕ → Bool → List ℕ → ℕ → Tx → Tx
with_lists ws nw rs nr is ni conflict ss ns x = record {
  txid = x.txid;
  snapshot_xmin = x.snapshot_xmin;
  snapshot_xmax = x.snapshot_xmax;
  snapshot = x.snapshot;
  snapshot_count = x.snapshot_count;
  writes = ws;
  write_count = nw;
  reads = rs;
  read_count = nr;
  index_reads = is;
  index_read_count = ni;
  index_conflict = conflict;
  savepoints = ss;
  savepoint_count = ns;
}

-- .. with other reads alone; with other index reads and index_conflict alone
abbrev pub with_read_array : List ReadRecord → ℕ → Tx → Tx
with_read_array rs nr x =
    with_lists x.writes x.write_count rs nr x.index_reads x.index_read_count x.index_conflict x.savepoints x.savepoint_count x

abbrev pub with_index_read_array : List IndexRead → ℕ → Bool → Tx → Tx
with_index_read_array is ni conflict x =
    with_lists x.writes x.write_count x.reads x.read_count is ni conflict x.savepoints x.savepoint_count x
