-- The empty store, the zero transaction, the empty schedule.
use Rattle.std.specs.Prelude.{Bool, false, ℕ, replicate}
use Rattle.records.specs.Limits.{rows, places, posting_limit, stripes, partitions, active_limit}
use Rattle.records.specs.Limits.{write_limit, read_limit, index_read_limit, savepoint_limit, fault_limit}
use Rattle.records.specs.declared.Store.{Store}
use Rattle.records.specs.declared.Tx.{Tx}
use Rattle.records.specs.declared.Write.{Write}
use Rattle.records.specs.declared.ReadRecord.{ReadRecord}
use Rattle.records.specs.declared.IndexRead.{IndexRead}
use Rattle.records.specs.declared.Fault.{Fault}
use Rattle.records.specs.declared.Schedule.{Schedule}

-- the empty store, durably bound or not
unfoldable pub empty_store : Bool → Store
empty_store durable = record {
  heads = replicate rows 0;
  xmin = replicate places 0;
  xmax = replicate places 0;
  next = replicate places 0;
  key = replicate places 0;
  has = replicate places false;
  locked = replicate places false;
  owner = replicate places 0;
  postings = replicate posting_limit 0;
  posting_count = 0;
  stripe_guards = replicate stripes 0;
  partition_guards = replicate partitions 0;
  stamps = replicate stripes 0;
  active = replicate active_limit 0;
  clock = 1;
  poisoned = false;
  doomed = 0;
  bound = durable;
}

unfoldable pub fresh : Store
fresh = empty_store false

abbrev pub no_write : Write
no_write = record { row = record { 0 = 0 }; base = record { 0 = 0 }; new = record { 0 = 0 } }

abbrev pub no_read : ReadRecord
no_read = record { row = record { 0 = 0 }; ptr = record { 0 = 0 }; xmin = record { 0 = 0 } }

abbrev pub no_index_read : IndexRead
no_index_read = record { stripe = 0; stamp = record { 0 = 0 } }

-- "zeroes the transaction but for its txid"
unfoldable pub only_txid : ℕ → Tx
only_txid t = record {
  txid = record { 0 = t };
  snapshot_xmin = record { 0 = 0 };
  snapshot_xmax = record { 0 = 0 };
  snapshot = replicate active_limit 0;
  snapshot_count = 0;
  writes = replicate write_limit no_write;
  write_count = 0;
  reads = replicate read_limit no_read;
  read_count = 0;
  index_reads = replicate index_read_limit no_index_read;
  index_read_count = 0;
  index_conflict = false;
  savepoints = replicate savepoint_limit 0;
  savepoint_count = 0;
}

unfoldable pub zero_tx : Tx
zero_tx = only_txid 0

abbrev pub no_fault : Fault
no_fault = record { step = 0; letter = 0; k = 0 }

unfoldable pub no_faults : Schedule
no_faults = record { faults = replicate fault_limit no_fault; count = 0 }
