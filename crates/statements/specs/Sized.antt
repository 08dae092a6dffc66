-- The arrays' lengths and the keys' width: Rattle's types give them to every store and transaction that runs, the definitions' lists don't carry them.
use Rattle.std.specs.Prelude.{◌≡◌, true, length, ltb}
use Rattle.records.specs.Limits.{rows, places, posting_limit, stripes, partitions, active_limit, key_end}
use Rattle.records.specs.Limits.{write_limit, read_limit, index_read_limit, savepoint_limit}
use Rattle.rules.specs.Lists.{all}
use Rattle.rules.specs.Types.{Store, Tx}

pub record Sized (S : Store) : Type 0 where
  pub heads : length S.heads ≡ rows
  pub xmin : length S.xmin ≡ places
  pub xmax : length S.xmax ≡ places
  pub next : length S.next ≡ places
  pub key : length S.key ≡ places
  pub has : length S.has ≡ places
  pub locked : length S.locked ≡ places
  pub owner : length S.owner ≡ places
  pub postings : length S.postings ≡ posting_limit
  pub stripe_guards : length S.stripe_guards ≡ stripes
  pub partition_guards : length S.partition_guards ≡ partitions
  pub stamps : length S.stamps ≡ stripes
  pub active : length S.active ≡ active_limit

-- the same of a transaction
pub record SizedTx (x : Tx) : Type 0 where
  pub snapshot : length x.snapshot ≡ active_limit
  pub writes : length x.writes ≡ write_limit
  pub reads : length x.reads ≡ read_limit
  pub index_reads : length x.index_reads ≡ index_read_limit
  pub savepoints : length x.savepoints ≡ savepoint_limit

-- "a 32-bit key"
abbrev pub Keyed : Store → Type 0
Keyed S = all (λ k. ltb k key_end) S.key ≡ true
