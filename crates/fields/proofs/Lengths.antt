-- The arrays of a store, a transaction or a schedule that is passed by value have the lengths that its type says.
use mathlib.Core.Path.{◌≡◌}
use lib.ListN.{length}
use denote.Laws.{Is}
use denote.Struct.Laws as LL
use Rattle.records.specs.Limits.{fault_limit, active_limit, write_limit, read_limit, index_read_limit, savepoint_limit}
use Rattle.rules.specs.Types.{Store, Tx, Schedule}
use Rattle.statements.specs.Sized.{Sized}
use Rattle.records.specs.contracts.Store as S
use Rattle.records.proofs.Store.TheLaws as S'
use Rattle.records.specs.contracts.Tx as T
use Rattle.records.proofs.Tx.TheLaws as T'
use Rattle.records.specs.contracts.Schedule as C
use Rattle.records.proofs.Schedule.TheLaws as C'

pub sized : (s : Store) → Is S.the_row s (LL.vals S.the_type S'.the_laws s) → Sized s
sized s g = record {
  heads = g.1.1.0.1.0.1;
  xmin = g.1.1.1.0.1.0.1;
  xmax = g.1.1.1.1.0.1.0.1;
  next = g.1.1.1.1.1.0.1.0.1;
  key = g.1.1.1.1.1.1.0.1.0.1;
  has = g.1.1.1.1.1.1.1.0.1.0.1;
  locked = g.1.1.1.1.1.1.1.1.0.1.0.1;
  owner = g.1.1.1.1.1.1.1.1.1.0.1.0.1;
  postings = g.1.1.1.1.1.1.1.1.1.1.0.1.0.1;
  stripe_guards = g.1.1.1.1.1.1.1.1.1.1.1.1.0.1.0.1;
  partition_guards = g.1.1.1.1.1.1.1.1.1.1.1.1.1.0.1.0.1;
  stamps = g.1.1.1.1.1.1.1.1.1.1.1.1.1.1.0.1.0.1;
  active = g.1.1.1.1.1.1.1.1.1.1.1.1.1.1.1.0.1.0.1;
}

module _ (x : Tx) (is : Is T.the_row x (LL.vals T.the_type T'.the_laws x)) where
  pub snapshot_long : length x.snapshot ≡ active_limit
  snapshot_long = is.1.1.1.1.1.0.1.0.1

  pub writes_long : length x.writes ≡ write_limit
  writes_long = is.1.1.1.1.1.1.1.0.1.0.1

  pub reads_long : length x.reads ≡ read_limit
  reads_long = is.1.1.1.1.1.1.1.1.1.0.1.0.1

  pub index_reads_long : length x.index_reads ≡ index_read_limit
  index_reads_long = is.1.1.1.1.1.1.1.1.1.1.1.0.1.0.1

  pub savepoints_long : length x.savepoints ≡ savepoint_limit
  savepoints_long = is.1.1.1.1.1.1.1.1.1.1.1.1.1.1.0.1.0.1

pub faults_long : (plan : Schedule) → Is C.the_row plan (LL.vals C.the_type C'.the_laws plan) → length plan.faults ≡ fault_limit
faults_long plan is = is.1.1.0.1.0.1
