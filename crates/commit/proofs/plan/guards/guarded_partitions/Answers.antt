-- `guarded_partitions` meets its contract: written rows, then read ones.
use Rattle.commit.specs.Plan.Guards.{partition_marks}
use Rattle.commit.proofs.plan.guards.guarded_partitions.Goals as goal

pub returns : goal.returns
unfolding partition_marks
returns c = rw (← c.written_partitions.ensures) c.read_partitions.ensures
