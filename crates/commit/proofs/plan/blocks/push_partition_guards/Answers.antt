-- `push_partition_guards` meets its contract.
use Rattle.commit.specs.Plan.Blocks.{partition_guards_law}
use Rattle.commit.proofs.plan.blocks.push_partition_guards.Goals as goal

pub returns : goal.returns
returns c = λ x e. partition_guards_law x _ e c.push_partitions.ensures
