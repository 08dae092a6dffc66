-- `push_release` meets its contract: one block after the other.
use Rattle.commit.specs.Plan.Blocks.{releases}
use Rattle.commit.proofs.plan.blocks.push_release.Goals as goal

pub returns : goal.returns
returns c = λ S x e f ok. releases S x (c.push_partition_guards.ensures x f) (c.push_index_guards.ensures S x e ok)
