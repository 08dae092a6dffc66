-- `push_index_guards` meets its contract.
use Rattle.commit.specs.Plan.Blocks.{index_guards_law}
use Rattle.commit.proofs.plan.blocks.push_index_guards.Goals as goal

pub returns : goal.returns
returns c = λ S x e ok. index_guards_law S x _ e ok c.push_stripes.ensures
