-- `push_recycling` meets its contract.
use Rattle.commit.specs.Plan.Blocks.{recycles}
use Rattle.commit.proofs.plan.blocks.push_recycling.Goals as goal

pub returns : goal.returns
returns c = λ S x e long. recycles S x _ e long c.push_frees.ensures
