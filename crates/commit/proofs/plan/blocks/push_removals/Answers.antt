-- `push_removals` meets its contract.
use Rattle.std.proofs.Common.{rules}
use Rattle.rules.specs.Puts.{put_remove}
use Rattle.commit.specs.Plan.Blocks.{removes}
use Rattle.commit.proofs.plan.blocks.push_removals.Goals as goal

pub returns : goal.returns
returns c = λ S x e. removes S x _ e (rw c.first.ensures at (c.push_listed.ensures put_remove (λ i p q. search rules)))
