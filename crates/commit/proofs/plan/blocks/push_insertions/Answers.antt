-- `push_insertions` meets its contract.
use Rattle.std.proofs.Common.{rules}
use Rattle.rules.specs.Puts.{put_insert}
use Rattle.commit.specs.Plan.Blocks.{inserts}
use Rattle.commit.proofs.plan.blocks.push_insertions.Goals as goal

pub returns : goal.returns
returns c = λ S x e. inserts S x _ e (rw c.first.ensures at (c.push_listed.ensures put_insert (λ i p q. search rules)))
