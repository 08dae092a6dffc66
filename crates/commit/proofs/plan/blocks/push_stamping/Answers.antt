-- `push_stamping` meets its contract.
use Rattle.std.proofs.Common.{ap}
use Rattle.rules.specs.Types.{Txid}
use Rattle.commit.specs.Plan.Blocks.{stamps}
use Rattle.commit.proofs.plan.blocks.push_stamping.Goals as goal

pub returns : goal.returns
returns c = λ S x e f. stamps S x _ c.args.limit e (ap (λ (t : Txid). t.0) f) c.push_stamps.ensures
