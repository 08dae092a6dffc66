-- `push_publication` meets its contract.
use Rattle.std.proofs.Common.{ap}
use Rattle.rules.specs.Changes.{publication}
use Rattle.rules.specs.Types.{Txid}
use Rattle.commit.proofs.plan.blocks.push_publication.Goals as goal

pub returns : goal.returns
unfolding publication
returns c = λ x e f. rw (e, ap (λ (t : Txid). t.0) f) at c.push_writes.ensures
