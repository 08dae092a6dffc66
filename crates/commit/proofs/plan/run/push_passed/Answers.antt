-- `push_passed` meets its contract, block by block.
use Rattle.commit.specs.Plan.Planned.{txid_is, recycled_is, changed_is, passed_put}
use Rattle.commit.proofs.plan.run.push_passed.Goals as goal

pub returns : goal.returns
returns c =
    λ S x logged plan h ws. passed_put h _
    c.limit_at.ensures
    (c.push_publication.ensures x ws (txid_is h))
    c.limit_at-2.ensures
    (c.push_recycling.ensures S x (recycled_is h) h.long)
    c.drop_txid.ensures c.limit_at-3.ensures
    (c.push_stamping.ensures S x (changed_is h) (txid_is h))
