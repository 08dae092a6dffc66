-- `push_taken` meets its contract, block by block.
use Rattle.commit.specs.Plan.Planned.{into_is, out_is, stripes_are_law, partitions_are_law, taken_put}
use Rattle.commit.proofs.plan.run.push_taken.Goals as goal

pub returns : goal.returns
returns c =
    λ S x logged plan h. taken_put h _
    (c.take_stripes.ensures S x (stripes_are_law h) h.fits)
    (c.take_partitions.ensures x (partitions_are_law h))
    c.limit_at.ensures
    (c.push_insertions.ensures S x (into_is h)) c.limit_at-2.ensures
    (c.push_removals.ensures S x (out_is h))
