-- `push_run` meets its contract, block by block.
use Rattle.commit.specs.Plan.Planned.{stripes_are_law, partitions_are_law}
use Rattle.commit.specs.Plan.Ends.{run_put}
use Rattle.commit.proofs.plan.run.push_run.Goals as goal

pub returns : goal.returns
returns c =
    λ S x logged plan h ws.
    run_put h _ (c.push_taken.ensures S x logged plan h)
    (c.push_passed.ensures S x logged plan h ws)
    c.push_poisons.ensures
    (c.push_undoes.ensures S x logged plan h)
    (c.push_drops.ensures S x logged plan h)
    (c.push_lets.ensures S x logged plan (stripes_are_law h) (partitions_are_law h) h.fits) (c.push_dies.ensures S x logged plan h)
