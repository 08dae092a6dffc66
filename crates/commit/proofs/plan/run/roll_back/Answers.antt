-- `roll_back` meets its contract: it fails after some removals, or not.
use Rattle.commit.specs.Plan.Ends.{rolled_part, rolled_whole}
use Rattle.commit.proofs.plan.run.roll_back.Goals as goal

pub returns-then-s : goal.returns-then-s
returns-then-s c =
    λ S x logged plan e q ok. rolled_part S x logged plan _ _ q ok c.args.made
    c.if-s.true (c.push_rollback.ensures S x e) c.poison_unless.ensures

pub returns-else-s : goal.returns-else-s
returns-else-s c =
    λ S x logged plan e q ok.
    rolled_whole S x logged plan _ _ q ok c.args.made c.if-s.false (c.push_rollback-else-s.ensures S x e)
