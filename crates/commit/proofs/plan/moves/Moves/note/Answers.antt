-- `Moves::note` meets its contract, part by part.
use Rattle.commit.specs.Plan.Moves.{change_more}
use Rattle.commit.proofs.plan.moves.Moves.note.Goals as goal

pub returns : goal.returns
returns c =
    λ cs e h. change_more _ _ cs e h c.push_value.ensures
    c.push_value-2.ensures c.mark_stripe.ensures c.mark_stripe-2.ensures
