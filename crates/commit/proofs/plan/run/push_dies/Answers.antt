-- `push_dies` meets its contract, by the gate.
use Rattle.std.proofs.Common.{sym, ◌∙◌}
use Rattle.journal.specs.Adds.{adds_none}
use Rattle.commit.specs.Plan.Planned.{txid_is, own_is}
use Rattle.commit.specs.Plan.Ends.{abort_is, dies_here, dies_not}
use Rattle.commit.proofs.plan.run.push_dies.Goals as goal

pub returns-then-aborts_at : goal.returns-then-aborts_at
returns-then-aborts_at c =
    λ S x logged plan h. dies_here h _ (sym c.aborts_at.ensures ∙ c.if-aborts_at.true)
    (c.abort_or_poison.ensures S x logged plan (own_is h) (txid_is h) (abort_is S x logged plan h.strikes) h.long)

pub returns-else-aborts_at : goal.returns-else-aborts_at
returns-else-aborts_at c = λ S x logged plan h. rw (dies_not S x logged plan _ (sym c.aborts_at.ensures ∙ c.if-aborts_at.false)) (adds_none _)
