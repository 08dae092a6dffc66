-- `abort_or_poison` meets its contract: it fails, or not.
use Rattle.std.proofs.Common.{sym, ap, ◌∙◌}
use Rattle.rules.specs.Types.{Txid}
use Rattle.commit.specs.Plan.Ends.{aborted_not, aborted_whole}
use Rattle.commit.proofs.plan.run.abort_or_poison.Goals as goal

pub returns-then-failing : goal.returns-then-failing
returns-then-failing c = λ S x logged plan e t f long. aborted_not S x logged plan _ (sym f ∙ c.if-failing.true) c.poison_unless.ensures

pub returns-else-failing : goal.returns-else-failing
returns-else-failing c =
    λ S x logged plan e t f long.
    aborted_whole S x logged plan _ (sym f ∙ c.if-failing.false) (rw (ap (λ (q : Txid). q.0) t) at (c.push_abort.ensures S e long))
