-- `aborts_at` meets its contract: a callback's gate, or by what the gate leaves.
use Rattle.std.proofs.Common.{refl, ap, ◌∙◌, eq-eqb, ne_eqb}
use denote.Enum.Bare.{sameb}
use Rattle.steps.specs.contracts.gate.Left.{the_type}
use Rattle.steps.specs.declared.gate.Left.{Left}
use Rattle.steps.specs.declared.gate.Left.TheVariants.{ByAbort}
use Rattle.steps.specs.GateTable.{is_by_abort}
use Rattle.commit.specs.Plan.Parts.{aborts_at, by_abort_told}
use Rattle.commit.proofs.plan.run.aborts_at.Goals as goal

pub returns-then-gate-ne-CALLBACK_ENDED : goal.returns-then-gate-ne-CALLBACK_ENDED
unfolding aborts_at
returns-then-gate-ne-CALLBACK_ENDED c =
    rw (ne_eqb _ _ c.if-gate-ne-CALLBACK_ENDED.true)
    (c.eq.ensures ∙ by_abort_told (λ (l : Left). sameb the_type l ByAbort) refl refl refl refl refl c.left_at.result ∙ ap is_by_abort c.left_at.ensures)

pub returns-else-gate-ne-CALLBACK_ENDED : goal.returns-else-gate-ne-CALLBACK_ENDED
unfolding aborts_at
returns-else-gate-ne-CALLBACK_ENDED c = rw (eq-eqb _ _ c.if-gate-ne-CALLBACK_ENDED.false)
