-- `is_own` meets its contract, by its tests in order.
use Rattle.std.proofs.Common.{◌∙◌, sym}
use borrow.Author.Tests.{eqb-true, eqb-false}
use Rattle.visibility.specs.Slots.{own_unmarked, own_other}
use Rattle.visibility.proofs.slots.is_own.Goals as goal

pub returns-then-eq : goal.returns-then-eq
returns-then-eq c = own_unmarked _ _ _ _ _ c.txid_at.ensures _ c.mark_at.ensures (eqb-true _ _ (sym c.eq.ensures ∙ c.if-eq.true))

pub returns-else-eq : goal.returns-else-eq
returns-else-eq c = c.if-eq.false ∙ own_other _ _ _ _ _ c.txid_at.ensures (eqb-false _ _ (sym c.eq.ensures ∙ c.if-eq.false))
