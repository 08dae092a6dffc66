-- `is_finished` meets its contract, by its tests in order.
use Rattle.std.proofs.Common.{◌∙◌, eq-eqb}
use Rattle.basic_laws.specs.Chains.{memb_of_list}
use Rattle.fields.specs.ActivePlaces.{finished_none, finished_doomed, finished_else}
use Rattle.fields.proofs.txids.is_finished.Goals as goal

pub returns-then-t-eq0 : goal.returns-then-t-eq0
returns-then-t-eq0 c = eq-eqb _ _ c.if-t-eq0.true ∙ finished_none _ _ _ c.if-t-eq0.true

pub returns-then-t-doomed : goal.returns-then-t-doomed
returns-then-t-doomed c =
    finished_else _ _ _ _ c.if-t-eq0.false c.if-t-doomed.true (c.contains.ensures.value ∙ memb_of_list c.args.t c.args.active.now)

pub returns-else-t-doomed : goal.returns-else-t-doomed
returns-else-t-doomed c = rw (eq-eqb _ _ c.if-t-doomed.false) (finished_doomed _ _ _ c.if-t-eq0.false c.if-t-doomed.false)
