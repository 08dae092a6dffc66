-- `admitted_marked` meets its contract: lent whole, the store is judged as it stands, and the transaction under the marks of its walk.
use Rattle.std.proofs.Common.{rules, ◌∙◌, ap}
use Rattle.records.specs.Limits.{active_limit}
use Rattle.rules.specs.Lists.{memb}
use Rattle.rules.specs.Store.{active_txids}
use Rattle.fields.specs.Lent.{array_same}
use Rattle.fitting.specs.Fits.{fit_by_law}
use Rattle.admit.specs.Admission.{as_result, admitted_by}
use Rattle.admit.proofs.admission.admitted_marked.Goals as goal

pub returns-clause-answer : goal.returns-clause-answer
returns-clause-answer c =
    let S = c.args.s.now in
    let x = c.args.x.now in
    c.tried.ensures
    ∙ ap as_result
    (admitted_by S x c.args.planned
    c.resting_marked-rests.ensures.answer
    (c.fit_of-fits.ensures ∙ fit_by_law S x _ (search rules) c.resting_marked-rests.ensures.marks)
    (c.is_active-active.ensures ∙ ap (λ l. memb x.txid.0 (active_txids l)) (array_same active_limit 0 S.active (search rules))))
