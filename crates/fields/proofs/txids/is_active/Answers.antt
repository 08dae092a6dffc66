-- `is_active` meets its contract: the list is as long as its type says, and ends where the first 0 stands.
use Rattle.std.proofs.Common.{rules, tests, ◌≡◌, ◌∙◌, ◌==◌, ap, not, length}
use Rattle.std.specs.List.{take_while}
use Rattle.std.proofs.lemmas.Iterator.{YieldsList-from_slice}
use Rattle.std.proofs.lemmas.Iterator.Search.{YieldsList-from_take_while, any_from_yields_List}
use Rattle.records.specs.Limits.{active_limit}
use Rattle.rules.specs.Lists.{memb}
use Rattle.basic_laws.specs.Chains.{memb_of_list, before_zero_of_list}
use Rattle.fields.specs.Lent.{array_same}
use Rattle.fields.proofs.txids.is_active.Goals as goal

pub returns : goal.returns
returns c =
    let l = c.args.active.now in
    let t = c.args.t.0 in
    let long : length l ≡ active_limit = search rules in
    rw (array_same active_limit 0 l long)
    (any_from_yields_List (λ x. x == t) _ _ _ c.any.ensures.ran
    (YieldsList-from_take_while _ (λ y. not (y == 0)) (YieldsList-from_slice l cc) c.take_while.ensures.closure c.take_while.ensures.done
    (λ x b q k. search (rules, tests)))
    (λ x b q k. search (rules, tests))
    ∙ memb_of_list t (take_while (λ y. not (y == 0)) l) ∙ ap (memb t) (before_zero_of_list l))
