-- `active_count` meets its contract: the list is as long as its type says, and ends where the first 0 stands.
use Rattle.std.proofs.Common.{rules, tests, ◌≡◌, ◌∙◌, ◌==◌, ap, not, length}
use Rattle.std.proofs.lemmas.Iterator.{YieldsList-from_slice}
use Rattle.std.proofs.lemmas.Iterator.Search.{YieldsList-from_take_while}
use Rattle.std.proofs.lemmas.Iterator.Consumers.{count_from_yields_List}
use Rattle.records.specs.Limits.{active_limit}
use Rattle.basic_laws.specs.Chains.{before_zero_of_list}
use Rattle.fields.specs.Lent.{array_same}
use Rattle.visibility.proofs.active.active_count.Goals as goal

pub returns : goal.returns
returns c =
    let l = c.args.active.now in
    let long : length l ≡ active_limit = search rules in
    rw (array_same active_limit 0 l long)
    (count_from_yields_List _ _ c.count.ensures.ran
    (YieldsList-from_take_while _ (λ y. not (y == 0)) (YieldsList-from_slice l cc) c.take_while.ensures.closure c.take_while.ensures.done
    (λ x b q k. search (rules, tests)))
    ∙ ap length (before_zero_of_list l))
