-- `live` meets its contract: those before the first zero are those that the chain counts.
use Rattle.basic_laws.specs.Chains.{before_zero_of_list}
use Rattle.std.proofs.Common.{ap, ◌∙◌, length, not, ◌==◌, rules, tests}
use Rattle.std.proofs.lemmas.Iterator.{YieldsList-from_slice}
use Rattle.std.proofs.lemmas.Iterator.Search.{YieldsList-from_take_while}
use Rattle.std.proofs.lemmas.Iterator.Consumers.{count_from_yields_List}
use Rattle.packed.proofs.live.Goals as goal

pub returns : goal.returns
returns c =
    count_from_yields_List c.take_while.result _ c.count.ensures.ran
    (YieldsList-from_take_while _ (λ y. not (y == 0)) (YieldsList-from_slice c.args.x.now cc) c.take_while.ensures.closure c.take_while.ensures.done
    (λ x b q k. search (rules, tests)))
    ∙ ap length (before_zero_of_list c.args.x.now)
