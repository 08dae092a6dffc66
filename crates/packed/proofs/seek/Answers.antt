-- `seek` meets its contract: those ahead are those that the chain counts.
use Rattle.packed.specs.Insert.{ahead_of_list}
use Rattle.std.proofs.Common.{take, ltb, ◌∙◌, rules, tests}
use Rattle.std.proofs.lemmas.Iterator.{YieldsList-from_slice}
use Rattle.std.proofs.lemmas.Iterator.Search.{YieldsList-from_take_while}
use Rattle.std.proofs.lemmas.Iterator.Consumers.{count_from_yields_List}
use Rattle.packed.proofs.seek.Goals as goal

pub returns : goal.returns
returns c =
    count_from_yields_List c.take_while.result _ c.count.ensures.ran
    (YieldsList-from_take_while _ (λ y. ltb y c.args.v) (YieldsList-from_slice (take c.args.m c.args.x.now) cc) c.take_while.ensures.closure
    c.take_while.ensures.done (λ x b q k. search (rules, tests)))
    ∙ ahead_of_list c.args.v (take c.args.m c.args.x.now)
