-- `zeros_from` meets its contract: the chain tests each number from place n on.
use Rattle.std.proofs.Common.{rules, tests}
use Rattle.std.proofs.lemmas.Iterator.{YieldsList-from_slice}
use Rattle.std.proofs.lemmas.Iterator.Adapters.{YieldsList-from_skip}
use Rattle.std.proofs.lemmas.Iterator.Search.{all_from_yields_List}
use Rattle.rules.specs.Lists.{is_zero}
use Rattle.fields.proofs.lent.zeros_from.Goals as goal

pub returns : goal.returns
returns c =
    all_from_yields_List is_zero _ _ _ c.all.ensures.ran (YieldsList-from_skip c.args.n (YieldsList-from_slice c.args.x.now cc) cc)
    (λ x b q k. search (rules, tests))
