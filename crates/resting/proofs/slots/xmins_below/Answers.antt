-- `xmins_below` meets its contract.
use lib.Dec.{ltb}
use borrow.Author.Rules.{rules}
use Rattle.std.proofs.Common.{tests}
use Rattle.std.proofs.lemmas.Iterator.{YieldsList-from_slice}
use Rattle.std.proofs.lemmas.Iterator.Search.{all_from_yields_List}
use Rattle.resting.proofs.slots.xmins_below.Goals as goal

pub returns : goal.returns
returns c =
    all_from_yields_List (λ t. ltb t c.args.s.now.clock) _ _ _ c.all.ensures.ran (YieldsList-from_slice c.args.s.now.xmin cc) (λ x b q k. search (rules, tests))
