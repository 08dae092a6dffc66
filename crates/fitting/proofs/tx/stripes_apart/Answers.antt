-- `stripes_apart` meets its contract.
use Rattle.std.proofs.Common.{rules}
use Rattle.std.proofs.lemmas.Iterator.{YieldsList-from_slice}
use Rattle.std.proofs.lemmas.Iterator.Search.{all_from_yields_List}
use Rattle.fitting.specs.Apart.{stripe_fit}
use Rattle.fitting.proofs.tx.stripes_apart.Goals as goal

pub returns-then-all : goal.returns-then-all
returns-then-all c =
    let all_is = all_from_yields_List stripe_fit _ _ _ c.all.ensures.ran (YieldsList-from_slice c.args.reads.now cc) (λ x b q k. search rules) in
    rw (← all_is, c.if-all.true) c.all_apart.ensures
