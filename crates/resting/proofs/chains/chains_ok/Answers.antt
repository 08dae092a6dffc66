-- `chains_ok` meets its contract.
use borrow.Author.Rules.{rules}
use Rattle.std.proofs.lemmas.Iterator.{YieldsList-from_slice}
use Rattle.std.proofs.lemmas.Iterator.Search.{all_from_yields_List}
use Rattle.resting.specs.VersionTurns.{chain_at}
use Rattle.resting.proofs.chains.chains_ok.Goals as goal

pub returns : goal.returns
returns c =
    all_from_yields_List (chain_at c.args.s.now) _ _ _ c.all.ensures.ran (YieldsList-from_slice c.args.s.now.heads cc) (λ x b q k. search rules)
