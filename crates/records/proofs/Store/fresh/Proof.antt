-- `Store::fresh` meets its contract.
use borrow.Author.Rules.{rules}
use Rattle.records.specs.Zero.{fresh, empty_store}
use Rattle.records.proofs.Store.fresh.Statement.{statement}
use Rattle.records.proofs.Store.fresh.Tie as tie

returns : tie.Need-returns
unfolding fresh empty_store
returns c = search rules

pub fresh_spec : {M : Type 1} → statement M
fresh_spec = tie.close (tie.spec returns)
