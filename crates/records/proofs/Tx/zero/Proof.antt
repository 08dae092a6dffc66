-- `Tx::zero` meets its contract.
use borrow.Author.Rules.{rules}
use Rattle.records.specs.Zero.{zero_tx, only_txid}
use Rattle.records.proofs.Tx.zero.Statement.{statement}
use Rattle.records.proofs.Tx.zero.Tie as tie

returns : tie.Need-returns
unfolding zero_tx only_txid
returns c = search rules

pub zero_spec : {M : Type 1} → statement M
zero_spec = tie.close (tie.spec returns)
