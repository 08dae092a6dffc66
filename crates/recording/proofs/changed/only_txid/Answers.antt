-- `only_txid` meets its contract: the zero transaction with its txid set.
use Rattle.records.specs.Zero.{zero_tx, only_txid}
use Rattle.recording.proofs.changed.only_txid.Goals as goal

pub returns : goal.returns
unfolding zero_tx only_txid
returns c = rw c.zero.ensures
