-- `drop_txid` meets its contract, by the gate.
use Rattle.std.proofs.Common.{lt-ltb}
use Rattle.journal.specs.Adds.{adds_none}
use Rattle.commit.proofs.plan.run.drop_txid.Goals as goal

pub returns-else-gate-ge-STAMP_FAILED : goal.returns-else-gate-ge-STAMP_FAILED
returns-else-gate-ge-STAMP_FAILED c = rw (lt-ltb c.args.gate _ c.if-gate-ge-STAMP_FAILED.false) (adds_none _)
