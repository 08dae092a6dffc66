-- `take_partitions` meets its contract, by the gate.
use Rattle.std.proofs.Common.{lt-ltb}
use Rattle.journal.specs.Adds.{adds_none}
use Rattle.commit.proofs.plan.run.take_partitions.Goals as goal

pub returns-else-gate-ge-UNLOGGED_CHECK_FAILED : goal.returns-else-gate-ge-UNLOGGED_CHECK_FAILED
returns-else-gate-ge-UNLOGGED_CHECK_FAILED c = λ x e. rw (lt-ltb c.args.gate _ c.if-gate-ge-UNLOGGED_CHECK_FAILED.false) (adds_none _)
