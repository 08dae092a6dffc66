-- `take_stripes` meets its contract, by the gate.
use Rattle.std.proofs.Common.{lt-ltb}
use Rattle.journal.specs.Adds.{adds_none}
use Rattle.commit.proofs.plan.run.take_stripes.Goals as goal

pub returns-else-gate-ge-PARTITION_GUARDS_FAILED : goal.returns-else-gate-ge-PARTITION_GUARDS_FAILED
returns-else-gate-ge-PARTITION_GUARDS_FAILED c = λ S x e ok. rw (lt-ltb c.args.gate _ c.if-gate-ge-PARTITION_GUARDS_FAILED.false) (adds_none _)
