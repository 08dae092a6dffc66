-- `push_lets` meets its contract, by the gate.
use Rattle.std.proofs.Common.{lt-ltb, le-ltb}
use Rattle.journal.specs.Adds.{adds_none}
use Rattle.commit.specs.Plan.Parts.{lets}
use Rattle.commit.proofs.plan.run.push_lets.Goals as goal

pub returns-then-gate-lt-PARTITION_GUARDS_FAILED : goal.returns-then-gate-lt-PARTITION_GUARDS_FAILED
unfolding lets
returns-then-gate-lt-PARTITION_GUARDS_FAILED c = λ S x logged plan e f ok. rw (lt-ltb _ _ c.if-gate-lt-PARTITION_GUARDS_FAILED.true) (adds_none _)

pub returns-then-gate-lt-UNLOGGED_CHECK_FAILED : goal.returns-then-gate-lt-UNLOGGED_CHECK_FAILED
unfolding lets
returns-then-gate-lt-UNLOGGED_CHECK_FAILED c =
    λ S x logged plan e f ok. rw (le-ltb _ _ c.if-gate-lt-PARTITION_GUARDS_FAILED.false, lt-ltb _ _ c.if-gate-lt-UNLOGGED_CHECK_FAILED.true)
    (c.push_index_guards.ensures S x e ok)

pub returns-else-gate-lt-UNLOGGED_CHECK_FAILED : goal.returns-else-gate-lt-UNLOGGED_CHECK_FAILED
unfolding lets
returns-else-gate-lt-UNLOGGED_CHECK_FAILED c =
    λ S x logged plan e f ok.
    rw (le-ltb _ _ c.if-gate-lt-PARTITION_GUARDS_FAILED.false, le-ltb _ _ c.if-gate-lt-UNLOGGED_CHECK_FAILED.false)
    (c.push_release.ensures S x e f ok)
