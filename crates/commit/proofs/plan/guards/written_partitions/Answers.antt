-- `written_partitions` meets its contract.
use Rattle.std.proofs.Common.{rules, ◌∙◌, map}
use Rattle.rules.specs.Transaction.{writes_of}
use Rattle.commit.specs.Plan.Own.{marked_each}
use Rattle.commit.specs.Plan.Guards.{partition_written, no_partitions, written_marks}
use Rattle.commit.proofs.plan.guards.written_partitions.Goals as goal

pub returns : goal.returns
unfolding no_partitions written_marks
returns c =
    rw c.first.ensures at (c.mark_each.ensures partition_written (λ x p e. search rules))
    ∙ marked_each (map partition_written (writes_of c.args.x.now)) no_partitions
