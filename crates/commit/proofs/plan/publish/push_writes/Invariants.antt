-- `push_writes` meets its contract. The invariant: what is pushed so far and what is left are the block.
use Rattle.std.proofs.Common.{take}
use Rattle.rules.specs.Lists.{flat}
use Rattle.rules.specs.Changes.{publish_one}
use Rattle.journal.specs.Pushing.{Pushing}
use Rattle.commit.specs.Plan.Publish.{publishing}
use Rattle.commit.proofs.plan.publish.push_writes.Given as goal

abbrev pub invariant-loop-w : goal.invariant-loop-w
invariant-loop-w l =
    Pushing l.initial.j (take l.limit (flat (publish_one l.t.0) l.writes)) (publishing l.t.0 l.left l.w-index l.writes) l.j
