-- `push_writes` meets its contract. The invariant: what is pushed so far and what is left are the block.
use Rattle.std.proofs.Common.{arith}
use Rattle.journal.specs.Pushing.{pushing_start, pushing_end}
use Rattle.commit.specs.Plan.Publish.{publishing_whole, publishing_end, push_one}
use Rattle.commit.proofs.plan.publish.push_writes.Goals as goal

pub loop-w-init : goal.loop-w-init
loop-w-init c = rw (publishing_whole c.args.t.0 c.args.limit c.args.writes.now) (pushing_start _ _)

pub loop-w-preserved : goal.loop-w-preserved
loop-w-preserved c = push_one _ _ _ _ (omega arith) c.loop-w.invariant c.push_write.ensures c.size_of.ensures (omega arith)

pub returns : goal.returns
returns c = pushing_end c.loop-w.invariant (publishing_end _ _ _ _ (omega arith))
