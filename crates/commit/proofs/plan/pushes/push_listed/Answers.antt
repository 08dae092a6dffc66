-- `push_listed` meets its contract. The invariant: what is pushed so far and what is left are the block.
use Rattle.std.proofs.Common.{rules, arith}
use Rattle.journal.specs.Pushing.{pushing_start}
use Rattle.commit.specs.Plan.Pushes.{push_listed}
use Rattle.commit.proofs.plan.pushes.push_listed.Goals as goal

pub loop-c-init : goal.loop-c-init
loop-c-init g c = λ f e. pushing_start _ _

pub loop-c-preserved : goal.loop-c-preserved
loop-c-preserved g c =
    λ f e. push_listed f c.args.codes.now c.loop-c.c-index (c.loop-c.invariant f e) (omega arith) (e _ _ (search rules)) c.push.ensures
