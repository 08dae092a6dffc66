-- `finish` meets its contract: it fails, or not.
use Rattle.journal.specs.Adds.{adds_none}
use Rattle.commit.specs.Plan.Ends.{finish_done, finish_not}
use Rattle.commit.proofs.plan.run.finish.Goals as goal

pub returns-then-not-s : goal.returns-then-not-s
returns-then-not-s c = λ S x logged plan h. finish_done h 0 c.if-not-s.true c.push.ensures

pub returns-else-not-s : goal.returns-else-not-s
returns-else-not-s c = λ S x logged plan h. rw (finish_not h c.if-not-s.false) (adds_none _)
