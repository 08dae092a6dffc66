-- `poison_unless` meets its contract, by the test.
use Rattle.journal.specs.Adds.{adds_none}
use Rattle.commit.proofs.plan.run.poison_unless.Goals as goal

pub returns-else-not-already : goal.returns-else-not-already
returns-else-not-already c = rw c.if-not-already.false (adds_none _)
