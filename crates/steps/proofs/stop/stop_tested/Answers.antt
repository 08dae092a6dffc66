-- `stop_tested` meets its contract, by its tests.
use Rattle.steps.specs.Ended.{two_gates}
use Rattle.steps.proofs.stop.stop_tested.Goals as goal

pub returns-then-struck : goal.returns-then-struck
unfolding two_gates
returns-then-struck c = rw c.if-struck.true

pub returns-then-yes : goal.returns-then-yes
unfolding two_gates
returns-then-yes c = rw (c.if-struck.false, c.if-yes.true)

pub returns-else-yes : goal.returns-else-yes
unfolding two_gates
returns-else-yes c = rw (c.if-struck.false, c.if-yes.false)
