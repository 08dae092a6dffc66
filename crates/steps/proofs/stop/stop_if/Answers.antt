-- `stop_if` meets its contract, by its test.
use Rattle.steps.specs.Places.{end_place}
use Rattle.steps.specs.Stops.{gate_from}
use Rattle.steps.proofs.stop.stop_if.Goals as goal

pub returns-then-struck : goal.returns-then-struck
unfolding gate_from end_place
returns-then-struck c = rw c.if-struck.true

pub returns-else-struck : goal.returns-else-struck
unfolding gate_from end_place
returns-else-struck c = rw c.if-struck.false
