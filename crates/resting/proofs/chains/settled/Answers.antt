-- `settled` meets its contract.
use Rattle.resting.specs.Used.{settled_by}
use Rattle.resting.proofs.chains.settled.Goals as goal

pub returns-then-is_finished : goal.returns-then-is_finished
unfolding settled_by
returns-then-is_finished c = rw (← c.is_finished.ensures, c.if-is_finished.true)

pub returns-else-is_finished : goal.returns-else-is_finished
unfolding settled_by
returns-else-is_finished c = rw (← c.is_finished.ensures, c.if-is_finished.false)
