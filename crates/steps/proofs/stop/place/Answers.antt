-- `place` meets its contract: clean, or at a gate.
use Rattle.steps.specs.Ended.{stop_place}
use Rattle.steps.proofs.stop.place.Goals as goal

pub returns-in-Ok : goal.returns-in-Ok
unfolding stop_place
returns-in-Ok c = rw c.in-Ok.is

pub returns-in-Err : goal.returns-in-Err
unfolding stop_place
returns-in-Err c = rw c.in-Err.is c.place.ensures
