-- `final_write_indices` meets its contract: it never ends the run.
use Rattle.std.proofs.Common.{refl}
use Rattle.steps.specs.Places.{end_place}
use Rattle.steps.proofs.gates.final_write_indices.Goals as goal

pub returns : goal.returns
unfolding end_place
returns c = refl
