-- `flush_local_recycle_caches` meets its contract: it never ends the run.
use Rattle.std.proofs.Common.{refl}
use Rattle.steps.specs.Places.{end_place}
use Rattle.steps.proofs.gates.flush_local_recycle_caches.Goals as goal

pub returns : goal.returns
unfolding end_place
returns c = refl
