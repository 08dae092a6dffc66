-- `publish_index_stamps` meets its contract: its gate, if it is struck.
use Rattle.std.proofs.Common.{rules}
use Rattle.steps.specs.Places.{place_of}
use Rattle.steps.proofs.gates.publish_index_stamps.Goals as goal

pub returns : goal.returns
unfolding place_of
returns c = search rules
