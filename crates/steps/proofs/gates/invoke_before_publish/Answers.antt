-- `invoke_before_publish` meets its contract: its gate, if it is struck.
use Rattle.std.proofs.Common.{rules}
use Rattle.steps.specs.Places.{place_of}
use Rattle.steps.proofs.gates.invoke_before_publish.Goals as goal

pub returns : goal.returns
unfolding place_of
returns c = search rules
