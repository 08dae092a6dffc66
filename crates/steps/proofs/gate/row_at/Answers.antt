-- `row_at` meets its contract: within the table or past it.
use Rattle.std.proofs.Common.{rules}
use Rattle.steps.specs.GateTable.{row_at}
use Rattle.steps.proofs.gate.row_at.Goals as goal

pub returns : goal.returns
unfolding row_at
returns c = search rules
