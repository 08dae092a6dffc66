-- `allowed_at` meets its contract: the constant table is the definitions' table of masks.
use Rattle.std.proofs.Common.{rules}
use Rattle.rules.specs.Faults.{masks, table}
use Rattle.rules.proofs.allowed_at.Goals as goal

pub returns : goal.returns
unfolding masks table
returns c = search rules
