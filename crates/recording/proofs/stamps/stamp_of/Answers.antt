-- `stamp_of` meets its contract: a stripe is a place of the array.
use mathlib.Core.Path.{sym}
use native.Mathlib.Omega.{arith}
use Rattle.records.specs.Limits.{stripes}
use Rattle.fields.specs.Lent.{array_at}
use Rattle.recording.proofs.stamps.stamp_of.Goals as goal

pub returns : goal.returns
returns c = sym (array_at stripes 0 _ _ (omega arith))
