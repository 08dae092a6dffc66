-- `no_record` meets its contract.
use Rattle.rules.specs.Answer.{no_record}
use mathlib.Core.Path.{refl}
use Rattle.steps.proofs.none.no_record.Goals as goal

pub returns : goal.returns
unfolding no_record
returns c = refl
