-- `none_found` meets its contract.
use mathlib.Core.Path.{refl}
use Rattle.calls.specs.LookupAnswer.{none_found}
use Rattle.calls.proofs.lookup.none_found.Goals as goal

pub returns : goal.returns
unfolding none_found
returns c = refl
