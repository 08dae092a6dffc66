-- `no_events` meets its contract, flag by flag.
use Rattle.rules.specs.Answer.{events_of, no_events}
use mathlib.Core.Path.{refl}
use Rattle.steps.proofs.none.no_events.Goals as goal

pub returns : goal.returns
unfolding no_events events_of
returns c = refl
