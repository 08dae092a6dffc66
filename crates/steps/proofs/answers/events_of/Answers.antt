-- `events_of` meets its contract, flag by flag.
use Rattle.std.proofs.Common.{rules}
use Rattle.rules.specs.Answer.{events_of}
use Rattle.steps.specs.RecordAndEvents.{events_by}
use Rattle.steps.proofs.answers.events_of.Goals as goal

pub returns : goal.returns
unfolding events_of events_by
returns c = search rules
