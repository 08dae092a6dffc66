-- `whole_answer` meets its contract, part by part.
use Rattle.std.proofs.Common.{◌∙◌}
use Rattle.steps.specs.RecordAndEvents.{record_with_law}
use Rattle.commit.specs.Planning.{laid_count}
use Rattle.commit.specs.Run.{whole_answer}
use Rattle.commit.proofs.answers.whole_answer.Goals as goal

pub returns : goal.returns
unfolding whole_answer
returns c = λ e. rw (
  c.tx_left.ensures,
  c.record_of.ensures ∙ record_with_law _ _ e,
  c.events_of.ensures,
  c.passed_at.ensures,
  c.place-gate.ensures,
  c.ending_at-end.ensures,
  laid_count _ e,
)
