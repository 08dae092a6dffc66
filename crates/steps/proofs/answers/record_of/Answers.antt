-- `record_of` meets its contract: the record of a commit that is done, and else none.
use Rattle.steps.specs.RecordAndEvents.{record_with}
use Rattle.steps.proofs.answers.record_of.Goals as goal

pub returns-then-not-done : goal.returns-then-not-done
unfolding record_with
returns-then-not-done c = rw c.if-not-done.true c.no_record.ensures

pub returns : goal.returns
unfolding record_with
returns c = rw c.if-not-done.false
