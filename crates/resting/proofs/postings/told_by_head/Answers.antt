-- `told_by_head` meets its contract.
use native.Mathlib.Omega.{arith}
use Rattle.records.specs.Limits.{places}
use Rattle.resting.specs.PostingForm.{valued_by, told_at}
use Rattle.fields.specs.Lent.{lent_at}
use Rattle.resting.proofs.postings.told_by_head.Goals as goal

pub returns-then-has_value : goal.returns-then-has_value
unfolding valued_by told_at
returns-then-has_value c =
    rw (← c.has_value.ensures, c.if-has_value.true, lent_at places c.args.s.now.key 0 (omega arith) c.place.ensures c.at.ensures)

pub returns-else-has_value : goal.returns-else-has_value
unfolding valued_by told_at
returns-else-has_value c = rw (← c.has_value.ensures, c.if-has_value.false)
