-- `has_value` meets its contract.
use native.Mathlib.Omega.{arith}
use Rattle.records.specs.Limits.{places}
use Rattle.resting.specs.PostingForm.{valued_by}
use Rattle.fields.specs.Lent.{lent_at}
use Rattle.resting.proofs.postings.has_value.Goals as goal

pub returns : goal.returns
unfolding valued_by
returns c = lent_at places c.args.s.now.has _ (omega arith) c.place.ensures c.at.ensures
