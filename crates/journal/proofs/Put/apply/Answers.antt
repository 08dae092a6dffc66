-- `Put::apply` meets its contract: the cases that the search leaves.
use Rattle.std.proofs.Common.{rules}
use Rattle.rules.specs.Store.{postings_of}
use Rattle.journal.proofs.Put.apply.Goals as goal

pub returns-in-Insert : goal.returns-in-Insert
unfolding postings_of
returns-in-Insert c = search rules

pub returns-in-Remove : goal.returns-in-Remove
unfolding postings_of
returns-in-Remove c = search rules
