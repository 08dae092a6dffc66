-- `tx_left` meets its contract, by what the gate leaves.
use Rattle.std.proofs.Common.{rules}
use Rattle.steps.specs.Ends.{tx_for}
use Rattle.steps.proofs.ends.tx_left.Goals as goal

pub returns-in-All : goal.returns-in-All
unfolding tx_for
returns-in-All c = rw (← c.place.ensures, ← c.left_at.ensures, c.in-All.is) (search rules)

pub returns-in-ByAbort : goal.returns-in-ByAbort
unfolding tx_for
returns-in-ByAbort c = rw (← c.place.ensures, ← c.left_at.ensures, c.in-ByAbort.is) (search rules)

pub returns-in-NoAccesses : goal.returns-in-NoAccesses
unfolding tx_for
returns-in-NoAccesses c = rw (← c.place.ensures, ← c.left_at.ensures, c.in-NoAccesses.is) (search rules)

pub returns-in-NoWrites : goal.returns-in-NoWrites
unfolding tx_for
returns-in-NoWrites c = rw (← c.place.ensures, ← c.left_at.ensures, c.in-NoWrites.is) (search rules)

pub returns-in-Emptied : goal.returns-in-Emptied
unfolding tx_for
returns-in-Emptied c = rw (← c.place.ensures, ← c.left_at.ensures, c.in-Emptied.is) (search rules)
