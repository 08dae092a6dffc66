-- `locked_by_another` meets its contract, by its tests in order.
use borrow.Author.Rules.{rules}
use Rattle.fields.specs.Locks.{locked_of}
use Rattle.fields.proofs.locks.locked_by_another.Goals as goal

pub returns-then-ne : goal.returns-then-ne
unfolding locked_of
returns-then-ne c = search rules

pub returns-else-ne : goal.returns-else-ne
unfolding locked_of
returns-else-ne c = search rules
