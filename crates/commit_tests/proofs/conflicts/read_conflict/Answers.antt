-- `read_conflict` meets its contract, by its tests in order.
use borrow.Author.Rules.{rules}
use Rattle.commit_tests.specs.Conflicts.{read_conflict_of}
use Rattle.commit_tests.proofs.conflicts.read_conflict.Goals as goal

pub returns-then-eq : goal.returns-then-eq
unfolding read_conflict_of
returns-then-eq c = search rules

pub returns-then-ne : goal.returns-then-ne
unfolding read_conflict_of
returns-then-ne c = search rules

pub returns-then-eq-2 : goal.returns-then-eq-2
unfolding read_conflict_of
returns-then-eq-2 c = search rules

pub returns-then-x-ender : goal.returns-then-x-ender
unfolding read_conflict_of
returns-then-x-ender c = search rules

pub returns-else-x-ender : goal.returns-else-x-ender
unfolding read_conflict_of
returns-else-x-ender c = search rules
