-- `base_of` meets its contract: by whether the row has an own write.
use Rattle.visibility.specs.Found.{base_of_row}
use Rattle.visibility.proofs.found.base_of.Goals as goal

pub returns-then-eq : goal.returns-then-eq
unfolding base_of_row
returns-then-eq c = rw (← c.last_own-last.ensures, ← c.eq.ensures, c.if-eq.true) c.visible_version.ensures

pub returns-else-eq : goal.returns-else-eq
unfolding base_of_row
returns-else-eq c = rw (← c.last_own-last.ensures, ← c.eq.ensures, c.if-eq.false)
