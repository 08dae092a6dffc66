-- `read_ptr` meets its contract: by whether the row has an own write.
use Rattle.visibility.specs.Found.{read_ptr_of}
use Rattle.visibility.proofs.found.read_ptr.Goals as goal

pub returns-then-eq : goal.returns-then-eq
unfolding read_ptr_of
returns-then-eq c = rw (← c.last_own-own.ensures, ← c.eq.ensures, c.if-eq.true) c.visible_version.ensures

pub returns-else-eq : goal.returns-else-eq
unfolding read_ptr_of
returns-else-eq c = rw (← c.last_own-own.ensures, ← c.eq.ensures, c.if-eq.false)
