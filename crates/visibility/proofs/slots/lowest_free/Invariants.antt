-- `lowest_free` meets its contract: the first free place from i on is the first of all.
use mathlib.Core.Path.{◌≡◌}
use Rattle.rules.specs.Calls.{lowest_free}
use Rattle.fields.specs.Lent.{at_places}
use Rattle.visibility.specs.Slots.{free_from}
use Rattle.visibility.proofs.slots.lowest_free.Given as goal

abbrev pub invariant-loop-i : goal.invariant-loop-i
invariant-loop-i l = free_from l.xmin l.i ≡ lowest_free (at_places l.xmin)
