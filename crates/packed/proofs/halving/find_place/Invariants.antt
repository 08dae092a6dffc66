-- `find_place` meets its contract: the looks so far and the search of what is left make the whole search.
use mathlib.Core.Path.{◌≡◌}
use Prim.Native.Nat.{◌+◌, ◌≤◌, min}
use lib.ListN.{length, take}
use Rattle.packed.specs.Halving.{place_found}
use Rattle.packed.specs.HalvingTurns.{searched}
use Rattle.packed.proofs.halving.find_place.Given as goal

abbrev pub invariant-loop-size : goal.invariant-loop-size
invariant-loop-size l =
    (l.looks + l.size ≤ length l.x) × (l.from + l.size ≤ min l.n (length l.x)) × (searched l.v l.n l.x l.from l.size l.looks ≡ place_found l.v (take l.n l.x))

abbrev pub decreases-loop-size : goal.decreases-loop-size
decreases-loop-size l = l.size
