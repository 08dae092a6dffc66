-- `strip` meets its contract: the numbers kept, and those to come without v, stay the same list.
use mathlib.Core.Path.{◌≡◌}
use mathlib.Core.List.{◌++◌}
use Prim.Native.Nat.{◌≤◌}
use lib.ListN.{take}
use lib.Seq.{slice}
use Rattle.rules.specs.Lists.{without}
use Rattle.packed.proofs.strip.Given as goal

abbrev pub invariant-loop-i : goal.invariant-loop-i
invariant-loop-i l =
    (l.kept ≤ l.i) × (take l.kept l.x ++ without l.v (slice l.i l.m l.x) ≡ without l.v (take l.m l.initial.x))
