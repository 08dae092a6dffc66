-- `walk_all` meets its contract. What is left to walk, from the present row and slot on, gives what the whole walk gives.
use mathlib.Core.Path.{◌≡◌}
use mathlib.Core.Bool.{true}
use mathlib.Core.List.{List}
use Prim.Native.Nat.{ℕ, ◌+◌, ◌≤◌}
use lib.ListN.{drop}
use Rattle.records.specs.Limits.{places}
use Rattle.rules.specs.Chains.{Walk, walk, walk_row, walk_rows}
use Rattle.fields.specs.Lent.{at_rows, at_places}
use Rattle.basic_laws.specs.Walk.{after}
use Rattle.fields.proofs.walk.walk_all.Given as goal

abbrev pub whole : List ℕ → List ℕ → Walk
whole heads next = walk (at_rows heads) (at_places next)

abbrev pub invariant-loop-p : goal.invariant-loop-p
invariant-loop-p l =
    (l.left ≤ places)
    × (l.ok ≡ true)
    × (after (at_places l.next) (drop (l.head-index + 1) (at_rows l.heads)) (walk_row l.left (at_places l.next) l.seen l.p) ≡ whole l.heads l.next)

abbrev pub decreases-loop-p : goal.decreases-loop-p
decreases-loop-p l = l.left

abbrev pub invariant-rows : goal.invariant-rows
invariant-rows l = (l.ok ≡ true) × (walk_rows (at_places l.next) (drop l.head-index (at_rows l.heads)) l.seen ≡ whole l.heads l.next)
