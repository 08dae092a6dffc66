-- `mark_each` meets its contract. The invariant: the items from the next one on, marked besides those so far, make the marks of all.
use Rattle.std.proofs.Common.{◌≡◌, ℕ, map, drop}
use Rattle.std.specs.Fn.{FnReturnsAt}
use Rattle.commit.specs.Plan.Own.{set_each}
use Rattle.commit.proofs.plan.marks.mark_each.Given as goal

abbrev pub invariant-loop-item : goal.invariant-loop-item
invariant-loop-item g l =
    (f : g.row.T.Denot → ℕ) → ((x : g.row.T.Denot) (p : ℕ) → FnReturnsAt g.F.Fn l.place x p → p ≡ f x)
    → set_each l.mark (map f (drop l.item-index l.items)) l.marks ≡ set_each l.mark (map f l.items) l.initial.marks
