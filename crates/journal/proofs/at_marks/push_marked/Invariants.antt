-- `push_marked` meets its contract. The invariant: what is pushed so far and what is left are the block.
use Rattle.std.proofs.Common.{◌≡◌, ◌<◌, ℕ, length, take}
use Rattle.rules.specs.Puts.{Put}
use Rattle.journal.specs.Journal.{meant}
use Rattle.journal.specs.Pushing.{Pushing}
use Rattle.journal.specs.AtMarks.{marked, placed}
use Rattle.journal.proofs.at_marks.push_marked.Given as goal

abbrev pub invariant-loop-i : goal.invariant-loop-i
invariant-loop-i g l =
    (f : ℕ → Put) → ((i : ℕ) (p : _) → i < length l.marks → goal.F-post g l.put i p → meant p ≡ f i)
    → Pushing l.initial.j (take l.limit (placed f l.marks)) (marked f l.left l.i l.marks) l.j
