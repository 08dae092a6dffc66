-- `push_listed` meets its contract. The invariant: what is pushed so far and what is left are the block.
use Rattle.std.proofs.Common.{◌≡◌, ℕ, map, drop}
use Rattle.rules.specs.Puts.{Put}
use Rattle.journal.specs.Journal.{meant}
use Rattle.journal.specs.Pushing.{Pushing}
use Rattle.commit.proofs.plan.pushes.push_listed.Given as goal

abbrev pub invariant-loop-c : goal.invariant-loop-c
invariant-loop-c g l =
    (f : ℕ → Put) → ((c : ℕ) (p : _) → goal.F-post g l.put c p → meant p ≡ f c)
    → Pushing l.initial.j (map f l.codes) (map f (drop l.c-index l.codes)) l.j
