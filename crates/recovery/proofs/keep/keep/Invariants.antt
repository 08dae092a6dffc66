-- `keep` meets its contract: the places before `i` are kept or cleared.
use mathlib.Core.Path.{◌≡◌}
use lib.ListN.{length}
use Rattle.rules.specs.Lists.{keep}
use Rattle.recovery.specs.Keep.{keep_left}
use Rattle.recovery.proofs.keep.keep.Given as goal

abbrev pub invariant-loop-i : goal.invariant-loop-i
invariant-loop-i g l = (length l.x ≡ g.row.N) × (keep_left l.none l.seen l.x l.i ≡ keep l.none l.seen l.initial.x)
