-- `clear_heads` meets its contract: the rows from the present one on are left.
use mathlib.Core.Path.{◌≡◌}
use lib.ListN.{length}
use Rattle.records.specs.Limits.{places}
use Rattle.rules.specs.Admitted.{finished}
use Rattle.rules.specs.Recovery.{clear}
use Rattle.recovery.specs.Clear.{clear_left}
use Rattle.recovery.proofs.clear.clear_heads.Given as goal

abbrev pub invariant-loop-head : goal.invariant-loop-head
invariant-loop-head l =
    (length l.xmax ≡ places)
    × (clear_left (finished l.s.active l.s.doomed) l.heads l.xmax l.head-index ≡ clear (finished l.s.active l.s.doomed) l.heads l.initial.xmax)
