-- `visible_version` meets its contract: what is found from the present version on is what is found from the head on.
use mathlib.Core.Path.{◌≡◌}
use Prim.Native.Nat.{◌-◌}
use Rattle.records.specs.Limits.{places}
use Rattle.fields.specs.Lent.{at_places}
use Rattle.visibility.specs.ChainTurns.{visible_from}
use Rattle.visibility.proofs.chain.visible_version.Given as goal

abbrev pub invariant-loop : goal.invariant-loop
invariant-loop l =
    visible_from (at_places l.s.next) (at_places l.s.xmin) l.x (places - l.counter) l.p.0
    ≡ visible_from (at_places l.s.next) (at_places l.s.xmin) l.x places l.initial.p.0
