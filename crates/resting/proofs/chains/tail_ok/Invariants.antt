-- `tail_ok` meets its contract: what is left from slot q on decides as the whole does.
use mathlib.Core.Path.{◌≡◌}
use Prim.Native.Nat.{◌-◌}
use Rattle.resting.specs.VersionTurns.{tail_at}
use Rattle.resting.proofs.chains.tail_ok.Given as goal

abbrev pub invariant-loop-turn : goal.invariant-loop-turn
invariant-loop-turn l = tail_at l.s l.v (l.left - l._turn) l.q ≡ tail_at l.s l.over l.left l.p
