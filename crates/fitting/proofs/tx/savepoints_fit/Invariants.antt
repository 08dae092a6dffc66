-- `savepoints_fit` meets its contract: what is left from place i on decides as the whole does.
use Rattle.std.proofs.Common.{◌≡◌, drop, leb}
use Rattle.fields.specs.Climb.{climb}
use Rattle.fitting.proofs.tx.savepoints_fit.Given as goal

abbrev pub invariant-loop-p : goal.invariant-loop-p
invariant-loop-p l = climb (λ p. p) (λ p. leb p l.writes) l.least (drop l.p-index l.points) ≡ climb (λ p. p) (λ p. leb p l.writes) 0 l.points
