-- `all_apart` meets its contract: what is left from place i on decides as the whole does.
use Rattle.std.proofs.Common.{◌≡◌, drop}
use Rattle.basic_laws.specs.Members.{pairs}
use Rattle.fitting.proofs.apart.all_apart.Given as goal

abbrev pub invariant-loop-i : goal.invariant-loop-i
invariant-loop-i g l = pairs g.T.Apart.differ (drop l.i l.x) ≡ pairs g.T.Apart.differ l.x
