-- `digits` meets its contract: what is left to read, after the number so far, is always the whole.
use Rattle.std.proofs.Common.{◌≡◌, drop}
use Rattle.script.specs.Fields.{num_from}
use Rattle.script.proofs.field.digits.Given as goal

abbrev pub invariant-loop-b : goal.invariant-loop-b
invariant-loop-b l = num_from l.v (drop l.b-index l.s) ≡ num_from 0 l.s
