-- `plan_begin` meets its contract.
use Rattle.std.proofs.Common.{arith}
use Rattle.std.proofs.Common.{◌≡◌, ◌+◌, suc}
use Rattle.journal.specs.Adds.{adds_then}
use Rattle.calls.proofs.begin.plan_begin.Goals as goal

pub returns : goal.returns
returns c = let n : c.args.clock + 1 ≡ suc c.args.clock = omega arith in rw n at (adds_then c.push.ensures c.push-2.ensures)
