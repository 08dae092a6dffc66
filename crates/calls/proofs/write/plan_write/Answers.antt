-- `plan_write` meets its contract.
use Rattle.journal.specs.Adds.{adds_then}
use Rattle.calls.proofs.write.plan_write.Goals as goal

pub returns-in-Key : goal.returns-in-Key
returns-in-Key c = rw c.in-Key.is (adds_then (adds_then c.push.ensures c.push-2.ensures) c.push-in-Key.ensures)

pub returns-in_default : goal.returns-in_default
returns-in_default c = rw c.in_default.is (adds_then c.push.ensures c.push-2.ensures)
