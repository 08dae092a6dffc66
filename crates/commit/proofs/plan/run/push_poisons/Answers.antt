-- `push_poisons` meets its contract, the gates that poison nothing.
use Rattle.std.proofs.Common.{rules}
use Rattle.journal.specs.Adds.{adds_none}
use Rattle.commit.specs.Plan.Ends.{poisons_none}
use Rattle.commit.proofs.plan.run.push_poisons.Goals as goal

pub returns-in_default : goal.returns-in_default
returns-in_default c =
    let a = c.args in
    rw (poisons_none a.bad a.t.0 a.gate (search rules) (search rules) (search rules) (search rules) (search rules) (search rules)) (adds_none _)
