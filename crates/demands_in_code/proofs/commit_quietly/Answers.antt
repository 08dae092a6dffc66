-- `commit_quietly` meets its contract.
use Rattle.fields.proofs.Lengths.{sized}
use Rattle.demands_in_code.specs.Demands.{commits_quietly}
use Rattle.demands_in_code.proofs.Keyed.{keyed}
use Rattle.demands_in_code.proofs.commit_quietly.Goals as goal

pub returns : goal.returns
returns c =
    let S = c.args.s in
    commits_quietly S c.args.x c.args.logged (sized S c.well_formed.0) (keyed S c.well_formed.0) c.none-plan.ensures c.commit.ensures
