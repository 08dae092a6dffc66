-- `commit_and_recover` meets its contract.
use Rattle.fields.proofs.Lengths.{sized}
use Rattle.demands_in_code.specs.Demands.{survives}
use Rattle.demands_in_code.proofs.Keyed.{keyed}
use Rattle.demands_in_code.proofs.commit_and_recover.Goals as goal

pub returns : goal.returns
returns c =
    let S = c.args.s in
    survives S c.args.x c.args.logged (sized S c.well_formed.0) (keyed S c.well_formed.0) c.args.plan c.args.cut
    c.commit-a.ensures c.recover.ensures
