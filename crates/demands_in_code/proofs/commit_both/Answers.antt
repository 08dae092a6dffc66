-- `commit_both` meets its contract.
use Rattle.fields.proofs.Lengths.{sized}
use Rattle.demands_in_code.specs.Demands.{commits_both}
use Rattle.demands_in_code.proofs.Keyed.{keyed}
use Rattle.demands_in_code.proofs.commit_both.Goals as goal

pub returns : goal.returns
returns c =
    let S = c.args.s in
    commits_both S c.args.x c.args.y c.args.lx c.args.ly (sized S c.well_formed.0) (keyed S c.well_formed.0)
    c.none-plan.ensures c.commit-first.ensures c.commit.ensures
