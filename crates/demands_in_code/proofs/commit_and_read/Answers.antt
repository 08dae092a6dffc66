-- `commit_and_read` meets its contract.
use Rattle.fields.proofs.Lengths.{sized}
use Rattle.demands_in_code.specs.Demands.{reads_committed}
use Rattle.demands_in_code.proofs.Keyed.{keyed}
use Rattle.demands_in_code.proofs.commit_and_read.Goals as goal

pub returns : goal.returns
returns c =
    let S = c.args.s in
    reads_committed S c.args.x c.args.logged (sized S c.well_formed.0) (keyed S c.well_formed.0) c.none-faultless.ensures c.commit-answered.ensures
    c.begin-next.ensures c.args.r.0 c.read.ensures
