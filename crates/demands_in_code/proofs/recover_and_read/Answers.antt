-- `recover_and_read` meets its contract.
use Rattle.fields.proofs.Lengths.{sized}
use Rattle.demands_in_code.specs.Demands.{reads_after}
use Rattle.demands_in_code.proofs.Keyed.{keyed}
use Rattle.demands_in_code.proofs.recover_and_read.Goals as goal

pub returns : goal.returns
returns c =
    let S = c.args.s in
    reads_after S (sized S c.well_formed.0) (keyed S c.well_formed.0) c.recover-mended.ensures
    c.begin-begun.ensures c.args.r.0 c.read.ensures
