-- `recover_and_look` meets its contract.
use Rattle.fields.proofs.Lengths.{sized}
use Rattle.demands_in_code.specs.Demands.{looks_after}
use Rattle.demands_in_code.proofs.Keyed.{keyed}
use Rattle.demands_in_code.proofs.recover_and_look.Goals as goal

pub returns : goal.returns
returns c =
    let S = c.args.s in
    looks_after S (sized S c.well_formed.0) (keyed S c.well_formed.0) c.recover-mended.ensures
    c.begin-opened.ensures c.args.k c.lookup.ensures
