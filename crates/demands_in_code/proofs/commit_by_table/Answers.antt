-- `commit_by_table` meets its contract.
use Rattle.fields.proofs.Lengths.{sized}
use Rattle.demands_in_code.specs.Demands.{answers_by_table}
use Rattle.demands_in_code.proofs.commit_by_table.Goals as goal

pub returns : goal.returns
returns c =
    let S = c.args.s in
    (c.commit.ensures, answers_by_table S c.args.x c.args.logged c.args.plan c.args.cut (sized S c.well_formed.0) c.commit.ensures)
