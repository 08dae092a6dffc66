-- `Schedule::none` meets its contract.
use borrow.Author.Rules.{rules}
use Rattle.records.specs.Zero.{no_faults}
use Rattle.records.proofs.Schedule.none.Statement.{statement}
use Rattle.records.proofs.Schedule.none.Tie as tie

returns : tie.Need-returns
unfolding no_faults
returns c = search rules

pub none_spec : {M : Type 1} → statement M
none_spec = tie.close (tie.spec returns)
