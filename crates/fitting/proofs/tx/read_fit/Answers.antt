-- `read_fit` meets its contract, by whether the pointer is 0.
use Rattle.std.proofs.Common.{◌∙◌, rules}
use Rattle.fitting.specs.Fitting.{read_row, read_absent, read_version}
use Rattle.fitting.proofs.tx.read_fit.Goals as goal

pub returns-in-0 : goal.returns-in-0
returns-in-0 c = c.eq.ensures ∙ read_absent c.args.e.now _ c.place.ensures c.if-e-lt-ROWS.true c.in-0.is

pub returns-in_default : goal.returns-in_default
returns-in_default c = read_version c.args.e.now _ c.place.ensures c.if-e-lt-ROWS.true (search rules)

pub returns-else-e-lt-ROWS : goal.returns-else-e-lt-ROWS
returns-else-e-lt-ROWS c = read_row c.args.e.now c.if-e-lt-ROWS.false
