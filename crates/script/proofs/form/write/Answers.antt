-- `write` meets its contract: it goes by what the fields' parsers answer.
use mathlib.Core.Path.{sym}
use Rattle.script.specs.LineForms.{write_fields}
use Rattle.script.proofs.form.write.Goals as goal

pub returns-in_default : goal.returns-in_default
returns-in_default c = rw (write_fields c.args.p.now c.args.q.now c.args.r.now, sym c.in_default.ensures)

pub returns-in_default-number : goal.returns-in_default-number
returns-in_default-number c = rw (write_fields c.args.p.now c.args.q.now c.args.r.now, sym c.in-Some.ensures, sym c.in_default-number.ensures)

pub returns-in_default-value : goal.returns-in_default-value
returns-in_default-value c =
    rw (write_fields c.args.p.now c.args.q.now c.args.r.now, sym c.in-Some.ensures, sym c.in-Some-number.ensures, sym c.in_default-value.ensures)

pub returns : goal.returns
returns c = rw (write_fields c.args.p.now c.args.q.now c.args.r.now, sym c.in-Some.ensures, sym c.in-Some-number.ensures, sym c.in-Some-value.ensures)
