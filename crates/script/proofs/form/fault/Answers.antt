-- `fault` meets its contract: it goes by what the fields' parsers answer.
use mathlib.Core.Path.{sym}
use Rattle.script.specs.LineForms.{fault_fields}
use Rattle.script.proofs.form.fault.Goals as goal

pub returns-in_default : goal.returns-in_default
returns-in_default c = rw (fault_fields c.args.p.now c.args.q.now c.args.r.now, sym c.in_default.ensures)

pub returns-in_default-letter : goal.returns-in_default-letter
returns-in_default-letter c = rw (fault_fields c.args.p.now c.args.q.now c.args.r.now, sym c.in-Some.ensures, sym c.in_default-letter.ensures)

pub returns-in_default-number : goal.returns-in_default-number
returns-in_default-number c =
    rw (fault_fields c.args.p.now c.args.q.now c.args.r.now, sym c.in-Some.ensures, sym c.in-Some-letter.ensures, sym c.in_default-number.ensures)

pub returns : goal.returns
returns c = rw (fault_fields c.args.p.now c.args.q.now c.args.r.now, sym c.in-Some.ensures, sym c.in-Some-letter.ensures, sym c.in-Some-number.ensures)
