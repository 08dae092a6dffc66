-- `two_fields` meets its contract: it goes by what the fields' parsers answer.
use mathlib.Core.Path.{sym}
use borrow.Author.Tests.{ne_eqb}
use Rattle.script.specs.LineForms.{two_fields, bad}
use Rattle.script.proofs.form.two_fields.Goals as goal

pub returns-in_default : goal.returns-in_default
returns-in_default c =
    rw (two_fields c.args.c c.args.p.now c.args.q.now, ne_eqb _ _ c.if-c-eq67.false, sym c.in_default.ensures) (simp bad)

pub returns-in_default-number : goal.returns-in_default-number
returns-in_default-number c =
    rw (
      two_fields c.args.c c.args.p.now c.args.q.now,
      ne_eqb _ _ c.if-c-eq67.false,
      sym c.in-Some.ensures,
      sym c.in_default-number.ensures,
    ) (simp bad)

pub returns-in-82 : goal.returns-in-82
returns-in-82 c =
    rw (two_fields c.args.c c.args.p.now c.args.q.now, c.in-82.is, sym c.in-Some.ensures, sym c.in-Some-number.ensures)

pub returns-in-76 : goal.returns-in-76
returns-in-76 c =
    rw (two_fields c.args.c c.args.p.now c.args.q.now, c.in-76.is, sym c.in-Some.ensures, sym c.in-Some-number.ensures)

pub returns-in-75 : goal.returns-in-75
returns-in-75 c =
    rw (two_fields c.args.c c.args.p.now c.args.q.now, c.in-75.is, sym c.in-Some.ensures, sym c.in-Some-number.ensures)
