-- `cut_commit` meets its contract: it goes by what the fields' parsers answer.
use mathlib.Core.Path.{sym}
use Rattle.script.specs.LineForms.{cut_fields}
use Rattle.script.proofs.form.cut_commit.Goals as goal

pub returns-in_default : goal.returns-in_default
returns-in_default c = rw (cut_fields c.args.p.now c.args.q.now c.args.r.now, sym c.in_default.ensures)

pub returns-in_default-mode : goal.returns-in_default-mode
returns-in_default-mode c = rw (cut_fields c.args.p.now c.args.q.now c.args.r.now, sym c.in-Some.ensures, sym c.in_default-mode.ensures)

pub returns-in_default-number : goal.returns-in_default-number
returns-in_default-number c =
    rw (cut_fields c.args.p.now c.args.q.now c.args.r.now, sym c.in-Some.ensures, sym c.in-Some-mode.ensures, sym c.in_default-number.ensures)

pub returns : goal.returns
returns c = rw (cut_fields c.args.p.now c.args.q.now c.args.r.now, sym c.in-Some.ensures, sym c.in-Some-mode.ensures, sym c.in-Some-number.ensures)
