-- `one_field` meets its contract: it goes by what the fields' parsers answer.
use mathlib.Core.Path.{sym}
use Rattle.script.specs.LineForms.{one_field, bad}
use Rattle.script.proofs.form.one_field.Goals as goal

pub returns-in_default : goal.returns-in_default
returns-in_default c = rw (one_field c.args.c c.args.p.now, sym c.in_default.ensures) (simp bad)

pub returns-in-66 : goal.returns-in-66
returns-in-66 c = rw (one_field c.args.c c.args.p.now, sym c.in-Some.ensures, c.in-66.is)

pub returns-in-65 : goal.returns-in-65
returns-in-65 c = rw (one_field c.args.c c.args.p.now, sym c.in-Some.ensures, c.in-65.is)
