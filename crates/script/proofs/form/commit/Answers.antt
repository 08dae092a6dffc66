-- `commit` meets its contract: it goes by what the fields' parsers answer.
use mathlib.Core.Path.{sym}
use Rattle.script.specs.LineForms.{commit_fields}
use Rattle.script.proofs.form.commit.Goals as goal

pub returns-in_default : goal.returns-in_default
returns-in_default c = rw (commit_fields c.args.p.now c.args.q.now, sym c.in_default.ensures)

pub returns-in_default-mode : goal.returns-in_default-mode
returns-in_default-mode c = rw (commit_fields c.args.p.now c.args.q.now, sym c.in-Some.ensures, sym c.in_default-mode.ensures)

pub returns : goal.returns
returns c = rw (commit_fields c.args.p.now c.args.q.now, sym c.in-Some.ensures, sym c.in-Some-mode.ensures)
