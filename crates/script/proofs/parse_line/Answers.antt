-- `parse_line` meets its contract: a letter, and what `fields` makes of the rest.
use mathlib.Core.Path.{sym, ◌∙◌}
use native.Mathlib.Omega.{arith}
use Rattle.script.specs.Split.{letter_first, no_letter}
use Rattle.script.proofs.parse_line.Goals as goal

pub returns-then-up_to-ne1 : goal.returns-then-up_to-ne1
returns-then-up_to-ne1 c = sym (no_letter c.args.line.now c.up_to.ensures.0 c.if-up_to-ne1.true)

pub returns : goal.returns
returns c =
    c.fields.ensures
    ∙ sym (letter_first c.args.line.now
    c.up_to.ensures.0 c.if-up_to-ne1.false (omega arith))
