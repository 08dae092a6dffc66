-- `place` meets its contract: it goes by what `number` answers.
use Rattle.std.proofs.Common.{sym, ◌∙◌}
use Rattle.script.specs.FieldLaws.{place_in, place_not}
use Rattle.script.proofs.field.place.Goals as goal

pub returns-in_err-i : goal.returns-in_err-i
returns-in_err-i c = c.from_residual.ensures ∙ place_not _ (sym c.number.ensures ∙ c.in_err-i.was)

pub returns : goal.returns
returns c = c.then_some.ensures ∙ place_in _ (sym c.number.ensures ∙ c.in_ok-i.was)
