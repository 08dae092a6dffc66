-- `number` meets its contract: the ways a field can begin.
use Rattle.std.proofs.Common.{sym, ◌∙◌, arith}
use Rattle.script.specs.FieldLaws.{number_zero, number_read, number_other}
use Rattle.script.proofs.field.number.Goals as goal

pub returns-then-is_byte : goal.returns-then-is_byte
returns-then-is_byte c = number_zero _ (sym c.if-is_byte.ensures)

pub returns-in-49-to-57 : goal.returns-in-49-to-57
returns-in-49-to-57 c = c.digits.ensures ∙ number_read _ (omega arith) (omega arith) (omega arith)

pub returns-in_default : goal.returns-in_default
returns-in_default c = number_other _ (sym c.if-is_byte.ensures) (λ l lo hi. omega arith)

pub returns-in_default-2 : goal.returns-in_default-2
returns-in_default-2 c = number_other _ (sym c.if-is_byte.ensures) (λ l lo hi. omega arith)

pub returns-in_default-3 : goal.returns-in_default-3
returns-in_default-3 c = number_other _ (sym c.if-is_byte.ensures) (λ l lo hi. omega arith)
