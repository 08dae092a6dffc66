-- `letter` meets its contract.
use Rattle.std.proofs.Common.{arith}
use Rattle.script.specs.FieldLaws.{letter_in, letter_not}
use Rattle.script.proofs.field.letter.Goals as goal

pub returns-in-65-to-90 : goal.returns-in-65-to-90
returns-in-65-to-90 c = let h = c.in-65-to-90 in letter_in _ (omega arith) (omega arith) (omega arith)

pub returns-in_default : goal.returns-in_default
returns-in_default c = letter_not _ (λ l a b. omega arith)

pub returns-in_default-2 : goal.returns-in_default-2
returns-in_default-2 c = letter_not _ (λ l a b. omega arith)

pub returns-in_default-3 : goal.returns-in_default-3
returns-in_default-3 c = letter_not _ (λ l a b. omega arith)

pub returns-in_default-4 : goal.returns-in_default-4
returns-in_default-4 c = letter_not _ (λ l a b. omega arith)
