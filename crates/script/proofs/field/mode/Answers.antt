-- `mode` meets its contract.
use Rattle.std.proofs.Common.{arith}
use Rattle.script.specs.Fields.{mode_of}
use Rattle.script.specs.FieldLaws.{byte_is, byte_not}
use Rattle.script.proofs.field.mode.Goals as goal

pub returns-in-117 : goal.returns-in-117
unfolding mode_of
returns-in-117 c = rw (byte_is 117 c.args.s.now (omega arith) (omega arith))

pub returns-in-108 : goal.returns-in-108
unfolding mode_of
returns-in-108 c = let w = c.args.s.now in rw (byte_not 117 w (λ l e. omega arith), byte_is 108 w (omega arith) (omega arith))

pub returns-in_default : goal.returns-in_default
unfolding mode_of
returns-in_default c = let w = c.args.s.now in rw (byte_not 117 w (λ l e. omega arith), byte_not 108 w (λ l e. omega arith))

pub returns-in_default-2 : goal.returns-in_default-2
unfolding mode_of
returns-in_default-2 c = let w = c.args.s.now in rw (byte_not 117 w (λ l e. omega arith), byte_not 108 w (λ l e. omega arith))

pub returns-in_default-3 : goal.returns-in_default-3
unfolding mode_of
returns-in_default-3 c = let w = c.args.s.now in rw (byte_not 117 w (λ l e. omega arith), byte_not 108 w (λ l e. omega arith))
