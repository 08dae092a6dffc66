-- `clear` meets its contract: zeros behind the first numbers, or nothing behind them.
use native.Mathlib.Omega.{arith}
use Rattle.packed.specs.Packed.{zeros_filled, clear_end}
use Rattle.packed.proofs.clear.Goals as goal

pub returns-then-from-x : goal.returns-then-from-x
returns-then-from-x c = zeros_filled _ _ _ (omega arith) (c.fill.ensures.after (λ y e. e))

pub returns-else-from-x : goal.returns-else-from-x
returns-else-from-x c = clear_end _ _ c.if-from-x.false
