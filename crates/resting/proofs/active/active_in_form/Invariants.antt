-- `active_in_form` meets its contract: what is left from place i on decides as the whole does.
use mathlib.Core.Path.{◌≡◌}
use Rattle.rules.specs.Store.{active_in_form}
use Rattle.resting.specs.ActiveForm.{active_left}
use Rattle.resting.proofs.active.active_in_form.Given as goal

abbrev pub invariant-loop-i : goal.invariant-loop-i
invariant-loop-i l = active_left l.s.clock l.last l.s.active l.i ≡ active_in_form l.s.active l.s.clock
