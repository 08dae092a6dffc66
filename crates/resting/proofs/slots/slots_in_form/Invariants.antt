-- `slots_in_form` meets its contract: what is left from place i on decides as the whole does.
use mathlib.Core.Path.{◌≡◌}
use Rattle.resting.specs.SlotForm.{form_left}
use Rattle.resting.proofs.slots.slots_in_form.Given as goal

abbrev pub invariant-loop-i : goal.invariant-loop-i
invariant-loop-i l = form_left l.s l.i ≡ form_left l.s 0
