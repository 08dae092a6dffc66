-- `slots_in_form` meets its contract: what is left from place i on decides as the whole does.
use mathlib.Core.Path.{sym, ◌∙◌}
use native.Mathlib.Omega.{arith}
use borrow.Author.Rules.{rules}
use Rattle.resting.specs.SlotForm.{form_says, form_zero, form_pass, form_fail, form_end}
use Rattle.resting.proofs.slots.slots_in_form.Goals as goal

pub returns-then-s-ne0 : goal.returns-then-s-ne0
returns-then-s-ne0 c = form_zero c.args.s.now c.if-s-ne0.true

pub returns-then-not-slot_in_form : goal.returns-then-not-slot_in_form
returns-then-not-slot_in_form c =
    form_says c.args.s.now c.if-s-ne0.false
    (form_fail c.args.s.now (search rules) _ c.loop-i.invariant (omega arith) (sym c.slot_in_form.ensures ∙ c.if-not-slot_in_form.true))

pub loop-i-preserved : goal.loop-i-preserved
loop-i-preserved c = form_pass c.args.s.now (search rules) _ c.loop-i.invariant (omega arith) (sym c.slot_in_form.ensures ∙ c.if-not-slot_in_form.false)

pub returns : goal.returns
returns c = form_says c.args.s.now c.if-s-ne0.false (form_end c.args.s.now (search rules) _ c.loop-i.invariant (omega arith))
