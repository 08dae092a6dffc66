-- `active_in_form` meets its contract: what is left from place i on decides as the whole does.
use mathlib.Core.Path.{sym, ◌∙◌}
use native.Mathlib.Omega.{arith}
use Rattle.resting.specs.ActiveForm.{active_left, active_from_law, active_stop, active_low, active_high, active_pass, active_end}
use Rattle.resting.proofs.active.active_in_form.Goals as goal
use Rattle.resting.proofs.active.active_in_form.Goals.{then-t-last-via-then-t-last, then-t-last-via-else-t-last+then-s-t}

pub loop-i-init : goal.loop-i-init
unfolding active_left
loop-i-init c = sym (active_from_law _ _)

pub returns-then-t-eq0 : goal.returns-then-t-eq0
returns-then-t-eq0 c = c.zeros_from.ensures ∙ active_stop _ _ _ _ _ c.loop-i.invariant (omega arith) c.if-t-eq0.true

pub returns-then-t-last : goal.returns-then-t-last
returns-then-t-last c = elim c.then-t-last.branch [
  | then-t-last-via-then-t-last w ↦ active_low _ _ _ _ _ c.loop-i.invariant (omega arith) c.if-t-eq0.false w.if-t-last.true
  | then-t-last-via-else-t-last+then-s-t w ↦
      active_high _ _ _ _ _ c.loop-i.invariant (omega arith) c.if-t-eq0.false w.if-t-last.false w.if-s-t.true
]

pub loop-i-preserved : goal.loop-i-preserved
loop-i-preserved c = active_pass _ _ _ _ _ c.loop-i.invariant (omega arith) c.if-t-eq0.false c.if-t-last.false c.if-s-t.false

pub returns : goal.returns
returns c = active_end _ _ _ _ _ c.loop-i.invariant (omega arith)
