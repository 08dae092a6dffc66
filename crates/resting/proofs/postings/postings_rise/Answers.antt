-- `postings_rise` meets its contract: what is left from the present place on decides as the whole does.
use mathlib.Core.Path.{refl}
use native.Mathlib.Omega.{arith}
use borrow.Author.Tests.{lt-ltb, le-ltb}
use Rattle.resting.specs.PostingForm.{rise_left, rise_low, rise_high, rise_pass, rise_end}
use Rattle.resting.proofs.postings.postings_rise.Goals as goal
use Rattle.resting.proofs.postings.postings_rise.Goals.{then-c-least-via-then-c-least, then-c-least-via-else-c-least+then-c-ge-END}

pub loop-c-init : goal.loop-c-init
unfolding rise_left
loop-c-init c = refl

pub returns-then-c-least : goal.returns-then-c-least
returns-then-c-least c = elim c.then-c-least.branch [
  | then-c-least-via-then-c-least w ↦ rise_low _ _ _ _ c.loop-c.invariant (omega arith) w.if-c-least.true
  | then-c-least-via-else-c-least+then-c-ge-END w ↦
      rise_high _ _ _ _ c.loop-c.invariant (omega arith) w.if-c-least.false (le-ltb _ _ w.if-c-ge-END.true)
]

pub loop-c-preserved : goal.loop-c-preserved
loop-c-preserved c =
    rise_pass _ _ _ _ c.loop-c.invariant (omega arith) c.if-c-least.false (lt-ltb _ _ c.if-c-ge-END.false)

pub returns : goal.returns
returns c = rise_end _ _ _ _ c.loop-c.invariant (omega arith)
