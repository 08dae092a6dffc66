-- `slot_in_form` meets its contract.
use mathlib.Core.Path.{◌≡◌, ◌∙◌}
use mathlib.Core.Bool.{false, not, ◌&&◌}
use lib.ListN.{get_or}
use borrow.Author.Tests.{eq-eqb, ne_eqb}
use Rattle.rules.specs.Lists.{is_zero}
use Rattle.resting.specs.SlotForm.{form_keyed, form_absent, form_free}
use Rattle.resting.proofs.slots.slot_in_form.Goals as goal
use Rattle.resting.proofs.slots.slot_in_form.Goals.{then-s-i-eq0, else-s-i-eq0, then-s-i-eq0-2, else-s-i-eq0-2}
use Rattle.resting.proofs.slots.slot_in_form.Goals.{then-not-s-i, else-not-s-i, then-not-s-i-2, else-not-s-i-2}

pub returns-then-s-i : goal.returns-then-s-i
returns-then-s-i c = form_keyed c.args.s.now c.args.i c.if-s-i-ne0.true c.if-s-i.true

pub returns-else-s-i : goal.returns-else-s-i
returns-else-s-i c = form_absent c.args.s.now c.args.i c.if-s-i-ne0.true c.if-s-i.false

pub returns-then-s-i-eq0-3 : goal.returns-then-s-i-eq0-3
returns-then-s-i-eq0-3 c =
    let S = c.args.s.now in
    let i = c.args.i in
    let first : c.if-s-i-eq0.value ≡ (is_zero (get_or S.xmax i 0) && is_zero (get_or S.next i 0)) = elim c.if-s-i-eq0.branch [
      | then-s-i-eq0 w ↦ rw (eq-eqb _ _ w.if-s-i-eq0.true) w.value-is
      | else-s-i-eq0 w ↦ rw (ne_eqb _ _ w.if-s-i-eq0.false) (w.value-is ∙ ne_eqb _ _ w.if-s-i-eq0.false)
    ] in
    let second : c.if-s-i-eq0-2.value ≡ (c.if-s-i-eq0.value && not (get_or S.has i false)) = elim c.if-s-i-eq0-2.branch [
      | then-s-i-eq0-2 w ↦ rw w.if-s-i-eq0-2.true w.value-is
      | else-s-i-eq0-2 w ↦ rw w.if-s-i-eq0-2.false (w.value-is ∙ w.if-s-i-eq0-2.false)
    ] in
    let third : c.if-not-s-i.value ≡ (c.if-s-i-eq0-2.value && not (get_or S.locked i false)) = elim c.if-not-s-i.branch [
      | then-not-s-i w ↦ rw w.if-not-s-i.true w.value-is
      | else-not-s-i w ↦ rw w.if-not-s-i.false (w.value-is ∙ w.if-not-s-i.false)
    ] in
    let fourth : c.if-not-s-i-2.value ≡ (c.if-not-s-i.value && is_zero (get_or S.owner i 0)) = elim c.if-not-s-i-2.branch [
      | then-not-s-i-2 w ↦ rw w.if-not-s-i-2.true w.value-is
      | else-not-s-i-2 w ↦ rw w.if-not-s-i-2.false (w.value-is ∙ w.if-not-s-i-2.false)
    ] in
    rw (← form_free S i c.if-s-i-ne0.false, ← first, ← second, ← third, ← fourth, c.if-s-i-eq0-3.true)

pub returns-else-s-i-eq0-3 : goal.returns-else-s-i-eq0-3
returns-else-s-i-eq0-3 c =
    let S = c.args.s.now in
    let i = c.args.i in
    let first : c.if-s-i-eq0.value ≡ (is_zero (get_or S.xmax i 0) && is_zero (get_or S.next i 0)) = elim c.if-s-i-eq0.branch [
      | then-s-i-eq0 w ↦ rw (eq-eqb _ _ w.if-s-i-eq0.true) w.value-is
      | else-s-i-eq0 w ↦ rw (ne_eqb _ _ w.if-s-i-eq0.false) (w.value-is ∙ ne_eqb _ _ w.if-s-i-eq0.false)
    ] in
    let second : c.if-s-i-eq0-2.value ≡ (c.if-s-i-eq0.value && not (get_or S.has i false)) = elim c.if-s-i-eq0-2.branch [
      | then-s-i-eq0-2 w ↦ rw w.if-s-i-eq0-2.true w.value-is
      | else-s-i-eq0-2 w ↦ rw w.if-s-i-eq0-2.false (w.value-is ∙ w.if-s-i-eq0-2.false)
    ] in
    let third : c.if-not-s-i.value ≡ (c.if-s-i-eq0-2.value && not (get_or S.locked i false)) = elim c.if-not-s-i.branch [
      | then-not-s-i w ↦ rw w.if-not-s-i.true w.value-is
      | else-not-s-i w ↦ rw w.if-not-s-i.false (w.value-is ∙ w.if-not-s-i.false)
    ] in
    let fourth : c.if-not-s-i-2.value ≡ (c.if-not-s-i.value && is_zero (get_or S.owner i 0)) = elim c.if-not-s-i-2.branch [
      | then-not-s-i-2 w ↦ rw w.if-not-s-i-2.true w.value-is
      | else-not-s-i-2 w ↦ rw w.if-not-s-i-2.false (w.value-is ∙ w.if-not-s-i-2.false)
    ] in
    rw (← form_free S i c.if-s-i-ne0.false, ← first, ← second, ← third, ← fourth, c.if-s-i-eq0-3.false)
