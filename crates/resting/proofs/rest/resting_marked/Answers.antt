-- `resting_marked` meets its contract: its tests are the definition's, in their order.
use mathlib.Core.Path.{◌≡◌, ◌∙◌}
use mathlib.Core.Bool.{◌&&◌}
use native.Mathlib.Omega.{arith}
use Rattle.rules.specs.Lists.{all, all_zero}
use Rattle.rules.specs.Store.{postings_in_form, used_slots}
use Rattle.resting.specs.Used.{rest_at}
use Rattle.resting.specs.Row.{resting_says}
use Rattle.resting.proofs.rest.resting_marked.Goals as goal
use Rattle.resting.proofs.rest.resting_marked.Goals.{then-repairable_of, else-repairable_of, then-zeros_from, else-zeros_from}
use Rattle.resting.proofs.rest.resting_marked.Goals.{then-zeros_from-2, else-zeros_from-2, then-postings_in_form, else-postings_in_form}

pub returns-then-chains_rest-clause-answer : goal.returns-then-chains_rest-clause-answer
returns-then-chains_rest-clause-answer c =
    let S = c.args.s.now in
    let seen = c.repairable_of.new.seen in
    let first : c.if-repairable_of.value ≡ (c.repairable_of.result && all_zero S.stripe_guards) = elim c.if-repairable_of.branch [
      | then-repairable_of w ↦ rw w.if-repairable_of.true (w.value-is ∙ w.zeros_from.ensures)
      | else-repairable_of w ↦ rw w.if-repairable_of.false (w.value-is ∙ w.if-repairable_of.false)
    ] in
    let second : c.if-zeros_from.value ≡ (c.if-repairable_of.value && all_zero S.partition_guards) = elim c.if-zeros_from.branch [
      | then-zeros_from w ↦ rw w.if-zeros_from.true (w.value-is ∙ w.zeros_from-then-zeros_from.ensures)
      | else-zeros_from w ↦ rw w.if-zeros_from.false (w.value-is ∙ w.if-zeros_from.false)
    ] in
    let third : c.if-zeros_from-2.value ≡ (c.if-zeros_from.value && postings_in_form S) = elim c.if-zeros_from-2.branch [
      | then-zeros_from-2 w ↦ rw w.if-zeros_from-2.true (w.value-is ∙ w.postings_in_form.ensures)
      | else-zeros_from-2 w ↦ rw w.if-zeros_from-2.false (w.value-is ∙ w.if-zeros_from-2.false)
    ] in
    let fourth : c.if-postings_in_form.value ≡ (c.if-zeros_from-2.value && all (rest_at S seen) (used_slots S.xmin)) = elim c.if-postings_in_form.branch [
      | then-postings_in_form w ↦ rw w.if-postings_in_form.true (w.value-is ∙ w.chains_rest.ensures)
      | else-postings_in_form w ↦ rw w.if-postings_in_form.false (w.value-is ∙ w.if-postings_in_form.false)
    ] in
    resting_says S (omega arith) (omega arith) seen c.repairable_of.ensures.marks (omega arith) c.if-postings_in_form.value _
    (rw (fourth, third, second, first, c.repairable_of.ensures.answer)) (rw c.if-chains_rest.true c.healthy_or_poisoned.ensures)

pub returns-else-chains_rest-clause-answer : goal.returns-else-chains_rest-clause-answer
returns-else-chains_rest-clause-answer c =
    let S = c.args.s.now in
    let seen = c.repairable_of.new.seen in
    let first : c.if-repairable_of.value ≡ (c.repairable_of.result && all_zero S.stripe_guards) = elim c.if-repairable_of.branch [
      | then-repairable_of w ↦ rw w.if-repairable_of.true (w.value-is ∙ w.zeros_from.ensures)
      | else-repairable_of w ↦ rw w.if-repairable_of.false (w.value-is ∙ w.if-repairable_of.false)
    ] in
    let second : c.if-zeros_from.value ≡ (c.if-repairable_of.value && all_zero S.partition_guards) = elim c.if-zeros_from.branch [
      | then-zeros_from w ↦ rw w.if-zeros_from.true (w.value-is ∙ w.zeros_from-then-zeros_from.ensures)
      | else-zeros_from w ↦ rw w.if-zeros_from.false (w.value-is ∙ w.if-zeros_from.false)
    ] in
    let third : c.if-zeros_from-2.value ≡ (c.if-zeros_from.value && postings_in_form S) = elim c.if-zeros_from-2.branch [
      | then-zeros_from-2 w ↦ rw w.if-zeros_from-2.true (w.value-is ∙ w.postings_in_form.ensures)
      | else-zeros_from-2 w ↦ rw w.if-zeros_from-2.false (w.value-is ∙ w.if-zeros_from-2.false)
    ] in
    let fourth : c.if-postings_in_form.value ≡ (c.if-zeros_from-2.value && all (rest_at S seen) (used_slots S.xmin)) = elim c.if-postings_in_form.branch [
      | then-postings_in_form w ↦ rw w.if-postings_in_form.true (w.value-is ∙ w.chains_rest.ensures)
      | else-postings_in_form w ↦ rw w.if-postings_in_form.false (w.value-is ∙ w.if-postings_in_form.false)
    ] in
    resting_says S (omega arith) (omega arith) seen c.repairable_of.ensures.marks (omega arith) c.if-postings_in_form.value _
    (rw (fourth, third, second, first, c.repairable_of.ensures.answer)) (rw c.if-chains_rest.false)
