-- `repairable_of` meets its contract: its tests are the definition's, the cheap ones first.
use mathlib.Core.Path.{◌≡◌, ◌∙◌}
use mathlib.Core.Bool.{◌&&◌}
use lib.Dec.{leb, ltb}
use native.Mathlib.Omega.{arith}
use Rattle.rules.specs.Lists.{all, each_or, is_zero, nonzero}
use Rattle.rules.specs.Store.{slots_in_form, active_in_form}
use Rattle.resting.specs.VersionTurns.{chain_at}
use Rattle.resting.specs.Row.{repairable_says}
use Rattle.resting.proofs.repair.repairable_of.Goals as goal
use Rattle.resting.proofs.repair.repairable_of.Goals.{then-s-ge1, else-s-ge1, then-slots_in_form, else-slots_in_form}
use Rattle.resting.proofs.repair.repairable_of.Goals.{then-active_in_form, else-active_in_form, then-xmins_below, else-xmins_below}
use Rattle.resting.proofs.repair.repairable_of.Goals.{then-s, else-s, then-apart, else-apart, then-used_if_marked, else-used_if_marked}

pub returns-then-chains_ok-clause-answer : goal.returns-then-chains_ok-clause-answer
returns-then-chains_ok-clause-answer c =
    let S = c.args.s.now in
    let seen = c.walk_all-apart.new.seen in
    let first : c.if-apart.value ≡ (c.walk_all-apart.result && leb 1 S.clock) = elim c.if-apart.branch [
      | then-apart w ↦ rw w.if-apart.true w.value-is
      | else-apart w ↦ rw w.if-apart.false (w.value-is ∙ w.if-apart.false)
    ] in
    let second : c.if-s-ge1.value ≡ (c.if-apart.value && ltb S.doomed S.clock) = elim c.if-s-ge1.branch [
      | then-s-ge1 w ↦ rw w.if-s-ge1.true w.value-is
      | else-s-ge1 w ↦ rw w.if-s-ge1.false (w.value-is ∙ w.if-s-ge1.false)
    ] in
    let third : c.if-s.value ≡ (c.if-s-ge1.value && slots_in_form S) = elim c.if-s.branch [
      | then-s w ↦ rw w.if-s.true (w.value-is ∙ w.slots_in_form.ensures)
      | else-s w ↦ rw w.if-s.false (w.value-is ∙ w.if-s.false)
    ] in
    let fourth : c.if-slots_in_form.value ≡ (c.if-s.value && active_in_form S.active S.clock) = elim c.if-slots_in_form.branch [
      | then-slots_in_form w ↦ rw w.if-slots_in_form.true (w.value-is ∙ w.active_in_form.ensures)
      | else-slots_in_form w ↦ rw w.if-slots_in_form.false (w.value-is ∙ w.if-slots_in_form.false)
    ] in
    let fifth : c.if-active_in_form.value ≡ (c.if-slots_in_form.value && all (λ t. ltb t S.clock) S.xmin) = elim c.if-active_in_form.branch [
      | then-active_in_form w ↦ rw w.if-active_in_form.true (w.value-is ∙ w.xmins_below.ensures)
      | else-active_in_form w ↦ rw w.if-active_in_form.false (w.value-is ∙ w.if-active_in_form.false)
    ] in
    let sixth : c.if-xmins_below.value ≡ (c.if-active_in_form.value && each_or is_zero nonzero seen S.xmin) = elim c.if-xmins_below.branch [
      | then-xmins_below w ↦ rw w.if-xmins_below.true (w.value-is ∙ w.used_if_marked.ensures)
      | else-xmins_below w ↦ rw w.if-xmins_below.false (w.value-is ∙ w.if-xmins_below.false)
    ] in
    let seventh : c.if-used_if_marked.value ≡ (c.if-xmins_below.value && all (chain_at S) S.heads) = elim c.if-used_if_marked.branch [
      | then-used_if_marked w ↦ rw w.if-used_if_marked.true (w.value-is ∙ w.chains_ok.ensures)
      | else-used_if_marked w ↦ rw w.if-used_if_marked.false (w.value-is ∙ w.if-used_if_marked.false)
    ] in
    repairable_says S (omega arith) (omega arith) seen _ c.walk_all-apart.ensures c.if-used_if_marked.value _
    (rw (seventh, sixth, fifth, fourth, third, second, first)) (rw c.if-chains_ok.true c.off_slots_ok.ensures)

pub returns-else-chains_ok-clause-answer : goal.returns-else-chains_ok-clause-answer
returns-else-chains_ok-clause-answer c =
    let S = c.args.s.now in
    let seen = c.walk_all-apart.new.seen in
    let first : c.if-apart.value ≡ (c.walk_all-apart.result && leb 1 S.clock) = elim c.if-apart.branch [
      | then-apart w ↦ rw w.if-apart.true w.value-is
      | else-apart w ↦ rw w.if-apart.false (w.value-is ∙ w.if-apart.false)
    ] in
    let second : c.if-s-ge1.value ≡ (c.if-apart.value && ltb S.doomed S.clock) = elim c.if-s-ge1.branch [
      | then-s-ge1 w ↦ rw w.if-s-ge1.true w.value-is
      | else-s-ge1 w ↦ rw w.if-s-ge1.false (w.value-is ∙ w.if-s-ge1.false)
    ] in
    let third : c.if-s.value ≡ (c.if-s-ge1.value && slots_in_form S) = elim c.if-s.branch [
      | then-s w ↦ rw w.if-s.true (w.value-is ∙ w.slots_in_form.ensures)
      | else-s w ↦ rw w.if-s.false (w.value-is ∙ w.if-s.false)
    ] in
    let fourth : c.if-slots_in_form.value ≡ (c.if-s.value && active_in_form S.active S.clock) = elim c.if-slots_in_form.branch [
      | then-slots_in_form w ↦ rw w.if-slots_in_form.true (w.value-is ∙ w.active_in_form.ensures)
      | else-slots_in_form w ↦ rw w.if-slots_in_form.false (w.value-is ∙ w.if-slots_in_form.false)
    ] in
    let fifth : c.if-active_in_form.value ≡ (c.if-slots_in_form.value && all (λ t. ltb t S.clock) S.xmin) = elim c.if-active_in_form.branch [
      | then-active_in_form w ↦ rw w.if-active_in_form.true (w.value-is ∙ w.xmins_below.ensures)
      | else-active_in_form w ↦ rw w.if-active_in_form.false (w.value-is ∙ w.if-active_in_form.false)
    ] in
    let sixth : c.if-xmins_below.value ≡ (c.if-active_in_form.value && each_or is_zero nonzero seen S.xmin) = elim c.if-xmins_below.branch [
      | then-xmins_below w ↦ rw w.if-xmins_below.true (w.value-is ∙ w.used_if_marked.ensures)
      | else-xmins_below w ↦ rw w.if-xmins_below.false (w.value-is ∙ w.if-xmins_below.false)
    ] in
    let seventh : c.if-used_if_marked.value ≡ (c.if-xmins_below.value && all (chain_at S) S.heads) = elim c.if-used_if_marked.branch [
      | then-used_if_marked w ↦ rw w.if-used_if_marked.true (w.value-is ∙ w.chains_ok.ensures)
      | else-used_if_marked w ↦ rw w.if-used_if_marked.false (w.value-is ∙ w.if-used_if_marked.false)
    ] in
    repairable_says S (omega arith) (omega arith) seen _ c.walk_all-apart.ensures c.if-used_if_marked.value _
    (rw (seventh, sixth, fifth, fourth, third, second, first)) (rw c.if-chains_ok.false)
