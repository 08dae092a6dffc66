-- `chain_ok` meets its contract.
use mathlib.Core.Path.{◌≡◌, refl, sym, ◌∙◌}
use mathlib.Core.Bool.{not, ◌||◌}
use lib.Dec.{eqb}
use native.Mathlib.Omega.{arith}
use borrow.Author.Tests.{eq-eqb, ne_eqb}
use Rattle.records.specs.Limits.{places}
use Rattle.resting.specs.VersionTurns.{fin, chain_none, first_finished, first_unfinished}
use Rattle.fields.specs.Lent.{lent_at}
use Rattle.resting.proofs.chains.chain_ok.Goals as goal
use Rattle.resting.proofs.chains.chain_ok.Goals.{then-over-eq0, else-over-eq0}

pub returns-then-head-eq0 : goal.returns-then-head-eq0
returns-then-head-eq0 c = chain_none _ _ c.if-head-eq0.true

pub returns-then-not-is_finished : goal.returns-then-not-is_finished
returns-then-not-is_finished c =
    let fits : c.if-over-eq0.value ≡ (eqb c.at-over.result 0 || not (fin c.args.s.now c.at-over.result)) = elim c.if-over-eq0.branch [
      | then-over-eq0 w ↦ rw (eq-eqb _ _ w.if-over-eq0.true) (w.value-is ∙ eq-eqb _ _ w.if-over-eq0.true)
      | else-over-eq0 w ↦ rw (ne_eqb _ _ w.if-over-eq0.false, ← w.is_finished-else-over-eq0.ensures) w.value-is
    ] in
    first_finished _ _ _ _ c.if-head-eq0.false
    (lent_at places c.args.s.now.xmin 0 (omega arith) c.place-i.ensures c.at-t.ensures)
    (lent_at places c.args.s.now.xmax 0 (omega arith) c.place-i.ensures c.at-over.ensures) _
    (sym c.is_finished.ensures ∙ c.if-is_finished.true)
    (rw (← fits, c.if-not-is_finished.true) c.tail_ok.ensures)

pub returns-else-not-is_finished : goal.returns-else-not-is_finished
returns-else-not-is_finished c =
    let fits : c.if-over-eq0.value ≡ (eqb c.at-over.result 0 || not (fin c.args.s.now c.at-over.result)) = elim c.if-over-eq0.branch [
      | then-over-eq0 w ↦ rw (eq-eqb _ _ w.if-over-eq0.true) (w.value-is ∙ eq-eqb _ _ w.if-over-eq0.true)
      | else-over-eq0 w ↦ rw (ne_eqb _ _ w.if-over-eq0.false, ← w.is_finished-else-over-eq0.ensures) w.value-is
    ] in
    first_finished _ _ _ _ c.if-head-eq0.false
    (lent_at places c.args.s.now.xmin 0 (omega arith) c.place-i.ensures c.at-t.ensures)
    (lent_at places c.args.s.now.xmax 0 (omega arith) c.place-i.ensures c.at-over.ensures) _
    (sym c.is_finished.ensures ∙ c.if-is_finished.true)
    (rw (← fits, c.if-not-is_finished.false))

pub returns-then-over-eq0-2 : goal.returns-then-over-eq0-2
returns-then-over-eq0-2 c =
    first_unfinished _ _ _ _ c.if-head-eq0.false
    (lent_at places c.args.s.now.xmin 0 (omega arith) c.place-i.ensures c.at-t.ensures)
    (lent_at places c.args.s.now.xmax 0 (omega arith) c.place-i.ensures c.at-over.ensures) _ _
    (sym c.is_finished.ensures ∙ c.if-is_finished.false)
    (lent_at places c.args.s.now.next 0 (omega arith) c.place-i.ensures c.at.ensures)
    (rw (eq-eqb _ _ c.if-over-eq0-2.true) c.behind_ok.ensures)

pub returns-else-over-eq0-2 : goal.returns-else-over-eq0-2
returns-else-over-eq0-2 c =
    first_unfinished _ _ _ _ c.if-head-eq0.false
    (lent_at places c.args.s.now.xmin 0 (omega arith) c.place-i.ensures c.at-t.ensures)
    (lent_at places c.args.s.now.xmax 0 (omega arith) c.place-i.ensures c.at-over.ensures) _ _
    (sym c.is_finished.ensures ∙ c.if-is_finished.false)
    refl
    (rw (ne_eqb _ _ c.if-over-eq0-2.false))
