-- `off_ok` meets its contract.
use mathlib.Core.Path.{refl, sym, ◌∙◌}
use native.Mathlib.Omega.{arith}
use borrow.Author.Tests.{eq-eqb, ne_eqb}
use Rattle.basic_laws.specs.Cases.{clash}
use Rattle.records.specs.Limits.{places}
use Rattle.fields.specs.Lent.{lent_at}
use Rattle.resting.specs.Used.{off_at}
use Rattle.resting.proofs.chains.off_ok.Goals as goal
use Rattle.resting.proofs.chains.off_ok.Goals.{then-not-is_finished, else-not-is_finished}

pub returns-then-at-ne0 : goal.returns-then-at-ne0
unfolding off_at
returns-then-at-ne0 c = rw (← lent_at places c.args.seen.now 0 (omega arith) refl c.at.ensures, ne_eqb _ _ c.if-at-ne0.true)

pub returns-then-at-eq0 : goal.returns-then-at-eq0
unfolding off_at
returns-then-at-eq0 c =
    let S = c.args.s.now in
    elim c.if-not-is_finished.branch [
      | then-not-is_finished w ↦ rw (
        ← lent_at places c.args.seen.now 0 (omega arith) refl c.at.ensures,
        ← lent_at places S.xmin 0 (omega arith) refl c.at-else-at-ne0.ensures,
        ← lent_at places S.xmax 0 (omega arith) refl w.at-then-not-is_finished.ensures,
        ← lent_at places S.next 0 (omega arith) refl c.at-then-at-eq0.ensures,
        eq-eqb _ _ c.if-at-ne0.false,
        ← c.is_finished.ensures,
        w.if-not-is_finished.true,
        sym w.value-is ∙ c.if-at-eq0.true,
        c.place.ensures,
      )
      | else-not-is_finished w ↦ clash {b = c.if-not-is_finished.value} c.if-at-eq0.true (rw w.if-not-is_finished.false at w.value-is)
    ]

pub returns-else-at-eq0 : goal.returns-else-at-eq0
unfolding off_at
returns-else-at-eq0 c =
    let S = c.args.s.now in
    elim c.if-not-is_finished.branch [
      | then-not-is_finished w ↦ rw (
        ← lent_at places c.args.seen.now 0 (omega arith) refl c.at.ensures,
        ← lent_at places S.xmin 0 (omega arith) refl c.at-else-at-ne0.ensures,
        ← lent_at places S.xmax 0 (omega arith) refl w.at-then-not-is_finished.ensures,
        eq-eqb _ _ c.if-at-ne0.false,
        ← c.is_finished.ensures,
        w.if-not-is_finished.true,
        sym w.value-is ∙ c.if-at-eq0.false,
        c.if-at-eq0.false,
      )
      | else-not-is_finished w ↦ rw (
        ← lent_at places c.args.seen.now 0 (omega arith) refl c.at.ensures,
        ← lent_at places S.xmin 0 (omega arith) refl c.at-else-at-ne0.ensures,
        eq-eqb _ _ c.if-at-ne0.false,
        ← c.is_finished.ensures,
        w.if-not-is_finished.false,
      ) c.if-at-eq0.false
    ]
