-- `trimmed` meets its contract.
use mathlib.Core.Path.{sym, ◌∙◌}
use native.Mathlib.Omega.{arith}
use borrow.Author.Tests.{eq-eqb}
use Rattle.basic_laws.specs.Cases.{clash}
use Rattle.records.specs.Limits.{places}
use Rattle.rules.specs.Admitted.{finished}
use Rattle.fields.specs.Lent.{lent_at}
use Rattle.recovery.specs.Trim.{trim_none, trim_stay, trim_next}
use Rattle.recovery.proofs.trim.trimmed.Goals as goal
use Rattle.recovery.proofs.trim.trimmed.Goals.{then-h-eq0, else-h-eq0}

pub returns-then-is_finished : goal.returns-then-is_finished
returns-then-is_finished c =
    let S = c.args.s.now in
    let fin = finished S.active S.doomed in
    elim c.if-h-eq0.branch [
      | then-h-eq0 w ↦ trim_none fin S.xmin S.next c.args.h w.if-h-eq0.true
      | else-h-eq0 w ↦
          trim_stay fin S.xmin S.next c.args.h _ (lent_at places S.xmin 0 (omega arith) c.place-i.ensures w.at.ensures) w.if-h-eq0.false
          (sym w.is_finished.ensures ∙ sym w.value-is ∙ c.if-is_finished.true)
    ]

pub returns-else-is_finished : goal.returns-else-is_finished
returns-else-is_finished c =
    let S = c.args.s.now in
    let fin = finished S.active S.doomed in
    elim c.if-h-eq0.branch [
      | then-h-eq0 w ↦ clash {b = c.if-h-eq0.value} (w.value-is ∙ eq-eqb _ _ w.if-h-eq0.true) c.if-is_finished.false
      | else-h-eq0 w ↦
          trim_next fin S.xmin S.next c.args.h _ (lent_at places S.xmin 0 (omega arith) c.place-i.ensures w.at.ensures) w.if-h-eq0.false _
          (sym w.is_finished.ensures ∙ sym w.value-is ∙ c.if-is_finished.false)
          (lent_at places S.next 0 (omega arith) c.place-i.ensures c.at-else-is_finished.ensures)
    ]
