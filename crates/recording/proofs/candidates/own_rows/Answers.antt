-- `own_rows` meets its contract: the own writes from an index on, marked besides those marked so far, make the marks of all.
use mathlib.Core.Path.{sym, ap, ◌∙◌}
use native.Mathlib.Omega.{arith}
use Rattle.std.proofs.Common.{drop_of_length-le}
use Rattle.std.proofs.lemmas.List.{drop_more}
use Rattle.records.specs.Zero.{no_write}
use Rattle.fields.specs.Marks.{mark_all}
use Rattle.recording.specs.CandidateTurns.{own_rows, own_row, own_high}
use Rattle.recording.proofs.candidates.own_rows.Goals.{then-w-lt-ROWS, else-w-lt-ROWS}
use Rattle.recording.proofs.candidates.own_rows.Goals as goal

pub loop-w-init : goal.loop-w-init
loop-w-init c = (c.told-m, ap (λ l. mark_all (own_rows l) c.args.m.now) c.first_of-w-items.ensures)

pub loop-w-preserved : goal.loop-w-preserved
loop-w-preserved c =
    let s = c.loop-w in
    let next = drop_more c.first_of-w-items.result.now s.w-index no_write c.loop-w-test.true in
    elim c.if-w-lt-ROWS.branch [
      | then-w-lt-ROWS w ↦ (c.if-w-lt-ROWS.array_long, rw w.m-is (sym (own_row _ _ _ _ next) ∙ s.invariant.1))
      | else-w-lt-ROWS w ↦ (c.if-w-lt-ROWS.array_long, rw w.m-is (sym (own_high _ _ _ _ next (omega (arith, w.if-w-lt-ROWS.false))) ∙ s.invariant.1))
    ]

pub returns : goal.returns
returns c = rw (drop_of_length-le c.first_of-w-items.result.now c.loop-w-test.false) at c.loop-w.invariant.1
