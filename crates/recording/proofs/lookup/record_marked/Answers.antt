-- `record_marked` meets its contract: l holds the reads recorded so far, and those of the rows from i on make them all.
use mathlib.Core.Path.{sym, ap, ◌∙◌}
use Rattle.std.proofs.Common.{◌+◌, Err}
use Rattle.std.proofs.lemmas.Result.{err_from_is_err_and}
use native.Mathlib.Omega.{arith}
use Rattle.records.specs.Limits.{read_limit}
use Rattle.records.specs.Zero.{no_read}
use Rattle.rules.specs.Transaction.{reads_of}
use Rattle.fields.specs.Lent.{at_rows, at_places}
use Rattle.recording.specs.MarkedRows.{marked_at, marked_whole, marked_end, marked_yes, marked_no}
use Rattle.recording.specs.Laid.{laid}
use Rattle.recording.specs.ReadList.{reads_split, over_split, no_split, record_read_of}
use Rattle.recording.specs.LookupTurns.{records_none, records_next, records_longer, records_first}
use Rattle.recording.proofs.lookup.record_marked.Goals.{then-marked+in_ok-l, else-marked}
use Rattle.recording.proofs.lookup.record_marked.Goals as goal

pub loop-i-init : goal.loop-i-init
loop-i-init c = (reads_of c.args.x.now, c.reads_of-l.ensures, rw (marked_whole c.args.marks.now))

pub returns-in_err-l : goal.returns-in_err-l
returns-in_err-l c =
    let inv = c.loop-i.invariant in
    let a = c.args in
    let heads = at_rows a.s.now.heads in
    let next = at_places a.s.now.next in
    let xmin = at_places a.s.now.xmin in
    let m = record_read_of heads next xmin a.x.now c.loop-i.i inv.0 in
    let yes = marked_yes a.marks.now c.loop-i.i c.loop-i-test.true c.if-marked.true in
    let l = c.in_err-l.field-0.0 in
    let over = no_split l m (sym c.in_err-l.was ∙ c.record_read.ensures.whole inv.0 inv.1) in
    let whole = sym (records_next _ _ _ _ _ _ _ _ yes) ∙ inv.2 in
    let rest = marked_at a.marks.now (c.loop-i.i + 1) in
    let longer = records_longer heads next xmin a.x.now rest m in
    let first = over.0 ∙ ap (laid read_limit no_read) (sym (records_first heads next xmin a.x.now rest m (omega arith))) in
    let told = err_from_is_err_and c.from_residual.result c.from_residual.ensures.1 in
    told.1 ∙ ap Err told.2 ∙ (rw whole at (over_split l _ first (omega arith)))

pub loop-i-preserved : goal.loop-i-preserved
loop-i-preserved c =
    let inv = c.loop-i.invariant in
    elim c.if-marked.branch [
      | then-marked+in_ok-l w ↦
          let yes = marked_yes c.args.marks.now c.loop-i.i c.loop-i-test.true w.if-marked.true in
          let a = c.args in
          let m = record_read_of (at_rows a.s.now.heads) (at_places a.s.now.next) (at_places a.s.now.xmin) a.x.now c.loop-i.i inv.0 in
          (m, rw w.l-is (sym (w.in_ok-l.was) ∙ w.record_read.ensures.whole inv.0 inv.1), sym (records_next _ _ _ _ _ _ _ _ yes) ∙ inv.2)
      | else-marked w ↦
          let no = marked_no c.args.marks.now c.loop-i.i c.loop-i-test.true w.if-marked.false in
          (inv.0, rw w.l-is inv.1, rw no at inv.2)
    ]

pub returns : goal.returns
returns c =
    let inv = c.loop-i.invariant in
    inv.1 ∙ ap reads_split (sym (records_none _ _ _ _ _ _ (marked_end _ _ (omega arith))) ∙ inv.2)
