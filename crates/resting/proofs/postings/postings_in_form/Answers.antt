-- `postings_in_form` meets its contract.
use mathlib.Core.Path.{◌≡◌, ◌∙◌}
use mathlib.Core.Bool.{◌&&◌}
use Prim.Native.Nat.{suc}
use lib.Dec.{leb}
use lib.ListN.{take}
use borrow.Author.Tests.{le-leb, lt-leb}
use Rattle.records.specs.Limits.{posting_limit}
use Rattle.fields.specs.Climb.{climb}
use Rattle.resting.specs.PostingForm.{keyed, form_is}
use Rattle.resting.proofs.postings.postings_in_form.Goals as goal
use Rattle.resting.proofs.postings.postings_in_form.Goals.{then-s-le-POSTINGS, else-s-le-POSTINGS}

pub returns-then-postings_rise : goal.returns-then-postings_rise
returns-then-postings_rise c =
    let S = c.args.s.now in
    let first : c.if-s-le-POSTINGS.value ≡ (leb S.posting_count posting_limit && climb suc keyed 0 (take S.posting_count S.postings)) =
    elim c.if-s-le-POSTINGS.branch [
      | then-s-le-POSTINGS w ↦ rw (le-leb _ _ w.if-s-le-POSTINGS.true) (w.value-is ∙ w.postings_rise.ensures)
      | else-s-le-POSTINGS w ↦ rw (lt-leb _ _ w.if-s-le-POSTINGS.false) (w.value-is ∙ lt-leb _ _ w.if-s-le-POSTINGS.false)
    ] in
    rw (form_is S, ← first, c.if-postings_rise.true) c.zeros_from.ensures

pub returns-else-postings_rise : goal.returns-else-postings_rise
returns-else-postings_rise c =
    let S = c.args.s.now in
    let first : c.if-s-le-POSTINGS.value ≡ (leb S.posting_count posting_limit && climb suc keyed 0 (take S.posting_count S.postings)) =
    elim c.if-s-le-POSTINGS.branch [
      | then-s-le-POSTINGS w ↦ rw (le-leb _ _ w.if-s-le-POSTINGS.true) (w.value-is ∙ w.postings_rise.ensures)
      | else-s-le-POSTINGS w ↦ rw (lt-leb _ _ w.if-s-le-POSTINGS.false) (w.value-is ∙ lt-leb _ _ w.if-s-le-POSTINGS.false)
    ] in
    rw (form_is S, ← first, c.if-postings_rise.false)
