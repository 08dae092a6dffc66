-- `lookup` meets its contract, as its tests find it.
use Rattle.std.specs.Result.{result_ok}
use Rattle.std.proofs.Common.{refl, ap, ◌∙◌}
use Rattle.fields.proofs.Lengths.{sized}
use Rattle.recording.specs.ReadList.{split_within}
use Rattle.admit.specs.Admission.{refused_is}
use Rattle.calls.specs.Passed.{passed}
use Rattle.calls.specs.LookupAnswer.{lookup_refused, lookup_full, lookup_done}
use Rattle.calls.proofs.lookup.lookup.Goals as goal

pub returns-in-Err : goal.returns-in-Err
returns-in-Err c =
    let why = refused_is _ _ c.in-Err.ensures in
    c.none_found.ensures ∙ lookup_refused c.args.s c.args.x _ (sized c.args.s c.well_formed.0) refl refl why.0 why.1

pub returns-in_default-record_marked : goal.returns-in_default-record_marked
returns-in_default-record_marked c =
    c.none_found-in_default-record_marked.ensures
    ∙ lookup_full c.args.s c.args.x _ (sized c.args.s c.well_formed.0) refl refl (passed _ _ c.in_default.ensures) refl
    c.candidates-marks.ensures (ap result_ok c.record_marked.ensures ∙ split_within _) (ap result_ok c.in_default-record_marked.is)

pub returns : goal.returns
returns c =
    lookup_done c.args.s c.args.x _ (sized c.args.s c.well_formed.0) refl refl (passed _ _ c.in_default.ensures) refl
    c.candidates-marks.ensures (ap result_ok c.record_marked.ensures ∙ split_within _) (ap result_ok c.in-Ok.is) c.matching-found.ensures c.looked-y.ensures
