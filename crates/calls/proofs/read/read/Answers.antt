-- `read` meets its contract, as its tests find it.
use Rattle.std.specs.Result.{result_ok}
use Rattle.std.proofs.Common.{refl, ap, ◌∙◌}
use Rattle.recording.specs.ReadList.{split_within}
use Rattle.fields.proofs.Lengths.{sized}
use Rattle.admit.specs.Admission.{refused_is}
use Rattle.calls.specs.Passed.{passed}
use Rattle.calls.specs.ReadAnswer.{read_refused, read_never, read_done}
use Rattle.calls.proofs.read.read.Goals as goal

pub returns-in-Err : goal.returns-in-Err
returns-in-Err c =
    let why = refused_is _ _ c.in-Err.ensures in
    read_refused c.args.s c.args.x _ (sized c.args.s c.well_formed.0) _
    (c.ok-reads.ensures.value ∙ ap result_ok c.with_read.ensures ∙ split_within _) refl refl c.is_none.ensures why.0 why.1

pub returns : goal.returns
returns c =
    read_done c.args.s c.args.x _ (sized c.args.s c.well_formed.0) _
    (c.ok-reads.ensures.value ∙ ap result_ok c.with_read.ensures ∙ split_within _) refl refl c.is_none.ensures
    (passed _ _ c.in_default.ensures) c.in-Some.is refl c.read_ptr.ensures c.value_at-v.ensures c.with_reads-y.ensures

pub unreachable-requires : goal.unreachable-requires
unreachable-requires c =
    read_never c.args.s c.args.x _ (sized c.args.s c.well_formed.0) _
    (c.ok-reads.ensures.value ∙ ap result_ok c.with_read.ensures ∙ split_within _) refl refl c.is_none.ensures
    (passed _ _ c.in_default.ensures) refl c.in_default-reads.is
