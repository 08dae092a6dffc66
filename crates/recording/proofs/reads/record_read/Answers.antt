-- `record_read` meets its contract: an own write, what is found else, and whether it was read before.
use mathlib.Core.Path.{◌≡◌, refl, sym, ap, ◌∙◌}
use mathlib.Core.List.{List}
use native.Mathlib.Omega.{arith}
use Rattle.std.proofs.Common.{Ok, Err, rules, length-append, take_all}
use Rattle.std.proofs.lemmas.Iterator.{YieldsList-from_slice}
use Rattle.std.proofs.lemmas.Iterator.Search.{any_from_yields_List}
use Rattle.records.specs.Limits.{read_limit}
use Rattle.records.specs.Zero.{no_read}
use Rattle.rules.specs.Lists.{any}
use Rattle.rules.specs.Types.{ReadRecord}
use Rattle.rules.specs.Calls.{same_read}
use Rattle.std.proofs.lemmas.List.{take-append-le}
use Rattle.recording.specs.Laid.{laid, counted}
use Rattle.recording.specs.ReadList.{reads_split, all_split, over_split, yes_split}
use Rattle.recording.specs.Record.{record_none, record_before, record_new, record_held}
use Rattle.recording.proofs.reads.record_read.Goals.{After-any}
use Rattle.recording.proofs.reads.record_read.Goals as goal

-- such a read is among them
read_before : (c : After-any) (m : List ReadRecord) → Ok c.args.l ≡ reads_split m
    → c.any.result ≡ any (same_read c.args.r.0 c.visible_version-p.result.0) m
read_before c m holds =
    let fits = yes_split c.args.l m holds in
    any_from_yields_List (λ e. same_read c.args.r.0 c.visible_version-p.result.0 e) _ _ _ c.any.ensures.ran
    (YieldsList-from_slice m (c.iter.ensures.rest ∙ c.as_slice.ensures.whole no_read m fits.0 fits.1)) (λ e b q k. search rules)

pub returns-then-ne : goal.returns-then-ne
returns-then-ne c =
    let whole = λ (m : List ReadRecord) (holds : Ok c.args.l ≡ reads_split m).
    holds ∙ ap reads_split (sym (record_none _ _ _ _ _ m _ c.last_own.ensures (search rules))) in
    record { whole = whole; first = record_held _ _ _ _ _ c.args.l (Ok c.args.l) whole (λ full. refl) }

pub returns-then-any : goal.returns-then-any
returns-then-any c =
    let whole = λ (m : List ReadRecord) (holds : Ok c.args.l ≡ reads_split m).
    let among = sym (read_before (goal.at.returns-then-any c).After-any m holds) ∙ c.if-any.true in
    holds ∙ ap reads_split (sym (record_before _ _ _ _ _ m _ c.last_own.ensures _ _ (search rules) c.visible_version-p.ensures refl among)) in
    record { whole = whole; first = record_held _ _ _ _ _ c.args.l (Ok c.args.l) whole (λ full. refl) }

pub returns-then-l-ge-READS : goal.returns-then-l-ge-READS
returns-then-l-ge-READS c =
    let whole = λ (m : List ReadRecord) (holds : Ok c.args.l ≡ reads_split m).
    let other = sym (read_before (goal.at.returns-then-l-ge-READS c).After-any m holds) ∙ c.if-any.false in
    let more = record_new _ _ _ _ _ m _ c.last_own.ensures _ _ (search rules) c.visible_version-p.ensures refl other in
    let fits = yes_split c.args.l m holds in
    let count = counted read_limit c.args.l no_read m fits.0 in
    let held = take-append-le read_limit m _ (omega arith) ∙ take_all read_limit m fits.1 in
    over_split c.args.l _ (fits.0 ∙ ap (laid read_limit no_read) (rw more (sym held))) (rw (more, length-append) (omega arith)) in
    record { whole = whole; first = record_held _ _ _ _ _ c.args.l (Err c.args.l) whole (λ full. refl) }

pub returns : goal.returns
returns c =
    let whole = λ (m : List ReadRecord) (holds : Ok c.args.l ≡ reads_split m).
    let other = sym (read_before (goal.at.returns c).After-any m holds) ∙ c.if-any.false in
    let more = record_new _ _ _ _ _ m _ c.last_own.ensures _ _ (search rules) c.visible_version-p.ensures c.txid_at.ensures other in
    let fits = yes_split c.args.l m holds in
    let count = counted read_limit c.args.l no_read m fits.0 in
    all_split c.push.new.self _ (c.push.ensures no_read m fits.0) (rw length-append (omega arith)) ∙ ap reads_split (sym more) in
    record { whole = whole; first = record_held _ _ _ _ _ c.args.l (Ok c.push.new.self) whole (λ full. absurd (omega arith)) }
