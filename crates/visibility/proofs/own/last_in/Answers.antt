-- `last_in` meets its contract: going back is the definition's fold.
use Rattle.std.proofs.Common.{rules, tests, ◌≡◌, ◌∙◌, min, take, length}
use Rattle.std.proofs.lemmas.Iterator.Adapters.{YieldsList-from_rev_slice}
use Rattle.std.proofs.lemmas.Iterator.Consumers.{fold_from_yields_List}
use Rattle.records.specs.Limits.{write_limit}
use Rattle.fields.specs.Pad.{take_clip}
use Rattle.visibility.specs.Own.{own_before, own_folded}
use Rattle.visibility.proofs.own.last_in.Goals as goal

pub returns : goal.returns
returns c =
    let ws = c.args.writes.now in
    let long : length ws ≡ write_limit = search rules in
    let clip = take_clip c.args.count write_limit ws long in
    let n = min c.args.count write_limit in
    fold_from_yields_List _ (own_before c.args.r.0) _ _ c.fold.ensures.ran (YieldsList-from_rev_slice (take n ws) cc) (λ a x b q k. search (rules, tests))
    ∙ own_folded c.args.r.0 (take n ws) ∙ rw clip
