-- `in_snapshot` meets its contract: the snapshot is as long as its type says.
use Rattle.std.proofs.Common.{rules, tests, ◌≡◌, ◌∙◌, ◌==◌, length, take}
use Rattle.std.proofs.lemmas.Iterator.{YieldsList-from_slice, YieldsList-from_take}
use Rattle.std.proofs.lemmas.Iterator.Search.{any_from_yields_List}
use Rattle.records.specs.Limits.{active_limit}
use Rattle.basic_laws.specs.Chains.{memb_of_list}
use Rattle.fields.specs.Lent.{array_same}
use Rattle.fields.proofs.txids.in_snapshot.Goals as goal

pub returns : goal.returns
returns c =
    let l = c.args.snapshot.now in
    let n = c.args.count in
    let t = c.args.t.0 in
    let long : length l ≡ active_limit = search rules in
    rw (array_same active_limit 0 l long)
    (any_from_yields_List (λ x. x == t) _ _ _ c.any.ensures.ran (YieldsList-from_take n (YieldsList-from_slice l cc) cc) (λ x b q k. search (rules, tests))
    ∙ memb_of_list t (take n l))
