-- `all_apart` meets its contract: what is left from place i on decides as the whole does.
use Rattle.std.proofs.Common.{rules, drop, sym, ◌∙◌, ◌+◌}
use Rattle.std.proofs.lemmas.List.{take_rest}
use Rattle.std.proofs.lemmas.Iterator.{YieldsList-from_slice}
use Rattle.std.proofs.lemmas.Iterator.Search.{all_from_yields_List}
use Rattle.fitting.specs.Apart.{pairs_pass}
use Rattle.fitting.proofs.apart.all_apart.Goals as goal

pub loop-i-preserved : goal.loop-i-preserved
loop-i-preserved g c =
    let d = g.T.Apart.differ in
    let later = drop (c.loop-i.i + 1) c.args.x.now in
    let rest = c.iter.ensures.rest ∙ take_rest c.args.x.now (c.loop-i.i + 1) in
    let all_is = all_from_yields_List (d c.index-x-i.result) _ _ _ c.all.ensures.ran (YieldsList-from_slice later rest) (λ x b q k. search rules) in
    pairs_pass d c.args.x.now c.loop-i.i c.index-x-i.result (search rules) c.index-x-i.is c.loop-i.invariant (sym all_is ∙ c.if-not-all.false)
