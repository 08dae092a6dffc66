-- `up_to` meets its contract.
use Rattle.std.proofs.Common.{◌∙◌, ap, ◌==◌, unwrap_or, length, rules}
use Rattle.std.proofs.lemmas.Iterator.{YieldsList-from_slice}
use Rattle.std.proofs.lemmas.Iterator.Search.{position_from_yields_List}
use Rattle.script.specs.Split.{up_to_place, up_to_fits}
use Rattle.script.proofs.field.up_to.Goals as goal

pub returns : goal.returns
returns c =
    let s = c.args.s.now in
    let b = c.args.b in
    let p = position_from_yields_List (λ x. x == b) _ _ _ c.position.ensures.ran (YieldsList-from_slice s cc) (λ x b q k. search rules) in
    let e = c.unwrap_or.ensures ∙ ap (λ o. unwrap_or o (length s)) p ∙ up_to_place b s in
    (e, rw e (up_to_fits b s))
