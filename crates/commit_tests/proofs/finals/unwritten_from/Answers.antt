-- `unwritten_from` meets its contract: no write from the place on is of the row.
use Rattle.std.proofs.Common.{ap, ◌∙◌, rules, drop, not}
use Rattle.std.proofs.lemmas.Iterator.{YieldsList-from_slice}
use Rattle.std.proofs.lemmas.Iterator.Adapters.{YieldsList-from_skip}
use Rattle.std.proofs.lemmas.Iterator.Search.{any_from_yields_List}
use Rattle.basic_laws.specs.Chains.{any_of_list}
use Rattle.commit_tests.specs.FinalTurns.{of_row}
use Rattle.commit_tests.proofs.finals.unwritten_from.Goals as goal

pub returns : goal.returns
unfolding of_row
returns c =
    let f = of_row c.args.row.0 in
    let ws = c.args.writes.now in
    ap not (any_from_yields_List f _ _ _ c.any.ensures.ran (YieldsList-from_skip c.args.from (YieldsList-from_slice ws (cc)) (cc)) (λ w b q k. search rules)
    ∙ any_of_list f (drop c.args.from ws))
