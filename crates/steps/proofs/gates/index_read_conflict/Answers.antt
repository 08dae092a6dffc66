-- `index_read_conflict` meets its contract: its fault is struck, or the test decides; either way with the test's cause.
use Rattle.std.proofs.Common.{refl, ap, ◌∙◌}
use Rattle.rules.specs.Types.{IndexReadAt}
use Rattle.rules.specs.Tests.{index_read_conflict, index_read_place}
use Rattle.commit_tests.specs.Conflicts.{tested_yes, tested_place}
use Rattle.steps.specs.GateTable.{row_at}
use Rattle.steps.specs.Causes.{cause_after}
use Rattle.steps.specs.Places.{place_of}
use Rattle.steps.specs.Chained.{tested_ends}
use Rattle.steps.proofs.gates.index_read_conflict.Goals as goal

pub returns : goal.returns
unfolding place_of row_at cause_after
returns c = λ S d.
    let x = c.args.x.now in
    let said = c.index_read_conflict-test.ensures S d.stamps in
    let told = ap IndexReadAt (c.place_told.ensures ∙ tested_place (index_read_conflict S x) (index_read_place S x) said) in
    let yes = c.is_err.ensures.value ∙ tested_yes (index_read_conflict S x) (index_read_place S x) said in
    tested_ends S x 12 _ _ _ refl refl told told _ _ _ _ c.strikes.ensures yes c.stop_tested.ensures
