-- `has_write_base_conflict` meets its contract: its fault is struck, or the test decides; either way with the test's cause.
use Rattle.std.proofs.Common.{refl, ap, ◌∙◌}
use Rattle.rules.specs.Types.{WriteBaseAt}
use Rattle.rules.specs.Tests.{write_base_conflict, write_base_place}
use Rattle.commit_tests.specs.Conflicts.{tested_yes, tested_place}
use Rattle.steps.specs.GateTable.{row_at}
use Rattle.steps.specs.Causes.{cause_after}
use Rattle.steps.specs.Places.{place_of}
use Rattle.steps.specs.Chained.{tested_ends}
use Rattle.steps.proofs.gates.has_write_base_conflict.Goals as goal

pub returns : goal.returns
unfolding place_of row_at cause_after
returns c = λ S d.
    let x = c.args.x.now in
    let said = c.has_write_base_conflict-test.ensures S d.heads in
    let told = ap WriteBaseAt (c.place_told.ensures ∙ tested_place (write_base_conflict S x) (write_base_place S x) said) in
    let yes = c.is_err.ensures.value ∙ tested_yes (write_base_conflict S x) (write_base_place S x) said in
    tested_ends S x 18 _ _ _ refl refl told told _ _ _ _ c.strikes.ensures yes c.stop_tested.ensures
