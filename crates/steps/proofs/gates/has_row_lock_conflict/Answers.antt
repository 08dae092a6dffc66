-- `has_row_lock_conflict` meets its contract: its fault is struck, or the test decides; either way with the test's cause.
use Rattle.std.proofs.Common.{refl, ap, ◌∙◌}
use Rattle.rules.specs.Types.{RowLockAt}
use Rattle.rules.specs.Tests.{row_lock_conflict, row_lock_place}
use Rattle.commit_tests.specs.Conflicts.{tested_yes, tested_place}
use Rattle.steps.specs.GateTable.{row_at}
use Rattle.steps.specs.Causes.{cause_after}
use Rattle.steps.specs.Places.{place_of}
use Rattle.steps.specs.Chained.{tested_ends}
use Rattle.steps.proofs.gates.has_row_lock_conflict.Goals as goal

pub returns : goal.returns
unfolding place_of row_at cause_after
returns c = λ S d.
    let x = c.args.x.now in
    let said = c.has_row_lock_conflict-test.ensures S d.heads d.locked d.owner d.active in
    let told = ap RowLockAt (c.place_told.ensures ∙ tested_place (row_lock_conflict S x) (row_lock_place S x) said) in
    let yes = c.is_err.ensures.value ∙ tested_yes (row_lock_conflict S x) (row_lock_place S x) said in
    tested_ends S x 14 _ _ _ refl refl told told _ _ _ _ c.strikes.ensures yes c.stop_tested.ensures
