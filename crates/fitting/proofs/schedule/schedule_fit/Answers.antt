-- `schedule_fit` meets its contract: the faults that are tested are those of the schedule.
use Rattle.std.proofs.Common.{rules, min, take, ◌∙◌, ◌≡◌}
use Rattle.std.proofs.lemmas.Iterator.{YieldsList-from_slice}
use Rattle.std.proofs.lemmas.Iterator.Search.{all_from_yields_List}
use Rattle.records.specs.Limits.{fault_limit}
use Rattle.rules.specs.Faults.{allowed}
use Rattle.fields.proofs.Lengths.{faults_long}
use Rattle.fitting.specs.Fits.{schedule_law}
use Rattle.fitting.proofs.schedule.schedule_fit.Goals as goal

pub returns-then-all : goal.returns-then-all
returns-then-all c =
    let faults = take c.min-n.result c.args.c.faults in
    let all_is = all_from_yields_List allowed _ _ _ c.all.ensures.ran (YieldsList-from_slice faults cc) (λ x b q k. search rules) in
    let n : c.min-n.result ≡ min c.args.c.count fault_limit = c.min-n.ensures in
    let law = schedule_law c.args.c (faults_long c.args.c c.well_formed.0) in
    c.all_apart.ensures ∙ (rw (← n, ← all_is, c.if-all.true) at law)

pub returns-else-all : goal.returns-else-all
returns-else-all c =
    let faults = take c.min-n.result c.args.c.faults in
    let all_is = all_from_yields_List allowed _ _ _ c.all.ensures.ran (YieldsList-from_slice faults cc) (λ x b q k. search rules) in
    let n : c.min-n.result ≡ min c.args.c.count fault_limit = c.min-n.ensures in
    let law = schedule_law c.args.c (faults_long c.args.c c.well_formed.0) in
    rw c.if-all.false (rw (← n, ← all_is, c.if-all.false) at law)
