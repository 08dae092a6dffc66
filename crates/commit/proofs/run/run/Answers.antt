-- `run` meets its contract: the journal holds the stores of the run, as many are applied as the cut leaves, and the gate says how it ended.
use Rattle.std.proofs.Common.{refl, ap, ◌∙◌, ◌≤◌, length}
use Rattle.records.specs.Limits.{write_limit}
use lib.Dec.{ltb}
use Rattle.fields.proofs.Lengths.{sized, writes_long}
use Rattle.steps.specs.Stops.{gate_of_law}
use Rattle.steps.specs.Ended.{Told}
use Rattle.commit.specs.Planning.{lends_own, laid_count, laid_taken, finals_long, plan_told, run_pushed}
use Rattle.commit.specs.Run.{run_cut, run_whole}
use Rattle.commit.proofs.run.run.Goals as goal

pub returns-then-m-n : goal.returns-then-m-n
returns-then-m-n c =
    let a = c.args in
    let S = a.s in
    let x = a.x in
    let told = c.letters_of-l.ensures in
    let laid = c.final_writes-finals.ensures in
    let z = sized S c.well_formed.0 in
    let writes = c.first-writes.ensures ∙ laid_taken x (writes_long x c.well_formed.1.0) laid in
    let few : length c.first-writes.result.now ≤ write_limit = rw writes (finals_long x (writes_long x c.well_formed.1.0)) in
    let found = c.first_gate-stop.ensures S (lends_own S z) in
    let stopped = gate_of_law S x a.logged a.plan _ told (ap (ltb 0) (laid_count x laid)) found.0 in
    λ marks ok.
    let planned = plan_told S x z ok writes marks (c.plan_of-p.ensures few) in
    let struck = c.struck_of-q.ensures S x a.logged a.plan told refl in
    let held = run_pushed S x a.logged a.plan z ok planned struck stopped
    (λ h. rw (← c.place.ensures) (rw c.new-j.ensures at (c.push_run.ensures S x a.logged a.plan h writes))) in
    run_cut S x a.logged a.plan a.cut held c.len-n.ensures.count c.stop_at-m.ensures c.apply-t.ensures c.cut_answer.ensures c.if-m-n.true

pub returns : goal.returns
unfolding Told
returns c =
    let a = c.args in
    let S = a.s in
    let x = a.x in
    let told = c.letters_of-l.ensures in
    let laid = c.final_writes-finals.ensures in
    let z = sized S c.well_formed.0 in
    let writes = c.first-writes.ensures ∙ laid_taken x (writes_long x c.well_formed.1.0) laid in
    let few : length c.first-writes.result.now ≤ write_limit = rw writes (finals_long x (writes_long x c.well_formed.1.0)) in
    let found = c.first_gate-stop.ensures S (lends_own S z) in
    let stopped = gate_of_law S x a.logged a.plan _ told (ap (ltb 0) (laid_count x laid)) found.0 in
    λ marks ok.
    let planned = plan_told S x z ok writes marks (c.plan_of-p.ensures few) in
    let struck = c.struck_of-q.ensures S x a.logged a.plan told refl in
    let held = run_pushed S x a.logged a.plan z ok planned struck stopped
    (λ h. rw (← c.place.ensures) (rw c.new-j.ensures at (c.push_run.ensures S x a.logged a.plan h writes))) in
    run_whole S x a.logged a.plan a.cut held c.len-n.ensures.count c.stop_at-m.ensures c.apply-t.ensures
    _ stopped (λ seven. found.1) _ told (c.whole_answer.ensures laid) c.if-m-n.false
