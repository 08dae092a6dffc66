-- `first_gate` meets its contract: each phase ends the run, or the next ones decide.
use Rattle.std.proofs.Common.{refl, arith}
use Rattle.steps.specs.GateTable.{row_at}
use Rattle.steps.specs.Places.{place_below, end_place}
use Rattle.steps.specs.Ended.{stop_place, Told}
use Rattle.steps.specs.Stops.{opening_tests, guarding_tests, closing_tests, first_opening, first_guarding, first_conflict, first_closing}
use Rattle.steps.specs.Causes.{cause_after, cause_busy}
use Rattle.steps.specs.Chained.{passed_as_stop, passed_stop, clean_told}
use Rattle.steps.proofs.first.first_gate.Goals as goal

pub returns-in_err-opening : goal.returns-in_err-opening
unfolding end_place stop_place Told opening_tests row_at cause_after
returns-in_err-opening c = λ S d.
    let g = c.in_err-opening.field-0.0 in
    rw (passed_as_stop g c.from_residual.result c.from_residual.ensures.1) (
      first_opening _ _ _ _ _ _ _ _ _ _ c.in_err-opening.ensures (place_below g),
      cause_busy S c.args.x.now _ _ _ c.in_err-opening.ensures refl,
    )

pub returns-in_err-guarding : goal.returns-in_err-guarding
unfolding end_place stop_place Told guarding_tests row_at cause_after
returns-in_err-guarding c = λ S d.
    let g = c.in_err-guarding.field-0.0 in
    rw (passed_as_stop g c.from_residual-in_err-guarding.result c.from_residual-in_err-guarding.ensures.1) (
      first_guarding _ _ _ _ _ _ _ _ _ _ c.in_ok-opening.ensures (omega arith) _ c.in_err-guarding.ensures (place_below g),
      cause_busy S c.args.x.now _ _ _ c.in_err-guarding.ensures refl,
    )

pub returns-in_err-testing : goal.returns-in_err-testing
unfolding end_place stop_place
returns-in_err-testing c = λ S d.
    let stop = c.in_err-testing.field-0.0 in
    rw (passed_stop stop c.from_residual-in_err-testing.result c.from_residual-in_err-testing.ensures.1) (
      first_conflict _ _ _ _ _ _ _ _ _ _ c.in_ok-opening.ensures (omega arith) _ c.in_ok-guarding.ensures (omega arith) _
          (c.in_err-testing.ensures S d).0 (place_below stop.gate),
      (c.in_err-testing.ensures S d).1,
    )

pub returns-in_err-closing : goal.returns-in_err-closing
unfolding end_place stop_place Told closing_tests row_at cause_after
returns-in_err-closing c = λ S d.
    let g = c.in_err-closing.field-0.0 in
    rw (passed_as_stop g c.from_residual-in_err-closing.result c.from_residual-in_err-closing.ensures.1) (
      first_closing _ _ _ _ _ _ _ _ _ _ c.in_ok-opening.ensures (omega arith) _ c.in_ok-guarding.ensures (omega arith) _
          (c.in_ok-testing.ensures S d).0 (omega arith) _ c.in_err-closing.ensures,
      cause_busy S c.args.x.now _ _ _ c.in_err-closing.ensures refl,
    )

pub returns : goal.returns
unfolding end_place stop_place
returns c = λ S d. (
  first_closing _ _ _ _ _ _ _ _ _ _ c.in_ok-opening.ensures (omega arith) _ c.in_ok-guarding.ensures (omega arith) _
      (c.in_ok-testing.ensures S d).0 (omega arith) _ c.in_ok-closing.ensures,
  clean_told S c.args.x.now _,
)
