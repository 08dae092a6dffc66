-- `testing` meets its contract: each test ends the run, with its cause, or the next ones decide.
use Rattle.std.proofs.Common.{arith}
use Rattle.steps.specs.Stops.{conflict_tests}
use Rattle.steps.specs.Chained.{passed_stop, stops_here, stops_on}
use Rattle.steps.proofs.first.testing.Goals as goal

pub returns-in_err-index_read_conflict : goal.returns-in_err-index_read_conflict
unfolding conflict_tests
returns-in_err-index_read_conflict c = λ S d.
    let stop = c.in_err-index_read_conflict.field-0.0 in
    rw (passed_stop stop c.from_residual.result c.from_residual.ensures.1) (
      stops_here _ _ _ stop (c.in_err-index_read_conflict.ensures S d).0,
      (c.in_err-index_read_conflict.ensures S d).1,
    )

pub returns-in_err-has_row_lock_conflict : goal.returns-in_err-has_row_lock_conflict
unfolding conflict_tests
returns-in_err-has_row_lock_conflict c = λ S d.
    let stop = c.in_err-has_row_lock_conflict.field-0.0 in
    rw (passed_stop stop c.from_residual-in_err-has_row_lock_conflict.result c.from_residual-in_err-has_row_lock_conflict.ensures.1) (
      stops_on _ _ _ (c.in_ok-index_read_conflict.ensures S d).0 (omega arith) (
          stops_here _ _ _ stop (c.in_err-has_row_lock_conflict.ensures S d).0),
      (c.in_err-has_row_lock_conflict.ensures S d).1,
    )

pub returns-in_err-has_serialization_conflict : goal.returns-in_err-has_serialization_conflict
unfolding conflict_tests
returns-in_err-has_serialization_conflict c = λ S d.
    let stop = c.in_err-has_serialization_conflict.field-0.0 in
    rw (passed_stop stop c.from_residual-in_err-has_serialization_conflict.result c.from_residual-in_err-has_serialization_conflict.ensures.1) (
      stops_on _ _ _ (c.in_ok-index_read_conflict.ensures S d).0 (omega arith) (
          stops_on _ _ _ (c.in_ok-has_row_lock_conflict.ensures S d).0 (omega arith) (
          stops_here _ _ _ stop (c.in_err-has_serialization_conflict.ensures S d).0)),
      (c.in_err-has_serialization_conflict.ensures S d).1,
    )

pub returns : goal.returns
unfolding conflict_tests
returns c = λ S d. (
  stops_on _ _ _ (c.in_ok-index_read_conflict.ensures S d).0 (omega arith) (
      stops_on _ _ _ (c.in_ok-has_row_lock_conflict.ensures S d).0 (omega arith) (
      stops_on _ _ _ (c.in_ok-has_serialization_conflict.ensures S d).0 (omega arith) ((c.has_write_base_conflict.ensures S d).0))),
  (c.has_write_base_conflict.ensures S d).1,
)
