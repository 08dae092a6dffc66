-- `guarding` meets its contract: each step ends the run, or the next ones decide.
use Rattle.std.proofs.Common.{arith}
use Rattle.steps.specs.Stops.{guarding_tests}
use Rattle.steps.specs.Chained.{ends_here, goes_on}
use Rattle.steps.proofs.first.guarding.Goals as goal

pub returns-in_err-acquire_index_locks : goal.returns-in_err-acquire_index_locks
unfolding guarding_tests
returns-in_err-acquire_index_locks c =
    ends_here _ _ _ c.in_err-acquire_index_locks.field-0.0 c.from_residual.result c.from_residual.ensures.1 c.in_err-acquire_index_locks.ensures

pub returns-in_err-acquire_partition_locks : goal.returns-in_err-acquire_partition_locks
unfolding guarding_tests
returns-in_err-acquire_partition_locks c =
    goes_on _ _ _ c.in_ok-acquire_index_locks.ensures (omega arith) (
    ends_here _ _ _ c.in_err-acquire_partition_locks.field-0.0 c.from_residual-in_err-acquire_partition_locks.result
    c.from_residual-in_err-acquire_partition_locks.ensures.1 c.in_err-acquire_partition_locks.ensures)

pub returns-in_err-ensure_unlogged_write_allowed : goal.returns-in_err-ensure_unlogged_write_allowed
unfolding guarding_tests
returns-in_err-ensure_unlogged_write_allowed c =
    goes_on _ _ _ c.in_ok-acquire_index_locks.ensures (omega arith) (
    goes_on _ _ _ c.in_ok-acquire_partition_locks.ensures (omega arith) (
    ends_here _ _ _ c.in_err-ensure_unlogged_write_allowed.field-0.0 c.from_residual-in_err-ensure_unlogged_write_allowed.result
    c.from_residual-in_err-ensure_unlogged_write_allowed.ensures.1 c.in_err-ensure_unlogged_write_allowed.ensures))

pub returns : goal.returns
unfolding guarding_tests
returns c =
    goes_on _ _ _ c.in_ok-acquire_index_locks.ensures (omega arith) (
    goes_on _ _ _ c.in_ok-acquire_partition_locks.ensures (omega arith) (
    goes_on _ _ _ c.in_ok-ensure_unlogged_write_allowed.ensures (omega arith) (c.check_not_poisoned.ensures)))
