-- `opening` meets its contract: each step ends the run, or the next ones decide.
use Rattle.std.proofs.Common.{arith}
use Rattle.steps.specs.Stops.{opening_tests}
use Rattle.steps.specs.Chained.{never, ends_here, goes_on}
use Rattle.steps.proofs.first.opening.Goals as goal

pub returns-in_err-ensure_open : goal.returns-in_err-ensure_open
unfolding opening_tests
returns-in_err-ensure_open c = absurd (never c.in_err-ensure_open.field-0.0 c.in_err-ensure_open.ensures)

pub returns-in_err-final_write_indices : goal.returns-in_err-final_write_indices
unfolding opening_tests
returns-in_err-final_write_indices c = absurd (never c.in_err-final_write_indices.field-0.0 c.in_err-final_write_indices.ensures)

pub returns-in_err-index_changes : goal.returns-in_err-index_changes
unfolding opening_tests
returns-in_err-index_changes c =
    ends_here _ _ _ c.in_err-index_changes.field-0.0 c.from_residual-in_err-index_changes.result c.from_residual-in_err-index_changes.ensures.1
    c.in_err-index_changes.ensures

pub returns-in_err-index_lock_keys : goal.returns-in_err-index_lock_keys
unfolding opening_tests
returns-in_err-index_lock_keys c =
    goes_on _ _ _ c.in_ok-index_changes.ensures (omega arith) (
    ends_here _ _ _ c.in_err-index_lock_keys.field-0.0 c.from_residual-in_err-index_lock_keys.result
    c.from_residual-in_err-index_lock_keys.ensures.1 c.in_err-index_lock_keys.ensures)

pub returns-in_err-prepare_commit_record : goal.returns-in_err-prepare_commit_record
unfolding opening_tests
returns-in_err-prepare_commit_record c =
    goes_on _ _ _ c.in_ok-index_changes.ensures (omega arith) (
    goes_on _ _ _ c.in_ok-index_lock_keys.ensures (omega arith) (
    ends_here _ _ _ c.in_err-prepare_commit_record.field-0.0 c.from_residual-in_err-prepare_commit_record.result
    c.from_residual-in_err-prepare_commit_record.ensures.1 c.in_err-prepare_commit_record.ensures))

pub returns : goal.returns
unfolding opening_tests
returns c =
    goes_on _ _ _ c.in_ok-index_changes.ensures (omega arith) (
    goes_on _ _ _ c.in_ok-index_lock_keys.ensures (omega arith) (
    goes_on _ _ _ c.in_ok-prepare_commit_record.ensures (omega arith) (c.run_prepare.ensures)))
