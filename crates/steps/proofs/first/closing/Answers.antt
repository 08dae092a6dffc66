-- `closing` meets its contract: each step ends the run, or the next ones decide.
use Rattle.std.proofs.Common.{arith}
use Rattle.steps.specs.Stops.{closing_tests}
use Rattle.steps.specs.Chained.{never, ends_here, goes_on}
use Rattle.steps.proofs.first.closing.Goals as goal

pub returns-in_err-prepare_index_destinations : goal.returns-in_err-prepare_index_destinations
unfolding closing_tests
returns-in_err-prepare_index_destinations c =
    ends_here _ _ _ c.in_err-prepare_index_destinations.field-0.0 c.from_residual.result c.from_residual.ensures.1 c.in_err-prepare_index_destinations.ensures

pub returns-in_err-invoke_before_publish : goal.returns-in_err-invoke_before_publish
unfolding closing_tests
returns-in_err-invoke_before_publish c =
    goes_on _ _ _ c.in_ok-prepare_index_destinations.ensures (omega arith) (
    ends_here _ _ _ c.in_err-invoke_before_publish.field-0.0 c.from_residual-in_err-invoke_before_publish.result
    c.from_residual-in_err-invoke_before_publish.ensures.1 c.in_err-invoke_before_publish.ensures)

pub returns-in_err-remove_index_sources : goal.returns-in_err-remove_index_sources
unfolding closing_tests
returns-in_err-remove_index_sources c =
    goes_on _ _ _ c.in_ok-prepare_index_destinations.ensures (omega arith) (
    goes_on _ _ _ c.in_ok-invoke_before_publish.ensures (omega arith) (
    ends_here _ _ _ c.in_err-remove_index_sources.field-0.0 c.from_residual-in_err-remove_index_sources.result
    c.from_residual-in_err-remove_index_sources.ensures.1 c.in_err-remove_index_sources.ensures))

pub returns-in_err-publish_write_set : goal.returns-in_err-publish_write_set
unfolding closing_tests
returns-in_err-publish_write_set c =
    goes_on _ _ _ c.in_ok-prepare_index_destinations.ensures (omega arith) (
    goes_on _ _ _ c.in_ok-invoke_before_publish.ensures (omega arith) (
    goes_on _ _ _ c.in_ok-remove_index_sources.ensures (omega arith) (
    ends_here _ _ _ c.in_err-publish_write_set.field-0.0 c.from_residual-in_err-publish_write_set.result
    c.from_residual-in_err-publish_write_set.ensures.1 c.in_err-publish_write_set.ensures)))

pub returns-in_err-recycle_non_final_writes : goal.returns-in_err-recycle_non_final_writes
unfolding closing_tests
returns-in_err-recycle_non_final_writes c =
    goes_on _ _ _ c.in_ok-prepare_index_destinations.ensures (omega arith) (
    goes_on _ _ _ c.in_ok-invoke_before_publish.ensures (omega arith) (
    goes_on _ _ _ c.in_ok-remove_index_sources.ensures (omega arith) (
    goes_on _ _ _ c.in_ok-publish_write_set.ensures (omega arith) (
    ends_here _ _ _ c.in_err-recycle_non_final_writes.field-0.0 c.from_residual-in_err-recycle_non_final_writes.result
    c.from_residual-in_err-recycle_non_final_writes.ensures.1 c.in_err-recycle_non_final_writes.ensures))))

pub returns-in_err-flush_local_recycle_caches : goal.returns-in_err-flush_local_recycle_caches
unfolding closing_tests
returns-in_err-flush_local_recycle_caches c = absurd (never c.in_err-flush_local_recycle_caches.field-0.0 c.in_err-flush_local_recycle_caches.ensures)

pub returns-in_err-finish_transaction : goal.returns-in_err-finish_transaction
unfolding closing_tests
returns-in_err-finish_transaction c =
    goes_on _ _ _ c.in_ok-prepare_index_destinations.ensures (omega arith) (
    goes_on _ _ _ c.in_ok-invoke_before_publish.ensures (omega arith) (
    goes_on _ _ _ c.in_ok-remove_index_sources.ensures (omega arith) (
    goes_on _ _ _ c.in_ok-publish_write_set.ensures (omega arith) (
    goes_on _ _ _ c.in_ok-recycle_non_final_writes.ensures (omega arith) (
    ends_here _ _ _ c.in_err-finish_transaction.field-0.0 c.from_residual-in_err-finish_transaction.result
    c.from_residual-in_err-finish_transaction.ensures.1 c.in_err-finish_transaction.ensures)))))

pub returns : goal.returns
unfolding closing_tests
returns c =
    goes_on _ _ _ c.in_ok-prepare_index_destinations.ensures (omega arith) (
    goes_on _ _ _ c.in_ok-invoke_before_publish.ensures (omega arith) (
    goes_on _ _ _ c.in_ok-remove_index_sources.ensures (omega arith) (
    goes_on _ _ _ c.in_ok-publish_write_set.ensures (omega arith) (
    goes_on _ _ _ c.in_ok-recycle_non_final_writes.ensures (omega arith) (
    goes_on _ _ _ c.in_ok-finish_transaction.ensures (omega arith) (c.publish_index_stamps.ensures))))))
