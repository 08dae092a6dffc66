-- `unfolding computing` opens every definition, for laws that compute.
use Rattle.std.specs.Prelude.{ℕ}
use Rattle.records.specs.Limits.{no_marks}
use Rattle.records.specs.Zero.{empty_store, fresh, only_txid, zero_tx, no_faults}
use Rattle.rules.specs.Lists.{every}
use Rattle.rules.specs.Store.{slots_in_form, postings_of, postings_in_form, active_in_form}
use Rattle.rules.specs.Transaction.{sees, finals}
use Rattle.rules.specs.Chains.{chain_from, walk_row, walk_rows, walk}
use Rattle.rules.specs.Admitted.{finished, repairable, resting}
use Rattle.rules.specs.Fit.{counts_fit, fit}
use Rattle.rules.specs.Puts.{own_slots, abort_puts}
use Rattle.rules.specs.Calls.{admits, begun, begin, visible_version, read_ptr, record_read, read, lowest_free}
use Rattle.rules.specs.Calls.{base_of, write, candidates, matching, lookup, locked_by_another, row_lock, abort}
use Rattle.rules.specs.Recovery.{recovered, recover}
use Rattle.rules.specs.Faults.{table, masks, allowed, schedule_fit}
use Rattle.rules.specs.Tests.{index_read_conflict, row_lock_conflict, read_conflict, serialization_conflict, write_base_conflict}
use Rattle.rules.specs.Tests.{index_read_place, row_lock_place, serialization_place, write_base_place}
use Rattle.rules.specs.Changes.{index_changes, changes, destinations, sources, changed_stripes, guarded_stripes, guarded_partitions, index_guards}
use Rattle.rules.specs.Changes.{partition_guards, release, publish_one, insertions, removals, publication, recycled, recycling, stamping}
use Rattle.rules.specs.Commit.{stop_if, strikes, count, abort_or_poison, rollback, index_changes_made, index_lock_keys, prepare_commit_record}
use Rattle.rules.specs.Commit.{run_prepare, acquire_index_locks, acquire_partition_locks, ensure_unlogged_write_allowed, check_not_poisoned}
use Rattle.rules.specs.Commit.{prepare_index_destinations, invoke_before_publish, remove_index_sources, publish_write_set}
use Rattle.rules.specs.Commit.{recycle_non_final_writes, finish_transaction, publish_index_stamps, steps, run_of}
use Rattle.rules.specs.Answer.{events_of, no_events, no_record, record_of, uncut, cut_off, commit}
use Rattle.rules.specs.Replay.{start, with_fault, turn, replay}
use Rattle.rules.specs.Script.{parse, replay_text}

unfoldable pub computing : ℕ
unfolding no_marks empty_store fresh only_txid zero_tx no_faults every slots_in_form postings_of postings_in_form active_in_form sees finals chain_from
    walk_row walk_rows walk finished repairable resting counts_fit fit own_slots abort_puts admits begun begin visible_version read_ptr
    record_read read lowest_free base_of write candidates matching lookup locked_by_another row_lock abort recovered recover table masks allowed
    schedule_fit index_read_conflict row_lock_conflict read_conflict serialization_conflict write_base_conflict index_read_place row_lock_place
    serialization_place write_base_place index_changes changes destinations sources changed_stripes guarded_stripes guarded_partitions
    index_guards partition_guards release publish_one insertions removals publication recycled recycling stamping stop_if strikes count
    abort_or_poison rollback index_changes_made index_lock_keys prepare_commit_record run_prepare acquire_index_locks acquire_partition_locks
    ensure_unlogged_write_allowed check_not_poisoned prepare_index_destinations invoke_before_publish remove_index_sources publish_write_set
    recycle_non_final_writes finish_transaction publish_index_stamps steps run_of events_of no_events no_record record_of uncut cut_off commit start
    with_fault turn replay parse replay_text
computing = 0
