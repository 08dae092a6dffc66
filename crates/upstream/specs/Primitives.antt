-- Source 000's trait `CommitPrimitives`, clause by clause: what each call asks of the events and what it leaves of them, given what it
-- returned. What a call promises besides stands behind it as `here`.
use Rattle.std.specs.Prelude.{Bool, true, false, not, cond, ◌&&◌, ◌||◌, List, [], ◌∷◌, ◌++◌, ℕ, eqb, ltb}
use Rattle.rules.specs.Types.{Events}
use Rattle.run_laws.specs.EventLaws.{validated, safe_release}

-- the events that a call can change; write_ahead, durably_bound and has_writes stay
abbrev pub index_locked : ℕ
index_locked = 1

abbrev pub partition_locked : ℕ
partition_locked = 2

abbrev pub index_validated : ℕ
index_validated = 3

abbrev pub row_lock_validated : ℕ
row_lock_validated = 4

abbrev pub serial_validated : ℕ
serial_validated = 5

abbrev pub base_validated : ℕ
base_validated = 6

abbrev pub unlogged_write_checked : ℕ
unlogged_write_checked = 10

abbrev pub health_checked : ℕ
health_checked = 11

abbrev pub health_cleanup_required : ℕ
health_cleanup_required = 12

abbrev pub record_prepared : ℕ
record_prepared = 13

abbrev pub payload_prepared : ℕ
payload_prepared = 14

abbrev pub preparation_cleanup_required : ℕ
preparation_cleanup_required = 15

abbrev pub destinations_prepared : ℕ
destinations_prepared = 16

abbrev pub callback_complete : ℕ
callback_complete = 17

abbrev pub prepared : ℕ
prepared = 18

abbrev pub rows_published : ℕ
rows_published = 19

abbrev pub deregistered : ℕ
deregistered = 20

abbrev pub stamped : ℕ
stamped = 21

abbrev pub poisoned : ℕ
poisoned = 22

-- `Events { flag: b, ..s }`
abbrev pub turn : ℕ → Bool → Events → Events
turn k b s = record {
  index_locked = cond (eqb k index_locked) b s.index_locked;
  partition_locked = cond (eqb k partition_locked) b s.partition_locked;
  index_validated = cond (eqb k index_validated) b s.index_validated;
  row_lock_validated = cond (eqb k row_lock_validated) b s.row_lock_validated;
  serial_validated = cond (eqb k serial_validated) b s.serial_validated;
  base_validated = cond (eqb k base_validated) b s.base_validated;
  write_ahead = s.write_ahead;
  durably_bound = s.durably_bound;
  has_writes = s.has_writes;
  unlogged_write_checked = cond (eqb k unlogged_write_checked) b s.unlogged_write_checked;
  health_checked = cond (eqb k health_checked) b s.health_checked;
  health_cleanup_required = cond (eqb k health_cleanup_required) b s.health_cleanup_required;
  record_prepared = cond (eqb k record_prepared) b s.record_prepared;
  payload_prepared = cond (eqb k payload_prepared) b s.payload_prepared;
  preparation_cleanup_required = cond (eqb k preparation_cleanup_required) b s.preparation_cleanup_required;
  destinations_prepared = cond (eqb k destinations_prepared) b s.destinations_prepared;
  callback_complete = cond (eqb k callback_complete) b s.callback_complete;
  prepared = cond (eqb k prepared) b s.prepared;
  rows_published = cond (eqb k rows_published) b s.rows_published;
  deregistered = cond (eqb k deregistered) b s.deregistered;
  stamped = cond (eqb k stamped) b s.stamped;
  poisoned = cond (eqb k poisoned) b s.poisoned;
}

-- 000's `initial` and `held`; `validated`, `safe_release` and `completed` are in the crate `rules`
abbrev pub initial : Events → Bool
initial s =
    not s.index_locked && (not s.partition_locked && (not s.index_validated && (not s.row_lock_validated
    && (not s.serial_validated && (not s.base_validated && (not s.unlogged_write_checked && (not s.health_checked
    && (not s.health_cleanup_required && (not s.record_prepared && (not s.payload_prepared
    && (not s.preparation_cleanup_required && (not s.destinations_prepared && (not s.callback_complete
    && (not s.prepared && (not s.rows_published && (not s.deregistered && (not s.stamped && not s.poisoned)))))))))))))))))

abbrev pub held : Events → Bool
held s = s.index_locked && s.partition_locked

-- a call: its `requires`, and the events that its `ensures` names
pub record Call : Type 0 where
  pub asks : Events → Bool
  pub leaves : Events → Events

-- a test that holds at this place and changes nothing
abbrev pub here : (Events → Bool) → Call
here p = record { asks = p; leaves = λ s. s }

abbrev pub quiet : Call
quiet = here (λ s. true)

abbrev pub ensure_open : Call
ensure_open = quiet

abbrev pub final_write_indices : ℕ → Call
final_write_indices n = here (λ s. cond (ltb 0 n) s.has_writes (not s.has_writes))

abbrev pub index_changes : Call
index_changes = quiet

abbrev pub index_lock_keys : Call
index_lock_keys = quiet

abbrev pub acquire_index_locks : Bool → Call
acquire_index_locks ok = record { asks = λ s. not s.index_locked; leaves = turn index_locked ok }

abbrev pub acquire_partition_locks : Bool → Call
acquire_partition_locks ok = record { asks = λ s. s.index_locked && not s.partition_locked; leaves = turn partition_locked ok }

abbrev pub ensure_unlogged_write_allowed : Call
ensure_unlogged_write_allowed = record { asks = held; leaves = turn unlogged_write_checked true }

abbrev pub unbound_if_ok : Bool → Call
unbound_if_ok ok = here (λ s. not ok || not s.durably_bound)

-- `found`: whether it returned an error because the store is poisoned; poison only grows
abbrev pub check_not_poisoned : Bool → Bool → Call
check_not_poisoned ok found = record {
  asks = λ s. held s && not s.destinations_prepared;
  leaves = λ s. turn health_checked ok (turn health_cleanup_required (not ok) (turn poisoned (s.poisoned || found) s));
}

abbrev pub sound_if_ok : Bool → Call
sound_if_ok ok = here (λ s. not ok || not s.poisoned)

abbrev pub abort_for_serialization_failure : Call
abort_for_serialization_failure = here (λ s. not s.prepared)

-- the four tests: `clear` where a test returned Ok(false)
abbrev pub testing : ℕ → Bool → Call
testing flag clear = record { asks = held; leaves = turn flag clear }

abbrev pub prepare_commit_record : Bool → Call
prepare_commit_record ok = record { asks = initial; leaves = λ s. turn record_prepared ok (turn preparation_cleanup_required (not ok) s) }

abbrev pub run_prepare : Bool → Call
run_prepare ok = record {
  asks = λ s. not s.index_locked && (not s.partition_locked && (s.record_prepared && not s.preparation_cleanup_required));
  leaves = λ s. turn payload_prepared ok (turn preparation_cleanup_required (not ok) s);
}

abbrev pub abort : Bool → Call
abort ok = record {
  asks = λ s. not s.prepared;
  leaves = λ s. turn preparation_cleanup_required (not ok && s.preparation_cleanup_required) (turn health_cleanup_required false s);
}

abbrev pub poison_indexes : Call
poison_indexes = record { asks = λ s. true; leaves = turn poisoned true }

abbrev pub poison_if : Bool → List Call
poison_if b = cond b (poison_indexes ∷ []) []

-- with a body of its own: what it asks, the calls it makes, what it promises
abbrev pub abort_preparation : Bool → List Call
abort_preparation ok =
    here (λ s. not s.index_locked && (not s.partition_locked && (not s.destinations_prepared && not s.prepared)))
    ∷ abort ok
    ∷ poison_if (not ok) ++ here safe_release ∷ here (λ s. not s.health_cleanup_required) ∷ []

-- an error leaves the events as they were, or poisoned
abbrev pub prepare_index_destinations : Bool → Bool → Call
prepare_index_destinations ok poisons = record {
  asks = λ s. held s && (validated s && (not (not s.write_ahead && s.has_writes) || (s.unlogged_write_checked && not s.durably_bound)));
  leaves = λ s. turn destinations_prepared (ok || s.destinations_prepared) (turn poisoned ((not ok && poisons) || s.poisoned) s);
}

-- also asked by `invoke_before_publish`
abbrev pub callable : Events → Bool
callable s =
    held s && (validated s && (s.record_prepared && (s.payload_prepared && (not s.preparation_cleanup_required
    && (s.destinations_prepared && not s.prepared)))))

-- `callback_transition`: poison only grows, and not on success
abbrev pub run_before_publish : Bool → Bool → Call
run_before_publish ok poisons = record {
  asks = callable;
  leaves = λ s. turn callback_complete (ok || s.callback_complete) (turn poisoned ((not ok && poisons) || s.poisoned) s);
}

abbrev pub resume_unwind : Call
resume_unwind = here safe_release

abbrev pub rollback_index_destinations : Bool → Call
rollback_index_destinations ok = record {
  asks = λ s. held s && not s.prepared;
  leaves = λ s. turn destinations_prepared (not ok && s.destinations_prepared) (turn poisoned (not ok || s.poisoned) s);
}

-- with a body of its own
abbrev pub rollback_prepared_commit : Bool → Bool → List Call
rollback_prepared_commit back ok =
    here (λ s. held s && (not s.prepared && (not s.preparation_cleanup_required && not s.health_cleanup_required)))
    ∷ rollback_index_destinations back
    ∷ abort ok
    ∷ poison_if (not ok) ++ here safe_release ∷ here (λ s. (back && ok) || s.poisoned) ∷ []

abbrev pub remove_index_sources : Bool → Call
remove_index_sources ok = record {
  asks = λ s. held s && (validated s && (s.destinations_prepared && (not s.write_ahead || s.callback_complete)));
  leaves = λ s. turn prepared (ok || s.prepared) (turn poisoned (not ok || s.poisoned) s);
}

-- `rows_published` rises whatever it returned
abbrev pub publish_prepared_write_set : Call
publish_prepared_write_set = record {
  asks = λ s. held s && (s.prepared && (validated s && (s.record_prepared && s.callback_complete)));
  leaves = turn rows_published true;
}

abbrev pub publish_write_set : Call
publish_write_set = record { asks = λ s. held s && (s.prepared && validated s); leaves = turn rows_published true }

abbrev pub recycle_non_final_writes : Call
recycle_non_final_writes = here (λ s. held s && s.rows_published)

abbrev pub flush_local_recycle_caches : Call
flush_local_recycle_caches = quiet

abbrev pub finish_transaction : Bool → Call
finish_transaction ok = record { asks = λ s. true; leaves = λ s. turn deregistered (ok || s.deregistered) s }

abbrev pub publish_index_stamps : Bool → Call
publish_index_stamps ok = record { asks = λ s. held s && (s.rows_published && s.deregistered); leaves = turn stamped ok }

abbrev pub release_partition_locks : Call
release_partition_locks = record { asks = λ s. s.partition_locked && safe_release s; leaves = turn partition_locked false }

abbrev pub release_index_locks : Call
release_index_locks = record { asks = λ s. s.index_locked && safe_release s; leaves = turn index_locked false }

-- calls one after the other: whether each finds what it asks, and what they leave
abbrev pub met : List Call → Events → Bool
met [] s = true
met (c ∷ cs) s = c.asks s && met cs (c.leaves s)

abbrev pub play : List Call → Events → Events
play [] s = s
play (c ∷ cs) s = play cs (c.leaves s)
