-- A store with other guards, postings and poison flag: what commit reads off it is the same.
use Rattle.std.specs.Prelude.{◌≡◌, refl, Bool, true, false, List, [], ◌∷◌, ℕ, eqb}
use Rattle.std.proofs.Common.{ap, ◌∙◌}
use Rattle.records.specs.Setters.{beside}
use Rattle.rules.specs.Types.{Store, Tx, Schedule}
use Rattle.rules.specs.Lists.{memb}
use Rattle.rules.specs.Calls.{locked_by_another}
use Rattle.rules.specs.Puts.{Put, k_stripe, k_partition, k_insert, k_remove, k_xmax, k_head, k_free, k_drop, k_stamp, k_poison}
use Rattle.rules.specs.Puts.{k_doom, k_enter, k_clock, k_xmin, k_next, k_key, last_kind, apply, apply_all, abort_puts}
use Rattle.rules.specs.Tests.{index_read_conflict, row_lock_conflict, read_conflict, serialization_conflict, write_base_conflict}
use Rattle.rules.specs.Tests.{index_read_place, row_lock_place, serialization_place, write_base_place}
use Rattle.rules.specs.Changes.{changes, index_guards, release, insertions, removals, recycled, recycling, stamping}
use Rattle.rules.specs.Commit.{strikes, count, abort_or_poison, rollback, index_changes_made}
use Rattle.rules.specs.Commit.{index_lock_keys, prepare_commit_record, run_prepare, acquire_index_locks}
use Rattle.rules.specs.Commit.{acquire_partition_locks, ensure_unlogged_write_allowed, check_not_poisoned, prepare_index_destinations, invoke_before_publish}
use Rattle.rules.specs.Commit.{remove_index_sources, publish_write_set, recycle_non_final_writes, finish_transaction, publish_index_stamps, steps}
use Rattle.basic_laws.specs.Cases.{and_true}
use Rattle.run_laws.specs.OnlyKinds.{only, is_not}

-- every step of commit is the same with other guards and postings
pub steps_beside : (g q ps : List ℕ) (n : ℕ) (S : Store) (x : Tx) (logged : Bool) (plan : Schedule)
    → steps (beside g q ps n S.poisoned S) x logged plan ≡ steps S x logged plan
unfolding locked_by_another abort_puts index_read_conflict row_lock_conflict read_conflict serialization_conflict write_base_conflict index_read_place
    row_lock_place serialization_place write_base_place changes index_guards release insertions removals recycled recycling stamping strikes
    count abort_or_poison rollback index_changes_made index_lock_keys prepare_commit_record run_prepare acquire_index_locks acquire_partition_locks
    ensure_unlogged_write_allowed check_not_poisoned prepare_index_destinations invoke_before_publish remove_index_sources publish_write_set
    recycle_non_final_writes finish_transaction publish_index_stamps steps
steps_beside g q ps n S x logged plan = refl

-- T is S but for guards and postings
abbrev pub Beside : Store → Store → Type 0
Beside S T = T ≡ beside T.stripe_guards T.partition_guards T.postings T.posting_count S.poisoned S

-- so its steps are S's
pub steps_same : (S T : Store) (x : Tx) (logged : Bool) (plan : Schedule) → Beside S T → steps T x logged plan ≡ steps S x logged plan
steps_same S T x logged plan e =
    ap (λ (U : Store). steps U x logged plan) e ∙ steps_beside T.stripe_guards T.partition_guards T.postings T.posting_count S x logged plan

-- the puts of steps 7 to 17: guards and postings
abbrev pub quiet : List ℕ
quiet = k_stripe ∷ k_partition ∷ k_insert ∷ k_remove ∷ []

-- one such put
quiet_put : (p : Put) (T : Store) → memb p.kind quiet ≡ true → Beside T (apply p T)
quiet_put p T m =
    let no : (k : ℕ) → memb k quiet ≡ false → eqb p.kind k ≡ false = λ k n. is_not quiet k n p m in
    rw (no k_head refl, no k_free refl, no k_xmin refl, no k_xmax refl, no k_next refl, no k_key refl, no last_kind refl)
    (rw (no k_stamp refl, no k_drop refl, no k_enter refl, no k_clock refl, no k_poison refl, no k_doom refl))

-- beside a store that stands beside S
beside_trans : (S T U : Store) → Beside S T → Beside T U → Beside S U
beside_trans S T U e f =
    f ∙ ap (λ (X : Store). beside U.stripe_guards U.partition_guards U.postings U.posting_count X.poisoned X) e

-- such puts lead to such a store
pub quiet_puts : (S T : Store) (ps : List Put) → only quiet ps ≡ true → Beside S T → Beside S (apply_all ps T)
quiet_puts S T [] o e = e
quiet_puts S T (p ∷ ps) o e =
    let a = and_true (memb p.kind quiet) (only quiet ps) o in quiet_puts S (apply p T) ps a.1 (beside_trans S T (apply p T) e (quiet_put p T a.0))
