-- What the steps of commit put, and what those after publication read.
use Rattle.std.specs.Prelude.{◌≡◌, refl, Bool, true, false, List, [], ◌∷◌, ℕ}
use Rattle.rules.specs.Types.{Store, Tx, Schedule}
use Rattle.rules.specs.Lists.{memb}
use Rattle.rules.specs.Puts.{Put, k_free, k_key, k_stamp, put_stripe, put_partition, put_insert, put_remove, put_stamp, apply_all}
use Rattle.rules.specs.Changes.{changes, destinations, sources, changed_stripes, guarded_stripes, guarded_partitions}
use Rattle.rules.specs.Changes.{index_guards, partition_guards, release, insertions, removals, recycled, recycling, stamping}
use Rattle.rules.specs.Commit.{strikes, count, recycle_non_final_writes, finish_transaction, publish_index_stamps}
use Rattle.run_laws.specs.OnlyKinds.{only, only_map, only_both, key_kept, has_kept}
use Rattle.upstream.specs.Beside.{quiet}

-- changed keys are the same after puts that free no slot and put no key
pub changes_kept : (ks : List ℕ) → memb k_free ks ≡ false → memb k_key ks ≡ false → (ps : List Put) (T : Store) (x : Tx) → only ks ps ≡ true
    → changes (apply_all ps T) x ≡ changes T x
unfolding changes
changes_kept ks f k ps T x o = rw (key_kept ks f k ps T o, has_kept ks f k ps T o)

module _ (S : Store) (x : Tx) where
  -- steps 7, 8, 15 and 17 put guards and postings
  pub index_guards_quiet : (t : ℕ) → only quiet (index_guards S x t) ≡ true
  unfolding index_guards
  index_guards_quiet t = only_map quiet (λ i. put_stripe i t) (guarded_stripes (changes S x) x) (λ i. refl)

  pub partition_guards_quiet : (t : ℕ) → only quiet (partition_guards x t) ≡ true
  unfolding partition_guards
  partition_guards_quiet t = only_map quiet (λ i. put_partition i t) (guarded_partitions x) (λ i. refl)

  pub insertions_quiet : only quiet (insertions S x) ≡ true
  unfolding insertions
  insertions_quiet = only_map quiet put_insert (destinations (changes S x)) (λ c. refl)

  pub removals_quiet : only quiet (removals S x) ≡ true
  unfolding removals
  removals_quiet = only_map quiet put_remove (sources (changes S x)) (λ c. refl)

  -- and so does what lets the guards go
  pub release_quiet : only quiet (release S x) ≡ true
  unfolding release
  release_quiet = only_both quiet (partition_guards x 0) (index_guards S x 0) (partition_guards_quiet 0) (index_guards_quiet 0)

  -- step 22 puts stamps
  pub stamps_only : only (k_stamp ∷ []) (stamping S x) ≡ true
  unfolding stamping
  stamps_only = only_map (k_stamp ∷ []) (λ i. put_stamp i x.txid.0) (changed_stripes (changes S x)) (λ i. refl)

  -- what the guards let go are follows from the changes
  pub release_same : (T : Store) → changes T x ≡ changes S x → release T x ≡ release S x
  unfolding release index_guards
  release_same T e = rw e

  module _ (logged : Bool) (plan : Schedule) where
    -- and so does what steps 21 and 22 do; step 19 reads besides what is recycled
    pub recycle_same : (T : Store) → changes T x ≡ changes S x → recycled T x ≡ recycled S x
        → recycle_non_final_writes T x logged plan ≡ recycle_non_final_writes S x logged plan
    unfolding recycle_non_final_writes recycling strikes count
    recycle_same T e r = rw (release_same T e, r)

    pub finish_same : (T : Store) → changes T x ≡ changes S x → finish_transaction T x logged plan ≡ finish_transaction S x logged plan
    unfolding finish_transaction strikes
    finish_same T e = rw (release_same T e)

    pub stamps_same : (T : Store) → changes T x ≡ changes S x → publish_index_stamps T x logged plan ≡ publish_index_stamps S x logged plan
    unfolding publish_index_stamps stamping strikes count
    stamps_same T e = rw (release_same T e, e)
