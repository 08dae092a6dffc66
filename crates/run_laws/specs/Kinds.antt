-- The kinds of each part of a run: its puts are all of some kinds `ks` where `ks` has the part's own.
use Rattle.std.specs.Prelude.{◌≡◌, refl, Bool, true, ℕ, take}
use mathlib.Core.List.{List, [], ◌∷◌, map, reverse}
use Rattle.rules.specs.Types.{Store, Tx, Schedule, Write}
use Rattle.basic_laws.specs.Cases.{by}
use Rattle.rules.specs.Lists.{flat, memb}
use Rattle.rules.specs.Transaction.{finals}
use Rattle.rules.specs.Puts.{k_stripe, k_partition, k_insert, k_remove, k_xmax, k_head, k_free, k_drop, k_stamp, k_poison, put_stripe}
use Rattle.rules.specs.Puts.{put_partition, put_insert, put_remove, put_free, put_drop, put_stamp, put_poison, own_slots, abort_puts}
use Rattle.rules.specs.Changes.{changes, destinations, sources, changed_stripes, guarded_stripes, guarded_partitions, index_guards}
use Rattle.rules.specs.Changes.{partition_guards, release, publish_one, insertions, removals, publication, recycled, recycling, stamping}
use Rattle.rules.specs.Commit.{poison, fails, count, finish, rollback, abort_or_poison}
use Rattle.run_laws.specs.OnlyKinds.{only, only_both, only_map, only_take, only_if}
use Rattle.run_laws.specs.Outcome.{guards_taken}
use Rattle.basic_laws.specs.Members.{all_mem}
use Rattle.run_laws.specs.PublishedChains.{publish_only}
use Rattle.basic_laws.specs.AllOf.{all_then}

module _ (ks : List ℕ) where
  -- one put for each number of a list
  pub insert_kind : memb k_insert ks ≡ true → (cs : List ℕ) → only ks (map put_insert cs) ≡ true
  insert_kind h cs = only_map ks put_insert cs (λ c. h)

  pub remove_kind : memb k_remove ks ≡ true → (cs : List ℕ) → only ks (map put_remove cs) ≡ true
  remove_kind h cs = only_map ks put_remove cs (λ c. h)

  free_kind : memb k_free ks ≡ true → (ps : List ℕ) → only ks (map put_free ps) ≡ true
  free_kind h ps = only_map ks put_free ps (λ p. h)

  -- guards
  module _ (s : memb k_stripe ks ≡ true) (q : memb k_partition ks ≡ true) (S : Store) (x : Tx) where
    pub index_kind : (v : ℕ) → only ks (index_guards S x v) ≡ true
    unfolding index_guards
    index_kind v = only_map ks (λ i. put_stripe i v) (guarded_stripes (changes S x) x) (λ i. s)

    partition_kind : (v : ℕ) → only ks (partition_guards x v) ≡ true
    unfolding partition_guards
    partition_kind v = only_map ks (λ i. put_partition i v) (guarded_partitions x) (λ i. q)

    pub taken_kinds : (logged : Bool) (plan : Schedule) → only ks (guards_taken S x logged plan) ≡ true
    taken_kinds logged plan =
        only_both ks (index_guards S x x.txid.0) (partition_guards x x.txid.0) (index_kind x.txid.0) (partition_kind x.txid.0)

    pub release_kinds : only ks (release S x) ≡ true
    unfolding release
    release_kinds = only_both ks (partition_guards x 0) (index_guards S x 0) (partition_kind 0) (index_kind 0)

  -- publication
  publish_kinds : memb k_xmax ks ≡ true → memb k_head ks ≡ true → (t : ℕ) (ws : List Write) → only ks (flat (publish_one t) ws) ≡ true
  publish_kinds m h t ws =
      let own = k_xmax ∷ k_head ∷ [] in
      all_then (λ p. memb p.kind own) (λ p. memb p.kind ks) (λ p e. all_mem (λ k. memb k ks) own (rw (m, h)) p.kind e)
      (flat (publish_one t) ws) (publish_only t ws)

  -- the steps' lists
  module _ (S : Store) (x : Tx) where
    pub insertions_kind : memb k_insert ks ≡ true → only ks (insertions S x) ≡ true
    unfolding insertions
    insertions_kind h = insert_kind h (destinations (changes S x))

    pub removals_kind : memb k_remove ks ≡ true → only ks (removals S x) ≡ true
    unfolding removals
    removals_kind h = remove_kind h (sources (changes S x))

    pub publication_kinds : memb k_xmax ks ≡ true → memb k_head ks ≡ true → only ks (publication x) ≡ true
    unfolding publication
    publication_kinds m h = publish_kinds m h x.txid.0 (finals x)

    pub recycling_kind : memb k_free ks ≡ true → only ks (recycling S x) ≡ true
    unfolding recycling
    recycling_kind h = free_kind h (recycled S x)

    pub stamping_kind : memb k_stamp ks ≡ true → only ks (stamping S x) ≡ true
    unfolding stamping
    stamping_kind h = only_map ks (λ i. put_stamp i x.txid.0) (changed_stripes (changes S x)) (λ i. h)

  -- poison and abort
  pub poison_kind : memb k_poison ks ≡ true → (b : Bool) → only ks (poison b) ≡ true
  poison_kind h b = only_if ks b [] (put_poison ∷ []) refl (rw h)

  pub abort_kinds : memb k_free ks ≡ true → memb k_drop ks ≡ true → (S : Store) (t : ℕ) → only ks (abort_puts S t) ≡ true
  unfolding abort_puts
  abort_kinds f d S t =
      let own = own_slots S.heads S.next S.xmin t in
      only_both ks (map put_free own) (put_drop t ∷ []) (free_kind f own) (rw d)

  -- cleaning up
  module _ (S : Store) (x : Tx) (logged : Bool) (plan : Schedule) where
    pub cleaning_kinds : memb k_free ks ≡ true → memb k_drop ks ≡ true → memb k_poison ks ≡ true → (b : Bool)
        → only ks (abort_or_poison S x logged plan b).puts ≡ true
    unfolding abort_or_poison
    cleaning_kinds f d p b = by (fails S x logged plan 23) (λ e. rw e (poison_kind p b)) (λ e. rw e (abort_kinds f d S x.txid.0))

    pub rollback_kinds : memb k_remove ks ≡ true → memb k_poison ks ≡ true → (b : Bool) (made : List ℕ) → only ks (rollback S x logged plan b made).puts ≡ true
    unfolding rollback
    rollback_kinds r p b made =
        let R = map put_remove (reverse made) in
        let back = remove_kind r (reverse made) in
        let n = count S x logged plan 24 in
        by (fails S x logged plan 24)
        (λ e. rw e (only_both ks (take n R) (poison b) (only_take ks n R back) (poison_kind p b)))
        (λ e. rw e back)

    pub finish_kind : memb k_drop ks ≡ true → only ks (finish S x logged plan) ≡ true
    finish_kind d = only_if ks (fails S x logged plan 21) [] (put_drop x.txid.0 ∷ []) refl (rw d)
