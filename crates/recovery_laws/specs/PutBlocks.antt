-- The kinds of a commit's puts up to step 17, and of the guards taken and given back.
use Rattle.std.specs.Prelude.{◌≡◌, refl, Bool, true, List, ℕ}
use Rattle.rules.specs.Lists.{memb}
use Rattle.rules.specs.Types.{Store, Tx, Schedule}
use Rattle.rules.specs.Puts.{Put, k_stripe, k_partition, k_insert, k_remove}
use Rattle.rules.specs.Changes.{insertions, removals}
use Rattle.run_laws.specs.OnlyKinds.{only, only_both}
use Rattle.run_laws.specs.Outcome.{Taken, neither, index, both, guards_taken, after_insert, after_remove}
use Rattle.run_laws.specs.Kinds.{index_kind, taken_kinds, release_kinds, insertions_kind, removals_kind}

module _ (ks : List ℕ) (s : memb k_stripe ks ≡ true) (q : memb k_partition ks ≡ true) (S : Store) (x : Tx) (logged : Bool) (plan : Schedule) where
  -- the guards taken, and how they are given back
  pub guards_kinds : {taken back : List Put} → Taken S x logged plan taken back → (only ks taken ≡ true) × (only ks back ≡ true)
  guards_kinds neither = (refl, refl)
  guards_kinds index = (index_kind ks s q S x x.txid.0, index_kind ks s q S x 0)
  guards_kinds both = (taken_kinds ks s q S x logged plan, release_kinds ks s q S x)

  module _ (i : memb k_insert ks ≡ true) where
    -- up to step 15
    pub insert_kinds : only ks (after_insert S x logged plan) ≡ true
    insert_kinds = only_both ks (guards_taken S x logged plan) (insertions S x) (taken_kinds ks s q S x logged plan) (insertions_kind ks S x i)

    -- up to step 17
    pub remove_kinds : memb k_remove ks ≡ true → only ks (after_remove S x logged plan) ≡ true
    remove_kinds r = only_both ks (after_insert S x logged plan) (removals S x) insert_kinds (removals_kind ks S x r)
