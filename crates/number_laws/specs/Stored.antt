-- "Numbers seen", rows 13 to 17 and 0: the stores of a late failure and of a clean commit, with the guards around them gone.
use Rattle.std.specs.Prelude.{◌≡◌, refl, Bool, true, List, [], ◌∷◌, ◌++◌, take}
use Rattle.std.proofs.Common.{append_assoc}
use Rattle.rules.specs.Types.{Store, Tx, Schedule}
use Rattle.rules.specs.Admitted.{resting}
use Rattle.rules.specs.Puts.{Put, put_drop, put_poison, put_doom, apply_all}
use Rattle.rules.specs.Changes.{insertions, removals, publication, recycling, stamping}
use Rattle.rules.specs.Commit.{count, finish}
use Rattle.run_laws.specs.OnlyKinds.{only, only_both, only_take}
use Rattle.run_laws.specs.Outcome.{guards_taken, after_insert, after_remove, after_publish, after_recycle, after_finish}
use Rattle.run_laws.specs.Released.{unguarded}
use Rattle.run_laws.specs.Gates.{clean, leaving}
use Rattle.statements.specs.NumbersSeen.{stored, done_row}
use Rattle.run_laws.specs.Kinds.{insertions_kind, removals_kind, publication_kinds, recycling_kind, stamping_kind, finish_kind}
use Rattle.posting_laws.specs.Aside.{between_guards}

module _ (S : Store) (x : Tx) (logged : Bool) (plan : Schedule) (rest : resting S ≡ true) where
  -- guards around the stores of a late failure, and of a clean commit
  between : (ps : List Put) → only unguarded ps ≡ true
      → apply_all ((guards_taken S x logged plan ++ insertions S x) ++ (ps ++ leaving S x logged plan)) S ≡ stored S x logged plan ps
  between ps h =
      simp append_assoc
      (simp append_assoc at
      (between_guards S x logged plan rest (insertions S x ++ ps) (only_both unguarded (insertions S x) ps (insertions_kind unguarded S x refl) h)))

  removing : only unguarded (removals S x) ≡ true
  removing = removals_kind unguarded S x refl

  publishing : only unguarded (publication x) ≡ true
  publishing = publication_kinds unguarded S x refl refl

  freeing : only unguarded (recycling S x) ≡ true
  freeing = recycling_kind unguarded S x refl

  -- all that is published, and what follows
  then_published : (ps : List Put) → only unguarded ps ≡ true → only unguarded (removals S x ++ (publication x ++ ps)) ≡ true
  then_published ps h = only_both unguarded (removals S x) (publication x ++ ps) removing (only_both unguarded (publication x) ps publishing h)

  dooming : only unguarded (put_doom x.txid.0 ∷ finish S x logged plan) ≡ true
  dooming = finish_kind unguarded S x logged plan refl

  -- the stores of 17, 18, 19, 21, 22 and of a run that passes them all
  pub seventeen : apply_all (after_insert S x logged plan ++ (take (count S x logged plan 17) (removals S x) ++ put_poison ∷ [] ++ leaving S x logged plan)) S
      ≡ stored S x logged plan (take (count S x logged plan 17) (removals S x) ++ put_poison ∷ [])
  seventeen =
      let some = take (count S x logged plan 17) (removals S x) in
      simp append_assoc
      (simp append_assoc at
      (between (some ++ put_poison ∷ [])
      (only_both unguarded some (put_poison ∷ []) (only_take unguarded (count S x logged plan 17) (removals S x) removing) refl)))

  pub eighteen : apply_all (after_remove S x logged plan
      ++ (take (count S x logged plan 18) (publication x) ++ put_doom x.txid.0 ∷ finish S x logged plan ++ leaving S x logged plan)) S
      ≡ stored S x logged plan (removals S x ++ (take (count S x logged plan 18) (publication x) ++ put_doom x.txid.0 ∷ finish S x logged plan))
  eighteen =
      let some = take (count S x logged plan 18) (publication x) in
      let end = put_doom x.txid.0 ∷ finish S x logged plan in
      simp append_assoc
      (simp append_assoc at
      (between (removals S x ++ (some ++ end))
      (only_both unguarded (removals S x) (some ++ end) removing
      (only_both unguarded some end (only_take unguarded (count S x logged plan 18) (publication x) publishing) dooming))))

  pub nineteen : apply_all (after_publish S x logged plan
      ++ (take (count S x logged plan 19) (recycling S x) ++ put_doom x.txid.0 ∷ finish S x logged plan ++ leaving S x logged plan)) S
      ≡ stored S x logged plan
      (removals S x ++ (publication x ++ (take (count S x logged plan 19) (recycling S x) ++ put_doom x.txid.0 ∷ finish S x logged plan)))
  nineteen =
      let some = take (count S x logged plan 19) (recycling S x) in
      let end = put_doom x.txid.0 ∷ finish S x logged plan in
      simp append_assoc
      (simp append_assoc at
      (between (removals S x ++ (publication x ++ (some ++ end)))
      (then_published (some ++ end) (only_both unguarded some end (only_take unguarded (count S x logged plan 19) (recycling S x) freeing) dooming))))

  pub twenty_one : apply_all (after_recycle S x logged plan ++ (put_doom x.txid.0 ∷ leaving S x logged plan)) S
      ≡ stored S x logged plan (removals S x ++ (publication x ++ (recycling S x ++ put_doom x.txid.0 ∷ [])))
  twenty_one =
      let end = put_doom x.txid.0 ∷ [] in
      simp append_assoc
      (simp append_assoc at
      (between (removals S x ++ (publication x ++ (recycling S x ++ end)))
      (then_published (recycling S x ++ end) (only_both unguarded (recycling S x) end freeing refl))))

  -- (after 21: the txid dropped, some stamps, the end)
  finished : (ps : List Put) → only unguarded ps ≡ true
      → apply_all (after_finish S x logged plan ++ (ps ++ leaving S x logged plan)) S
      ≡ stored S x logged plan (removals S x ++ (publication x ++ (recycling S x ++ put_drop x.txid.0 ∷ ps)))
  finished ps h =
      let end = put_drop x.txid.0 ∷ ps in
      simp append_assoc
      (simp append_assoc at
      (between (removals S x ++ (publication x ++ (recycling S x ++ end)))
      (then_published (recycling S x ++ end) (only_both unguarded (recycling S x) end freeing h))))

  pub twenty_two : apply_all (after_finish S x logged plan ++ (take (count S x logged plan 22) (stamping S x) ++ put_poison ∷ leaving S x logged plan)) S
      ≡ stored S x logged plan
      (removals S x ++ (publication x ++ (recycling S x ++ put_drop x.txid.0 ∷ (take (count S x logged plan 22) (stamping S x) ++ put_poison ∷ []))))
  twenty_two =
      let some = take (count S x logged plan 22) (stamping S x) in
      simp append_assoc
      (simp append_assoc at
      (finished (some ++ put_poison ∷ [])
      (only_both unguarded some (put_poison ∷ []) (only_take unguarded (count S x logged plan 22) (stamping S x) (stamping_kind unguarded S x refl)) refl)))

  pub passed : apply_all (clean S x logged plan).puts S ≡ (done_row S x logged plan).store
  passed = simp append_assoc (simp append_assoc at (finished (stamping S x) (stamping_kind unguarded S x refl)))
