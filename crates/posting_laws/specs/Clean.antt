-- After a clean commit the postings are exactly the heads'.
use Rattle.std.specs.Prelude.{◌≡◌, refl, Bool, true, List, [], ◌∷◌, ◌++◌, ℕ}
use Rattle.std.proofs.Common.{append_assoc}
use Rattle.rules.specs.Types.{Store, Tx, Schedule}
use Rattle.rules.specs.Puts.{Put, k_stripe, k_partition, k_drop, k_stamp, put_drop, apply_all}
use Rattle.rules.specs.Changes.{release, insertions, removals, publication, recycled, recycling, stamping}
use Rattle.run_laws.specs.OnlyKinds.{only, only_both}
use Rattle.run_laws.specs.GuardPuts.{apply_all_append}
use Rattle.run_laws.specs.Outcome.{guards_taken, after_publish, after_stamp}
use Rattle.run_laws.specs.Released.{unguarded}
use Rattle.posting_laws.specs.Undone.{Ready}
use Rattle.posting_laws.specs.Aside.{between_guards, taken_aside}
use Rattle.run_laws.specs.Kinds.{taken_kinds, insertions_kind, removals_kind, publication_kinds, recycling_kind, stamping_kind}
use Rattle.posting_laws.specs.RestingPostings.{Exact}
use Rattle.posting_laws.specs.Exact.{changed_exact, changed_heads}
use Rattle.posting_laws.specs.KeepsExact.{exact_kept, exact_freed}
use Rattle.posting_laws.specs.Spared.{spared}

-- a run's lists, guards first
regroup : (G I R P : List Put) → ((G ++ I) ++ R) ++ P ≡ G ++ (I ++ (R ++ P))
regroup G I R P = simp append_assoc

regroup_all : (G I R P C Z E : List Put) (d : Put) → ((((((G ++ I) ++ R) ++ P) ++ C) ++ d ∷ []) ++ Z) ++ E ≡ G ++ (((I ++ (R ++ P)) ++ (C ++ d ∷ Z)) ++ E)
regroup_all G I R P C Z E d = simp append_assoc

module _ (S : Store) (x : Tx) (logged : Bool) (plan : Schedule) (ok : Ready S x) where
  abbrev t : ℕ
  t = x.txid.0

  -- finish and stamps
  abbrev closing : List ℕ
  closing = k_drop ∷ k_stamp ∷ []

  abbrev closes : List Put
  closes = put_drop t ∷ stamping S x

  abbrev guard_kinds : List ℕ
  guard_kinds = k_stripe ∷ k_partition ∷ []

  -- steps 15, 17 and 18
  abbrev moves : List Put
  moves = insertions S x ++ (removals S x ++ publication x)

  moving : only unguarded moves ≡ true
  moving = only_both unguarded (insertions S x) (removals S x ++ publication x) (insertions_kind unguarded S x refl)
      (only_both unguarded (removals S x) (publication x) (removals_kind unguarded S x refl) (publication_kinds unguarded S x refl refl))

  -- once the rows are published the postings are exactly theirs, guards still held
  pub postings_published : Exact (apply_all (after_publish S x logged plan) S)
  postings_published =
      let G = guards_taken S x logged plan in
      rw (regroup G (insertions S x) (removals S x) (publication x), taken_aside S x logged plan moves moving)
      (exact_kept guard_kinds refl refl refl refl refl G (apply_all moves S) (taken_kinds guard_kinds refl refl S x logged plan) (changed_exact S x ok))

  -- step 19 frees no head, and the rest of the run touches neither postings nor heads nor keys
  recycled_exact : Exact (apply_all (recycling S x) (apply_all moves S))
  unfolding recycling
  recycled_exact =
      exact_freed (recycled S x) (apply_all moves S) (λ h m. spared S x ok.sized ok.rests h (rw (changed_heads S x ok) at m)) (changed_exact S x ok)

  -- "the postings are exactly (key, row) of each head with a value", after all stores of a clean commit
  pub postings_exact : Exact (apply_all (after_stamp S x logged plan ++ release S x) S)
  postings_exact =
      let G = guards_taken S x logged plan in
      let C = recycling S x in
      let T = apply_all moves S in
      let spares = only_both unguarded moves (C ++ closes) moving
      (only_both unguarded C closes (recycling_kind unguarded S x refl) (stamping_kind unguarded S x refl)) in
      rw (
        regroup_all G (insertions S x) (removals S x) (publication x) C (stamping S x) (release S x) (put_drop t),
        between_guards S x logged plan ok.rests (moves ++ (C ++ closes)) spares,
        apply_all_append moves (C ++ closes) S,
        apply_all_append C closes T,
      )
      (exact_kept closing refl refl refl refl refl closes (apply_all C T) (stamping_kind closing S x refl) recycled_exact)
