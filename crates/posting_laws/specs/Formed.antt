-- Every commit on a resting store leaves the postings in their form, whatever it answers and wherever it is cut.
use Rattle.std.specs.Prelude.{◌≡◌, refl, Bool, true, false, cond, ◌||◌, List, [], ◌∷◌, ◌++◌, map, ℕ, ◌+◌, ◌≤◌, ◌<◌, length, get_or, take, ltb}
use Rattle.std.proofs.Common.{◌∙◌, append_assoc, append-nil, arith, length-take, ltb-true, lt-ltb}
use Rattle.std.proofs.Math.Seq.{take-length}
use Rattle.records.specs.Limits.{rows, posting_limit, key_end}
use Rattle.rules.specs.Types.{Store, Tx, Schedule, Cut, Uncut, After, Fate, Refusal}
use Rattle.basic_laws.specs.Cases.{by}
use Rattle.rules.specs.Lists.{all, memb}
use Rattle.rules.specs.Store.{posting, value_at, postings_of, postings_in_form}
use Rattle.rules.specs.Transaction.{finals}
use Rattle.rules.specs.Admitted.{resting}
use Rattle.rules.specs.Puts.{Put, k_stripe, k_partition, k_remove, k_xmax, k_head, k_free, k_drop, k_stamp}
use Rattle.rules.specs.Puts.{k_poison, k_doom, put_insert, put_drop, put_poison, put_doom, apply_all}
use Rattle.rules.specs.Changes.{posting_in, changes, destinations, release, insertions, removals, publication, recycling, stamping}
use Rattle.rules.specs.Commit.{End, count, finish, rollback, abort_or_poison, run_of}
use Rattle.rules.specs.Answer.{uncut, cut_off, answer, commit}
use Rattle.run_laws.specs.OnlyKinds.{only, only_take, only_if}
use Rattle.run_laws.specs.Outcome.{guards_taken, after_insert, after_remove, after_publish, after_recycle, after_finish, Passed}
use Rattle.run_laws.specs.Outcome.{Taken, neither, index, both, worse, undoing, Spoil, unremoved, unpublished, unrecycled}
use Rattle.run_laws.specs.Outcome.{unfinished, Outcome, done, stays, aborts, uninserted, uncalled, spoils, unstamped, outcome}
use Rattle.statements.specs.Words.{Admitted}
use Rattle.run_laws.specs.FirstRows.{every_commit}
use Rattle.statements.specs.Sized.{Sized}
use Rattle.basic_laws.specs.AllOf.{all_get, all_take}
use Rattle.posting_laws.specs.Pair.{below_key}
use Rattle.posting_laws.specs.RestingPostings.{in_form}
use Rattle.posting_laws.specs.Written.{changed, side_all}
use Rattle.posting_laws.specs.Undone.{Ready, take_map, rows_fit, room}
use Rattle.posting_laws.specs.Rolled.{ready}
use Rattle.run_laws.specs.Kinds.{index_kind, taken_kinds, release_kinds, removals_kind, publication_kinds}
use Rattle.run_laws.specs.Kinds.{recycling_kind, stamping_kind, cleaning_kinds, rollback_kinds, finish_kind}
use Rattle.posting_laws.specs.StaysInForm.{small, form_short, inserts, form_along, inserts_append, inserts_none, inserts_all, inserts_take}

-- every kind of a commit's puts but insertions
abbrev uninserting : List ℕ
uninserting = k_stripe ∷ k_partition ∷ k_remove ∷ k_xmax ∷ k_head ∷ k_free ∷ k_drop ∷ k_stamp ∷ k_poison ∷ k_doom ∷ []

-- puts that insert nothing
pub record Insertless (ps : List Put) : Type 0 where
  pub spares : only uninserting ps ≡ true

-- a slot's posting has a 32-bit key
slot_small : (key : List ℕ) (has : List Bool) (b : Bool) (q p : ℕ) → all (λ k. ltb k key_end) key ≡ true → q < rows
    → all small (cond b (posting_in q (value_at key has p)) []) ≡ true
slot_small key has b q p keys lt = by b
    (λ e. by (get_or has p false)
    (λ f. let k = ltb-true (get_or key p 0) key_end (all_get (λ k. ltb k key_end) key p 0 keys refl) in
    rw (e, f, lt-ltb (posting (get_or key p 0) q) (posting key_end 0) (below_key (get_or key p 0) q k lt)))
    (λ f. rw (e, f)))
    (λ e. rw e)

-- .. and so have all destinations
small_destinations : (S : Store) (x : Tx) → Ready S x → all (λ k. ltb k key_end) S.key ≡ true → all small (destinations (changes S x)) ≡ true
unfolding destinations changes
small_destinations S x ok keys =
    side_all S.key S.has (λ c. c.after) small (λ w. ltb w.row.0 rows)
    (λ w h. slot_small S.key S.has (changed S.key S.has w) w.row.0 w.new.0 keys (ltb-true w.row.0 rows h))
    (finals x) (rows_fit S x ok)

module _ (S : Store) (x : Tx) (logged : Bool) (plan : Schedule) where
  -- guards, then the first insertions, then puts of other kinds
  pub data Few : List Put → Type 0 where
    nothing : Few []
    first : Ready S x → (n : ℕ) (ps : List Put) → ps ≡ map put_insert (take n (destinations (changes S x))) → Few (guards_taken S x logged plan ++ ps)
    then : {ps qs : List Put} → Few ps → Insertless qs → Few (ps ++ qs)

  letting_go : Insertless (release S x)
  letting_go = record { spares = release_kinds uninserting refl refl S x }

  some : {ps : List Put} (n : ℕ) → Insertless ps → Insertless (take n ps)
  some {ps} n h = record { spares = only_take uninserting n ps h.spares }

  removing : Insertless (removals S x)
  removing = record { spares = removals_kind uninserting S x refl }

  publishing : Insertless (publication x)
  publishing = record { spares = publication_kinds uninserting S x refl refl }

  recycle : Insertless (recycling S x)
  recycle = record { spares = recycling_kind uninserting S x refl }

  stamp : Insertless (stamping S x)
  stamp = record { spares = stamping_kind uninserting S x refl }

  doom : Insertless (put_doom x.txid.0 ∷ finish S x logged plan)
  doom = record { spares = finish_kind uninserting S x logged plan refl }

  one : (p : Put) → memb p.kind uninserting ≡ true → Insertless (p ∷ [])
  one p h = record { spares = rw h }

  cleaning : (b : Bool) → Insertless (abort_or_poison S x logged plan b).puts
  cleaning b = record { spares = cleaning_kinds uninserting S x logged plan refl refl refl b }

  rolling : (b : Bool) (made : List ℕ) → Insertless (rollback S x logged plan b made).puts
  rolling b made = record { spares = rollback_kinds uninserting S x logged plan refl refl b made }

  taken_and_back : {taken back : List Put} → Taken S x logged plan taken back → Insertless taken × Insertless back
  taken_and_back neither = (record { spares = refl }, record { spares = refl })
  taken_and_back index = (record { spares = index_kind uninserting refl refl S x x.txid.0 }, record { spares = index_kind uninserting refl refl S x 0 })
  taken_and_back both = (record { spares = taken_kinds uninserting refl refl S x logged plan }, letting_go)

  -- what such puts insert fits
  abbrev Fits : List Put → Type 0
  Fits ps = (length (inserts ps) + length (postings_of S) ≤ posting_limit) × (all small (inserts ps) ≡ true)

  fits : {ps : List Put} → resting S ≡ true → all (λ k. ltb k key_end) S.key ≡ true → Few ps → Fits ps
  fits rests keys nothing = (omega (arith, form_short S (in_form S rests)), refl)
  fits rests keys (first ok n ps e) =
      let ds = destinations (changes S x) in
      let G = guards_taken S x logged plan in
      let only_these : inserts (G ++ ps) ≡ take n ds
      = inserts_append G ps ∙ rw (inserts_none uninserting refl G (taken_kinds uninserting refl refl S x logged plan), e) (inserts_all (take n ds)) in
      rw only_these (omega (arith, room S x ok, length-take n ds), all_take small n ds (small_destinations S x ok keys))
  fits rests keys (then {ps = ps} {qs = qs} h k) =
      let same : inserts (ps ++ qs) ≡ inserts ps
      = inserts_append ps qs ∙ rw (inserts_none uninserting refl qs k.spares) (append-nil (inserts ps)) in
      rw same (fits rests keys h)

  module _ (sized : Sized S) (ok : Admitted S x plan) where
    inserted_some : Passed S x logged plan → (n : ℕ) → Few (guards_taken S x logged plan ++ take n (insertions S x))
    unfolding insertions
    inserted_some p n = first (ready S x logged plan sized ok p) n (take n (insertions S x)) (take_map put_insert n (destinations (changes S x)))

    inserted_all : Passed S x logged plan → Few (after_insert S x logged plan)
    unfolding insertions
    inserted_all p =
        let ds = destinations (changes S x) in
        first (ready S x logged plan sized ok p) (length ds) (insertions S x) (rw (take-length ds))

    removed_all : Passed S x logged plan → Few (after_remove S x logged plan)
    removed_all p = then (inserted_all p) removing

    published_all : Passed S x logged plan → Few (after_publish S x logged plan)
    published_all p = then (removed_all p) publishing

    recycled_all : Passed S x logged plan → Few (after_recycle S x logged plan)
    recycled_all p = then (published_all p) recycle

    finished_all : Passed S x logged plan → Few (after_finish S x logged plan)
    finished_all p = then (recycled_all p) (one (put_drop x.txid.0) refl)

    spoiled : {n : ℕ} {made some finishing : List Put} {poisoning : Put} {kind : Fate → Refusal} {y : Tx} {drops : Bool} → Passed S x logged plan
        → Spoil S x logged plan n made some poisoning finishing kind y drops → Few made × Insertless some × Insertless (poisoning ∷ finishing)
    spoiled p (unremoved k) = (inserted_all p, some (count S x logged plan 17) removing, one put_poison refl)
    spoiled p (unpublished k) = (removed_all p, some (count S x logged plan 18) publishing, doom)
    spoiled p (unrecycled k) = (published_all p, some (count S x logged plan 19) recycle, doom)
    spoiled p (unfinished k) = (recycled_all p, record { spares = refl }, one (put_doom x.txid.0) refl)

    -- every run is so
    few : (n : ℕ) (ps : List Put) (d : End) → Outcome S x logged plan n ps d → Few ps
    few _ _ _ (done p) = then (then (finished_all p) stamp) letting_go
    few _ _ _ (stays l t k) = let b = taken_and_back t in then (then nothing b.0) b.1
    few _ _ _ (aborts l t k) = let b = taken_and_back t in simp append_assoc at (then (then (then nothing b.0) b.1) (cleaning S.poisoned))
    few _ _ _ (uninserted p k) =
        let n = count S x logged plan 15 in
        simp append_assoc (simp append_assoc at (then (then (inserted_some p n) (rolling false (take n (destinations (changes S x))))) letting_go))
    few _ _ _ (uncalled p l k) =
        let called : Insertless (cond (worse S x logged plan) (put_poison ∷ []) []) =
        record { spares = only_if uninserting (worse S x logged plan) (put_poison ∷ []) [] refl refl } in
        simp append_assoc
        (simp append_assoc at
        (then (then (then (then (inserted_all p) called) (rolling (worse S x logged plan) (destinations (changes S x))))
        (cleaning (worse S x logged plan || (undoing S x logged plan).failed))) letting_go))
    few _ _ _ (spoils p k) = let h = spoiled p k in simp append_assoc (simp append_assoc at (then (then (then h.0 h.1) h.2) letting_go))
    few _ _ _ (unstamped p k) =
        simp append_assoc (simp append_assoc at (then (then (then (finished_all p) (some (count S x logged plan 22) stamp)) (one put_poison refl)) letting_go))

-- cut or not
module _ (S : Store) (x : Tx) (logged : Bool) (plan : Schedule) (sized : Sized S) (keys : all (λ k. ltb k key_end) S.key ≡ true) where
  run_formed : Admitted S x plan → (n : ℕ)
      → (postings_in_form (apply_all (run_of S x logged plan).puts S) ≡ true) × (postings_in_form (apply_all (take n (run_of S x logged plan).puts) S) ≡ true)
  run_formed ok n =
      let ps = (run_of S x logged plan).puts in
      let f = fits S x logged plan ok.rests keys (few S x logged plan sized ok _ _ _ (outcome S x logged plan)) in
      let t = inserts_take n ps in
      (form_along ps S (in_form S ok.rests) f.0 f.1, form_along (take n ps) S (in_form S ok.rests) (omega (arith, f.0, t.0)) (t.1 f.1))

  answer_formed : Admitted S x plan → (cut : Cut) → postings_in_form (answer S x logged (run_of S x logged plan) cut).store ≡ true
  unfolding uncut cut_off
  answer_formed ok Uncut = (run_formed ok 0).0
  answer_formed ok (After n) = by (ltb n (length (run_of S x logged plan).puts)) (λ e. rw e (run_formed ok n).1) (λ e. rw e (run_formed ok n).0)

  -- "postings in their form", after every answer but 1
  pub commit_formed : resting S ≡ true → (cut : Cut) → postings_in_form (commit S x logged plan cut).store ≡ true
  commit_formed r cut =
      every_commit S x logged plan (λ a. postings_in_form a.store ≡ true) cut (in_form S r) (in_form S r) (in_form S r) (λ ok. answer_formed ok cut)
