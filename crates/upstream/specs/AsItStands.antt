-- Commit in upstream's order: each step reads the store as it stands. It comes to the run that is read off the store at entry.
use Rattle.std.specs.Prelude.{◌≡◌, Bool, true, false, ℕ, zero, suc, length, drop}
use Rattle.std.proofs.Math.Path.{refl, ap}
use Rattle.std.proofs.Common.{◌∙◌, arith}
use mathlib.Core.List.{List, [], ◌∷◌, ◌++◌}
use Rattle.std.proofs.Math.ListN.{get_or}
use Rattle.rules.specs.Types.{Store, Tx, Schedule}
use Rattle.rules.specs.Puts.{Put, k_xmax, k_head, k_drop, k_stamp, put_drop, apply_all}
use Rattle.rules.specs.Transaction.{finals}
use Rattle.rules.specs.Admitted.{resting}
use Rattle.rules.specs.Fit.{fit}
use Rattle.rules.specs.Tests.{write_base_conflict}
use Rattle.rules.specs.Changes.{changes, publication, recycled, recycling, stamping}
use Rattle.rules.specs.Commit.{End, Step, goes, ends, stop_if, index_changes_made, index_lock_keys, prepare_commit_record, run_prepare}
use Rattle.rules.specs.Commit.{acquire_index_locks, acquire_partition_locks, ensure_unlogged_write_allowed, check_not_poisoned}
use Rattle.rules.specs.Commit.{prepare_index_destinations, invoke_before_publish, remove_index_sources, publish_write_set}
use Rattle.rules.specs.Commit.{recycle_non_final_writes, finish_transaction, publish_index_stamps, steps, Run, run, committed, run_of}
use Rattle.run_laws.specs.OnlyKinds.{only, xmin_kept, next_kept}
use Rattle.statements.specs.Sized.{Sized}
use Rattle.upstream.specs.Beside.{Beside, quiet, quiet_puts, steps_same}
use Rattle.upstream.specs.ReadsThen.{changes_kept, index_guards_quiet, partition_guards_quiet, insertions_quiet}
use Rattle.upstream.specs.ReadsThen.{removals_quiet, stamps_only, release_same, recycle_same, finish_same, stamps_same}
use Rattle.run_laws.specs.PublishedChains.{new_heads, publish_only, publish_heads}
use Rattle.upstream.specs.RecycledThen.{recycled_same, changes_recycled}

-- a step on the store T, and the rest on the store that it leaves
abbrev pub proceed : Step → (Store → Run) → Store → Run
proceed (goes ps) rest T = let r = rest (apply_all ps T) in record { passed = suc r.passed; puts = ps ++ r.puts; end = r.end }
proceed (ends ps d) rest T = record { passed = 0; puts = ps; end = d }

module _ (x : Tx) (logged : Bool) (plan : Schedule) where
  -- the steps from place n on, as many as are left, each read off the store as it stands
  unfoldable pub live : ℕ → ℕ → Store → Run
  live zero n T = record { passed = 0; puts = []; end = committed x }
  live (suc left) n T = proceed (get_or (steps T x logged plan) n (goes [])) (live left (suc n)) T

  -- from place n on the steps read off the store as it stands are those of the list
  abbrev Agrees : ℕ → List Step → Store → Type 0
  Agrees n [] T = Unit {0}
  Agrees n (s ∷ ss) T = (get_or (steps T x logged plan) n (goes []) ≡ s) × ((ps : List Put) → s ≡ goes ps → Agrees (suc n) ss (apply_all ps T))

  -- then the live run is the run of the list
  agrees_run : (l : List Step) (n : ℕ) (T : Store) → Agrees n l T → live (length l) n T ≡ run (committed x) l
  unfolding live
  agrees_run [] n T a = refl
  agrees_run (goes ps ∷ ss) n T a = rw (a.0, agrees_run ss (suc n) (apply_all ps T) (a.1 ps refl))
  agrees_run (ends ps d ∷ ss) n T a = rw a.0

-- a step that ends does not go on
no_end : {A : Type 0} (qs ps : List Put) (d : End) → ends qs d ≡ goes ps → A
no_end qs ps d e = absurd (let z : ◌≡◌ {A = ℕ} 0 1 = cc in omega arith)

-- what a step that went on has put
goes_on : (b : Bool) (qs rs ps : List Put) (d : End) → stop_if b (ends qs d) (goes rs) ≡ goes ps → rs ≡ ps
unfolding stop_if
goes_on true qs rs ps d e = no_end qs ps d e
goes_on false qs rs ps d e = cc

-- and what it was tested for
goes_past : (b c : Bool) (qs rs ps : List Put) (d e : End) (s : Step) → stop_if b (ends qs d) (stop_if c (ends rs e) s) ≡ goes ps → c ≡ false
unfolding stop_if
goes_past true c qs rs ps d e s h = no_end qs ps d h
goes_past false true qs rs ps d e s h = no_end rs ps e h
goes_past false false qs rs ps d e s h = refl

-- a step that, if it goes on, has put guards and postings
abbrev Quiet : Step → Type 0
Quiet (goes ps) = only quiet ps ≡ true
Quiet (ends ps d) = Unit {0}

quiet_if : (b : Bool) (s t : Step) → Quiet s → Quiet t → Quiet (stop_if b s t)
unfolding stop_if
quiet_if true s t p q = p
quiet_if false s t p q = q

quiet_goes : (s : Step) (ps : List Put) → Quiet s → s ≡ goes ps → only quiet ps ≡ true
quiet_goes s ps q e = rw e at q

module _ (S : Store) (x : Tx) (logged : Bool) (plan : Schedule) where
  -- the steps from the 23rd, 22nd, 21st and 20th on read the changes alone
  from_23 : (T : Store) → changes T x ≡ changes S x → Agrees x logged plan 22 (drop 22 (steps S x logged plan)) T
  unfolding steps
  from_23 T e = (ap goes (release_same S x T e), λ ps g. tt)

  from_22 : (T : Store) → changes T x ≡ changes S x → Agrees x logged plan 21 (drop 21 (steps S x logged plan)) T
  unfolding steps publish_index_stamps
  from_22 T e = (
    stamps_same S x logged plan T e,
    λ ps g. let q : stamping S x ≡ ps = goes_on _ _ _ _ _ g in
        from_23 (apply_all ps T) (changes_kept (k_stamp ∷ []) refl refl ps T x (rw q at (stamps_only S x)) ∙ e),
  )

  from_21 : (T : Store) → changes T x ≡ changes S x → Agrees x logged plan 20 (drop 20 (steps S x logged plan)) T
  unfolding steps finish_transaction
  from_21 T e = (
    finish_same S x logged plan T e,
    λ ps g. let q : put_drop x.txid.0 ∷ [] ≡ ps = goes_on _ _ _ _ _ g in
        from_22 (apply_all ps T) (changes_kept (k_drop ∷ []) refl refl ps T x (rw (← q)) ∙ e),
  )

  from_20 : (T : Store) → changes T x ≡ changes S x → Agrees x logged plan 19 (drop 19 (steps S x logged plan)) T
  unfolding steps
  from_20 T e = (refl, λ ps g. let q : [] ≡ ps = cc in from_21 (apply_all ps T) (rw (← q) e))

  -- a quiet step on a store with other guards and postings
  quietly : (n : ℕ) → let l = steps S x logged plan in drop n l ≡ get_or l n (goes []) ∷ drop (suc n) l → Quiet (get_or l n (goes []))
      → ((U : Store) → Beside S U → Agrees x logged plan (suc n) (drop (suc n) l) U) → (T : Store) → Beside S T → Agrees x logged plan n (drop n l) T
  quietly n d q k T e =
      let l = steps S x logged plan in
      rw d (
        ap (λ (m : List Step). get_or m n (goes [])) (steps_same S T x logged plan e),
        λ ps g. k (apply_all ps T) (quiet_puts S T ps (quiet_goes (get_or l n (goes [])) ps q g) e),
      )

  -- publication on such a store: what is recycled and what is changed stays
  module _ (z : Sized S) (h : resting S ≡ true) (f : fit S x ≡ true) (b : write_base_conflict S x ≡ false) where
    recycling_changes : (T : Store) → changes (apply_all (recycling S x) T) x ≡ changes T x
    unfolding recycling
    recycling_changes T = changes_recycled S x z h f b T

    publication_changes : (T : Store) → Beside S T → changes (apply_all (publication x) T) x ≡ changes S x
    unfolding publication changes
    publication_changes T e =
        changes_kept (k_xmax ∷ k_head ∷ []) refl refl (publication x) T x (publish_only x.txid.0 (finals x))
        ∙ ap (λ (U : Store). changes U x) e

    publication_recycled : (T : Store) → Beside S T → recycled (apply_all (publication x) T) x ≡ recycled S x
    unfolding publication
    publication_recycled T e =
        let o = publish_only x.txid.0 (finals x) in
        let ks = k_xmax ∷ k_head ∷ [] in
        recycled_same S x z h f b (apply_all (publication x) T)
        (publish_heads x.txid.0 (finals x) T ∙ ap (λ (U : Store). new_heads (finals x) U.heads) e)
        (next_kept ks refl refl (publication x) T o ∙ ap (λ (U : Store). U.next) e)
        (xmin_kept ks refl refl (publication x) T o ∙ ap (λ (U : Store). U.xmin) e)

    -- so the steps from the 19th, 18th and 15th on agree
    from_19 : (T : Store) → changes T x ≡ changes S x → recycled T x ≡ recycled S x → Agrees x logged plan 18 (drop 18 (steps S x logged plan)) T
    unfolding steps recycle_non_final_writes
    from_19 T e r = (
      recycle_same S x logged plan T e r,
      λ ps g. let q : recycling S x ≡ ps = goes_on _ _ _ _ _ g in from_20 (apply_all ps T) (rw (← q) (recycling_changes T) ∙ e),
    )

    from_18 : (T : Store) → Beside S T → Agrees x logged plan 17 (drop 17 (steps S x logged plan)) T
    unfolding steps publish_write_set
    from_18 T e = (
      ap (λ (l : List Step). get_or l 17 (goes [])) (steps_same S T x logged plan e),
      λ ps g. let q : publication x ≡ ps = goes_on _ _ _ _ _ g in
          from_19 (apply_all ps T) (rw (← q) (publication_changes T e)) (rw (← q) (publication_recycled T e)),
    )

    from_15 : (T : Store) → Beside S T → Agrees x logged plan 14 (drop 14 (steps S x logged plan)) T
    unfolding steps prepare_index_destinations invoke_before_publish remove_index_sources
    from_15 =
        quietly 14 refl (quiet_if _ _ _ tt (insertions_quiet S x))
        (quietly 15 refl (quiet_if _ _ _ tt refl)
        (quietly 16 refl (quiet_if _ _ _ tt (removals_quiet S x)) from_18))

  module _ (z : Sized S) (h : resting S ≡ true) (f : fit S x ≡ true) where
    -- the 14th tests that each final write's base is the head; the steps before it put guards alone
    from_14 : (T : Store) → Beside S T → Agrees x logged plan 13 (drop 13 (steps S x logged plan)) T
    unfolding steps
    from_14 T e = (
      ap (λ (l : List Step). get_or l 13 (goes [])) (steps_same S T x logged plan e),
      λ ps g.
          from_15 z h f (goes_past _ _ _ _ _ _ _ _ g) (apply_all ps T) (quiet_puts S T ps (quiet_goes _ ps (quiet_if _ _ _ tt (quiet_if _ _ _ tt refl)) g) e),
    )

    from_1 : Agrees x logged plan 0 (steps S x logged plan) S
    unfolding steps index_changes_made index_lock_keys prepare_commit_record run_prepare acquire_index_locks acquire_partition_locks
        ensure_unlogged_write_allowed check_not_poisoned
    from_1 =
        quietly 0 refl refl
        (quietly 1 refl refl
        (quietly 2 refl (quiet_if _ _ _ tt refl)
        (quietly 3 refl (quiet_if _ _ _ tt refl)
        (quietly 4 refl (quiet_if _ _ _ tt refl)
        (quietly 5 refl (quiet_if _ _ _ tt (quiet_if _ _ _ tt refl))
        (quietly 6 refl (quiet_if _ _ _ tt (quiet_if _ _ _ tt (index_guards_quiet S x x.txid.0)))
        (quietly 7 refl (quiet_if _ _ _ tt (quiet_if _ _ _ tt (partition_guards_quiet S x x.txid.0)))
        (quietly 8 refl (quiet_if _ _ _ tt (quiet_if _ _ _ tt refl))
        (quietly 9 refl (quiet_if _ _ _ tt refl)
        (quietly 10 refl (quiet_if _ _ _ tt (quiet_if _ _ _ tt refl))
        (quietly 11 refl (quiet_if _ _ _ tt (quiet_if _ _ _ tt refl))
        (quietly 12 refl (quiet_if _ _ _ tt (quiet_if _ _ _ tt refl))
        from_14)))))))))))) S refl

-- the whole of it
unfoldable pub live_of : Store → Tx → Bool → Schedule → Run
live_of S x logged plan = live x logged plan (length (steps S x logged plan)) 0 S

-- each test and each list that commit decides by comes out the same on the store as it stands as on the store at entry
pub as_it_stands : (S : Store) (x : Tx) (logged : Bool) (plan : Schedule) → Sized S → resting S ≡ true → fit S x ≡ true
    → live_of S x logged plan ≡ run_of S x logged plan
unfolding live_of run_of
as_it_stands S x logged plan z h f = agrees_run x logged plan (steps S x logged plan) 0 S (from_1 S x logged plan z h f)
