-- "Steps and faults": final writes, changes, guards, publication, recycling, stamps; what is in each list, and in which order.
use Rattle.std.specs.Prelude.{◌≡◌, true, cond, ◌&&◌, ◌≢◌, ◌⊎◌, ◌↔◌, length, get_or, take, ltb, leb}
use Rattle.std.proofs.Math.Path.{refl}
use Rattle.std.proofs.Common.{sym, ap, subst, ◌∙◌, arith, ext_get_or}
use Rattle.std.proofs.Math.Bool.{Bool, false, not}
use mathlib.Core.List.{List, [], ◌∷◌, ◌++◌, map, reverse, reverse-cons, map-append, append_assoc, append-nil}
use Rattle.std.proofs.Math.Logic.{inl, inr, ⊎_elim}
use Prim.Native.Nat.{ℕ, zero, suc, ◌-◌, ◌<◌, ◌≤◌, ◌%◌}
use Rattle.std.proofs.lemmas.List.{length-reverse}
use Rattle.std.proofs.Math.ListN.{get_or-append}
use Rattle.std.proofs.Math.Seq.{get_or-append_seam}
use Rattle.std.proofs.Math.Dec.{eqb}
use borrow.Author.Tests.{eqb-true, eqb-false, eq-eqb, ne_eqb, ltb-true, ltb-false, lt-ltb, leb-true, le-leb, not-true}
use Rattle.records.specs.Limits.{stripes}
use Rattle.records.specs.Zero.{no_write}
use Rattle.rules.specs.Lists.{those, flat, nonzero_from, memb, rising, in_order}
use Rattle.rules.specs.Types.{Store, Tx, Write, Schedule, Value, Cause}
use Rattle.rules.specs.Store.{value_at, same_value, partition_of, used_slots, slots_in_form}
use Rattle.rules.specs.Transaction.{writes_of, reads_of, index_reads_of, final_writes, finals}
use Rattle.rules.specs.Chains.{walk, on}
use Rattle.rules.specs.Admitted.{repairable}
use Rattle.rules.specs.Puts.{Put, put_stripe, put_partition, put_insert, put_remove, put_free, put_drop, put_stamp, put_poison, own_slots, abort_puts}
use Rattle.rules.specs.Changes.{Change, change_of, index_changes, changes, posting_in, destinations, sources, stripes_in, changed_stripes, guarded_stripes}
use Rattle.rules.specs.Changes.{guarded_partitions, index_guards, partition_guards, release}
use Rattle.rules.specs.Changes.{publish_one, insertions, removals, publication, recycled, recycling}
use Rattle.rules.specs.Changes.{stamping}
use Rattle.rules.specs.Faults.{F, B, P, X, Q}
use Rattle.rules.specs.Tests.{index_read_conflict, row_lock_conflict, serialization_conflict, write_base_conflict}
use Rattle.rules.specs.Commit.{End, Step, goes, test, stop_if, strikes, fails, count, rollback}
use Rattle.rules.specs.Commit.{index_changes_made, index_lock_keys, prepare_commit_record, run_prepare}
use Rattle.rules.specs.Commit.{acquire_index_locks, acquire_partition_locks, unlogged_writes, ensure_unlogged_write_allowed, check_not_poisoned}
use Rattle.rules.specs.Commit.{prepare_index_destinations, invoke_before_publish, remove_index_sources, publish_write_set, recycle_non_final_writes}
use Rattle.rules.specs.Commit.{finish_transaction, publish_index_stamps, steps, run, committed, run_of}
use Rattle.statements.specs.Sized.{Sized}
use Rattle.statements.specs.Words.{Some}
use Rattle.statements.specs.StepWords.{Rises, Exactly, OneEach, InTurn, Reversed, FinalAt, FinalWrites, HasKey, SameAt, Changes, ValueIs, NoneForFree}
use Rattle.statements.specs.StepWords.{ChangesOf, PostsOf, PutsIn, TakesOut, ChangedStripe, GuardedStripe}
use Rattle.statements.specs.StepWords.{GuardedPartition, Takes, LetsGo, PublishesOne, Publishes}
use Rattle.statements.specs.StepWords.{Leads, here, along, OnChain, OffChainOf, Recycled, FreesAndDrops, RollsBack, CleanRun}
use Rattle.basic_laws.specs.FinalPlaces.{later, first_final, next_final}
use Rattle.basic_laws.specs.Cases.{by, clash, iff, or_true, or_left, or_right, and_true, and_false, and_both, mem_here, mem_there}
use Rattle.basic_laws.specs.Members.{at_mem, mem_those, mem_nonzero}
use Rattle.basic_laws.specs.Rising.{rising_less, rising_from, rising_ext, mem_in_order, rising_in_order, rising_those}
use Rattle.basic_laws.specs.Places.{blank_at}
use Rattle.basic_laws.specs.Chain.{IsChain}
use Rattle.basic_laws.specs.Chained.{walk_sound}
use Rattle.basic_laws.specs.TestParts.{slots_parts, repairable_parts}

-- LISTS

-- what the test `rising` says
rises : (lo : ℕ) (l : List ℕ) → rising lo l ≡ true → Rises l
rises lo [] h a b lt lb = absurd (omega arith)
rises lo (x ∷ l) h zero zero lt lb = absurd (omega arith)
rises lo (x ∷ l) h zero (suc b) lt lb =
    omega (arith, rising_from (suc x) l (get_or l b 0) (and_true (leb lo x) (rising (suc x) l) h).1 (at_mem l b (omega arith)))
rises lo (x ∷ l) h (suc a) zero lt lb = absurd (omega arith)
rises lo (x ∷ l) h (suc a) (suc b) lt lb = rises (suc x) l (and_true (leb lo x) (rising (suc x) l) h).1 a b (omega arith) (omega arith)

-- the places of the nonzero numbers rise
rising_nonzero : (k : ℕ) (l : List ℕ) → rising k (nonzero_from k l) ≡ true
rising_nonzero k [] = refl
rising_nonzero k (x ∷ l) =
    let r = rising_nonzero (suc k) l in
    by (eqb x 0) (λ e. rw e (rising_less k (suc k) (nonzero_from (suc k) l) (omega arith) r)) (λ e. rw (e, le-leb k k (omega arith)) r)

-- a member of two lists joined; of a list of images; of a list of lists
mem_either : (a b : List ℕ) (p : ℕ) → (memb p (a ++ b) ≡ true) ↔ ((memb p a ≡ true) ⊎ (memb p b ≡ true))
mem_either [] b p = (λ m. inr m, λ e. ⊎_elim (λ k. clash {b = false} k refl) (λ k. k) e)
mem_either (x ∷ a) b p =
    let r = mem_either a b p in (
      λ m. or_true (eqb p x) (memb p (a ++ b)) m
          (λ e. inl (or_left (eqb p x) (memb p a) e))
          (λ e. ⊎_elim (λ k. inl (or_right (eqb p x) (memb p a) k)) (λ k. inr k) (r.0 e)),
      λ e. ⊎_elim
          (λ k. or_true (eqb p x) (memb p a) k (λ q. or_left (eqb p x) (memb p (a ++ b)) q)
          (λ q. or_right (eqb p x) (memb p (a ++ b)) (r.1 (inl q))))
          (λ k. or_right (eqb p x) (memb p (a ++ b)) (r.1 (inr k))) e,
    )

some_map : {A : Type 0} (f : A → ℕ) (l : List A) (i : ℕ) → (memb i (map f l) ≡ true) ↔ Some (λ a. i ≡ f a) l
some_map f [] i = (λ m. clash {b = false} m refl, λ e. absurd e)
some_map f (a ∷ l) i =
    let r = some_map f l i in (
      λ m. or_true (eqb i (f a)) (memb i (map f l)) m (λ e. inl (eqb-true i (f a) e)) (λ e. inr (r.0 e)),
      λ e. ⊎_elim (λ k. or_left (eqb i (f a)) (memb i (map f l)) (eq-eqb i (f a) k)) (λ k. or_right (eqb i (f a)) (memb i (map f l)) (r.1 k)) e,
    )

-- images of lists joined
map_flat : {A B C : Type 0} (g : B → C) (f : A → List B) (l : List A) → map g (flat f l) ≡ flat (λ a. map g (f a)) l
map_flat g f [] = refl
map_flat g f (a ∷ l) = map-append g (f a) (flat f l) ∙ ap (λ m. map g (f a) ++ m) (map_flat g f l)

flat_one : {A : Type 0} (l : List A) → flat (λ a. a ∷ []) l ≡ l
flat_one [] = refl
flat_one (a ∷ l) = ap (λ m. a ∷ m) (flat_one l)

-- FINAL WRITES

-- the places of the final writes
abbrev final_places : List Write → List ℕ
final_places [] = []
final_places (w ∷ ws) = let r = map suc (final_places ws) in cond (later w ws) r (zero ∷ r)

-- one place further
up_eqb : (i y : ℕ) → eqb (suc i) (suc y) ≡ eqb i y
up_eqb i y = iff (eqb (suc i) (suc y)) (eqb i y)
    (λ e. let q = eqb-true (suc i) (suc y) e in eq-eqb i y (omega arith))
    (λ e. let q = eqb-true i y e in eq-eqb (suc i) (suc y) (omega arith))

up_mem : (l : List ℕ) (i : ℕ) → memb (suc i) (map suc l) ≡ memb i l
up_mem [] i = refl
up_mem (y ∷ l) i = rw (up_eqb i y, up_mem l i)

up_zero : (l : List ℕ) → memb zero (map suc l) ≡ false
up_zero [] = refl
up_zero (y ∷ l) = rw (ne_eqb zero (suc y) (λ q. absurd (omega arith))) (up_zero l)

up_rising : (lo : ℕ) (l : List ℕ) → rising lo l ≡ true → rising (suc lo) (map suc l) ≡ true
up_rising lo [] h = refl
up_rising lo (y ∷ l) h =
    let a = and_true (leb lo y) (rising (suc y) l) h in
    and_both (leb (suc lo) (suc y)) (rising (suc (suc y)) (map suc l)) (le-leb (suc lo) (suc y) (omega (arith, leb-true lo y a.0)))
    (up_rising (suc y) l a.1)

up_writes : (w : Write) (ws : List Write) (l : List ℕ) → map (λ a. get_or (w ∷ ws) a no_write) (map suc l) ≡ map (λ a. get_or ws a no_write) l
up_writes w ws [] = refl
up_writes w ws (y ∷ l) = ap (λ m. get_or ws y no_write ∷ m) (up_writes w ws l)

places_rise : (ws : List Write) → rising zero (final_places ws) ≡ true
places_rise [] = refl
places_rise (w ∷ ws) =
    let r = up_rising zero (final_places ws) (places_rise ws) in
    by (later w ws)
    (λ e. rw e (rising_less 0 1 (map suc (final_places ws)) (omega arith) r))
    (λ e. rw e (and_both (leb 0 0) (rising 1 (map suc (final_places ws))) (le-leb 0 0 (omega arith)) r))

places_writes : (ws : List Write) → final_writes ws ≡ map (λ a. get_or ws a no_write) (final_places ws)
places_writes [] = refl
places_writes (w ∷ ws) =
    let r = places_writes ws ∙ sym (up_writes w ws (final_places ws)) in
    by (later w ws) (λ e. rw e r) (λ e. rw e (ap (λ m. w ∷ m) r))

places_members : (ws : List Write) (i : ℕ) → (memb i (final_places ws) ≡ true) ↔ FinalAt ws i
places_members [] i = (λ m. clash {b = false} m refl, λ h. absurd (omega (arith, h.0)))
places_members (w ∷ ws) zero =
    let f = first_final w ws in
    by (later w ws)
    (λ e. rw e (λ m. clash m (up_zero (final_places ws)), λ h. clash e (f.1 h)))
    (λ e. rw e (λ m. f.0 e, λ h. mem_here zero (map suc (final_places ws))))
places_members (w ∷ ws) (suc i) =
    let n = next_final w ws i in
    let r = places_members ws i in
    by (later w ws)
    (λ e. rw (e, up_mem (final_places ws) i) (λ m. n.0 (r.0 m), λ h. r.1 (n.1 h)))
    (λ e. rw (e, ne_eqb (suc i) zero (λ q. absurd (omega arith)), up_mem (final_places ws) i) (λ m. n.0 (r.0 m), λ h. r.1 (n.1 h)))

-- "Final writes are those with no later write of their row, in list order."
pub finals_say : (x : Tx) → FinalWrites (writes_of x) (finals x)
unfolding finals
finals_say x =
    let ws = writes_of x in
    record {
      places = final_places ws;
      exactly = record { rises = rises zero (final_places ws) (places_rise ws); members = places_members ws };
      writes = places_writes ws;
    }

-- CHANGES

module _ (S : Store) where
  -- two values are the same
  same_says : (p q : ℕ) → (same_value (value_at S.key S.has p) (value_at S.key S.has q) ≡ true) ↔ SameAt S p q
  same_says p q = by (get_or S.has p false)
      (λ hp. by (get_or S.has q false)
      (λ hq. rw (hp, hq) (
        λ e. inr (get_or S.key p 0, (refl, refl), (refl, sym (eqb-true (get_or S.key p 0) (get_or S.key q 0) e))),
        λ e. ⊎_elim (λ n. clash {b = true} refl n.0) (λ k. eq-eqb (get_or S.key p 0) (get_or S.key q 0) (k.1.1 ∙ sym k.2.1)) e,
      ))
      (λ hq. rw (hp, hq) (
        λ e. clash {b = false} e refl,
        λ e. ⊎_elim (λ n. clash {b = true} refl n.0) (λ k. clash {b = false} k.2.0 refl) e,
      )))
      (λ hp. by (get_or S.has q false)
      (λ hq. rw (hp, hq) (
        λ e. clash {b = false} e refl,
        λ e. ⊎_elim (λ n. clash {b = true} refl n.1) (λ k. clash {b = false} k.1.0 refl) e,
      ))
      (λ hq. rw (hp, hq) (λ e. inl (refl, refl), λ e. refl)))

  -- a write's two values, as the definition compares them
  abbrev unchanged : Write → Bool
  unchanged w = same_value (value_at S.key S.has w.base.0) (value_at S.key S.has w.new.0)

  differs : (w : Write) → unchanged w ≡ false → Changes S w
  differs w e s = clash ((same_says w.base.0 w.new.0).1 s) e

  -- "(none for 0 or a free slot)"
  pub none_says : slots_in_form S ≡ true → NoneForFree S
  none_says h =
      let f = slots_parts S h in
      let free = blank_at (λ x. ltb 0 x) not 0 false (λ b e. not-true b e) S.xmin S.has f.has in
      record {
        null = free 0 (not-true _ f.first);
        free = λ p e. free p (rw e);
      }

  value_is : (p : ℕ) → ValueIs S p (value_at S.key S.has p)
  value_is p = record { key = λ k h. rw (h.0, h.1); none = λ h. rw h }

  -- what changes give, one after the other
  in_turn_law : {A : Type 0} (f : Change → List A) (P : Write → List A → Type 0)
      → ((w : Write) → unchanged w ≡ true → P w []) → ((w : Write) → unchanged w ≡ false → P w (f (change_of S.key S.has w)))
      → (ws : List Write) → InTurn P ws (flat f (index_changes S.key S.has ws))
  unfolding index_changes
  in_turn_law f P s d [] = refl
  in_turn_law f P s d (w ∷ ws) =
      let r = in_turn_law f P s d ws in
      by (unchanged w)
      (λ e. rw e ([], flat f (index_changes S.key S.has ws), refl, s w e, r))
      (λ e. rw e (f (change_of S.key S.has w), flat f (index_changes S.key S.has ws), refl, d w e, r))

  -- "A change exists where the base's value (none for 0 or a free slot) differs from the new one."; "Changes .. go in final-write order"
  pub changes_say : (x : Tx) → InTurn (ChangesOf S) (finals x) (changes S x)
  unfolding changes
  changes_say x =
      rw (flat_one (index_changes S.key S.has (finals x))) at (in_turn_law (λ c. c ∷ []) (ChangesOf S)
      (λ w e. record { one = λ d. absurd (d ((same_says w.base.0 w.new.0).0 e)); same = λ _. refl })
      (λ w e. record {
        one = λ _. (change_of S.key S.has w, refl, refl, value_is w.base.0, value_is w.new.0);
        same = λ s. absurd (differs w e s);
      })
      (finals x))

  -- the postings of one side
  posts_none : {A : Type 0} (side : Write → ℕ) (f : ℕ → A) (w : Write) → unchanged w ≡ true → PostsOf S side f w []
  posts_none side f w e = record { key = λ k d h. absurd (d ((same_says w.base.0 w.new.0).0 e)); none = λ _. refl; same = λ _. refl }

  posts_one : {A : Type 0} (side : Write → ℕ) (f : ℕ → A) (w : Write) → unchanged w ≡ false
      → PostsOf S side f w (map f (posting_in w.row.0 (value_at S.key S.has (side w))))
  posts_one side f w e = record { key = λ k d h. rw (h.0, h.1); none = λ h. rw h; same = λ s. absurd (differs w e s) }

  -- step 15 puts in the new value's posting, step 17 takes out the base's, in final-write order
  pub insertions_say : (x : Tx) → PutsIn S put_insert (finals x) (insertions S x)
  unfolding insertions destinations changes
  insertions_say x =
      rw (← map_flat put_insert (λ c. posting_in c.row c.after) (index_changes S.key S.has (finals x))) at
      (in_turn_law (λ c. map put_insert (posting_in c.row c.after)) (PostsOf S (λ w. w.new.0) put_insert)
      (posts_none (λ w. w.new.0) put_insert) (posts_one (λ w. w.new.0) put_insert) (finals x))

  pub removals_say : (x : Tx) → TakesOut S put_remove (finals x) (removals S x)
  unfolding removals sources changes
  removals_say x =
      rw (← map_flat put_remove (λ c. posting_in c.row c.before) (index_changes S.key S.has (finals x))) at
      (in_turn_law (λ c. map put_remove (posting_in c.row c.before)) (PostsOf S (λ w. w.base.0) put_remove)
      (posts_none (λ w. w.base.0) put_remove) (posts_one (λ w. w.base.0) put_remove) (finals x))

  -- the postings themselves, of which rollback takes out those that were put in
  pub destinations_say : (x : Tx) → PutsIn S (λ c. c) (finals x) (destinations (changes S x))
  unfolding destinations changes
  destinations_say x =
      in_turn_law (λ c. posting_in c.row c.after) (PostsOf S (λ w. w.new.0) (λ c. c)) (posts_none (λ w. w.new.0) (λ c. c))
      (λ w e. record { key = λ k d h. rw (h.0, h.1); none = λ h. rw h; same = λ s. absurd (differs w e s) }) (finals x)

  -- GUARDS AND STAMPS

  -- the stripe of a key at p
  stripe_says : (p i : ℕ) → (memb i (stripes_in (value_at S.key S.has p)) ≡ true) ↔ ((k : ℕ) × HasKey S p k × (i ≡ k % stripes))
  stripe_says p i = by (get_or S.has p false)
      (λ e. rw e (
        λ m. (
          get_or S.key p 0,
          (refl, refl),
          or_true (eqb i (get_or S.key p 0 % stripes)) false m (λ q. eqb-true i (get_or S.key p 0 % stripes) q) (λ q. clash {b = false} q refl),
        ),
        λ h. or_left (eqb i (get_or S.key p 0 % stripes)) false (eq-eqb i (get_or S.key p 0 % stripes) (rw h.1.1 h.2)),
      ))
      (λ e. rw e (λ m. clash {b = false} m refl, λ h. clash {b = false} h.1.0 refl))

  sides_say : (p q i : ℕ)
      → (memb i (stripes_in (value_at S.key S.has p) ++ stripes_in (value_at S.key S.has q)) ≡ true)
      ↔ ((k : ℕ) × (HasKey S p k ⊎ HasKey S q k) × (i ≡ k % stripes))
  sides_say p q i =
      let e = mem_either (stripes_in (value_at S.key S.has p)) (stripes_in (value_at S.key S.has q)) i in (
        λ m. ⊎_elim
            (λ k. let h = (stripe_says p i).0 k in (h.0, inl h.1, h.2))
            (λ k. let h = (stripe_says q i).0 k in (h.0, inr h.1, h.2)) (e.0 m),
        λ h. e.1 (⊎_elim (λ k. inl ((stripe_says p i).1 (h.0, k, h.2))) (λ k. inr ((stripe_says q i).1 (h.0, k, h.2))) h.1),
      )

  -- of the changes of some writes
  abbrev touched : Change → List ℕ
  touched c = stripes_in c.before ++ stripes_in c.after

  stripes_say : (ws : List Write) (i : ℕ)
      → (memb i (flat touched (index_changes S.key S.has ws)) ≡ true)
      ↔ Some (λ w. Changes S w × ((k : ℕ) × (HasKey S w.base.0 k ⊎ HasKey S w.new.0 k) × (i ≡ k % stripes))) ws
  unfolding index_changes
  stripes_say [] i = (λ m. clash {b = false} m refl, λ e. absurd e)
  stripes_say (w ∷ ws) i =
      let r = stripes_say ws i in
      let here = sides_say w.base.0 w.new.0 i in
      let both = mem_either (touched (change_of S.key S.has w)) (flat touched (index_changes S.key S.has ws)) i in
      by (unchanged w)
      (λ e. rw e (
        λ m. inr (r.0 m),
        λ h. ⊎_elim (λ k. absurd (k.0 ((same_says w.base.0 w.new.0).0 e))) (λ k. r.1 k) h,
      ))
      (λ e. rw e (
        λ m. ⊎_elim (λ k. inl (differs w e, here.0 k)) (λ k. inr (r.0 k)) (both.0 m),
        λ h. both.1 (⊎_elim (λ k. inl (here.1 k.1)) (λ k. inr (r.1 k)) h),
      ))

  -- the stripes of changed keys, rising
  pub changed_stripes_say : (x : Tx) → Exactly (ChangedStripe S x) (changed_stripes (changes S x))
  unfolding changed_stripes changes
  changed_stripes_say x =
      let l = flat touched (index_changes S.key S.has (finals x)) in
      record { rises = rises 0 (in_order l) (rising_in_order l); members = λ i. rw (mem_in_order l i) (stripes_say (finals x) i) }

  -- "Guards: stripes of changed keys, both sides, and of index reads; .. rising"
  pub guarded_stripes_say : (x : Tx) → Exactly (GuardedStripe S x) (guarded_stripes (changes S x) x)
  unfolding guarded_stripes
  guarded_stripes_say x =
      let a = changed_stripes (changes S x) in
      let b = map (λ e. e.stripe) (index_reads_of x) in
      let c = changed_stripes_say x in
      let s = some_map (λ e. e.stripe) (index_reads_of x) in
      record {
        rises = rises 0 (in_order (a ++ b)) (rising_in_order (a ++ b));
        members = λ i. rw (mem_in_order (a ++ b) i) (
          λ m. ⊎_elim (λ k. inl ((c.members i).0 k)) (λ k. inr ((s i).0 k)) ((mem_either a b i).0 m),
          λ h. (mem_either a b i).1 (⊎_elim (λ k. inl ((c.members i).1 k)) (λ k. inr ((s i).1 k)) h),
        );
      }

  pub index_guards_say : (x : Tx) (t : ℕ) → OneEach (GuardedStripe S x) (λ i. put_stripe i t) (index_guards S x t)
  unfolding index_guards
  index_guards_say x t = record { places = guarded_stripes (changes S x) x; exactly = guarded_stripes_say x; puts = refl }

  -- "Stamps are the txid, on changed stripes only."; "stamps rising"
  pub stamps_say : (x : Tx) → OneEach (ChangedStripe S x) (λ i. put_stamp i x.txid.0) (stamping S x)
  unfolding stamping
  stamps_say x = record { places = changed_stripes (changes S x); exactly = changed_stripes_say x; puts = refl }

-- "partitions of written and read rows; rising"
pub guarded_partitions_say : (x : Tx) → Exactly (GuardedPartition x) (guarded_partitions x)
unfolding guarded_partitions
guarded_partitions_say x =
    let a = map (λ w. partition_of w.row.0) (writes_of x) in
    let b = map (λ e. partition_of e.row.0) (reads_of x) in
    let s = some_map (λ w. partition_of w.row.0) (writes_of x) in
    let r = some_map (λ e. partition_of e.row.0) (reads_of x) in
    record {
      rises = rises 0 (in_order (a ++ b)) (rising_in_order (a ++ b));
      members = λ i. rw (mem_in_order (a ++ b) i) (
        λ m. ⊎_elim (λ k. inl ((s i).0 k)) (λ k. inr ((r i).0 k)) ((mem_either a b i).0 m),
        λ h. (mem_either a b i).1 (⊎_elim (λ k. inl ((s i).1 k)) (λ k. inr ((r i).1 k)) h),
      );
    }

pub partition_guards_say : (x : Tx) (t : ℕ) → OneEach (GuardedPartition x) (λ i. put_partition i t) (partition_guards x t)
unfolding partition_guards
partition_guards_say x t = record { places = guarded_partitions x; exactly = guarded_partitions_say x; puts = refl }

-- "released partition first"
pub release_says : (S : Store) (x : Tx) → LetsGo S x (release S x)
unfolding release
release_says S x = record {
  partition = partition_guards x 0;
  index = index_guards S x 0;
  first = partition_guards_say x 0;
  then = index_guards_say S x 0;
  both = refl;
}

-- PUBLICATION

-- "Publishing marks a nonzero base's xmax, then moves the head."
publishes_one : (t : ℕ) (w : Write) → PublishesOne t w (publish_one t w)
unfolding publish_one
publishes_one t w = record { based = λ n. rw (ne_eqb w.base.0 0 n); unbased = λ e. rw (eq-eqb w.base.0 0 e) }

publishes : (t : ℕ) (ws : List Write) → Publishes t ws (flat (publish_one t) ws)
publishes t [] = refl
publishes t (w ∷ ws) = (publish_one t w, flat (publish_one t) ws, refl, publishes_one t w, publishes t ws)

-- .. "in final-write order"
pub publication_says : (x : Tx) → Publishes x.txid.0 (finals x) (publication x)
unfolding publication
publication_says x = publishes x.txid.0 (finals x)

-- OFF-CHAIN SLOTS

-- a chain's slots are those that its start leads to
leads_on : (next l : List ℕ) {p q : ℕ} → Leads next p q → IsChain next p l → memb q l ≡ true
leads_on next [] (here pos) c = absurd (omega arith)
leads_on next [] (along pos h) c = absurd (omega arith)
leads_on next (x ∷ l) (here pos) c = subst (λ y. memb y (x ∷ l) ≡ true) (sym c.0) (mem_here x l)
leads_on next (x ∷ l) {q = q} (along pos h) c = mem_there q x l (leads_on next l h (rw c.0 c.3))

on_leads : (next l : List ℕ) (p q : ℕ) → IsChain next p l → memb q l ≡ true → Leads next p q
on_leads next [] p q c m = clash {b = false} m refl
on_leads next (x ∷ l) p q c m = or_true (eqb q x) (memb q l) m
    (λ e. rw (c.0, eqb-true q x e) (here c.1))
    (λ e. rw c.0 (along c.1 (on_leads next l (get_or next x 0) q c.3 e)))

module _ (S : Store) (z : Sized S) (ok : repairable S ≡ true) where
  -- the marks of the walk are the slots on chains
  on_chain_is : (p : ℕ) → (on (walk S.heads S.next).seen p ≡ true) ↔ OnChain S p
  on_chain_is p =
      let w = walk_sound S.heads S.next z.next (repairable_parts S ok).walked in
      let L = w.0 in
      let c = w.1 in (
        λ m. let f = c.found p m in
            (f.0, omega (arith, f.1, z.heads), on_leads S.next (L f.0) (get_or S.heads f.0 0) p (c.stand.chain f.0 f.1) f.2),
        λ h. let lt : h.0 < length S.heads = omega (arith, h.1, z.heads) in
            c.marked h.0 p lt (leads_on S.next (L h.0) h.2 (c.stand.chain h.0 lt)),
      )

  -- used, the txid's, on no chain
  own_members : (t p : ℕ) → (memb p (own_slots S.heads S.next S.xmin t) ≡ true) ↔ OffChainOf S t p
  unfolding own_slots
  own_members t p =
      let seen = (walk S.heads S.next).seen in
      let f : ℕ → Bool = λ q. eqb (get_or S.xmin q 0) t && not (on seen q) in
      let is : memb p (those f (used_slots S.xmin)) ≡ (ltb 0 (get_or S.xmin p 0) && f p) =
      mem_those f (used_slots S.xmin) p ∙ rw (mem_nonzero S.xmin p) in (
        λ m. let a = and_true (ltb 0 (get_or S.xmin p 0)) (f p) (sym is ∙ m) in
            let b = and_true (eqb (get_or S.xmin p 0) t) (not (on seen p)) a.1 in
            record {
              used = ltb-true 0 (get_or S.xmin p 0) a.0;
              mine = eqb-true (get_or S.xmin p 0) t b.0;
              off = λ c. clash ((on_chain_is p).1 c) (not-true (on seen p) b.1);
            },
        λ o. let off : on seen p ≡ false = by (on seen p) (λ e. absurd (o.off ((on_chain_is p).0 e))) (λ e. e) in
            is ∙ rw (off, eq-eqb (get_or S.xmin p 0) t o.mine, lt-ltb 0 (get_or S.xmin p 0) o.used),
      )

  own_rise : (t : ℕ) → rising 0 (own_slots S.heads S.next S.xmin t) ≡ true
  unfolding own_slots
  own_rise t = rising_those 0 _ (used_slots S.xmin) (rising_nonzero 0 S.xmin)

  own_say : (t : ℕ) → Exactly (OffChainOf S t) (own_slots S.heads S.next S.xmin t)
  own_say t = record { rises = rises 0 (own_slots S.heads S.next S.xmin t) (own_rise t); members = own_members t }

  -- "Abort frees, rising, every off-chain slot of the txid, then drops it from the active list"
  pub abort_says : (t : ℕ) → FreesAndDrops S t (abort_puts S t)
  unfolding abort_puts
  abort_says t =
      let own = own_slots S.heads S.next S.xmin t in
      record { frees = map put_free own; first = record { places = own; exactly = own_say t; puts = refl }; then = refl }

  -- "Recycling frees the txid's other off-chain slots."; "recycling .. rising"
  pub recycling_says : (x : Tx) → OneEach (Recycled S x) put_free (recycling S x)
  unfolding recycling recycled
  recycling_says x =
      let own = own_slots S.heads S.next S.xmin x.txid.0 in
      let news = map (λ w. w.new.0) (finals x) in
      let f : ℕ → Bool = λ p. not (memb p news) in
      let s = some_map (λ (w : Write). w.new.0) (finals x) in
      record {
        places = those f own;
        exactly = record {
          rises = rises 0 (those f own) (rising_those 0 f own (own_rise x.txid.0));
          members = λ p. rw (mem_those f own p) (
            λ m. let a = and_true (memb p own) (f p) m in
                ((own_members x.txid.0 p).0 a.0, λ h. clash ((s p).1 (some_turn (finals x) p h)) (not-true (memb p news) a.1)),
            λ h. and_both (memb p own) (f p) ((own_members x.txid.0 p).1 h.0)
                (by (memb p news) (λ e. absurd (h.1 (turn_some (finals x) p ((s p).0 e)))) (λ e. rw e)),
          );
        };
        puts = refl;
      }
    where
      some_turn : (ws : List Write) (p : ℕ) → Some (λ w. w.new.0 ≡ p) ws → Some (λ w. p ≡ w.new.0) ws
      some_turn [] p h = h
      some_turn (w ∷ ws) p h = ⊎_elim (λ e. inl (sym e)) (λ k. inr (some_turn ws p k)) h

      turn_some : (ws : List Write) (p : ℕ) → Some (λ w. p ≡ w.new.0) ws → Some (λ w. w.new.0 ≡ p) ws
      turn_some [] p h = h
      turn_some (w ∷ ws) p h = ⊎_elim (λ e. inl (sym e)) (λ k. inr (turn_some ws p k)) h

-- ROLLBACK

-- `reverse`: the last first
reversed : (l : List ℕ) → Reversed l (reverse l)
reversed l = record { long = length-reverse l; turned = turned l }
  where
    turned : (l : List ℕ) (i : ℕ) → i < length l → get_or (reverse l) i 0 ≡ get_or l (length l - suc i) 0
    turned [] i lt = absurd (omega arith)
    turned (x ∷ l) i lt = by (ltb i (length l))
        (λ e. let k = ltb-true i (length l) e in
        let far : suc (length l) - suc i ≡ suc (length l - suc i) = omega arith in
        rw (reverse-cons x l, far) (get_or-append (reverse l) (x ∷ []) 0 i (omega (arith, length-reverse l)) ∙ turned l i k))
        (λ e. let k : i ≡ length (reverse l) = omega (arith, ltb-false i (length l) e, length-reverse l) in
        let near : suc (length l) - suc i ≡ 0 = omega (arith, length-reverse l) in
        rw (reverse-cons x l, near, k) (get_or-append_seam (reverse l) x [] 0))

-- "rollback in reverse"; the part that makes stores of step 24
pub rollback_says : (S : Store) (x : Tx) (logged : Bool) (plan : Schedule) (already : Bool) (made : List ℕ)
    → RollsBack made already (fails S x logged plan 24) (count S x logged plan 24) (rollback S x logged plan already made).puts
unfolding rollback
rollback_says S x logged plan already made = record {
  back = reverse made;
  reversed = reversed made;
  all = λ f. rw f;
  some = λ f a. rw (f, a);
  poisoned = λ f a. rw (f, a) (append-nil (take (count S x logged plan 24) (map put_remove (reverse made))));
}

-- THE STEPS

-- "rising, taken index first": what a run has stored when it has passed the first eight steps
pub taking_says : (S : Store) (x : Tx) (logged : Bool) (plan : Schedule) (e : End)
    → ((n c : ℕ) → n ≤ 8 → c ≢ 0 → strikes S x logged plan n c ≡ false) → Takes S x x.txid.0 (run e (take 8 (steps S x logged plan))).puts
unfolding steps stop_if index_changes_made index_lock_keys prepare_commit_record run_prepare acquire_index_locks acquire_partition_locks
taking_says S x logged plan e h =
    let f : (n : ℕ) → n ≤ 8 → fails S x logged plan n ≡ false = λ n le. h n F le (λ q. absurd (omega arith)) in
    let none : (n c : ℕ) → n ≤ 8 → 0 < c → strikes S x logged plan n c ≡ false = λ n c le lt. h n c le (λ q. absurd (omega arith)) in
    rw (
      f 3 (omega arith),
      f 4 (omega arith),
      f 5 (omega arith),
      and_false logged,
      f 6 (omega arith),
      and_false logged,
      none 6 P (omega arith) (omega arith),
      and_false logged,
      f 7 (omega arith),
      none 7 B (omega arith) (omega arith),
      f 8 (omega arith),
      none 8 B (omega arith) (omega arith),
    ) (record {
      index = index_guards S x x.txid.0;
      partition = partition_guards x x.txid.0;
      first = index_guards_say S x x.txid.0;
      then = partition_guards_say x x.txid.0;
      both = ap (λ m. index_guards S x x.txid.0 ++ m) (append-nil (partition_guards x x.txid.0));
    })

-- an empty schedule strikes nowhere
never : (S : Store) (x : Tx) (logged : Bool) (plan : Schedule) → plan.count ≡ 0 → (n c : ℕ) → 0 < c → strikes S x logged plan n c ≡ false
unfolding strikes
never S x logged plan q n c lt = rw q (ne_eqb 0 c (omega arith))

-- steps of which each goes on, with its stores; and the run of them
data Go : List Step → List (List Put) → Type 0 where
  over : Go [] []
  go : {s : Step} {ss : List Step} {ps : List Put} {pss : List (List Put)} → s ≡ goes ps → Go ss pss → Go (s ∷ ss) (ps ∷ pss)

all_go : (e : End) {ss : List Step} {pss : List (List Put)} → Go ss pss → (run e ss).puts ≡ flat (λ ps. ps) pss
all_go e over = refl
all_go e (go {ps = ps} h r) = rw h (ap (λ (m : List Put). ps ++ m) (all_go e r))

-- what each step stores where no fault strikes and no test says yes
module _ (S : Store) (x : Tx) (logged : Bool) (plan : Schedule) (q : plan.count ≡ 0) where
  unstruck : (n : ℕ) → fails S x logged plan n ≡ false
  unstruck n = never S x logged plan q n F (omega arith)

  three : index_changes_made S x logged plan ≡ goes []
  unfolding index_changes_made stop_if
  three = rw (unstruck 3)

  four : index_lock_keys S x logged plan ≡ goes []
  unfolding index_lock_keys stop_if
  four = rw (unstruck 4)

  five : prepare_commit_record S x logged plan ≡ goes []
  unfolding prepare_commit_record stop_if
  five = rw (unstruck 5, and_false logged)

  six : run_prepare S x logged plan ≡ goes []
  unfolding run_prepare stop_if
  six = rw (unstruck 6, never S x logged plan q 6 P (omega arith), and_false logged)

  seven : acquire_index_locks S x logged plan ≡ goes (index_guards S x x.txid.0)
  unfolding acquire_index_locks stop_if
  seven = rw (unstruck 7, never S x logged plan q 7 B (omega arith))

  eight : acquire_partition_locks S x logged plan ≡ goes (partition_guards x x.txid.0)
  unfolding acquire_partition_locks stop_if
  eight = rw (unstruck 8, never S x logged plan q 8 B (omega arith))

  nine : (unlogged_writes S x logged plan && S.bound) ≡ false → ensure_unlogged_write_allowed S x logged plan ≡ goes []
  unfolding ensure_unlogged_write_allowed stop_if
  nine free = rw (unstruck 9, and_false (unlogged_writes S x logged plan), free)

  ten : S.poisoned ≡ false → check_not_poisoned S x logged plan ≡ goes []
  unfolding check_not_poisoned stop_if
  ten sound = rw (unstruck 10, sound)

  tested : (n : ℕ) (b : Bool) (c : Cause) → b ≡ false → test S x logged plan n b c ≡ goes []
  unfolding stop_if
  tested n b c e = rw (unstruck n, e)

  fifteen : prepare_index_destinations S x logged plan ≡ goes (insertions S x)
  unfolding prepare_index_destinations stop_if
  fifteen = rw (unstruck 15)

  sixteen : invoke_before_publish S x logged plan ≡ goes []
  unfolding invoke_before_publish stop_if
  sixteen =
      rw (
        unstruck 16,
        never S x logged plan q 16 X (omega arith),
        never S x logged plan q 16 Q (omega arith),
        never S x logged plan q 16 P (omega arith),
        and_false logged,
      )

  seventeen : remove_index_sources S x logged plan ≡ goes (removals S x)
  unfolding remove_index_sources stop_if
  seventeen = rw (unstruck 17)

  eighteen : publish_write_set S x logged plan ≡ goes (publication x)
  unfolding publish_write_set stop_if
  eighteen = rw (unstruck 18)

  nineteen : recycle_non_final_writes S x logged plan ≡ goes (recycling S x)
  unfolding recycle_non_final_writes stop_if
  nineteen = rw (unstruck 19)

  twenty_one : finish_transaction S x logged plan ≡ goes (put_drop x.txid.0 ∷ [])
  unfolding finish_transaction stop_if
  twenty_one = rw (unstruck 21)

  twenty_two : publish_index_stamps S x logged plan ≡ goes (stamping S x)
  unfolding publish_index_stamps stop_if
  twenty_two = rw (unstruck 22)

  -- the stores of steps 1 to 22 and of the guards let go: all of them go on
  abbrev cleanly : List (List Put)
  cleanly =
      [] ∷ [] ∷ [] ∷ [] ∷ [] ∷ [] ∷ index_guards S x x.txid.0 ∷ partition_guards x x.txid.0 ∷ [] ∷ [] ∷ [] ∷ [] ∷ [] ∷ []
      ∷ insertions S x ∷ [] ∷ removals S x ∷ publication x ∷ recycling S x ∷ [] ∷ (put_drop x.txid.0 ∷ []) ∷ stamping S x ∷ release S x ∷ []

  clean_stores : (unlogged_writes S x logged plan && S.bound) ≡ false → S.poisoned ≡ false
      → index_read_conflict S x ≡ false → row_lock_conflict S x ≡ false → serialization_conflict S x ≡ false → write_base_conflict S x ≡ false
      → (run_of S x logged plan).puts ≡ flat (λ ps. ps) cleanly
  unfolding run_of steps
  clean_stores free sound t11 t12 t13 t14 =
      all_go (committed x) {pss = cleanly} (
      go refl (go refl (go three (go four (go five (go six (go seven (go eight (go (nine free) (go (ten sound) (
      go (tested 11 (index_read_conflict S x) _ t11) (go (tested 12 (row_lock_conflict S x) _ t12) (
      go (tested 13 (serialization_conflict S x) _ t13) (go (tested 14 (write_base_conflict S x) _ t14) (
      go fifteen (go sixteen (go seventeen (go eighteen (go nineteen (go refl (go twenty_one (go twenty_two (go refl over)))))))))))))))))))))))

  -- a clean commit's stores, in the order of the steps
  pub clean_run_says : Sized S → repairable S ≡ true → (unlogged_writes S x logged plan && S.bound) ≡ false → S.poisoned ≡ false
      → index_read_conflict S x ≡ false → row_lock_conflict S x ≡ false → serialization_conflict S x ≡ false → write_base_conflict S x ≡ false
      → CleanRun S x (run_of S x logged plan).puts
  clean_run_says z ok free sound t11 t12 t13 t14 =
      record {
        taken = index_guards S x x.txid.0 ++ partition_guards x x.txid.0;
        inserted = insertions S x;
        removed = removals S x;
        published = publication x;
        freed = recycling S x;
        stamped = stamping S x;
        released = release S x;
        takes = record {
          index = index_guards S x x.txid.0;
          partition = partition_guards x x.txid.0;
          first = index_guards_say S x x.txid.0;
          then = partition_guards_say x x.txid.0;
          both = refl;
        };
        inserts = insertions_say S x;
        removes = removals_say S x;
        publishes = publication_says x;
        frees = recycling_says S z ok x;
        stamps = stamps_say S x;
        lets_go = release_says S x;
        order = clean_stores free sound t11 t12 t13 t14 ∙ simp (append_assoc, append-nil);
      }

-- ONE LIST ALONE: the words leave a definition no choice, so whatever list differs anywhere doesn't meet them

rises_test : (lo : ℕ) (l : List ℕ) → Rises l → (0 < length l → lo ≤ get_or l 0 0) → rising lo l ≡ true
rises_test lo [] r h = refl
rises_test lo (x ∷ l) r h =
    and_both (leb lo x) (rising (suc x) l) (le-leb lo x (h (omega arith)))
    (rises_test (suc x) l (λ a b lt lb. r (suc a) (suc b) (omega arith) (omega arith)) (λ k. r 0 1 (omega arith) (omega arith)))

pub exactly_one : (P : ℕ → Type 0) (l m : List ℕ) → Exactly P l → Exactly P m → l ≡ m
exactly_one P l m a b =
    rising_ext 0 0 l m (rises_test 0 l a.rises (λ k. omega arith)) (rises_test 0 m b.rises (λ k. omega arith)) (λ i.
    iff (memb i l) (memb i m) (λ h. (b.members i).1 ((a.members i).0 h)) (λ h. (a.members i).1 ((b.members i).0 h)))

pub one_each_one : (P : ℕ → Type 0) (f : ℕ → Put) (ps qs : List Put) → OneEach P f ps → OneEach P f qs → ps ≡ qs
one_each_one P f ps qs a b = a.puts ∙ ap (map f) (exactly_one P a.places b.places a.exactly b.exactly) ∙ sym b.puts

pub finals_one : (ws fs gs : List Write) → FinalWrites ws fs → FinalWrites ws gs → fs ≡ gs
finals_one ws fs gs a b =
    a.writes ∙ ap (map (λ i. get_or ws i no_write)) (exactly_one (FinalAt ws) a.places b.places a.exactly b.exactly) ∙ sym b.writes

pub in_turn_one : {A : Type 0} (P : Write → List A → Type 0) → ((w : Write) (l m : List A) → P w l → P w m → l ≡ m)
    → (ws : List Write) (l m : List A) → InTurn P ws l → InTurn P ws m → l ≡ m
in_turn_one P one [] l m a b = a ∙ sym b
in_turn_one P one (w ∷ ws) l m a b =
    let here = one w a.0 b.0 a.3 b.3 in
    let there = in_turn_one P one ws a.1 b.1 a.4 b.4 in
    a.2 ∙ rw (here, there) (sym b.2)

module _ (S : Store) where
  pub posts_of_one : {A : Type 0} (side : Write → ℕ) (f : ℕ → A) (w : Write) (l m : List A) → PostsOf S side f w l → PostsOf S side f w m → l ≡ m
  posts_of_one side f w l m a b = by (unchanged S w)
      (λ e. let s = (same_says S w.base.0 w.new.0).0 e in a.same s ∙ sym (b.same s))
      (λ e. by (get_or S.has (side w) false)
      (λ h. let k = get_or S.key (side w) 0 in a.key k (differs S w e) (h, refl) ∙ sym (b.key k (differs S w e) (h, refl)))
      (λ h. a.none h ∙ sym (b.none h)))

  value_one : (p : ℕ) (u v : Value) → ValueIs S p u → ValueIs S p v → u ≡ v
  value_one p u v a b = by (get_or S.has p false)
      (λ h. a.key (get_or S.key p 0) (h, refl) ∙ sym (b.key (get_or S.key p 0) (h, refl)))
      (λ h. a.none h ∙ sym (b.none h))

  pub changes_of_one : (w : Write) (l m : List Change) → ChangesOf S w l → ChangesOf S w m → l ≡ m
  changes_of_one w l m a b = by (unchanged S w)
      (λ e. let s = (same_says S w.base.0 w.new.0).0 e in a.same s ∙ sym (b.same s))
      (λ e. let c = a.one (differs S w e) in
      let d = b.one (differs S w e) in
      let row = c.2 ∙ sym d.2 in
      let old = value_one w.base.0 c.0.before d.0.before c.3 d.3 in
      let new = value_one w.new.0 c.0.after d.0.after c.4 d.4 in
      let same : c.0 ≡ d.0 = λ i. record { row = row i; before = old i; after = new i } in
      c.1 ∙ ap (λ (q : Change). q ∷ []) same ∙ sym d.1)

pub publishes_one_one : (t : ℕ) (w : Write) (l m : List Put) → PublishesOne t w l → PublishesOne t w m → l ≡ m
publishes_one_one t w l m a b = by (eqb w.base.0 0)
    (λ e. let z = eqb-true w.base.0 0 e in a.unbased z ∙ sym (b.unbased z))
    (λ e. let z = eqb-false w.base.0 0 e in a.based z ∙ sym (b.based z))

module _ (S : Store) (x : Tx) where
  pub takes_one : (t : ℕ) (ps qs : List Put) → Takes S x t ps → Takes S x t qs → ps ≡ qs
  takes_one t ps qs a b =
      let i = one_each_one (GuardedStripe S x) (λ i. put_stripe i t) a.index b.index a.first b.first in
      let p = one_each_one (GuardedPartition x) (λ i. put_partition i t) a.partition b.partition a.then b.then in
      a.both ∙ rw (i, p) (sym b.both)

  pub lets_go_one : (ps qs : List Put) → LetsGo S x ps → LetsGo S x qs → ps ≡ qs
  lets_go_one ps qs a b =
      let p = one_each_one (GuardedPartition x) (λ i. put_partition i 0) a.partition b.partition a.first b.first in
      let i = one_each_one (GuardedStripe S x) (λ i. put_stripe i 0) a.index b.index a.then b.then in
      a.both ∙ rw (p, i) (sym b.both)

  pub frees_and_drops_one : (t : ℕ) (ps qs : List Put) → FreesAndDrops S t ps → FreesAndDrops S t qs → ps ≡ qs
  frees_and_drops_one t ps qs a b =
      a.then ∙ ap (λ (l : List Put). l ++ put_drop t ∷ []) (one_each_one (OffChainOf S t) put_free a.frees b.frees a.first b.first) ∙ sym b.then

  -- so the words fix a clean commit's stores to the last one
  pub clean_run_one : (ps qs : List Put) → CleanRun S x ps → CleanRun S x qs → ps ≡ qs
  clean_run_one ps qs a b =
      let t = x.txid.0 in
      let e1 = takes_one t a.taken b.taken a.takes b.takes in
      let e2 = in_turn_one (PostsOf S (λ w. w.new.0) put_insert) (posts_of_one S (λ w. w.new.0) put_insert) (finals x) a.inserted b.inserted
      a.inserts b.inserts in
      let e3 = in_turn_one (PostsOf S (λ w. w.base.0) put_remove) (posts_of_one S (λ w. w.base.0) put_remove) (finals x) a.removed b.removed
      a.removes b.removes in
      let e4 = in_turn_one (PublishesOne t) (publishes_one_one t) (finals x) a.published b.published a.publishes b.publishes in
      let e5 = one_each_one (Recycled S x) put_free a.freed b.freed a.frees b.frees in
      let e6 = one_each_one (ChangedStripe S x) (λ i. put_stamp i t) a.stamped b.stamped a.stamps b.stamps in
      let e7 = lets_go_one a.released b.released a.lets_go b.lets_go in
      a.order ∙ rw (e1, e2, e3, e4, e5, e6, e7) (sym b.order)

pub rolls_back_one : (made : List ℕ) (already failed : Bool) (k : ℕ) (ps qs : List Put) → RollsBack made already failed k ps
    → RollsBack made already failed k qs
    → ps ≡ qs
rolls_back_one made already failed k ps qs a b =
    let back : a.back ≡ b.back = ext_get_or 0 a.back b.back (a.reversed.long ∙ sym b.reversed.long) (λ i lt.
    let lm : i < length made = omega (arith, lt, a.reversed.long) in a.reversed.turned i lm ∙ sym (b.reversed.turned i lm)) in
    by failed
    (λ f. by already
    (λ y. a.poisoned f y ∙ ap (λ (l : List ℕ). take k (map put_remove l)) back ∙ sym (b.poisoned f y))
    (λ y. a.some f y ∙ ap (λ (l : List ℕ). take k (map put_remove l) ++ put_poison ∷ []) back ∙ sym (b.some f y)))
    (λ f. a.all f ∙ ap (map put_remove) back ∙ sym (b.all f))
