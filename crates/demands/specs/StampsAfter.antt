-- "Stamps are the txid, on changed stripes only.": the stamps after every commit, whatever it answers and wherever it is cut.
use Rattle.std.specs.Prelude.{◌≡◌, Bool, true, ◌||◌, ◌⊎◌, ℕ, ◌+◌, ◌-◌, ◌<◌, ◌%◌, length, get_or, eqb, ltb, leb}
use Rattle.std.proofs.Math.Path.{refl, ap}
use Rattle.std.proofs.Common.{sym, ◌∙◌, inl, inr, ⊎_elim, arith, length-append, length-take, take_all, take-take}
use Rattle.std.proofs.Math.Bool.{false, cond}
use mathlib.Core.List.{List, [], ◌∷◌, ◌++◌, map, append_assoc, append-nil}
use Rattle.std.proofs.Math.ListN.{take}
use Rattle.std.proofs.lemmas.List.{length-map, take-append-le}
use Rattle.std.proofs.Math.Seq.{take-append-add, take-length}
use borrow.Author.Tests.{eq-eqb, ltb-true, ltb-false, lt-ltb, leb-true, leb-false}
use Rattle.records.specs.Limits.{stripes}
use Rattle.rules.specs.Lists.{memb}
use Rattle.rules.specs.Types.{Store, Tx, Write, Schedule, Answer, Cut, Uncut, After, Fate, Open, Closed, Refusal, NotResting, Unfit, NotActive}
use Rattle.rules.specs.Transaction.{finals}
use Rattle.rules.specs.Numbers.{number_of}
use Rattle.rules.specs.Puts.{Put, k_stripe, k_partition, k_insert, k_remove, k_xmax, k_head, k_free}
use Rattle.rules.specs.Puts.{k_drop, k_stamp, k_poison, k_doom, put_drop, put_stamp, put_poison}
use Rattle.rules.specs.Puts.{apply, apply_all}
use Rattle.rules.specs.Changes.{changes, destinations, changed_stripes, release, insertions, removals, publication, recycling}
use Rattle.rules.specs.Changes.{stamping}
use Rattle.rules.specs.Commit.{End, count, run_of}
use Rattle.rules.specs.Answer.{uncut, cut_off, answer, unchanged, commit}
use Rattle.statements.specs.Sized.{Sized}
use Rattle.statements.specs.Words.{Some}
use Rattle.statements.specs.StepWords.{Changes, HasKey, Stamped, AllStamped, stores_to21, StampsAfter, StampsCut}
use Rattle.sentences.specs.StepsSay.{changed_stripes_say}
use Rattle.basic_laws.specs.Cases.{by, clash, or_false}
use Rattle.run_laws.specs.OnlyKinds.{only, only_both, only_take, only_if, kept, is_not}
use Rattle.run_laws.specs.GuardPuts.{set_all, set_all_else, set_all_there, apply_all_append}
use Rattle.run_laws.specs.Kinds.{index_kind, taken_kinds, release_kinds, insertions_kind, removals_kind, publication_kinds, recycling_kind, cleaning_kinds}
use Rattle.run_laws.specs.Kinds.{rollback_kinds, finish_kind}
use Rattle.run_laws.specs.Outcome.{Taken, neither, index, both, guards_taken, after_insert, after_remove, after_publish, after_recycle, after_finish, aborting}
use Rattle.run_laws.specs.Outcome.{rolling_back, undoing, aborting_late, worse, Spoil, unremoved, unpublished, unrecycled, unfinished, Outcome, done, stays}
use Rattle.run_laws.specs.Outcome.{aborts, uninserted, uncalled, spoils, unstamped, outcome}
use Rattle.run_laws.specs.FirstRows.{admitted, every_commit, stay_not, abort_not, spoil_not, called_not}
use Rattle.posting_laws.specs.Undone.{take_map, mem_take}

-- the kinds of a commit's stores other than stamps
abbrev pub stampless : List ℕ
stampless = k_stripe ∷ k_partition ∷ k_insert ∷ k_remove ∷ k_xmax ∷ k_head ∷ k_free ∷ k_drop ∷ k_poison ∷ k_doom ∷ []

stamps_kept : (ps : List Put) (T : Store) → only stampless ps ≡ true → (apply_all ps T).stamps ≡ T.stamps
stamps_kept ps T o = kept (λ T. T.stamps) stampless (λ p T m. rw (is_not stampless k_stamp refl p m)) ps T o

module _ (t : ℕ) where
  -- stamps put
  abbrev put_stamps : List ℕ → List Put
  put_stamps is = map (λ i. put_stamp i t) is

  stamps_put : (is : List ℕ) (T : Store) → (apply_all (put_stamps is) T).stamps ≡ set_all T.stamps is t
  stamps_put [] T = refl
  stamps_put (i ∷ is) T = stamps_put is (apply (put_stamp i t) T)

  -- stamps between other stores
  stamps_amid : (A C : List Put) (l : List ℕ) (S : Store) → only stampless A ≡ true → only stampless C ≡ true
      → (apply_all (A ++ (put_stamps l ++ C)) S).stamps ≡ set_all S.stamps l t
  stamps_amid A C l S a c =
      ap (λ (T : Store). T.stamps) (apply_all_append A (put_stamps l ++ C) S ∙ apply_all_append (put_stamps l) C (apply_all A S))
      ∙ stamps_kept C (apply_all (put_stamps l) (apply_all A S)) c
      ∙ stamps_put l (apply_all A S)
      ∙ ap (λ (g : List ℕ). set_all g l t) (stamps_kept A S a)

  -- .. of which only the first n are made
  stamps_within : (A C : List Put) (l : List ℕ) (S : Store) (n : ℕ) → only stampless A ≡ true → only stampless C ≡ true
      → (apply_all (take n (A ++ (put_stamps l ++ C))) S).stamps ≡ set_all S.stamps (take (n - length A) l) t
  stamps_within A C l S n a c = by (ltb (length A) n)
      (λ e. let lt = ltb-true (length A) n e in
      let m = n - length A in
      let nm : n ≡ length A + m = omega (arith, lt) in
      let first : take n (A ++ (put_stamps l ++ C)) ≡ A ++ take m (put_stamps l ++ C) =
      ap (λ (k : ℕ). take k (A ++ (put_stamps l ++ C))) nm ∙ take-append-add A (put_stamps l ++ C) m in
      rw first (beyond m))
      (λ e. let le = ltb-false (length A) n e in
      let none : n - length A ≡ 0 = omega (arith, le) in
      rw (take-append-le n A (put_stamps l ++ C) le, none) (stamps_kept (take n A) S (only_take stampless n A a)))
    where
      beyond : (m : ℕ) → (apply_all (A ++ take m (put_stamps l ++ C)) S).stamps ≡ set_all S.stamps (take m l) t
      beyond m = by (ltb (length (put_stamps l)) m)
          (λ e. let lt = ltb-true (length (put_stamps l)) m e in
          let k = m - length (put_stamps l) in
          let mk : m ≡ length (put_stamps l) + k = omega (arith, lt) in
          let rest : take m (put_stamps l ++ C) ≡ put_stamps l ++ take k C =
          ap (λ (j : ℕ). take j (put_stamps l ++ C)) mk ∙ take-append-add (put_stamps l) C k in
          rw (rest, take_all m l (omega (arith, lt, length-map l (λ (i : ℕ). put_stamp i t)))) (stamps_amid A (take k C) l S a (only_take stampless k C c)))
          (λ e. let le = ltb-false (length (put_stamps l)) m e in
          rw (take-append-le m (put_stamps l) C le, take_map (λ (i : ℕ). put_stamp i t) m l)
          (rw append-nil at (stamps_amid A [] (take m l) S a refl)))

-- 0 and 17: the commits that stamp
abbrev stamping? : ℕ → Bool
stamping? n = eqb n 0 || eqb n 17

module _ (S : Store) (x : Tx) (logged : Bool) (plan : Schedule) where
  abbrev t : ℕ
  t = x.txid.0

  abbrev changed : List ℕ
  changed = changed_stripes (changes S x)

  -- a run's stores: no stamp among them, or the first k of the changed stripes' between others, after those up to step 21
  pub record Amid (ps : List Put) (k : ℕ) : Type 0 where
    pub before : List Put
    pub behind : List Put
    pub quiet : only stampless before ≡ true
    pub still : only stampless behind ≡ true
    pub long : length before ≡ stores_to21 S x
    pub are : ps ≡ before ++ (put_stamps t (take k changed) ++ behind)

  pub data Ends : List Put → ℕ → Type 0 where
    without : {ps : List Put} {n : ℕ} → only stampless ps ≡ true → stamping? n ≡ false → Ends ps n
    clean : {ps : List Put} → Amid ps (length changed) → Ends ps 0
    partly : {ps : List Put} → Amid ps (count S x logged plan 22) → Ends ps 17

  -- the parts of a run
  letting : only stampless (release S x) ≡ true
  letting = release_kinds stampless refl refl S x

  taken_quiet : {taken back : List Put} → Taken S x logged plan taken back → (only stampless taken ≡ true) × (only stampless back ≡ true)
  taken_quiet neither = (refl, refl)
  taken_quiet index = (index_kind stampless refl refl S x t, index_kind stampless refl refl S x 0)
  taken_quiet both = (taken_kinds stampless refl refl S x logged plan, letting)

  inserted : only stampless (after_insert S x logged plan) ≡ true
  inserted = only_both stampless (guards_taken S x logged plan) (insertions S x) (taken_quiet both).0 (insertions_kind stampless S x refl)

  removed : only stampless (after_remove S x logged plan) ≡ true
  removed = only_both stampless (after_insert S x logged plan) (removals S x) inserted (removals_kind stampless S x refl)

  published : only stampless (after_publish S x logged plan) ≡ true
  published = only_both stampless (after_remove S x logged plan) (publication x) removed (publication_kinds stampless S x refl refl)

  freed : only stampless (after_recycle S x logged plan) ≡ true
  freed = only_both stampless (after_publish S x logged plan) (recycling S x) published (recycling_kind stampless S x refl)

  finished : only stampless (after_finish S x logged plan) ≡ true
  finished = only_both stampless (after_recycle S x logged plan) (put_drop t ∷ []) freed refl

  finished_long : length (after_finish S x logged plan) ≡ stores_to21 S x
  finished_long = simp length-append (omega arith)

  spoil_quiet : {n : ℕ} {made some finishing : List Put} {poisoning : Put} {kind : Fate → Refusal} {y : Tx} {drops : Bool}
      → Spoil S x logged plan n made some poisoning finishing kind y drops
      → (only stampless made ≡ true) × (only stampless some ≡ true) × (only stampless (poisoning ∷ finishing) ≡ true)
  spoil_quiet (unremoved k) = (inserted, only_take stampless (count S x logged plan 17) (removals S x) (removals_kind stampless S x refl), refl)
  spoil_quiet (unpublished k) = (
    removed,
    only_take stampless (count S x logged plan 18) (publication x) (publication_kinds stampless S x refl refl),
    finish_kind stampless S x logged plan refl,
  )
  spoil_quiet (unrecycled k) = (
    published,
    only_take stampless (count S x logged plan 19) (recycling S x) (recycling_kind stampless S x refl),
    finish_kind stampless S x logged plan refl,
  )
  spoil_quiet (unfinished k) = (freed, refl, refl)

  ends : (n : ℕ) (ps : List Put) (d : End) → Outcome S x logged plan n ps d → Ends ps (number_of d.refusal)
  unfolding stamping
  ends _ _ _ (done p) =
      clean (record {
        before = after_finish S x logged plan;
        behind = release S x;
        quiet = finished;
        still = letting;
        long = finished_long;
        are = append_assoc (after_finish S x logged plan) (put_stamps t changed) (release S x)
            ∙ ap (λ (l : List ℕ). after_finish S x logged plan ++ (put_stamps t l ++ release S x)) (sym (take-length changed));
      })
  ends _ _ _ (stays {taken = taken} {back = back} l k r) =
      let q = taken_quiet k in without (only_both stampless taken back q.0 q.1) (stay_not stamping? refl refl r _)
  ends _ _ _ (aborts {taken = taken} {back = back} l k r) =
      let q = taken_quiet k in
      without
      (only_both stampless taken (back ++ (aborting S x logged plan).puts) q.0
      (only_both stampless back (aborting S x logged plan).puts q.1 (cleaning_kinds stampless S x logged plan refl refl refl S.poisoned)))
      (abort_not stamping? refl refl refl refl refl r)
  ends _ _ _ (uninserted p r) =
      let some = take (count S x logged plan 15) (insertions S x) in
      let back = (rolling_back S x logged plan).puts in
      without
      (only_both stampless (guards_taken S x logged plan) (some ++ (back ++ release S x)) (taken_quiet both).0
      (only_both stampless some (back ++ release S x) (only_take stampless (count S x logged plan 15) (insertions S x) (insertions_kind stampless S x refl))
      (only_both stampless back (release S x)
      (rollback_kinds stampless S x logged plan refl refl false (take (count S x logged plan 15) (destinations (changes S x)))) letting)))
      refl
  ends _ _ _ (uncalled p l r) =
      let first = cond (worse S x logged plan) (put_poison ∷ []) [] in
      let back = (undoing S x logged plan).puts in
      let late = (aborting_late S x logged plan).puts in
      without
      (only_both stampless (after_insert S x logged plan) (first ++ (back ++ (late ++ release S x))) inserted
      (only_both stampless first (back ++ (late ++ release S x)) (only_if stampless (worse S x logged plan) (put_poison ∷ []) [] refl refl)
      (only_both stampless back (late ++ release S x)
      (rollback_kinds stampless S x logged plan refl refl (worse S x logged plan) (destinations (changes S x)))
      (only_both stampless late (release S x)
      (cleaning_kinds stampless S x logged plan refl refl refl (worse S x logged plan || (undoing S x logged plan).failed)) letting))))
      (called_not S x logged plan stamping? refl refl refl)
  ends _ _ _ (spoils {made = made} {some = some} {finishing = finishing} {poisoning = poisoning} p r) =
      let q = spoil_quiet r in
      without
      (only_both stampless made ((some ++ poisoning ∷ finishing) ++ release S x) q.0
      (only_both stampless (some ++ poisoning ∷ finishing) (release S x) (only_both stampless some (poisoning ∷ finishing) q.1 q.2) letting))
      (spoil_not stamping? refl refl refl refl r _)
  ends _ _ _ (unstamped p r) =
      partly (record {
        before = after_finish S x logged plan;
        behind = put_poison ∷ release S x;
        quiet = finished;
        still = letting;
        long = finished_long;
        are = ap (λ (m : List Put). after_finish S x logged plan ++ (m ++ put_poison ∷ release S x))
            (take_map (λ (i : ℕ). put_stamp i t) (count S x logged plan 22) changed);
      })

-- a changed stripe is one of the stripes
pub some_below : (S : Store) (ws : List Write) (i : ℕ)
    → Some (λ w. Changes S w × ((k : ℕ) × (HasKey S w.base.0 k ⊎ HasKey S w.new.0 k) × (i ≡ k % stripes))) ws → i < stripes
some_below S [] i h = absurd h
some_below S (w ∷ ws) i h = ⊎_elim (λ k. omega (arith, k.1.2)) (λ k. some_below S ws i k) h

module _ (S : Store) (x : Tx) (logged : Bool) (plan : Schedule) (z : Sized S) where
  -- stamps set at the first m of the changed stripes
  set_stamped : (m : ℕ) (T : Store) → T.stamps ≡ set_all S.stamps (take m (changed_stripes (changes S x))) x.txid.0 → Stamped S x m T
  set_stamped m T e =
      let l = changed_stripes (changes S x) in
      let say = changed_stripes_say S x in
      record {
        changed = l;
        exactly = say;
        stamped = λ i k. ap (λ (g : List ℕ). get_or g i 0) e
            ∙ set_all_there 0 (take m l) S.stamps x.txid.0 i
            (omega (arith, z.stamps, some_below S (finals x) i ((say.members i).0 (mem_take m l i k)))) (λ n. clash k n);
        others = λ i n. ap (λ (g : List ℕ). get_or g i 0) e ∙ set_all_else 0 (take m l) S.stamps x.txid.0 i n;
      }

  all_stamped : (T : Store) → Stamped S x (length (changed_stripes (changes S x))) T
      → T.stamps ≡ set_all S.stamps (changed_stripes (changes S x)) x.txid.0 → AllStamped S x T
  all_stamped T h e =
      let l = changed_stripes (changes S x) in
      let say = changed_stripes_say S x in
      record {
        stamped = λ i c. ap (λ (g : List ℕ). get_or g i 0) e
            ∙ set_all_there 0 l S.stamps x.txid.0 i (omega (arith, z.stamps, some_below S (finals x) i c)) (λ n. clash ((say.members i).1 c) n);
        others = λ i n. ap (λ (g : List ℕ). get_or g i 0) e
            ∙ set_all_else 0 l S.stamps x.txid.0 i (by (memb i l) (λ m. absurd (n ((say.members i).0 m))) (λ m. m));
      }

  -- a whole run
  whole_after : (a : Answer) (ps : List Put) (n : ℕ) → a.store ≡ apply_all ps S → number_of a.refusal ≡ n → Ends S x logged plan ps n
      → StampsAfter S x logged plan a
  whole_after a ps n s e (without q k) =
      let o = or_false (eqb n 0) (eqb n 17) k in
      record {
        done = λ h. clash (eq-eqb n 0 (sym e ∙ h)) o.0;
        failed = λ h. clash (eq-eqb n 17 (sym e ∙ h)) o.1;
        else = λ _ _ _. ap (λ (T : Store). T.stamps) s ∙ stamps_kept ps S q;
      }
  whole_after a ps n s e (clean m) =
      let l = changed_stripes (changes S x) in
      let set = ap (λ (T : Store). T.stamps) s ∙ ap (λ (qs : List Put). (apply_all qs S).stamps) m.are
      ∙ stamps_amid x.txid.0 m.before m.behind (take (length l) l) S m.quiet m.still in
      record {
        done = λ _. all_stamped a.store (set_stamped (length l) a.store set)
            (set ∙ ap (λ (k : List ℕ). set_all S.stamps k x.txid.0) (take-length l));
        failed = λ h. absurd (omega (arith, e, h));
        else = λ h _ _. absurd (h e);
      }
  whole_after a ps n s e (partly m) =
      let l = changed_stripes (changes S x) in
      let k = count S x logged plan 22 in
      let set = ap (λ (T : Store). T.stamps) s ∙ ap (λ (qs : List Put). (apply_all qs S).stamps) m.are
      ∙ stamps_amid x.txid.0 m.before m.behind (take k l) S m.quiet m.still in
      record {
        done = λ h. absurd (omega (arith, e, h));
        failed = λ _. set_stamped k a.store set;
        else = λ _ h _. absurd (h e);
      }

  uncut_after : StampsAfter S x logged plan (uncut S x logged (run_of S x logged plan))
  unfolding uncut
  uncut_after =
      let r = run_of S x logged plan in
      whole_after (uncut S x logged r) r.puts (number_of r.end.refusal) refl refl (ends S x logged plan _ _ _ (outcome S x logged plan))

  -- a refusal that leaves the store as it was
  same_after : (why : Refusal) → stamping? (number_of why) ≡ false → StampsAfter S x logged plan (unchanged S x why)
  same_after why k =
      let o = or_false (eqb (number_of why) 0) (eqb (number_of why) 17) k in
      record {
        done = λ h. clash (eq-eqb (number_of why) 0 h) o.0;
        failed = λ h. clash (eq-eqb (number_of why) 17 h) o.1;
        else = λ _ _ _. refl;
      }

  -- every commit: after 0 each changed stripe's stamp is the txid, after 17 the first k's, k the fault's; all other stamps are as they were
  pub stamps_after : (cut : Cut) → StampsAfter S x logged plan (commit S x logged plan cut)
  unfolding cut_off
  stamps_after cut = every_commit S x logged plan (StampsAfter S x logged plan) cut
      (same_after (NotResting Open) refl) (same_after (Unfit Open) refl) (same_after (NotActive Closed) refl) (λ ok. go cut)
    where
      go : (cut : Cut) → StampsAfter S x logged plan (answer S x logged (run_of S x logged plan) cut)
      go Uncut = uncut_after
      go (After n) = by (ltb n (length (run_of S x logged plan).puts))
          (λ e. rw e (record { done = λ h. absurd (omega (arith, h)); failed = λ h. absurd (omega (arith, h)); else = λ _ _ h. absurd (h refl) }))
          (λ e. rw e uncut_after)

  -- a run cut at n
  cut_within : (n m : ℕ) (ps : List Put) (T : Store) → T ≡ apply_all (take n ps) S → Ends S x logged plan ps m → StampsCut S x logged plan n m T
  cut_within n m ps T s (without q k) =
      let o = or_false (eqb m 0) (eqb m 17) k in
      record {
        done = λ h. clash (eq-eqb m 0 h) o.0;
        failed = λ h. clash (eq-eqb m 17 h) o.1;
        else = λ _ _. ap (λ (T : Store). T.stamps) s ∙ stamps_kept (take n ps) S (only_take stampless n ps q);
      }
  cut_within n m ps T s (clean w) =
      let l = changed_stripes (changes S x) in
      let j = n - stores_to21 S x in
      let set = ap (λ (T : Store). T.stamps) s ∙ ap (λ (qs : List Put). (apply_all (take n qs) S).stamps) w.are
      ∙ stamps_within x.txid.0 w.before w.behind (take (length l) l) S n w.quiet w.still
      ∙ ap (λ (k : List ℕ). set_all S.stamps (take (n - length w.before) k) x.txid.0) (take-length l)
      ∙ ap (λ (b : ℕ). set_all S.stamps (take (n - b) l) x.txid.0) w.long in
      record {
        done = λ _. set_stamped j T set;
        failed = λ h. absurd (omega (arith, h));
        else = λ h _. absurd (h refl);
      }
  cut_within n m ps T s (partly w) =
      let l = changed_stripes (changes S x) in
      let j = n - stores_to21 S x in
      let k = count S x logged plan 22 in
      let set = ap (λ (T : Store). T.stamps) s ∙ ap (λ (qs : List Put). (apply_all (take n qs) S).stamps) w.are
      ∙ stamps_within x.txid.0 w.before w.behind (take k l) S n w.quiet w.still
      ∙ ap (λ (b : ℕ). set_all S.stamps (take (n - b) (take k l)) x.txid.0) w.long in
      record {
        done = λ h. absurd (omega (arith, h));
        failed = λ _. by (leb j k)
            (λ e. let le = leb-true j k e in
            (j, set_stamped j T (set ∙ ap (λ (q : List ℕ). set_all S.stamps q x.txid.0) (take-take j k l le)), omega arith, le, inl refl))
            (λ e. let gt = leb-false j k e in (
              k,
              set_stamped k T (set ∙ ap (λ (q : List ℕ). set_all S.stamps q x.txid.0) (take_all j (take k l) (omega (arith, gt, length-take k l)))),
              omega (arith, gt),
              omega arith,
              inr refl,
            ));
        else = λ _ h. absurd (h refl);
      }

  -- a commit cut at n ("A cut at n happens only if the uncut run makes more than n stores"): the first of them, as many as stores were made beyond 21's
  pub stamps_cut : (n : ℕ) → n < (commit S x logged plan Uncut).stores
      → StampsCut S x logged plan n (number_of (commit S x logged plan Uncut).refusal) (commit S x logged plan (After n)).store
  unfolding uncut cut_off
  stamps_cut n =
      every_commit S x logged plan
      (λ u. n < u.stores → StampsCut S x logged plan n (number_of u.refusal) (commit S x logged plan (After n)).store) Uncut
      (λ h. absurd (omega arith)) (λ h. absurd (omega arith)) (λ h. absurd (omega arith))
      (λ ok h. rw (admitted S x logged plan (After n) ok, lt-ltb n (length (run_of S x logged plan).puts) h)
      (cut_within n (number_of (run_of S x logged plan).end.refusal) (run_of S x logged plan).puts
      (apply_all (take n (run_of S x logged plan).puts) S) refl (ends S x logged plan _ _ _ (outcome S x logged plan))))
