-- Every stamp is 0 or the txid of a transaction that is over: every call keeps this, whatever it is given and answers, and wherever a commit is cut.
use Rattle.std.specs.Prelude.{◌≡◌, Bool, true, not, ◌||◌, ◌⊎◌, ℕ, zero, suc, ◌<◌, length, get_or, set, eqb, ltb}
use Rattle.std.proofs.Math.Path.{refl, subst}
use Rattle.std.proofs.Common.{sym, ap, ◌∙◌, arith, length-set, get_or-set_same, get_or-set_other, eqb-true, eq-eqb, ne_eqb, ltb-true, ltb-false}
use Rattle.std.proofs.Math.Bool.{false, cond}
use mathlib.Core.List.{List, [], ◌∷◌, ◌++◌, map, append_assoc}
use Rattle.std.proofs.Math.Logic.{inl, inr, ⊎_elim}
use Rattle.std.proofs.Math.ListN.{take, get_or-eq_default}
use Rattle.std.proofs.lemmas.Bool.{eqb-false}
use Rattle.records.specs.Limits.{stripes, active_limit}
use Rattle.records.specs.Zero.{empty_store}
use Rattle.rules.specs.Lists.{memb, without, pad, before_zero}
use Rattle.rules.specs.Types.{Store, Tx, Schedule, Cut, Uncut, After, Value, Absent, Key, Fate, Refusal, Reply}
use Rattle.rules.specs.Store.{active_txids}
use Rattle.rules.specs.Puts.{Put, k_stripe, k_partition, k_insert, k_remove, k_xmax, k_head, k_free, k_drop, k_stamp, k_poison, k_doom, k_enter, k_clock}
use Rattle.rules.specs.Puts.{k_xmin, k_next, k_key, k_lock, is, put_stamp, put_drop, put_poison, put_doom, put_lock, take_slot, abort_puts, apply, apply_all}
use Rattle.rules.specs.Changes.{changes, destinations, changed_stripes, release, insertions, removals, publication, recycling, stamping}
use Rattle.rules.specs.Commit.{End, count, finish, run_of}
use Rattle.rules.specs.Admitted.{repairable}
use Rattle.rules.specs.Numbers.{number_of}
use Rattle.rules.specs.Calls.{begin, lowest_free, base_of, write, row_lock, abort}
use Rattle.rules.specs.Recovery.{recovered, recover}
use Rattle.rules.specs.Answer.{uncut, cut_off, answer, commit}
use Rattle.basic_laws.specs.Cases.{by, and_true, and_false, or_false}
use Rattle.basic_laws.specs.Rising.{mem_without}
use Rattle.run_laws.specs.OnlyKinds.{only, only_both, only_take, only_if, is_not}
use Rattle.run_laws.specs.Kinds.{taken_kinds, release_kinds, insertions_kind, removals_kind, publication_kinds}
use Rattle.run_laws.specs.Kinds.{recycling_kind, abort_kinds, cleaning_kinds, rollback_kinds, finish_kind}
use Rattle.run_laws.specs.Outcome.{guards_taken, after_insert, after_remove, after_publish, after_recycle, after_finish}
use Rattle.run_laws.specs.Outcome.{aborting, rolling_back, worse, undoing, aborting_late, Spoil, unremoved, unpublished, unrecycled}
use Rattle.run_laws.specs.Outcome.{unfinished, Outcome, done, stays, aborts, uninserted, uncalled, spoils, unstamped, outcome}
use Rattle.run_laws.specs.FirstRows.{every_commit}
use Rattle.posting_laws.specs.Undone.{take_map}
use Rattle.admitted_laws.specs.Resting.{rests}
use Rattle.recovery_laws.specs.Along.{To, to_take, to_end, to_then}
use Rattle.recovery_laws.specs.ArraysKept.{blanks}
use Rattle.recovery_laws.specs.PutBlocks.{guards_kinds, insert_kinds, remove_kinds}
use Rattle.statements.specs.Sized.{Sized}
use Rattle.statements.specs.ShowWords.{Stamped}
use Rattle.sentences.specs.Refusals.{begin_refused, begin_accepted, write_refused, write_accepted, row_lock_refused, row_lock_accepted}
use Rattle.sentences.specs.Refusals.{abort_refused, abort_accepted}
use Rattle.call_laws.specs.BeginLaws.{mem_more, begin_begins}
use Rattle.sentences.specs.FirstLine.{either}

-- t is over: handed out, and no longer active
abbrev pub Over : Store → ℕ → Type 0
Over S t = (t < S.clock) × (memb t (active_txids S.active) ≡ false)

-- what is laid out and read back has no other members
laid_out : (n t : ℕ) (l : List ℕ) → memb t l ≡ false → memb t (before_zero (pad n 0 l)) ≡ false
laid_out zero t l m = refl
laid_out (suc n) t [] m = refl
laid_out (suc n) t (y ∷ l) m =
    let o = or_false (eqb t y) (memb t l) m in
    by (eqb y 0) (λ e. rw e) (λ e. rw (e, o.0) (laid_out n t l o.1))

-- the kinds that neither stamp, nor enter a txid, nor set the clock
abbrev plain : List ℕ
plain = k_stripe ∷ k_partition ∷ k_insert ∷ k_remove ∷ k_xmax ∷ k_head ∷ k_free ∷ k_drop ∷ k_poison ∷ k_doom ∷ k_xmin ∷ k_next ∷ k_key ∷ k_lock ∷ []

-- such a put leaves what is over over
over_put : (p : Put) (X : Store) (t : ℕ) → memb p.kind plain ≡ true → Over X t → Over (apply p X) t
over_put p X t m o = (rw (is_not plain k_clock refl p m) o.0, rw (is_not plain k_enter refl p m) (go (is p k_drop)))
  where
    go : (b : Bool) → memb t (active_txids (cond (b || false) (pad active_limit 0 (without p.val (active_txids X.active))) X.active)) ≡ false
    go true = laid_out active_limit t (without p.val (active_txids X.active))
        (mem_without p.val (active_txids X.active) t ∙ rw o.1 (and_false (not (eqb t p.val))))
    go false = o.1

-- and so the stamps
stamped_put : (p : Put) (X : Store) → memb p.kind plain ≡ true → Stamped X → Stamped (apply p X)
stamped_put p X m s i =
    let same : (apply p X).stamps ≡ X.stamps = rw (is_not plain k_stamp refl p m) in
    rw same (⊎_elim (λ e. inl e) (λ o. inr (over_put p X (get_or X.stamps i 0) m o)) (s i))

-- a stamp of a txid that is over keeps them too
stamp_put : (i t : ℕ) (X : Store) → Stamped X → Over X t → Stamped (apply (put_stamp i t) X)
stamp_put i t X s o j = by (eqb j i)
    (λ e. rw (eqb-true j i e) (here X.stamps))
    (λ e. rw (get_or-set_other X.stamps i j t 0 (eqb-false j i e)) (s j))
  where
    here : (l : List ℕ) → (get_or (set l i t) i 0 ≡ 0) ⊎ ((get_or (set l i t) i 0 < X.clock) × (memb (get_or (set l i t) i 0) (active_txids X.active) ≡ false))
    here l = by (ltb i (length l))
        (λ e. rw (get_or-set_same l i t 0 (ltb-true i (length l) e)) (inr o))
        (λ e. inl (get_or-eq_default (set l i t) 0 (omega (arith, ltb-false i (length l) e, length-set l i t))))

-- along puts of those kinds
along_plain : (ps : List Put) (X : Store) → only plain ps ≡ true → Stamped X → To Stamped Stamped ps X
along_plain [] X o s = (s, s)
along_plain (p ∷ ps) X o s =
    let a = and_true (memb p.kind plain) (only plain ps) o in
    (s, along_plain ps (apply p X) a.1 (stamped_put p X a.0 s))

-- with t over all the way
abbrev Past : ℕ → Store → Type 0
Past t X = Stamped X × Over X t

past_plain : (t : ℕ) (ps : List Put) (X : Store) → only plain ps ≡ true → Past t X → To Stamped (Past t) ps X
past_plain t [] X o s = (s.0, s)
past_plain t (p ∷ ps) X o s =
    let a = and_true (memb p.kind plain) (only plain ps) o in
    (s.0, past_plain t ps (apply p X) a.1 (stamped_put p X a.0 s.0, over_put p X t a.0 s.1))

past_stamps : (t : ℕ) (is : List ℕ) (X : Store) → Past t X → To Stamped (Past t) (map (λ i. put_stamp i t) is) X
past_stamps t [] X s = (s.0, s)
past_stamps t (i ∷ is) X s = (s.0, past_stamps t is (apply (put_stamp i t) X) (stamp_put i t X s.0 s.1, s.1))

-- a dropped txid is over, if it was handed out
drop_over : (t : ℕ) (X : Store) → t < X.clock → Over (apply (put_drop t) X) t
drop_over t X lt = (
  lt,
  laid_out active_limit t (without t (active_txids X.active))
      (mem_without t (active_txids X.active) t ∙ rw (eq-eqb t t refl)),
)

module _ (S : Store) (x : Tx) (logged : Bool) (plan : Schedule) (s : Stamped S) where
  abbrev t : ℕ
  t = x.txid.0

  abbrev Plain : List Put → Type 0
  Plain ps = only plain ps ≡ true

  abbrev and_then : (ps qs : List Put) → Plain ps → Plain qs → Plain (ps ++ qs)
  and_then ps qs a b = only_both plain ps qs a b

  let_go : Plain (release S x)
  let_go = release_kinds plain refl refl S x

  to_15 : Plain (after_insert S x logged plan)
  to_15 = insert_kinds plain refl refl S x logged plan refl

  to_17 : Plain (after_remove S x logged plan)
  to_17 = remove_kinds plain refl refl S x logged plan refl refl

  to_18 : Plain (after_publish S x logged plan)
  to_18 = and_then (after_remove S x logged plan) (publication x) to_17 (publication_kinds plain S x refl refl)

  to_19 : Plain (after_recycle S x logged plan)
  to_19 = and_then (after_publish S x logged plan) (recycling S x) to_18 (recycling_kind plain S x refl)

  spoiling : (made some finishing : List Put) → Plain made → Plain some → Plain finishing → Plain (made ++ (some ++ finishing ++ release S x))
  spoiling made some finishing a b c =
      and_then made (some ++ finishing ++ release S x) a (and_then (some ++ finishing) (release S x) (and_then some finishing b c) let_go)

  doomed : Plain (put_doom t ∷ finish S x logged plan)
  doomed = finish_kind plain S x logged plan refl

  spoiled : {n : ℕ} {made some ending : List Put} {poisons : Put} {kind : Fate → Refusal} {y : Tx} {drops : Bool}
      → Spoil S x logged plan n made some poisons ending kind y drops
      → Plain (made ++ (some ++ poisons ∷ ending ++ release S x))
  spoiled (unremoved k) =
      let n = count S x logged plan 17 in
      spoiling (after_insert S x logged plan) (take n (removals S x)) (put_poison ∷ []) to_15
      (only_take plain n (removals S x) (removals_kind plain S x refl)) refl
  spoiled (unpublished k) =
      let n = count S x logged plan 18 in
      spoiling (after_remove S x logged plan) (take n (publication x)) (put_doom t ∷ finish S x logged plan) to_17
      (only_take plain n (publication x) (publication_kinds plain S x refl refl)) doomed
  spoiled (unrecycled k) =
      let n = count S x logged plan 19 in
      spoiling (after_publish S x logged plan) (take n (recycling S x)) (put_doom t ∷ finish S x logged plan) to_18
      (only_take plain n (recycling S x) (recycling_kind plain S x refl)) doomed
  spoiled (unfinished k) = spoiling (after_recycle S x logged plan) [] (put_doom t ∷ []) to_19 refl refl

  -- past step 21 the txid is over, and may be stamped
  past_21 : t < S.clock → (ps qs : List Put) → ((X : Store) → Past t X → To Stamped (Past t) ps X) → Plain qs
      → To Stamped Stamped (after_finish S x logged plan ++ (ps ++ qs)) S
  past_21 lt ps qs h o =
      to_then Stamped (Past t) Stamped (after_finish S x logged plan) (ps ++ qs) S
      (to_then Stamped (λ X. Stamped X × (t < X.clock)) (Past t) (after_recycle S x logged plan) (put_drop t ∷ []) S
      (clocked (after_recycle S x logged plan) S to_19 s lt)
      (λ X k. let n = stamped_put (put_drop t) X refl k.0 in (k.0, (n, (n, drop_over t X k.1)))))
      (λ X k. to_then Stamped (Past t) Stamped ps qs X (h X k) (λ Y l. along_plain qs Y o l.0))
    where
      clocked : (ps : List Put) (X : Store) → Plain ps → Stamped X → t < X.clock → To Stamped (λ Y. Stamped Y × (t < Y.clock)) ps X
      clocked [] X o s lt = (s, (s, lt))
      clocked (p ∷ ps) X o s lt =
          let a = and_true (memb p.kind plain) (only plain ps) o in
          (s, clocked ps (apply p X) a.1 (stamped_put p X a.0 s) (rw (is_not plain k_clock refl p a.0) lt))

  along : t < S.clock → {n : ℕ} {ps : List Put} {d : End} → Outcome S x logged plan n ps d → To Stamped Stamped ps S
  unfolding stamping
  along lt (done p) = rw (append_assoc (after_finish S x logged plan) (stamping S x) (release S x))
      (past_21 lt (stamping S x) (release S x) (past_stamps t (changed_stripes (changes S x))) let_go)
  along lt (stays {taken = taken} {back = back} l h k) =
      let c = guards_kinds plain refl refl S x logged plan h in
      along_plain (taken ++ back) S (and_then taken back c.0 c.1) s
  along lt (aborts {taken = taken} {back = back} l h k) =
      let c = guards_kinds plain refl refl S x logged plan h in
      let late = (aborting S x logged plan).puts in
      along_plain (taken ++ (back ++ late)) S
      (and_then taken (back ++ late) c.0 (and_then back late c.1 (cleaning_kinds plain S x logged plan refl refl refl S.poisoned))) s
  along lt (uninserted p k) =
      let n = count S x logged plan 15 in
      let some = take n (insertions S x) in
      let back = (rolling_back S x logged plan).puts in
      along_plain (guards_taken S x logged plan ++ (some ++ (back ++ release S x))) S
      (and_then (guards_taken S x logged plan) (some ++ (back ++ release S x)) (taken_kinds plain refl refl S x logged plan)
      (and_then some (back ++ release S x) (only_take plain n (insertions S x) (insertions_kind plain S x refl))
      (and_then back (release S x) (rollback_kinds plain S x logged plan refl refl false (take n (destinations (changes S x)))) let_go))) s
  along lt (uncalled p l k) =
      let bad = worse S x logged plan in
      let worsens = cond bad (put_poison ∷ []) [] in
      let back = (undoing S x logged plan).puts in
      let late = (aborting_late S x logged plan).puts in
      along_plain (after_insert S x logged plan ++ (worsens ++ (back ++ (late ++ release S x)))) S
      (and_then (after_insert S x logged plan) (worsens ++ (back ++ (late ++ release S x))) to_15
      (and_then worsens (back ++ (late ++ release S x)) (only_if plain bad (put_poison ∷ []) [] refl refl)
      (and_then back (late ++ release S x) (rollback_kinds plain S x logged plan refl refl bad (destinations (changes S x)))
      (and_then late (release S x) (cleaning_kinds plain S x logged plan refl refl refl (bad || (undoing S x logged plan).failed)) let_go)))) s
  along lt (spoils {made = made} {some = some} {finishing = finishing} {poisoning = poisoning} p k) =
      along_plain (made ++ (some ++ poisoning ∷ finishing ++ release S x)) S (spoiled k) s
  along lt (unstamped p k) =
      let n = count S x logged plan 22 in
      past_21 lt (take n (stamping S x)) (put_poison ∷ release S x)
      (λ X h. subst (λ (ps : List Put). To Stamped (Past t) ps X) (sym (take_map (λ i. put_stamp i t) n (changed_stripes (changes S x))))
      (past_stamps t (take n (changed_stripes (changes S x))) X h))
      let_go

  -- after any number of a commit's stores, so after every commit and cut
  pub commit_stamped : Sized S → (cut : Cut) → Stamped (commit S x logged plan cut).store
  unfolding uncut cut_off
  commit_stamped z cut = every_commit S x logged plan (λ a. Stamped a.store) cut s s s (λ ok.
      let R = rests S z ok.rests in
      go cut (along (R.1.mends.listed.past t ok.active) (outcome S x logged plan)))
    where
      go : (c : Cut) → To Stamped Stamped (run_of S x logged plan).puts S → Stamped (answer S x logged (run_of S x logged plan) c).store
      go Uncut h = to_end Stamped Stamped (run_of S x logged plan).puts S h
      go (After n) h = by (ltb n (length (run_of S x logged plan).puts))
          (λ e. rw e (to_take Stamped Stamped (run_of S x logged plan).puts S n h))
          (λ e. rw e (to_end Stamped Stamped (run_of S x logged plan).puts S h))

-- RECOVERY AND THE CALLS BESIDE COMMIT

-- puts of those kinds, one after the other
plain_stamped : (ps : List Put) (S : Store) → only plain ps ≡ true → Stamped S → Stamped (apply_all ps S)
plain_stamped ps S o s = to_end Stamped Stamped ps S (along_plain ps S o s)

module _ (S : Store) (s : Stamped S) where
  -- recovery empties the active list
  pub recover_stamped : Stamped (recover S).store
  unfolding recover recovered
  recover_stamped = by (repairable S) (λ e. rw e (λ i. ⊎_elim (λ z. inl z) (λ (o : Over S (get_or S.stamps i 0)). inr (o.0, refl)) (s i))) (λ e. rw e s)

  -- begin enters the clock, which no stamp has reached
  pub begin_stamped : Sized S → Stamped (begin S).store
  begin_stamped z = either (number_of (begin S).refusal)
      (λ h i. let B = begin_begins S z h in
      rw (B.active, B.risen, ap (λ (a : Reply). a.store.stamps) (begin_accepted S h))
      (⊎_elim (λ z. inl z) (λ (o : Over S (get_or S.stamps i 0)). let t = get_or S.stamps i 0 in
      inr (omega (arith, o.0), rw (mem_more (active_txids S.active) S.clock t, o.1, ne_eqb t S.clock (λ e. omega (arith, e, o.0))))) (s i)))
      (λ n. rw (begin_refused S n) s)

  -- write, row lock and abort stamp nothing
  pub write_stamped : (x : Tx) (r : ℕ) (v : Value) → Stamped (write S x r v).store
  write_stamped x r v = either (number_of (write S x r v).refusal)
      (λ h. rw (write_accepted S x r v h) (go v))
      (λ n. rw (write_refused S x r v n) s)
    where
      go : (w : Value) → Stamped (apply_all (take_slot (lowest_free S.xmin) x.txid.0 (base_of S x r) w) S)
      go Absent = plain_stamped (take_slot (lowest_free S.xmin) x.txid.0 (base_of S x r) Absent) S refl s
      go (Key k) = plain_stamped (take_slot (lowest_free S.xmin) x.txid.0 (base_of S x r) (Key k)) S refl s

  pub row_lock_stamped : (x : Tx) (r : ℕ) → Stamped (row_lock S x r).store
  row_lock_stamped x r = either (number_of (row_lock S x r).refusal)
      (λ h. rw (row_lock_accepted S x r h) (plain_stamped (put_lock (get_or S.heads r 0) x.txid.0 ∷ []) S refl s))
      (λ n. rw (row_lock_refused S x r n) s)

  pub abort_stamped : (x : Tx) → Stamped (abort S x).store
  abort_stamped x = either (number_of (abort S x).refusal)
      (λ h. rw (abort_accepted S x h) (plain_stamped (abort_puts S x.txid.0) S (abort_kinds plain refl refl S x.txid.0) s))
      (λ n. rw (abort_refused S x n) s)

-- the empty store has no stamp
pub empty_stamped : (b : Bool) → Stamped (empty_store b)
unfolding empty_store
empty_stamped b i = inl (blanks 0 stripes i)
