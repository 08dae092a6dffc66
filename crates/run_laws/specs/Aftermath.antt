-- "Numbers seen", the column "Afterwards", for the numbers that a run of commit's steps answers.
use Rattle.std.specs.Prelude.{◌≡◌, Bool, cond, ◌&&◌, ◌||◌, List, [], ◌∷◌, ◌++◌, map, ℕ, length, take, eqb, ltb, leb}
use Rattle.std.proofs.Math.Path.{refl}
use Rattle.std.proofs.Common.{sym, append_assoc}
use Rattle.std.proofs.Math.Bool.{true, false}
use Rattle.records.specs.Limits.{write_limit}
use Rattle.records.specs.Zero.{no_write, only_txid}
use Rattle.basic_laws.specs.Cases.{clash, by, or_right}
use Rattle.rules.specs.Lists.{is_zero, pad}
use Rattle.rules.specs.Types.{Store, Tx, Schedule, Answer, Cut, Uncut, After, Fate, Closed, Undone, Standing, Refusal}
use Rattle.rules.specs.Transaction.{finals, no_writes, no_accesses, emptied}
use Rattle.rules.specs.Admitted.{resting}
use Rattle.rules.specs.Numbers.{number_of, fate_in, fate, is_done}
use Rattle.rules.specs.Puts.{Put, k_stripe, k_partition, k_drop, k_poison, k_doom, is, put_stripe}
use Rattle.rules.specs.Puts.{put_partition, put_drop, put_poison, put_doom, apply, apply_all, abort_puts}
use Rattle.rules.specs.Changes.{changes, guarded_stripes, guarded_partitions, index_guards, partition_guards, release, stamping}
use Rattle.rules.specs.Commit.{End, Clean, poison, fails, count, finish, abort_or_poison, run_of}
use Rattle.rules.specs.Answer.{record_of, no_record, uncut, cut_off, answer, commit}
use Rattle.run_laws.specs.OnlyKinds.{only, only_both, only_map, only_if, kept, is_not}
use Rattle.run_laws.specs.GuardPuts.{apply_all_append}
use Rattle.run_laws.specs.Outcome.{after_finish, aborting, Abort, unprepared, panicked, busy, conflict, unhealthy, Spoil, unremoved, unpublished}
use Rattle.run_laws.specs.Outcome.{unrecycled, unfinished, Outcome, done, stays, aborts, uninserted, uncalled, spoils, unstamped, outcome}
use Rattle.statements.specs.Words.{Admitted}
use Rattle.run_laws.specs.FirstRows.{every_commit, whole, stay_not, abort_not, called_not, spoil_not, given_back}

-- once poisoned, poisoned
stays_poisoned : (ps : List Put) (S : Store) → S.poisoned ≡ true → (apply_all ps S).poisoned ≡ true
stays_poisoned [] S h = h
stays_poisoned (p ∷ ps) S h = stays_poisoned ps (apply p S) (or_right (is p k_poison) _ (or_right (is p k_doom) S.poisoned h))

-- a poison somewhere among the puts
poisoned_by : (ps : List Put) (p : Put) (qs : List Put) (S : Store) → (is p k_poison || is p k_doom) ≡ true → (apply_all (ps ++ p ∷ qs) S).poisoned ≡ true
poisoned_by ps p qs S h =
    rw (apply_all_append ps (p ∷ qs) S)
    (stays_poisoned qs (apply p (apply_all ps S)) (by (is p k_poison) (λ e. rw e) (λ e. rw (e, rw e at h))))

-- a doom followed by guards and the finish alone
abbrev pub closing : List ℕ
closing = k_stripe ∷ k_partition ∷ k_drop ∷ []

doomed_by : (ps : List Put) (t : ℕ) (qs : List Put) (S : Store) → only closing qs ≡ true → (apply_all (ps ++ put_doom t ∷ qs) S).doomed ≡ t
doomed_by ps t qs S h =
    rw (apply_all_append ps (put_doom t ∷ qs) S)
    (kept (λ T. T.doomed) closing (λ p T m. rw (is_not closing k_doom refl p m)) qs (apply (put_doom t) (apply_all ps S)) h)

module _ (S : Store) (x : Tx) (logged : Bool) (plan : Schedule) where
  -- row 0: "lists emptied, txid kept"; the record names the transaction and its final writes
  only_emptied : (n : ℕ) (ps : List Put) (d : End) → Outcome S x logged plan n ps d → is_zero (number_of d.refusal) ≡ true → d.tx ≡ emptied x
  only_emptied _ _ _ (done p) h = refl
  only_emptied _ _ _ (stays l t k) h = clash h (stay_not is_zero refl refl k _)
  only_emptied _ _ _ (aborts l t k) h = clash h (abort_not is_zero refl refl refl refl refl k)
  only_emptied _ _ _ (uninserted p k) h = clash h refl
  only_emptied _ _ _ (uncalled p l k) h = clash h (called_not S x logged plan is_zero refl refl refl)
  only_emptied _ _ _ (spoils p k) h = clash h (spoil_not is_zero refl refl refl refl k _)
  only_emptied _ _ _ (unstamped p k) h = clash h refl

  pub row_0 : (cut : Cut) → Admitted S x plan → let a = commit S x logged plan cut in
      is_done a.refusal ≡ true
      → (a.tx ≡ emptied x)
      × (a.«record» ≡ record { txid = x.txid; writes = pad write_limit no_write (finals x); count = length (finals x) })
  unfolding uncut record_of
  row_0 cut ok h =
      let u = whole S x logged plan cut ok is_zero refl h in
      let z = rw u at h in
      rw u (only_emptied _ _ _ (outcome S x logged plan) z, rw z)

  -- 5, 6, 7 and 9: what the abort leaves, guards given back
  abort_fate : {kind failed : Fate → Refusal} {found preparing : Bool} → Abort S x logged plan kind failed found preparing → (b : Bool) (f : Fate)
      → fate_in (cond b failed kind f) ≡ f
  abort_fate (unprepared h) true f = refl
  abort_fate (unprepared h) false f = refl
  abort_fate (panicked h) true f = refl
  abort_fate (panicked h) false f = refl
  abort_fate (busy b h) true f = refl
  abort_fate (busy b h) false f = refl
  abort_fate (conflict b h) true f = refl
  abort_fate (conflict b h) false f = refl
  abort_fate (unhealthy h) true f = refl
  abort_fate (unhealthy h) false f = refl

  abbrev pub abort_number : ℕ → Bool
  abort_number n = eqb n 5 || (eqb n 6 || (eqb n 7 || eqb n 9))

  abbrev pub cleaned : Clean
  cleaned = aborting S x logged plan

  only_aborts : (n : ℕ) (ps : List Put) (d : End) → resting S ≡ true → Outcome S x logged plan n ps d → abort_number (number_of d.refusal) ≡ true
      → (apply_all ps S ≡ apply_all cleaned.puts S) × (d.tx ≡ cleaned.tx) × (fate_in d.refusal ≡ fate cleaned.failed true)
  only_aborts _ _ _ r (done p) h = clash h refl
  only_aborts _ _ _ r (stays l t k) h = clash h (stay_not abort_number refl refl k _)
  only_aborts _ _ _ r (aborts {taken = taken} {back = back} l t k) h = (
    rw (sym (append_assoc taken back cleaned.puts), apply_all_append (taken ++ back) cleaned.puts S, given_back S x logged plan r t),
    refl,
    abort_fate k cleaned.failed _,
  )
  only_aborts _ _ _ r (uninserted p k) h = clash h refl
  only_aborts _ _ _ r (uncalled p l k) h = clash h (called_not S x logged plan abort_number refl refl refl)
  only_aborts _ _ _ r (spoils p k) h = clash h (spoil_not abort_number refl refl refl refl k _)
  only_aborts _ _ _ r (unstamped p k) h = clash h refl

  module _ (cut : Cut) (ok : Admitted S x plan) where
    abbrev pub A : Answer
    A = commit S x logged plan cut

    aborted : abort_number (number_of A.refusal) ≡ true
        → (A.store ≡ apply_all cleaned.puts S) × (A.tx ≡ cleaned.tx) × (fate_in A.refusal ≡ fate cleaned.failed true)
    unfolding uncut
    aborted h =
        let u = whole S x logged plan cut ok abort_number refl h in
        rw u (only_aborts _ _ _ ok.rests (outcome S x logged plan) (rw u at h))

    -- "aborted": the txid's off-chain slots freed, the txid dropped, the transaction zero but for its txid; "closed .. where the transaction was aborted"
    pub row_aborted : abort_number (number_of A.refusal) ≡ true → fails S x logged plan 23 ≡ false
        → (A.store ≡ apply_all (abort_puts S x.txid.0) S) × (A.tx ≡ only_txid x.txid.0) × (fate_in A.refusal ≡ Closed)
    unfolding abort_or_poison
    row_aborted h f = rw f at (aborted h)

    -- a fault at 23: the store poisoned and nothing else changed, the transaction as it was; "poisoned and undone .. even a poisoned store"
    pub row_abort_failed : abort_number (number_of A.refusal) ≡ true → fails S x logged plan 23 ≡ true
        → (A.store ≡ apply_all (poison S.poisoned) S) × (A.tx ≡ x) × (fate_in A.refusal ≡ Undone)
    unfolding abort_or_poison
    row_abort_failed h f = rw f at (aborted h)

  -- 13 to 17: poisoned; 14, 15 and 16 doomed besides
  let_go : only closing (release S x) ≡ true
  unfolding release partition_guards index_guards
  let_go =
      only_both closing (map (λ i. put_partition i 0) (guarded_partitions x)) (map (λ i. put_stripe i 0) (guarded_stripes (changes S x) x))
      (only_map closing (λ i. put_partition i 0) (guarded_partitions x) (λ i. refl))
      (only_map closing (λ i. put_stripe i 0) (guarded_stripes (changes S x) x) (λ i. refl))

  finished_then : only closing (finish S x logged plan ++ release S x) ≡ true
  finished_then =
      only_both closing (finish S x logged plan) (release S x) (only_if closing (fails S x logged plan 21) [] (put_drop x.txid.0 ∷ []) refl refl) let_go

  -- what a number of 13 to 17 leaves: the transaction, the fate, and whether the txid is doomed
  pub record Left (n : ℕ) (T : Store) (y : Tx) (f : Fate) : Type 0 where
    pub poisoned : T.poisoned ≡ true
    pub doomed : (eqb n 14 || (eqb n 15 || eqb n 16)) ≡ true → T.doomed ≡ x.txid.0
    pub lists : y ≡ cond (eqb n 13) x (cond (eqb n 14) (no_accesses x) (cond (eqb n 15) (no_writes x) (emptied x)))
    pub fate : f ≡ cond (eqb n 17) Standing Undone

  -- the poison in the middle
  around : (made some : List Put) (p : Put) (finishing : List Put)
      → made ++ (some ++ p ∷ finishing ++ release S x) ≡ (made ++ some) ++ p ∷ (finishing ++ release S x)
  around made some p finishing = simp append_assoc

  spoiled : {n : ℕ} {made some finishing : List Put} {poisons : Put} {kind : Fate → Refusal} {y : Tx} {drops : Bool}
      → Spoil S x logged plan n made some poisons finishing kind y drops
      → Left (number_of (kind Undone)) (apply_all (made ++ (some ++ poisons ∷ finishing ++ release S x)) S) y (fate_in (kind Undone))
  spoiled {made = made} {some = some} (unremoved k) = record {
    poisoned = rw (around made some put_poison []) (poisoned_by (made ++ some) put_poison (release S x) S refl);
    doomed = λ h. clash {b = false} h refl;
    lists = refl;
    fate = refl;
  }
  spoiled {made = made} {some = some} (unpublished k) = record {
    poisoned = rw (around made some (put_doom x.txid.0) (finish S x logged plan)) (poisoned_by (made ++ some) (put_doom x.txid.0) _ S refl);
    doomed = λ h. rw (around made some (put_doom x.txid.0) (finish S x logged plan)) (doomed_by (made ++ some) x.txid.0 _ S finished_then);
    lists = refl;
    fate = refl;
  }
  spoiled {made = made} {some = some} (unrecycled k) = record {
    poisoned = rw (around made some (put_doom x.txid.0) (finish S x logged plan)) (poisoned_by (made ++ some) (put_doom x.txid.0) _ S refl);
    doomed = λ h. rw (around made some (put_doom x.txid.0) (finish S x logged plan)) (doomed_by (made ++ some) x.txid.0 _ S finished_then);
    lists = refl;
    fate = refl;
  }
  spoiled {made = made} (unfinished k) = record {
    poisoned = poisoned_by made (put_doom x.txid.0) (release S x) S refl;
    doomed = λ h. doomed_by made x.txid.0 (release S x) S let_go;
    lists = refl;
    fate = refl;
  }

  abbrev pub late : ℕ → Bool
  late n = leb 13 n && leb n 17

  only_left : (n : ℕ) (ps : List Put) (d : End) → Outcome S x logged plan n ps d → late (number_of d.refusal) ≡ true
      → Left (number_of d.refusal) (apply_all ps S) d.tx (fate_in d.refusal)
  only_left _ _ _ (done p) h = clash h refl
  only_left _ _ _ (stays l t k) h = clash h (stay_not late refl refl k _)
  only_left _ _ _ (aborts l t k) h = clash h (abort_not late refl refl refl refl refl k)
  only_left _ _ _ (uninserted p k) h = clash h refl
  only_left _ _ _ (uncalled p l k) h = clash h (called_not S x logged plan late refl refl refl)
  only_left _ _ _ (spoils p k) h = spoiled k
  only_left _ _ _ (unstamped p k) h = record {
    poisoned =
        rw (sym (append_assoc (after_finish S x logged plan) (take (count S x logged plan 22) (stamping S x)) (put_poison ∷ release S x)))
        (poisoned_by (after_finish S x logged plan ++ take (count S x logged plan 22) (stamping S x)) put_poison (release S x) S refl);
    doomed = λ h. clash {b = false} h refl;
    lists = refl;
    fate = refl;
  }

  -- rows 13 to 17
  pub row_13_17 : (cut : Cut) → Admitted S x plan → let a = commit S x logged plan cut in
      late (number_of a.refusal) ≡ true → Left (number_of a.refusal) a.store a.tx (fate_in a.refusal)
  unfolding uncut
  row_13_17 cut ok h =
      let u = whole S x logged plan cut ok late refl h in
      rw u (only_left _ _ _ (outcome S x logged plan) (rw u at h))

  -- "The record is zero unless 0", on every commit
  abbrev pub Recordless : Answer → Type 0
  Recordless a = is_done a.refusal ≡ false → a.«record» ≡ no_record

  recordless : (cut : Cut) → Recordless (answer S x logged (run_of S x logged plan) cut)
  unfolding uncut record_of cut_off
  recordless Uncut h = rw h
  recordless (After n) h = go (ltb n (length (run_of S x logged plan).puts)) h
    where
      go : (b : Bool) → Recordless (cond b (cut_off S (run_of S x logged plan) n) (uncut S x logged (run_of S x logged plan)))
      go true k = refl
      go false k = rw k

  pub row_record : (cut : Cut) → Recordless (commit S x logged plan cut)
  row_record cut = every_commit S x logged plan Recordless cut (λ h. refl) (λ h. refl) (λ h. refl) (λ ok. recordless cut)
