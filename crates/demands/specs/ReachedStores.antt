-- Every store that the calls reach from the empty one can be recovered, and then shows the value of each row's first finished version.
use Rattle.std.specs.Prelude.{◌≡◌, refl, Bool, true, List, [], ◌∷◌, ℕ, zero, suc, ◌<◌, length, get_or, set, take, eqb, ltb}
use Rattle.std.proofs.Common.{arith, ltb-true, lt-ltb}
use Rattle.std.proofs.Math.Seq.{take-length}
use Rattle.records.specs.Limits.{key_end}
use Rattle.records.specs.Zero.{empty_store}
use Rattle.rules.specs.Lists.{all, keep}
use Rattle.rules.specs.Types.{Store, Tx, Schedule, Cut, Uncut, After, Value, Absent, Key}
use Rattle.rules.specs.Numbers.{number_of}
use Rattle.rules.specs.Puts.{Put, take_slot, abort_puts, apply_all}
use Rattle.rules.specs.Calls.{begin, lowest_free, base_of, write, row_lock, abort}
use Rattle.rules.specs.Recovery.{recovered, recover}
use Rattle.rules.specs.Commit.{run_of}
use Rattle.rules.specs.Answer.{uncut, cut_off, answer, commit}
use Rattle.rules.specs.Computing.{computing}
use Rattle.basic_laws.specs.Cases.{by, and_true, and_both}
use Rattle.basic_laws.specs.AllOf.{all_get}
use Rattle.basic_laws.specs.Members.{at_all}
use Rattle.basic_laws.specs.TestParts.{resting_parts}
use Rattle.run_laws.specs.OnlyKinds.{only}
use Rattle.run_laws.specs.Kinds.{abort_kinds}
use Rattle.run_laws.specs.FirstRows.{every_commit}
use Rattle.recovery_laws.specs.Sizes.{sized_all}
use Rattle.recovery_laws.specs.EveryStore.{counted, keys_kept}
use Rattle.recovery_laws.specs.Recovering.{recovery}
use Rattle.recovery_laws.specs.Prefix.{prefix}
use Rattle.recovery_laws.specs.Cuts.{recover_done, keyed_run}
use Rattle.sentences.specs.Refusals.{begin_refused, begin_accepted, write_refused, write_accepted, row_lock_refused, row_lock_accepted}
use Rattle.sentences.specs.Refusals.{abort_refused, abort_accepted}
use Rattle.call_laws.specs.Passed.{begin_passed, write_passed, row_lock_passed, abort_passed}
use Rattle.sentences.specs.FirstLine.{either}
use Rattle.sentences.specs.StoreSays.{empty_store_law}
use Rattle.call_laws.specs.Always.{Stays, begin_stays, write_stays, row_lock_stays, abort_stays}
use Rattle.call_laws.specs.StampsKept.{empty_stamped, begin_stamped, write_stamped, row_lock_stamped, abort_stamped, commit_stamped, recover_stamped}
use Rattle.statements.specs.Sized.{SizedTx, Keyed}
use Rattle.statements.specs.Words.{Admitted}
use Rattle.statements.specs.ShowWords.{Stamped, Reached, empty, begun, written, locked, aborted, committed, Sound, ReachedShows}
use Rattle.demands.specs.Shows.{recovered_shows}

-- the keys stay below their end: one set, some blanked, those of a run's kinds of stores
keyed_set : (p k : ℕ) (l : List ℕ) → k < key_end → all (λ c. ltb c key_end) l ≡ true → all (λ c. ltb c key_end) (set l p k) ≡ true
keyed_set p k [] lt h = refl
keyed_set zero k (c ∷ l) lt h = rw (lt-ltb k key_end lt) (and_true (ltb c key_end) (all (λ c. ltb c key_end) l) h).1
keyed_set (suc p) k (c ∷ l) lt h =
    let a = and_true (ltb c key_end) (all (λ c. ltb c key_end) l) h in
    and_both (ltb c key_end) (all (λ c. ltb c key_end) (set l p k)) a.0 (keyed_set p k l lt a.1)

keyed_keep : (m l : List ℕ) → all (λ c. ltb c key_end) l ≡ true → all (λ c. ltb c key_end) (keep 0 m l) ≡ true
keyed_keep m [] h = refl
keyed_keep [] (c ∷ l) h = keyed_keep [] l (and_true (ltb c key_end) (all (λ c. ltb c key_end) l) h).1
keyed_keep (b ∷ m) (c ∷ l) h =
    let a = and_true (ltb c key_end) (all (λ c. ltb c key_end) l) h in
    let r = keyed_keep m l a.1 in
    by (eqb b 0) (λ e. rw e r) (λ e. rw (e, a.0) r)

keyed_puts : (ps : List Put) (S : Store) → only counted ps ≡ true → Keyed S → Keyed (apply_all ps S)
keyed_puts ps S o k =
    at_all (λ c. ltb c key_end) (apply_all ps S).key 0 (λ p lt. lt-ltb (get_or (apply_all ps S).key p 0) key_end
    (omega (arith, ltb-true (get_or S.key p 0) key_end (all_get (λ c. ltb c key_end) S.key p 0 k refl), keys_kept ps S o p)))

-- a store that rests can be recovered
stays_sound : (S T : Store) → Stays S T → Keyed T → Stamped T → Sound T
stays_sound S T K k s = record { sized = K.sized; keyed = k; mendable = (resting_parts T K.rests).mendable; stamped = s }

-- the empty store
empty_sound : (b : Bool) → Sound (empty_store b)
unfolding computing
empty_sound b = record { sized = (empty_store_law b).sized; keyed = refl; mendable = refl; stamped = empty_stamped b }

module _ (S : Store) (G : Sound S) where
  -- each call: refused, it leaves the store; accepted, the store rested, and rests
  begin_sound : Sound (begin S).store
  begin_sound = either (number_of (begin S).refusal)
      (λ h. stays_sound S (begin S).store (begin_stays S G.sized (begin_passed S h).rests) (rw (begin_accepted S h) G.keyed)
      (begin_stamped S G.stamped G.sized))
      (λ n. rw (begin_refused S n) G)

  write_sound : (x : Tx) → SizedTx x → (r : ℕ) (v : Value) → ((k : ℕ) → v ≡ Key k → k < key_end) → Sound (write S x r v).store
  write_sound x y r v small = either (number_of (write S x r v).refusal)
      (λ h. stays_sound S (write S x r v).store (write_stays S G.sized (write_passed S x r v h).first.rests x r v y)
      (rw (write_accepted S x r v h) (go v small)) (write_stamped S G.stamped x r v))
      (λ n. rw (write_refused S x r v n) G)
    where
      go : (w : Value) → ((k : ℕ) → w ≡ Key k → k < key_end) → Keyed (apply_all (take_slot (lowest_free S.xmin) x.txid.0 (base_of S x r) w) S)
      go Absent small = G.keyed
      go (Key k) small = keyed_set (lowest_free S.xmin) k S.key (small k refl) G.keyed

  lock_sound : (x : Tx) → SizedTx x → (r : ℕ) → Sound (row_lock S x r).store
  lock_sound x y r = either (number_of (row_lock S x r).refusal)
      (λ h. stays_sound S (row_lock S x r).store (row_lock_stays S G.sized (row_lock_passed S x r h).first.rests x r y)
      (rw (row_lock_accepted S x r h) G.keyed) (row_lock_stamped S G.stamped x r))
      (λ n. rw (row_lock_refused S x r n) G)

  abort_sound : (x : Tx) → Sound (abort S x).store
  abort_sound x = either (number_of (abort S x).refusal)
      (λ h. stays_sound S (abort S x).store (abort_stays S G.sized (abort_passed S x h).rests x)
      (rw (abort_accepted S x h) (keyed_puts (abort_puts S x.txid.0) S (abort_kinds counted refl refl S x.txid.0) G.keyed))
      (abort_stamped S G.stamped x))
      (λ n. rw (abort_refused S x n) G)

  -- a commit, wherever it is cut
  commit_sound : (x : Tx) (logged : Bool) (plan : Schedule) (cut : Cut) → Sound (commit S x logged plan cut).store
  unfolding uncut cut_off
  commit_sound x logged plan cut =
      let m = every_commit S x logged plan (λ a. Stamped a.store → Sound a.store) cut (λ _. G) (λ _. G) (λ _. G) (λ ok. go ok cut) in
      m (commit_stamped S x logged plan G.stamped G.sized cut)
    where
      some : Admitted S x plan → (n : ℕ) → let D = apply_all (take n (run_of S x logged plan).puts) S in Stamped D → Sound D
      some ok n s = record {
        sized = sized_all (take n (run_of S x logged plan).puts) S G.sized;
        keyed = keyed_run S x logged plan G.keyed n;
        mendable = (prefix S x logged plan G.sized ok n).mends;
        stamped = s;
      }

      all_made : Admitted S x plan → let D = apply_all (run_of S x logged plan).puts S in Stamped D → Sound D
      all_made ok = rw (take-length (run_of S x logged plan).puts) at (some ok (length (run_of S x logged plan).puts))

      go : Admitted S x plan → (c : Cut) → let T = (answer S x logged (run_of S x logged plan) c).store in Stamped T → Sound T
      go ok Uncut = all_made ok
      go ok (After n) = by (ltb n (length (run_of S x logged plan).puts)) (λ e. rw e (some ok n)) (λ e. rw e (all_made ok))

  -- recovery
  recover_sound : Sound (recover S).store
  unfolding recovered
  recover_sound =
      let R = recovery S G.sized G.keyed G.mendable in
      let s = recover_stamped S G.stamped in
      rw (recover_done S G.mendable) (record {
        sized = R.sized;
        keyed = keyed_keep _ S.key G.keyed;
        mendable = (resting_parts (recovered S) R.rests).mendable;
        stamped = rw (recover_done S G.mendable) at s;
      })

-- so every store that they reach
pub reached_sound : (S : Store) → Reached S → Sound S
reached_sound _ (empty b) = empty_sound b
reached_sound _ (begun S h) = begin_sound S (reached_sound S h)
reached_sound _ (written S h x y r v k) = write_sound S (reached_sound S h) x y r v k
reached_sound _ (locked S h x y r) = lock_sound S (reached_sound S h) x y r
reached_sound _ (aborted S h x) = abort_sound S (reached_sound S h) x
reached_sound _ (committed S h x logged plan cut) = commit_sound S (reached_sound S h) x logged plan cut
reached_sound _ (Reached.recovered S h) = recover_sound S (reached_sound S h)

-- and so recovery of each shows
pub reached_shows : ReachedShows
reached_shows S h =
    let G = reached_sound S h in
    (G, λ early. let a = recovered_shows S G.sized G.keyed G.mendable early in (a.0, a.1 G.stamped))
