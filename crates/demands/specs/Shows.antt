-- What is shown, by begin, read and lookup: after recovery of any repairable store, after demand 3's commit at any cut and fault, and after demand 2's.
use Rattle.std.specs.Prelude.{◌≡◌, refl, Bool, true, false, List, [], ◌∷◌, ℕ, ◌<◌, length, take, eqb, ltb}
use Rattle.std.proofs.Common.{⊎_elim, arith}
use Rattle.records.specs.Limits.{rows, active_limit, clock_end}
use Rattle.rules.specs.Lists.{memb, is_zero, without}
use Rattle.rules.specs.Types.{Store, Tx, Schedule, Cut, Uncut, After, Value}
use Rattle.rules.specs.Store.{active_txids}
use Rattle.rules.specs.Numbers.{is_done}
use Rattle.rules.specs.Puts.{k_clock, apply_all}
use Rattle.rules.specs.Recovery.{recovered, recover}
use Rattle.rules.specs.Commit.{run_of}
use Rattle.rules.specs.Answer.{uncut, cut_off, answer, commit}
use Rattle.basic_laws.specs.Cases.{by, clash, or_left}
use Rattle.basic_laws.specs.Rising.{without_length}
use Rattle.run_laws.specs.OnlyKinds.{only_take, kept, is_not}
use Rattle.run_laws.specs.Outcome.{outcome}
use Rattle.run_laws.specs.FirstRows.{every_commit, whole}
use Rattle.admitted_laws.specs.Resting.{rests}
use Rattle.recovery_laws.specs.Along.{to_end}
use Rattle.recovery_laws.specs.Unfinished.{dropped, dropped_are, active_short}
use Rattle.recovery_laws.specs.Sizes.{sized_all}
use Rattle.recovery_laws.specs.EveryStore.{counted, run_counted}
use Rattle.recovery_laws.specs.Ways.{New, Either, told}
use Rattle.recovery_laws.specs.Recovering.{recovery}
use Rattle.recovery_laws.specs.Cuts.{recover_done}
use Rattle.call_laws.specs.JustBegun.{store_shows}
use Rattle.call_laws.specs.StampsKept.{recover_stamped, commit_stamped}
use Rattle.statements.specs.Sized.{Sized}
use Rattle.statements.specs.Words.{Admitted, Recovered, row_value, shown, stands, after}
use Rattle.statements.specs.ShowWords.{Shown, RestingShows, RecoveredShows, CutShows, CommittedShows}
use Rattle.demands.specs.Demand2.{demand_2}
use Rattle.demands.specs.Demand3.{demand_3}

-- AT ANY TIME
pub resting_shows : RestingShows
resting_shows T z rest sound few early = store_shows T z rest sound few early (row_value T) (λ r lt. refl)

-- what recovery leaves shows what its rows hold: nobody is active
mended_shows : (S T : Store) (value : ℕ → Value) → Recovered S T → S.clock < clock_end → ((r : ℕ) → r < rows → row_value T r ≡ value r) → Shown T value
mended_shows S T value R early same =
    store_shows T R.sized R.rests R.healthy (rw R.alone (omega arith)) (rw R.clock early) value same

-- AFTER RECOVERY
pub recovered_shows : RecoveredShows
recovered_shows S z k m early =
    let R = recovery S z k m in
    (rw (recover_done S m) (mended_shows S (recovered S) (shown S) R early R.shows), recover_stamped S)

-- a commit leaves the clock
commit_clock : (S : Store) (x : Tx) (logged : Bool) (plan : Schedule) (cut : Cut) → (commit S x logged plan cut).store.clock ≡ S.clock
unfolding uncut cut_off
commit_clock S x logged plan cut = every_commit S x logged plan (λ a. a.store.clock ≡ S.clock) cut refl refl refl (λ ok. go cut)
  where
    ran : (n : ℕ) → (apply_all (take n (run_of S x logged plan).puts) S).clock ≡ S.clock
    ran n = kept (λ (X : Store). X.clock) counted (λ p X m. rw (is_not counted k_clock refl p m)) (take n (run_of S x logged plan).puts) S
        (only_take counted n (run_of S x logged plan).puts (run_counted S x logged plan))

    all : (apply_all (run_of S x logged plan).puts S).clock ≡ S.clock
    all = kept (λ (X : Store). X.clock) counted (λ p X m. rw (is_not counted k_clock refl p m)) (run_of S x logged plan).puts S
        (run_counted S x logged plan)

    go : (c : Cut) → (answer S x logged (run_of S x logged plan) c).store.clock ≡ S.clock
    go Uncut = all
    go (After n) = by (ltb n (length (run_of S x logged plan).puts)) (λ e. rw e (ran n)) (λ e. rw e all)

-- AFTER A CUT OR A FAULT
pub cut_shows : CutShows
cut_shows S x logged plan z k rest early cut =
    let D = (commit S x logged plan cut).store in
    let safe = demand_3 S x logged plan z k rest cut in (
      mended_shows D (recover D).store (after S x logged plan D) safe.mended (rw (commit_clock S x logged plan cut) early) safe.rows,
      λ s. recover_stamped D (commit_stamped S x logged plan s z cut),
    )

-- a list is shorter without one of its members
without_shorter : (t : ℕ) (l : List ℕ) → memb t l ≡ true → length (without t l) < length l
without_shorter t [] m = clash {b = false} m refl
without_shorter t (y ∷ l) m = by (eqb t y)
    (λ e. rw e (omega (arith, without_length t l)))
    (λ e. rw e (omega (arith, without_shorter t l (rw e at m))))

module _ (S : Store) (x : Tx) (logged : Bool) (plan : Schedule) (z : Sized S) (ok : Admitted S x plan)
    (d : is_done (commit S x logged plan Uncut).refusal ≡ true) where
  abbrev t : ℕ
  t = x.txid.0

  -- success makes the whole run, and drops the txid
  whole_run : commit S x logged plan Uncut ≡ uncut S x logged (run_of S x logged plan)
  whole_run = whole S x logged plan Uncut ok is_zero refl d

  stood : stands (run_of S x logged plan).end.refusal ≡ true
  unfolding uncut
  stood = or_left _ _ (rw whole_run at d)

  active_after : (commit S x logged plan Uncut).store.active ≡ dropped S.active t
  unfolding uncut
  active_after = rw whole_run (⊎_elim
      (λ h. clash stood h.0)
      (λ h. (to_end (Either S x logged plan) (New S x logged plan) (run_of S x logged plan).puts S h.1).1.act_is)
      (told S x logged plan z ok (outcome S x logged plan)))

  -- so there is a place for one more
  place_left : length (active_txids (commit S x logged plan Uncut).store.active) < active_limit
  place_left =
      let R = (rests S z ok.rests).1 in
      rw (active_after, dropped_are S.active S.clock R.mends.listed z.active t)
      (omega (arith, without_shorter t (active_txids S.active) ok.active, active_short S.active, z.active))

  sized_after : Sized (commit S x logged plan Uncut).store
  unfolding uncut
  sized_after = rw whole_run (sized_all (run_of S x logged plan).puts S z)

-- AFTER A SUCCESSFUL COMMIT
pub committed_shows : CommittedShows
committed_shows S x logged plan z k q early d =
    let C = (demand_2 S x logged plan z k q).1 d in (
      store_shows (commit S x logged plan Uncut).store (sized_after S x logged plan z q.ok d) C.rests C.healthy
          (place_left S x logged plan z q.ok d) (rw (commit_clock S x logged plan Uncut) early) _ C.rows,
      λ s. commit_stamped S x logged plan s z Uncut,
    )
