-- A commit that isn't cut leaves a resting store; what an answer 0 or 17 leaves shows what was written.
use Rattle.std.specs.Prelude.{◌≡◌, Bool, true, false, ◌&&◌, List, ℕ}
use Rattle.std.proofs.Common.{sym, ⊎_elim}
use Rattle.std.proofs.Math.Path.{ap, subst}
use Rattle.rules.specs.Lists.{memb, all_zero}
use Rattle.rules.specs.Types.{Store, Tx, Schedule, Cut, Answer}
use Rattle.rules.specs.Store.{active_txids}
use Rattle.rules.specs.Transaction.{finals}
use Rattle.rules.specs.Admitted.{finished, resting}
use Rattle.rules.specs.Fit.{fit}
use Rattle.rules.specs.Faults.{schedule_fit}
use Rattle.rules.specs.Numbers.{number_of}
use Rattle.rules.specs.Puts.{apply_all}
use Rattle.rules.specs.Commit.{run_of}
use Rattle.rules.specs.Answer.{uncut, commit}
use Rattle.basic_laws.specs.Cases.{by, clash, and_true}
use Rattle.run_laws.specs.Outcome.{outcome}
use Rattle.statements.specs.Words.{Admitted, shown, with_new, stands}
use Rattle.run_laws.specs.FirstRows.{row_2, row_3, whole}
use Rattle.run_laws.specs.Released.{guards_released}
use Rattle.posting_laws.specs.RestingPostings.{Indexed, settled_settles}
use Rattle.posting_laws.specs.CallsKeepPostings.{commit_indexed}
use Rattle.statements.specs.Sized.{Sized, Keyed}
use Rattle.basic_laws.specs.TestParts.{parts_resting}
use Rattle.admitted_laws.specs.Repairable.{Mends, mended}
use Rattle.admitted_laws.specs.Resting.{Sole, sole_rests}
use Rattle.recovery_laws.specs.Along.{to_end}
use Rattle.recovery_laws.specs.Sizes.{sized_all}
use Rattle.recovery_laws.specs.Live.{Shows, lives_shows}
use Rattle.recovery_laws.specs.Unfinished.{dropped}
use Rattle.recovery_laws.specs.Ways.{new, New, Either, Old, Home, told, gone}

module _ (S : Store) (x : Tx) (logged : Bool) (plan : Schedule) (z : Sized S) where
  -- the store after the whole run
  abbrev ran : Store
  ran = apply_all (run_of S x logged plan).puts S

  -- repairable, with none but the doomed txid unfinished on chains
  ran_rests : Admitted S x plan
      → (L : ℕ → List ℕ) × Mends ran L × Sole ran.heads ran.xmin ran.xmax (finished ran.active ran.doomed) L ran.doomed
  ran_rests ok =
      let ps = (run_of S x logged plan).puts in
      ⊎_elim
      (λ h. let k = to_end (Old S x logged plan) (Home S x logged plan) ps S h.1 in
      (k.2.0, k.2.1.mends, rw (k.2.1.act_is, k.2.1.doom_is) k.2.1.sole))
      (λ h. let k = to_end (Either S x logged plan) (New S x logged plan) ps S h.1 in
      (k.0, k.1.mends, rw (k.1.act_is, k.1.doom_is) k.1.sole))
      (told S x logged plan z ok (outcome S x logged plan))

  -- the store that a commit leaves when it is neither cut nor refused at once
  run_rests : Keyed S → (cut : Cut) (T : ℕ → Bool) → T 18 ≡ false → (ok : Admitted S x plan)
      → T (number_of (commit S x logged plan cut).refusal) ≡ true → resting (commit S x logged plan cut).store ≡ true
  unfolding uncut
  run_rests k cut T eighteen ok h =
      let D = (commit S x logged plan cut).store in
      let e : D ≡ ran = ap (λ (a : Answer). a.store) (whole S x logged plan cut ok T eighteen h) in
      let guards = guards_released S x logged plan cut ok T eighteen h in
      let index = subst Indexed e (commit_indexed S x logged plan z k ok.rests cut T eighteen h) in
      let sized = sized_all (run_of S x logged plan).puts S z in
      let m = ran_rests ok in
      subst (λ (X : Store). resting X ≡ true) (sym e) (parts_resting ran (record {
        mendable = mended ran m.0 sized m.1;
        stripes = subst (λ (X : Store). all_zero X.stripe_guards ≡ true) e guards.0;
        partitions = subst (λ (X : Store). all_zero X.partition_guards ≡ true) e guards.1;
        posted = index.form;
        rests = sole_rests ran m.0 sized m.1 m.2;
        healthy = settled_settles ran index.rest;
      }))

  -- a commit on a resting store leaves a resting store, unless it is cut: T is a test of numbers that 18 fails
  pub commit_rests : Keyed S → resting S ≡ true → (cut : Cut) (T : ℕ → Bool) → T 18 ≡ false
      → let a = commit S x logged plan cut in T (number_of a.refusal) ≡ true → resting a.store ≡ true
  commit_rests k r cut T eighteen h =
      by (fit S x && schedule_fit plan)
      (λ f. by (memb x.txid.0 (active_txids S.active))
      (λ m. let c = and_true (fit S x) (schedule_fit plan) f in
      run_rests k cut T eighteen (record { rests = r; fits = c.0; planned = c.1; active = m }) h)
      (λ m. rw (row_3 S x logged plan cut r f m) r))
      (λ f. rw (row_2 S x logged plan cut r f) r)

  -- 0 and 17: the rows show what was written, and the txid is active no longer
  pub stood : Admitted S x plan → stands (run_of S x logged plan).end.refusal ≡ true
      → Shows (with_new S.key S.has (finals x) (shown S)) ran × (memb x.txid.0 (active_txids ran.active) ≡ false)
  stood ok st =
      let ps = (run_of S x logged plan).puts in
      ⊎_elim
      (λ h. clash st h.0)
      (λ h. let k = to_end (Either S x logged plan) (New S x logged plan) ps S h.1 in (
        lives_shows (new S x logged plan) (dropped S.active x.txid.0) S.doomed S.doomed ran (sized_all ps S z) k,
        rw k.1.act_is (gone S x logged plan z ok),
      ))
      (told S x logged plan z ok (outcome S x logged plan))
