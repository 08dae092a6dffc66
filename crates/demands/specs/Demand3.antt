-- Demand 3: stop a commit after any store, or fail or panic any step that may; then recover.
use Rattle.std.specs.Prelude.{◌≡◌, refl, Bool, true, false, cond, ◌&&◌, ◌||◌, List, [], ◌∷◌, ℕ, ◌<◌, length, take, eqb, leb}
use Rattle.std.proofs.Common.{sym, ◌∙◌, arith, leb-false}
use Rattle.std.proofs.Math.Path.{ap}
use Rattle.std.proofs.Math.Bool.{not}
use Rattle.std.proofs.Math.Seq.{take-length}
use Rattle.std.proofs.lemmas.Bool.{lt-leb}
use Rattle.records.specs.Limits.{rows}
use Rattle.rules.specs.Lists.{memb}
use Rattle.rules.specs.Types.{Store, Tx, Write, Schedule, Answer, Cut, Uncut, After, Value, Open, Closed, Refusal, Unfit, NotActive}
use Rattle.rules.specs.Store.{value_at, active_txids}
use Rattle.rules.specs.Transaction.{finals}
use Rattle.rules.specs.Admitted.{repairable, resting}
use Rattle.rules.specs.Fit.{fit}
use Rattle.rules.specs.Faults.{schedule_fit}
use Rattle.rules.specs.Puts.{Put, apply_all}
use Rattle.rules.specs.Commit.{End, run_of}
use Rattle.rules.specs.Answer.{uncut, unchanged, commit}
use Rattle.rules.specs.Recovery.{recovered, recover}
use Rattle.basic_laws.specs.Cases.{by, and_true}
use Rattle.run_laws.specs.Outcome.{unremoved, unpublished, unrecycled, unfinished, Outcome, done}
use Rattle.run_laws.specs.Outcome.{stays, aborts, uninserted, uncalled, spoils, unstamped, outcome}
use Rattle.statements.specs.Demands.{Demand3}
use Rattle.statements.specs.Words.{before, survived, Safe, Admitted, shown, with_new, stands}
use Rattle.run_laws.specs.FirstRows.{row_2, row_3, admitted, stay_not, abort_not, called_not}
use Rattle.statements.specs.Sized.{Sized, Keyed}
use Rattle.basic_laws.specs.TestParts.{resting_parts}
use Rattle.recovery_laws.specs.Sizes.{sized_all}
use Rattle.recovery_laws.specs.Recovering.{recovery, recovered_again}
use Rattle.recovery_laws.specs.Prefix.{prefix}
use Rattle.recovery_laws.specs.Cuts.{recover_done, keyed_run, cut_store_law}

-- the writes put into rows that agree
pub with_same : (key : List ℕ) (has : List Bool) (ws : List Write) (f g : ℕ → Value) → ((r : ℕ) → r < rows → f r ≡ g r) → (r : ℕ) → r < rows
    → with_new key has ws f r ≡ with_new key has ws g r
with_same key has [] f g h r lt = h r lt
with_same key has (w ∷ ws) f g h r lt =
    with_same key has ws (λ q. cond (eqb q w.row.0) (value_at key has w.new.0) (f q)) (λ q. cond (eqb q w.row.0) (value_at key has w.new.0) (g q))
    (λ q l. rw (h q l)) r lt

-- the numbers of a commit that stands
abbrev standing : ℕ → Bool
standing n = eqb n 0 || eqb n 17

module _ (S : Store) (x : Tx) (logged : Bool) (plan : Schedule) (z : Sized S) (k : Keyed S) (rest : resting S ≡ true) where
  mends : repairable S ≡ true
  mends = (resting_parts S rest).mendable

  -- what the rows showed is what recovery shows
  shown_before : (r : ℕ) → r < rows → shown S r ≡ before S r
  shown_before r lt = rw (recover_done S mends) (sym ((recovery S z k mends).shows r lt))

  both : (b : Bool) (r : ℕ) → r < rows
      → cond b (with_new S.key S.has (finals x) (shown S)) (shown S) r ≡ cond b (with_new S.key S.has (finals x) (before S) r) (before S r)
  both true r lt = with_same S.key S.has (finals x) (shown S) (before S) shown_before r lt
  both false r lt = shown_before r lt

  puts_cut : (n : ℕ) → Admitted S x plan → Safe S x logged plan (apply_all (take n (run_of S x logged plan).puts) S)
  unfolding uncut
  puts_cut n ok =
      let D = apply_all (take n (run_of S x logged plan).puts) S in
      let P = prefix S x logged plan z ok n in
      let R = recovery D (sized_all (take n (run_of S x logged plan).puts) S z) (keyed_run S x logged plan k n) P.mends in
      let e = recover_done D P.mends in
      let why = ap (λ (a : Answer). a.refusal) (admitted S x logged plan Uncut ok) in
      record {
        accepted = rw e;
        mended = rw e R;
        rows =
            λ r lt. rw (e, why)
            (R.shows r lt ∙ P.shows r lt ∙ both (stands (run_of S x logged plan).end.refusal && not (memb x.txid.0 (active_txids D.active))) r lt);
      }

  -- the store that a commit leaves is some of its stores made
  left : (cut : Cut) → Admitted S x plan → Safe S x logged plan (commit S x logged plan cut).store
  unfolding uncut
  left Uncut ok =
      let ps = (run_of S x logged plan).puts in
      rw (admitted S x logged plan Uncut ok) (rw (take-length ps) at (puts_cut (length ps) ok))
  left (After n) ok = rw (cut_store_law S x logged plan ok n) (puts_cut n ok)

  -- a refused commit leaves the store as it was
  kept : (why : Refusal) → commit S x logged plan Uncut ≡ unchanged S x why → stands why ≡ false → Safe S x logged plan S
  kept why e falls =
      let f = recover_done S mends in
      let answered : (commit S x logged plan Uncut).refusal ≡ why = ap (λ (a : Answer). a.refusal) e in
      record { accepted = rw f; mended = rw f (recovery S z k mends); rows = λ r lt. rw (answered, falls) }

  -- admitted or refused
  safe : (cut : Cut) → Safe S x logged plan (commit S x logged plan cut).store
  safe cut =
      by (fit S x && schedule_fit plan)
      (λ f. by (memb x.txid.0 (active_txids S.active))
      (λ m. let c = and_true (fit S x) (schedule_fit plan) f in
      left cut (record { rests = rest; fits = c.0; planned = c.1; active = m }))
      (λ m. rw (row_3 S x logged plan cut rest f m) (kept (NotActive Closed) (row_3 S x logged plan Uncut rest f m) refl)))
      (λ f. rw (row_2 S x logged plan cut rest f) (kept (Unfit Open) (row_2 S x logged plan Uncut rest f) refl))

  -- `survived` in the words of the steps: the run passes step 21, so neither publication (18) nor recycling (19) failed, and step 21's store, the
  -- drop of the txid, is made
  passed_says : (n : ℕ) (ps : List Put) (d : End) → Outcome S x logged plan n ps d → stands d.refusal ≡ leb 21 n
  passed_says _ _ _ (done p) = refl
  passed_says n _ _ (stays l t k) = rw (stay_not standing refl refl k Open, lt-leb 21 n (omega (arith, leb-false 14 n l)))
  passed_says n _ _ (aborts l t k) = rw (abort_not standing refl refl refl refl refl k, lt-leb 21 n (omega (arith, leb-false 14 n l)))
  passed_says _ _ _ (uninserted p k) = refl
  passed_says _ _ _ (uncalled p l k) = called_not S x logged plan standing refl refl refl
  passed_says _ _ _ (spoils p (unremoved k)) = refl
  passed_says _ _ _ (spoils p (unpublished k)) = refl
  passed_says _ _ _ (spoils p (unrecycled k)) = refl
  passed_says _ _ _ (spoils p (unfinished k)) = refl
  passed_says _ _ _ (unstamped p k) = refl

  pub survived_says : Admitted S x plan → (D : Store)
      → survived S x logged plan D ≡ (leb 21 (run_of S x logged plan).passed && not (memb x.txid.0 (active_txids D.active)))
  unfolding uncut
  survived_says ok D = rw (ap (λ (a : Answer). a.refusal) (admitted S x logged plan Uncut ok), passed_says _ _ _ (outcome S x logged plan))

-- DEMAND 3
pub demand_3 : Demand3
demand_3 S x logged plan z k rest cut = safe S x logged plan z k rest cut

-- "recovery of a repairable store gives a resting, unpoisoned one, and a second recovery changes nothing"
pub twice : (S : Store) → Sized S → Keyed S → repairable S ≡ true → (recover (recover S).store).store ≡ (recover S).store
twice S z k m =
    let R = recovery S z k m in
    rw (recover_done S m, recover_done (recovered S) (resting_parts (recovered S) R.rests).mendable) (recovered_again S z m)
