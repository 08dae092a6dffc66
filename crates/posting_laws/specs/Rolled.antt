-- "Numbers seen", rows 10 to 12: insertions undone, and rolled back and aborted.
use Rattle.std.specs.Prelude.{◌≡◌, Bool, true, false, cond, ◌||◌, List, [], ◌∷◌, ◌++◌, map, reverse, ℕ, length, take, eqb}
use Rattle.std.proofs.Math.Path.{refl}
use Rattle.std.proofs.Common.{sym, append_assoc}
use Rattle.std.proofs.Math.Seq.{take-length}
use Rattle.records.specs.Zero.{only_txid}
use Rattle.rules.specs.Types.{Store, Tx, Schedule, Cut, Open, CallbackFailed, CallbackPanicked}
use Rattle.basic_laws.specs.Cases.{by, clash}
use Rattle.rules.specs.Numbers.{number_of, fate_in, fate}
use Rattle.rules.specs.Puts.{Put, put_insert, put_remove, put_poison, apply_all, abort_puts}
use Rattle.run_laws.specs.FourTests.{bases_agree}
use Rattle.rules.specs.Changes.{changes, destinations, release, insertions}
use Rattle.rules.specs.Commit.{End, fails, count, rollback, abort_or_poison}
use Rattle.rules.specs.Answer.{uncut, commit}
use Rattle.run_laws.specs.OnlyKinds.{only_both, only_if}
use Rattle.run_laws.specs.GuardPuts.{apply_all_append}
use Rattle.run_laws.specs.Outcome.{guards_taken, Passed, worse, panics, Outcome, done, stays, aborts, uninserted, uncalled, spoils, unstamped, outcome}
use Rattle.run_laws.specs.Released.{unguarded}
use Rattle.statements.specs.Words.{Admitted}
use Rattle.run_laws.specs.FirstRows.{whole, stay_not, abort_not, called_not, spoil_not}
use Rattle.statements.specs.Sized.{Sized}
use Rattle.run_laws.specs.Kinds.{insert_kind, remove_kind, abort_kinds}
use Rattle.posting_laws.specs.Undone.{Ready, take_map, undone}
use Rattle.posting_laws.specs.Aside.{posting_kinds, between_guards, poison_first}

-- guards, then the rest of a run that failed at 16, then guards
pub regroup : (G I C R A Z : List Put) → (G ++ I) ++ (C ++ (R ++ (A ++ Z))) ≡ G ++ (((I ++ (C ++ R)) ++ A) ++ Z)
regroup G I C R A Z = simp append_assoc

-- "poisoned and undone where another call poisons; closed .. where the transaction was aborted"
called_fate : (p w : Bool) → fate_in (cond p CallbackPanicked CallbackFailed (fate (w || false) true)) ≡ fate w true
called_fate true true = refl
called_fate true false = refl
called_fate false true = refl
called_fate false false = refl

module _ (S : Store) (x : Tx) (logged : Bool) (plan : Schedule) (sized : Sized S) where
  -- what is known once the tests are passed
  pub ready : Admitted S x plan → Passed S x logged plan → Ready S x
  ready ok p = record { rests = ok.rests; healthy = p.healthy; fits = ok.fits; agreed = bases_agree S x p.agreed; sized = sized }

  -- a run that put in n postings and took them out again, guards around it
  pub back_and_forth : Ready S x → (n : ℕ) → let ds = take n (destinations (changes S x)) in
      apply_all (guards_taken S x logged plan ++ (map put_insert ds ++ (map put_remove (reverse ds) ++ release S x))) S ≡ S
  back_and_forth ok n =
      let ds = take n (destinations (changes S x)) in
      let I = map put_insert ds in
      let R = map put_remove (reverse ds) in
      rw (
        sym (append_assoc I R (release S x)),
        between_guards S x logged plan ok.rests (I ++ R) (only_both unguarded I R (insert_kind unguarded refl ds) (remove_kind unguarded refl (reverse ds))),
        apply_all_append I R S,
      )
      (undone S x ok n)

  -- row 10
  abbrev pub ten : ℕ → Bool
  ten n = eqb n 10

  only_ten : (n : ℕ) (ps : List Put) (d : End) → Admitted S x plan → fails S x logged plan 24 ≡ false → Outcome S x logged plan n ps d
      → ten (number_of d.refusal) ≡ true
      → (apply_all ps S ≡ S) × (d.tx ≡ x) × (fate_in d.refusal ≡ Open)
  unfolding rollback insertions
  only_ten _ _ _ ok f (done p) h = clash h refl
  only_ten _ _ _ ok f (stays l t k) h = clash h (stay_not ten refl refl k _)
  only_ten _ _ _ ok f (aborts l t k) h = clash h (abort_not ten refl refl refl refl refl k)
  only_ten _ _ _ ok f (uninserted p k) h =
      rw (f, take_map put_insert (count S x logged plan 15) (destinations (changes S x)))
      (back_and_forth (ready ok p) (count S x logged plan 15), refl, refl)
  only_ten _ _ _ ok f (uncalled p l k) h = clash h (called_not S x logged plan ten refl refl refl)
  only_ten _ _ _ ok f (spoils p k) h = clash h (spoil_not ten refl refl refl refl k _)
  only_ten _ _ _ ok f (unstamped p k) h = clash h refl

  -- "10: 15 failed: insertions undone; open", where the rollback didn't fail
  pub row_10 : (cut : Cut) → Admitted S x plan → fails S x logged plan 24 ≡ false → let a = commit S x logged plan cut in
      ten (number_of a.refusal) ≡ true → (a.store ≡ S) × (a.tx ≡ x) × (fate_in a.refusal ≡ Open)
  unfolding uncut
  row_10 cut ok f h =
      let u = whole S x logged plan cut ok ten refl h in
      rw u (only_ten _ _ _ ok f (outcome S x logged plan) (rw u at h))

  -- 11 and 12: the callback failed or panicked, with X and Q poisoning the store
  abbrev pub called_back : List Put
  called_back = cond (worse S x logged plan) (put_poison ∷ []) []

  -- put in, poisoned or not, taken out: the poison is left
  pub undone_around : Ready S x → (b : Bool) → let ds = destinations (changes S x) in
      apply_all (map put_insert ds ++ (cond b (put_poison ∷ []) [] ++ map put_remove (reverse ds))) S ≡ apply_all (cond b (put_poison ∷ []) []) S
  undone_around ok b =
      let ds = destinations (changes S x) in
      let I = map put_insert ds in
      let R = map put_remove (reverse ds) in
      let all_undone = rw (take-length ds) at (undone S x ok (length ds)) in
      by b
      (λ e. rw (e, apply_all_append I (put_poison ∷ R) S, ← poison_first R (apply_all I S) (remove_kind posting_kinds refl (reverse ds)), all_undone))
      (λ e. rw (e, apply_all_append I R S) all_undone)

  -- the run: guards, insertions, callback, rollback, abort, guards
  pub called_run : Ready S x → let ds = destinations (changes S x) in
      apply_all ((guards_taken S x logged plan ++ map put_insert ds)
      ++ (called_back ++ (map put_remove (reverse ds) ++ (abort_puts S x.txid.0 ++ release S x))))
      S
      ≡ apply_all (called_back ++ abort_puts S x.txid.0) S
  called_run ok =
      let ds = destinations (changes S x) in
      let I = map put_insert ds in
      let R = map put_remove (reverse ds) in
      let C = called_back in
      let A = abort_puts S x.txid.0 in
      let poisons = only_if unguarded (worse S x logged plan) (put_poison ∷ []) [] refl refl in
      let spares = only_both unguarded (I ++ (C ++ R)) A
      (only_both unguarded I (C ++ R) (insert_kind unguarded refl ds) (only_both unguarded C R poisons (remove_kind unguarded refl (reverse ds))))
      (abort_kinds unguarded refl refl S x.txid.0) in
      rw (
        regroup (guards_taken S x logged plan) I C R A (release S x),
        between_guards S x logged plan ok.rests ((I ++ (C ++ R)) ++ A) spares,
        apply_all_append (I ++ (C ++ R)) A S,
        undone_around ok (worse S x logged plan),
      )
      (sym (apply_all_append C A S))

  abbrev pub eleven : ℕ → Bool
  eleven n = eqb n 11 || eqb n 12

  only_eleven : (n : ℕ) (ps : List Put) (d : End) → Admitted S x plan → fails S x logged plan 23 ≡ false → fails S x logged plan 24 ≡ false
      → Outcome S x logged plan n ps d → eleven (number_of d.refusal) ≡ true
      → (apply_all ps S ≡ apply_all (called_back ++ abort_puts S x.txid.0) S) × (d.tx ≡ only_txid x.txid.0)
      × (fate_in d.refusal ≡ fate (worse S x logged plan) true)
  unfolding rollback abort_or_poison insertions
  only_eleven _ _ _ ok a f (done p) h = clash h refl
  only_eleven _ _ _ ok a f (stays l t k) h = clash h (stay_not eleven refl refl k _)
  only_eleven _ _ _ ok a f (aborts l t k) h = clash h (abort_not eleven refl refl refl refl refl k)
  only_eleven _ _ _ ok a f (uninserted p k) h = clash h refl
  only_eleven _ _ _ ok a f (uncalled p l k) h = rw (f, a) (called_run (ready ok p), refl, called_fate (panics S x logged plan) (worse S x logged plan))
  only_eleven _ _ _ ok a f (spoils p k) h = clash h (spoil_not eleven refl refl refl refl k _)
  only_eleven _ _ _ ok a f (unstamped p k) h = clash h refl

  -- "11, 12: 16 failed; panicked: rolled back, aborted", where neither the rollback nor the abort failed; X and Q leave the store poisoned
  pub row_11_12 : (cut : Cut) → Admitted S x plan → fails S x logged plan 23 ≡ false → fails S x logged plan 24 ≡ false → let a = commit S x logged plan cut in
      eleven (number_of a.refusal) ≡ true
      → (a.store ≡ apply_all (called_back ++ abort_puts S x.txid.0) S) × (a.tx ≡ only_txid x.txid.0)
      × (fate_in a.refusal ≡ fate (worse S x logged plan) true)
  unfolding uncut
  row_11_12 cut ok a f h =
      let u = whole S x logged plan cut ok eleven refl h in
      rw u (only_eleven _ _ _ ok a f (outcome S x logged plan) (rw u at h))
