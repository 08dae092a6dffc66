-- A transaction stays fit while its slots stay as they are, on no chain, and the clock is not lowered.
use Rattle.std.specs.Prelude.{◌≡◌, Bool, true, false, List, ℕ, ◌≤◌, ◌<◌, get_or}
use Rattle.std.proofs.Common.{arith, eqb-true, ltb-true, leb-true, le-leb}
use Rattle.std.proofs.lemmas.Bool.{not-true}
use Rattle.rules.specs.Types.{Store, Tx, Write}
use Rattle.rules.specs.Transaction.{writes_of}
use Rattle.rules.specs.Chains.{walk, on}
use Rattle.rules.specs.Fit.{write_fit, fit}
use Rattle.statements.specs.Sized.{Sized}
use Rattle.basic_laws.specs.TestParts.{write_parts, parts_write, fit_parts, parts_fit}
use Rattle.basic_laws.specs.AllOf.{all_then}
use Rattle.admitted_laws.specs.Repairable.{marks}
use Rattle.admitted_laws.specs.Resting.{Rests}
use Rattle.call_laws.specs.Near.{on_near}

-- a write of y that is fit for the store U
abbrev pub fits_in : Tx → Store → Write → Bool
fits_in y U = write_fit U.xmin U.next (walk U.heads U.next).seen y.txid.0

-- a store T that has the chains of S marks the same slots
pub on_same : (S T : Store) (L : ℕ → List ℕ) → Rests S L → Sized S → Rests T L → Sized T → T.heads ≡ S.heads → (n : ℕ)
    → on (walk T.heads T.next).seen n ≡ on (walk S.heads S.next).seen n
on_same S T L R z Q w heads n =
    let D = marks T L w Q.mends in
    rw heads (on_near S.heads S.next T.next (walk S.heads S.next).seen (walk S.heads T.next).seen L
    (marks S L z R.mends) (rw heads at D) n)

-- a transaction y of u, and a store T that has a clock that is not lower, and u's slots as they were and on no chain
module _ (S T : Store) (y : Tx) (le : S.clock ≤ T.clock)
    (same : (n : ℕ) → 0 < get_or S.xmin n 0 → get_or S.xmin n 0 ≡ y.txid.0
    → (get_or T.xmin n 0 ≡ get_or S.xmin n 0) × (get_or T.next n 0 ≡ get_or S.next n 0))
    (off : (n : ℕ) → 0 < get_or S.xmin n 0 → get_or S.xmin n 0 ≡ y.txid.0 → on (walk S.heads S.next).seen n ≡ false
    → on (walk T.heads T.next).seen n ≡ false) where
  -- a fit write stays fit
  pub writes_fit : (v : Write) → fits_in y S v ≡ true → fits_in y T v ≡ true
  writes_fit v h =
      let P = write_parts S.xmin S.next (walk S.heads S.next).seen y.txid.0 v h in
      let n = v.new.0 in
      let u = ltb-true 0 (get_or S.xmin n 0) P.taken in
      let q = eqb-true (get_or S.xmin n 0) y.txid.0 P.mine in
      let s = same n u q in
      parts_write T.xmin T.next (walk T.heads T.next).seen y.txid.0 v (record {
        row = P.row;
        base = P.base;
        new = P.new;
        taken = rw s.0 P.taken;
        off = rw (off n u q (not-true (on (walk S.heads S.next).seen n) P.off));
        mine = rw s.0 P.mine;
        over = rw s.1 P.over;
      })

  -- then y is fit for T if it is for S
  pub stays_fit : fit S y ≡ true → fit T y ≡ true
  stays_fit k =
      let P = fit_parts S y k in
      parts_fit T y (record {
        counts = P.counts;
        reads = P.reads;
        writes = all_then (fits_in y S) (fits_in y T) writes_fit (writes_of y) P.writes;
        apart = P.apart;
        stripes = P.stripes;
        savepoints = P.savepoints;
        within = P.within;
        snapshot = P.snapshot;
        present = le-leb y.snapshot_xmax.0 T.clock (omega (arith, le, leb-true y.snapshot_xmax.0 S.clock P.present));
      })
