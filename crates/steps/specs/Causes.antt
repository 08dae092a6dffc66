-- The cause of a 7, by the gate: which test it comes from, and the place of the entry that conflicts.
use Rattle.std.specs.Prelude.{◌≡◌, Bool, true, false, cond, ℕ, suc, ◌<◌, length, drop, replicate, eqb}
use Rattle.std.proofs.Math.Path.{sym, ap}
use Rattle.std.proofs.Common.{◌∙◌, arith}
use mathlib.Core.List.{List, [], ◌∷◌}
use Rattle.std.proofs.Math.ListN.{get_or}
use Rattle.rules.specs.Types.{Store, Tx, Cause, BusyGuard, IndexReadAt, RowLockAt, SerializationAt, WriteBaseAt}
use Rattle.rules.specs.Tests.{index_read_place, row_lock_place, serialization_place, write_base_place}
use Rattle.steps.specs.GateTable.{clean_gate, row_at, passed_at}
use Rattle.steps.specs.Stops.{gate_from}

module _ (S : Store) (x : Tx) where
  -- after n steps: 10 to 13 of them are passed at the gates of the four tests
  unfoldable pub cause_after : ℕ → Cause
  cause_after n =
      cond (eqb n 10) (IndexReadAt (index_read_place S x))
      (cond (eqb n 11) (RowLockAt (row_lock_place S x))
      (cond (eqb n 12) (SerializationAt (serialization_place S x))
      (cond (eqb n 13) (WriteBaseAt (write_base_place S x)) BusyGuard)))

  abbrev pub cause_at : ℕ → Cause
  cause_at g = cause_after (passed_at g)

  -- at the gates from number n on, one for each test
  abbrev pub causes_from : ℕ → List Bool → List Cause
  causes_from n [] = []
  causes_from n (b ∷ bs) = cause_at n ∷ causes_from (suc n) bs

  -- where it is the same at all of them, it is so at the one that ends the run
  cause_alike : (k : Cause) (n g : ℕ) (bs : List Bool) → g ≡ gate_from n bs → causes_from n bs ≡ replicate (length bs) k → (g ≡ clean_gate → cause_at g ≡ k)
      → cause_at g ≡ k
  unfolding gate_from
  cause_alike k n g [] e a clean = clean e
  cause_alike k n g (true ∷ bs) e a clean = ap cause_at e ∙ ap (λ (l : List Cause). get_or l 0 k) a
  cause_alike k n g (false ∷ bs) e a clean = cause_alike k (suc n) g bs e (ap (drop 1) a) clean

  -- a test that ends the run, by its fault or by its answer; other steps, whether they end it or not
  pub cause_tested : (k : Cause) (n g : ℕ) (bs : List Bool) → g ≡ gate_from n bs → causes_from n bs ≡ replicate (length bs) k → g < clean_gate → k ≡ cause_at g
  cause_tested k n g bs e a h = sym (cause_alike k n g bs e a (λ c. absurd (let z : ⊥ = omega arith in z)))

  pub cause_busy : (n g : ℕ) (bs : List Bool) → g ≡ gate_from n bs → causes_from n bs ≡ replicate (length bs) BusyGuard → BusyGuard ≡ cause_at g
  unfolding row_at cause_after
  cause_busy n g bs e a = sym (cause_alike BusyGuard n g bs e a (ap cause_at))
