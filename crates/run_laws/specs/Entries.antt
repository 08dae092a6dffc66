-- The four tests of commit entry by entry: an entry conflicts exactly where its words hold, a test says yes exactly where an entry conflicts, and the
-- place that it tells is the first one's.
use Rattle.std.specs.Prelude.{◌≡◌, refl, ◌↔◌, ◌≢◌, Bool, true, false, not, List, [], ◌∷◌, map, ℕ, zero, suc, ◌<◌, length, get_or}
use Rattle.std.proofs.Common.{sym, ◌∙◌, inl, inr, ⊎_elim, arith}
use Rattle.std.proofs.lemmas.Bool.{false≢true, not-true}
use Rattle.records.specs.Zero.{no_write, no_read, no_index_read}
use Rattle.basic_laws.specs.Cases.{clash}
use Rattle.basic_laws.specs.FinalPlaces.{later, first_final, next_final}
use Rattle.basic_laws.specs.FirstTrue.{yes, yes_map, yes_finals, first_holds, first_before, one_holds}
use Rattle.rules.specs.Lists.{first_true}
use Rattle.rules.specs.Types.{Store, Tx, Write}
use Rattle.rules.specs.Transaction.{writes_of, reads_of, index_reads_of}
use Rattle.rules.specs.Tests.{stamp_differs, index_read_conflict, head_locked, row_lock_conflict, read_conflict, serialization_conflict, write_base_conflict}
use Rattle.rules.specs.Tests.{base_moved, finals_that, index_read_place, row_lock_place, serialization_place, write_base_place}
use Rattle.statements.specs.StepWords.{FinalAt}
use Rattle.statements.specs.CauseWords.{IndexRead, RowLock, Serialization, WriteBase}
use Rattle.run_laws.specs.FourTests.{both, differ, head_locked_says, read_says}

-- ONE ENTRY

-- of a list whose members are asked one by one
pub at_place {ℓ} : {A : Type ℓ} (f : A → Bool) (P : A → Type 0) (z : A) → ((a : A) → (f a ≡ true) ↔ P a) → (l : List A) (p : ℕ)
    → (get_or (map f l) p false ≡ true) ↔ ((p < length l) × P (get_or l p z))
at_place f P z h [] p = (λ t. absurd (false≢true t), λ s. absurd (omega (arith, s.0)))
at_place f P z h (a ∷ l) zero = (λ t. (omega arith, (h a).0 t), λ s. (h a).1 s.1)
at_place f P z h (a ∷ l) (suc p) =
    let r = at_place f P z h l p in (λ t. let s = r.0 t in (omega (arith, s.0), s.1), λ s. r.1 (omega (arith, s.0), s.1))

-- of the final writes among them all
final_first : (w : Write) (ws : List Write) → (not (later w ws) ≡ true) ↔ FinalAt (w ∷ ws) zero
final_first w ws = let f = first_final w ws in (λ t. f.0 (not-true (later w ws) t), λ h. rw (f.1 h))

pub final_at : (f : Write → Bool) (P : Write → Type 0) → ((w : Write) → (f w ≡ true) ↔ P w) → (ws : List Write) (p : ℕ)
    → (get_or (finals_that f ws) p false ≡ true) ↔ (FinalAt ws p × P (get_or ws p no_write))
final_at f P h [] p = (λ t. absurd (false≢true t), λ s. absurd (omega (arith, s.0.0)))
final_at f P h (w ∷ ws) zero = both _ _ (final_first w ws) (h w)
final_at f P h (w ∷ ws) (suc p) =
    let r = final_at f P h ws p in
    let n = next_final w ws p in
    (λ t. let s = r.0 t in (n.0 s.0, s.1), λ s. r.1 (n.1 s.0, s.1))

module _ (S : Store) (x : Tx) where
  -- the entries of each test; for 11 a set index_conflict is the first
  abbrev pub index_read_entries : List Bool
  index_read_entries = x.index_conflict ∷ map (stamp_differs S) (index_reads_of x)

  abbrev pub row_lock_entries : List Bool
  row_lock_entries = map (head_locked S x) (writes_of x)

  abbrev pub serialization_entries : List Bool
  serialization_entries = map (read_conflict S x) (reads_of x)

  abbrev pub write_base_entries : List Bool
  write_base_entries = finals_that (base_moved S) (writes_of x)

  pub index_read_at : (p : ℕ) → (get_or index_read_entries p false ≡ true) ↔ IndexRead S x p
  index_read_at zero = (λ t. inl (refl, t), ⊎_elim (λ s. s.1) (λ s. absurd (omega (arith, s.1))))
  index_read_at (suc p) =
      let e = at_place (stamp_differs S) (λ e. get_or S.stamps e.stripe 0 ≢ e.stamp.0) no_index_read (λ e. differ _ _) (index_reads_of x) in (
        λ t. let s = (e p).0 t in inr (p, refl, s.0, s.1),
        ⊎_elim (λ s. absurd (omega (arith, s.0))) (λ s. let q : p ≡ s.0 = omega (arith, s.1) in rw q ((e s.0).1 (s.2, s.3))),
      )

  pub row_lock_at : (p : ℕ) → (get_or row_lock_entries p false ≡ true) ↔ RowLock S x p
  row_lock_at p = at_place (head_locked S x) _ no_write (head_locked_says S x) (writes_of x) p

  pub serialization_at : (p : ℕ) → (get_or serialization_entries p false ≡ true) ↔ Serialization S x p
  serialization_at p = at_place (read_conflict S x) _ no_read (read_says S x) (reads_of x) p

  pub write_base_at : (p : ℕ) → (get_or write_base_entries p false ≡ true) ↔ WriteBase S x p
  write_base_at p = final_at (base_moved S) (λ w. get_or S.heads w.row.0 0 ≢ w.base.0) (λ w. differ _ _) (writes_of x) p

-- ONE TEST

-- a test by its entries: P says which conflict, b is what it answers, n the place that it tells
pub record ByEntries (P : ℕ → Type 0) (b : Bool) (n : ℕ) : Type 0 where
  pub says : (b ≡ true) ↔ ((p : ℕ) × P p)
  pub conflicts : b ≡ true → P n
  pub earlier : (q : ℕ) → q < n → P q → ⊥

by_entries : (l : List Bool) (P : ℕ → Type 0) → ((p : ℕ) → (get_or l p false ≡ true) ↔ P p) → (b : Bool) → yes l ≡ b → ByEntries P b (first_true l)
by_entries l P h b e =
    let first : b ≡ true → P (first_true l) = λ t. (h (first_true l)).0 (first_holds l (e ∙ t)) in
    record {
      says = (λ t. (first_true l, first t), λ s. sym e ∙ one_holds l s.0 ((h s.0).1 s.1));
      conflicts = first;
      earlier = λ q lt c. clash ((h q).1 c) (first_before l q lt);
    }

module _ (S : Store) (x : Tx) where
  pub index_read_test : ByEntries (IndexRead S x) (index_read_conflict S x) (index_read_place S x)
  unfolding index_read_conflict index_read_place
  index_read_test = by_entries (index_read_entries S x) (IndexRead S x) (index_read_at S x) _ (rw (yes_map (stamp_differs S) (index_reads_of x)))

  pub row_lock_test : ByEntries (RowLock S x) (row_lock_conflict S x) (row_lock_place S x)
  unfolding row_lock_conflict row_lock_place
  row_lock_test = by_entries (row_lock_entries S x) (RowLock S x) (row_lock_at S x) _ (yes_map (head_locked S x) (writes_of x))

  pub serialization_test : ByEntries (Serialization S x) (serialization_conflict S x) (serialization_place S x)
  unfolding serialization_conflict serialization_place
  serialization_test = by_entries (serialization_entries S x) (Serialization S x) (serialization_at S x) _ (yes_map (read_conflict S x) (reads_of x))

  pub write_base_test : ByEntries (WriteBase S x) (write_base_conflict S x) (write_base_place S x)
  unfolding write_base_conflict write_base_place
  write_base_test = by_entries (write_base_entries S x) (WriteBase S x) (write_base_at S x) _ (yes_finals (base_moved S) (writes_of x))
