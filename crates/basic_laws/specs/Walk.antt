-- The walk, one slot and one row at a time.
use Rattle.std.specs.Prelude.{◌≡◌, refl, true, false, List, [], ◌∷◌, get_or, set}
use Rattle.std.proofs.Common.{ap}
use Prim.Native.Nat.{ℕ, zero, suc, ◌<◌, ◌≤◌}
use borrow.Author.Tests.{eq-eqb, ne_eqb, lt-ltb, le-ltb}
use Rattle.records.specs.Limits.{slots, places}
use Rattle.rules.specs.Chains.{Walk, walk_row, walk_rows, stop}

-- a chain walked to its end
abbrev pub Ended : List ℕ → Walk
Ended s = record { ok = true; seen = s }

module _ (next seen : List ℕ) where
  -- a chain's walk ends at 0; stops with no fuel, above the last slot and at a slot seen before; and else marks the slot and goes on
  pub row_end : (f p : ℕ) → p ≡ 0 → walk_row f next seen p ≡ Ended seen
  unfolding walk_row
  row_end zero p e = simp (walk_row, eq-eqb p 0 e)
  row_end (suc f) p e = simp (walk_row, eq-eqb p 0 e)

  pub row_out : (f p : ℕ) → f ≡ 0 → (p ≡ 0 → ⊥) → walk_row f next seen p ≡ stop seen
  unfolding walk_row
  row_out f p h n = rw h (simp (walk_row, ne_eqb p 0 n))

  pub row_high : (f p : ℕ) → (f ≡ 0 → ⊥) → (p ≡ 0 → ⊥) → slots < p → walk_row f next seen p ≡ stop seen
  unfolding walk_row
  row_high zero p h n k = absurd (h refl)
  row_high (suc f) p h n k = simp (walk_row, ne_eqb p 0 n, lt-ltb slots p k)

  pub row_twice : (f p : ℕ) → (f ≡ 0 → ⊥) → (p ≡ 0 → ⊥) → p ≤ slots → (get_or seen p 0 ≡ 0 → ⊥) → walk_row f next seen p ≡ stop seen
  unfolding walk_row
  row_twice zero p h n k m = absurd (h refl)
  row_twice (suc f) p h n k m = simp (walk_row, ne_eqb p 0 n, le-ltb slots p k, ne_eqb _ 0 m)

  pub row_step : (f g p : ℕ) → f ≡ suc g → (p ≡ 0 → ⊥) → p ≤ slots → get_or seen p 0 ≡ 0
      → walk_row f next seen p ≡ walk_row g next (set seen p 1) (get_or next p 0)
  unfolding walk_row
  row_step f g p h n k m = rw h (simp (walk_row, ne_eqb p 0 n, le-ltb slots p k, eq-eqb _ 0 m))

-- no row is left
pub rows_end : (next seen : List ℕ) → walk_rows next [] seen ≡ Ended seen
unfolding walk_rows
rows_end next seen = refl

-- a row's chain and what follows it
abbrev pub after : List ℕ → List ℕ → Walk → Walk
after next hs w = elim w.ok [ true ↦ walk_rows next hs w.seen | false ↦ w ]

pub rows_step : (next seen : List ℕ) (p : ℕ) (hs : List ℕ) (w : Walk) → walk_row places next seen p ≡ w → walk_rows next (p ∷ hs) seen ≡ after next hs w
unfolding walk_rows
rows_step next seen p hs w e = ap (after next hs) e
