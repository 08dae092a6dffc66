-- The active list, one place at a time; and the ways to be finished or not.
use Rattle.std.specs.Prelude.{◌≡◌, Bool, true, false, not, List, [], ◌∷◌, ℕ, ◌+◌, ◌<◌, ◌≤◌, get_or, drop}
use Rattle.std.proofs.Math.Bool.{and-true, and-false}
use borrow.Author.Tests.{eq-eqb, ne_eqb}
use Rattle.records.specs.Limits.{active_limit}
use Rattle.rules.specs.Lists.{memb}
use Rattle.rules.specs.Store.{active_txids}
use Rattle.rules.specs.Admitted.{finished}
use Rattle.fields.specs.Lent.{at_active, array_cons, array_end}

-- the active txids from place i on
unfoldable pub active_from : List ℕ → ℕ → List ℕ
active_from l i = active_txids (drop i (at_active l))

module _ (l : List ℕ) (i : ℕ) where
  -- none past the last place, and none where a 0 stands
  pub active_end : active_limit ≤ i → active_from l i ≡ []
  unfolding active_from
  active_end h = rw (array_end active_limit 0 l i h)

  pub active_zero : i < active_limit → get_or l i 0 ≡ 0 → active_from l i ≡ []
  unfolding active_from
  active_zero h e = rw (array_cons active_limit 0 l i h, e)

  -- else one, and those from the next place on
  pub active_next : i < active_limit → (get_or l i 0 ≡ 0 → ⊥) → active_from l i ≡ get_or l i 0 ∷ active_from l (i + 1)
  unfolding active_from
  active_next h n = rw (array_cons active_limit 0 l i h, ne_eqb (get_or l i 0) 0 n)

module _ (act : List ℕ) (doomed t : ℕ) where
  pub finished_none : t ≡ 0 → true ≡ finished act doomed t
  unfolding finished
  finished_none e = rw (eq-eqb t 0 e)

  pub finished_doomed : (t ≡ 0 → ⊥) → t ≡ doomed → false ≡ finished act doomed t
  unfolding finished
  finished_doomed n e = rw (ne_eqb t 0 n, eq-eqb t doomed e, and-false (not (memb t act)))

  pub finished_else : (r : Bool) → (t ≡ 0 → ⊥) → (t ≡ doomed → ⊥) → r ≡ memb t act → not r ≡ finished act doomed t
  unfolding finished
  finished_else r n e m = rw (ne_eqb t 0 n, ne_eqb t doomed e, m, and-true (not (memb t act)))
