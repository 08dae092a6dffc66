-- Slots, from the fields of the store that a test reads.
use Rattle.std.specs.Prelude.{◌≡◌, Bool, ◌&&◌, List, ℕ, ◌+◌, ◌<◌, ◌≤◌, get_or, drop, eqb}
use Rattle.std.proofs.Math.Path.{refl}
use Rattle.std.proofs.Math.Bool.{true, false, not}
use Rattle.std.proofs.Common.{add-one}
use borrow.Author.Tests.{eq-eqb, ne_eqb}
use Rattle.records.specs.Limits.{places}
use Rattle.rules.specs.Lists.{those, first_zero}
use Rattle.rules.specs.Store.{used_slots}
use Rattle.rules.specs.Chains.{walk, on}
use Rattle.rules.specs.Puts.{own_slots}
use Rattle.fields.specs.Lent.{at_places, array_cons, array_end}

-- the first free place from i on
unfoldable pub free_from : List ℕ → ℕ → ℕ
free_from xmin i = first_zero i (drop i (at_places xmin))

module _ (xmin : List ℕ) (i : ℕ) where
  pub free_end : places ≤ i → free_from xmin i ≡ 0
  unfolding free_from
  free_end h = rw (array_end places 0 xmin i h)

  pub free_here : i < places → get_or xmin i 0 ≡ 0 → free_from xmin i ≡ i
  unfolding free_from
  free_here h e = rw (array_cons places 0 xmin i h, e)

  pub free_next_law : i < places → (get_or xmin i 0 ≡ 0 → ⊥) → free_from xmin i ≡ free_from xmin (i + 1)
  unfolding free_from
  free_next_law h n = rw (array_cons places 0 xmin i h, ne_eqb (get_or xmin i 0) 0 n, add-one)

-- "every off-chain slot of the txid": slot p, by the marks of the walk
unfoldable pub own_slot : List ℕ → List ℕ → ℕ → ℕ → Bool
own_slot xmin seen t p = eqb (get_or xmin p 0) t && not (on seen p)

-- those of the used slots are the definition's
pub own_slots_law : (heads next xmin : List ℕ) (t : ℕ) → own_slots heads next xmin t ≡ those (own_slot xmin (walk heads next).seen t) (used_slots xmin)
unfolding own_slots own_slot
own_slots_law heads next xmin t = refl

-- its creator and its mark say it
module _ (xmin seen : List ℕ) (t p o : ℕ) (creator : o ≡ get_or xmin p 0) where
  pub own_unmarked : (k : ℕ) → k ≡ get_or seen p 0 → o ≡ t → eqb k 0 ≡ own_slot xmin seen t p
  unfolding own_slot
  own_unmarked k e own = rw (← creator, ← e, eq-eqb o t own) (twice (eqb k 0))
    where
      twice : (b : Bool) → b ≡ not (not b)
      twice true = refl
      twice false = refl

  pub own_other : (o ≡ t → ⊥) → false ≡ own_slot xmin seen t p
  unfolding own_slot
  own_other n = rw (← creator, ne_eqb o t n)
