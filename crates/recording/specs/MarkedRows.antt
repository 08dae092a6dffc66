-- Rows marked in an array of flags, and read from it rising: how code puts rows in order.
use Rattle.std.specs.Prelude.{◌≡◌, refl, Bool, true, List, [], ◌∷◌, ℕ, ◌+◌, ◌<◌, ◌≤◌, get_or, drop, replicate, ltb}
use Rattle.std.proofs.Math.Bool.{false}
use Rattle.std.proofs.Common.{add-one}
use Rattle.records.specs.Limits.{rows}
use Rattle.rules.specs.Lists.{all, in_order}
use Rattle.fields.specs.Lent.{flags_at_rows, array_cons, array_end}
use Rattle.fields.specs.Marks.{mark_all, marked_from, marks_in_order}

-- no row is marked; shut, since a goal would show all its flags
unfoldable pub no_rows : List Bool
no_rows = replicate rows false

-- the marked rows of a lent array, rising
unfoldable pub marked_rows : List Bool → List ℕ
marked_rows m = marked_from 0 m

-- the rows of a list, marked and read rising, are the list in order
pub rows_in_order : (l : List ℕ) → all (λ r. ltb r rows) l ≡ true → marked_rows (mark_all l no_rows) ≡ in_order l
unfolding marked_rows no_rows
rows_in_order l h = marks_in_order rows l h

-- the marked rows of a lent array from place i on
unfoldable pub marked_at : List Bool → ℕ → List ℕ
marked_at m i = marked_from i (drop i (flags_at_rows m))

pub marked_whole : (m : List Bool) → marked_at m 0 ≡ marked_rows (flags_at_rows m)
unfolding marked_at marked_rows
marked_whole m = refl

module _ (m : List Bool) (i : ℕ) where
  pub marked_end : rows ≤ i → marked_at m i ≡ []
  unfolding marked_at
  marked_end h = rw (array_end rows false m i h)

  pub marked_yes : i < rows → get_or m i false ≡ true → marked_at m i ≡ i ∷ marked_at m (i + 1)
  unfolding marked_at
  marked_yes h e = rw (array_cons rows false m i h, e, add-one)

  pub marked_no : i < rows → get_or m i false ≡ false → marked_at m i ≡ marked_at m (i + 1)
  unfolding marked_at
  marked_no h e = rw (array_cons rows false m i h, e, add-one)
