-- Blocks of puts at marked places, as a loop pushes them; the frees of marked slots.
use Rattle.std.specs.Prelude.{◌≡◌, Bool, true, length, get_or, drop}
use Rattle.std.proofs.Math.Path.{refl}
use Rattle.std.proofs.Math.Bool.{false}
use mathlib.Core.List.{List, [], ◌∷◌, map}
use Prim.Native.Nat.{ℕ, zero, suc, ◌+◌, ◌-◌, ◌<◌, ◌≤◌}
use Rattle.std.proofs.Math.Numerals.{add-one}
use native.Mathlib.Omega.{arith}
use Rattle.std.proofs.Math.ListN.{take}
use Rattle.std.proofs.Common.{drop_of_length-le, drop-cons, take_all}
use Rattle.std.proofs.lemmas.List.{length-map}
use Rattle.rules.specs.Puts.{Put, put_free}
use Rattle.fields.specs.Marks.{marked_from, marked_few}
use Rattle.journal.specs.Adds.{Adds}
use Rattle.journal.specs.Pushing.{Pushing, pushing_next}

-- the puts of the marked places, the first `limit` of them; from place i on
unfoldable pub marked : (ℕ → Put) → ℕ → ℕ → List Bool → List Put
marked f limit i m = take limit (map f (marked_from i (drop i m)))

module _ (f : ℕ → Put) (m : List Bool) (i : ℕ) where
  pub marked_none : (limit : ℕ) → limit ≡ 0 → marked f limit i m ≡ []
  unfolding marked
  marked_none limit e = rw e

  pub marked_end : (limit : ℕ) → length m ≤ i → marked f limit i m ≡ []
  unfolding marked
  marked_end limit h = rw (drop_of_length-le m {i = i} h) (none limit)
    where
      none : (n : ℕ) → take n (map f []) ≡ []
      none zero = refl
      none (suc n) = refl

  marked_skip : (limit : ℕ) → i < length m → get_or m i false ≡ false → marked f limit i m ≡ marked f limit (i + 1) m
  unfolding marked
  marked_skip limit h e = rw (drop-cons m i false h, e, add-one)

  marked_take : (limit : ℕ) → 0 < limit → i < length m → get_or m i false ≡ true
      → marked f limit i m ≡ f i ∷ marked f (limit - 1) (i + 1) m
  unfolding marked
  marked_take zero l h e = absurd (omega arith)
  marked_take (suc n) l h e = let d : suc n - 1 ≡ n = omega arith in rw (drop-cons m i false h, e, add-one, d)

-- one turn of the loop: the place is marked and its put is pushed, or it is not
module _ (f : ℕ → Put) (m : List Bool) (i left : ℕ) (s : i < length m) {j₀ j block : List Put} where
  pub push_mark : {p : Put} {after : List Put} → Pushing j₀ block (marked f left i m) j → 0 < left → get_or m i false ≡ true → p ≡ f i
      → Adds j (p ∷ []) after → Pushing j₀ block (marked f (left - 1) (i + 1) m) after
  push_mark h l e is a = pushing_next (rw (marked_take f m i left l s e) at h) (rw is at a)

  pub pass_mark : Pushing j₀ block (marked f left i m) j → get_or m i false ≡ false → Pushing j₀ block (marked f left (i + 1) m) j
  pass_mark h e = rw (marked_skip f m i left s e) at h

-- the puts of the marked places, rising
abbrev pub placed : (ℕ → Put) → List Bool → List Put
placed f m = map f (marked_from 0 m)

-- as a loop pushes them from the first place on
pub marked_placed : (f : ℕ → Put) (limit : ℕ) (m : List Bool) → marked f limit 0 m ≡ take limit (placed f m)
unfolding marked
marked_placed f limit m = refl

-- as many as there are marks leave none out
pub placed_whole : (f : ℕ → Put) (limit : ℕ) (m : List Bool) → length m ≡ limit → take limit (placed f m) ≡ placed f m
placed_whole f limit m long =
    let few = length-map (marked_from 0 m) f in
    take_all limit (placed f m) (omega (arith, marked_few 0 m))

-- the frees of marked slots
abbrev pub frees_at : List Bool → List Put
frees_at m = placed put_free m
