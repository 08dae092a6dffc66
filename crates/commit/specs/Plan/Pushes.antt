-- Blocks of puts for the numbers of a list, pushed in a loop.
use Rattle.std.specs.Prelude.{◌≡◌, length, drop}
use Rattle.std.proofs.Common.{drop_of_length-le, drop-cons}
use mathlib.Core.List.{List, [], ◌∷◌, ◌++◌, map}
use Prim.Native.Nat.{ℕ, ◌+◌, ◌<◌, ◌≤◌}
use Rattle.std.proofs.Math.Numerals.{add-one}
use Rattle.std.proofs.Math.ListN.{get_or}
use Rattle.std.proofs.lemmas.List.{map-append}
use Rattle.rules.specs.Puts.{Put}
use Rattle.journal.specs.Adds.{Adds, adds_then}
use Rattle.journal.specs.Pushing.{Pushing, pushing_next}

-- the puts for the numbers of a list from place i on
module _ (f : ℕ → Put) (l : List ℕ) (i : ℕ) {j₀ j block : List Put} where
  pub push_listed : {p : Put} {after : List Put} → Pushing j₀ block (map f (drop i l)) j → i < length l → p ≡ f (get_or l i 0) → Adds j (p ∷ []) after
      → Pushing j₀ block (map f (drop (i + 1) l)) after
  push_listed h s e a = rw (add-one i) (pushing_next (rw (drop-cons l i 0 s) at h) (rw e at a))

pub listed_end : (f : ℕ → Put) (l : List ℕ) (i : ℕ) → length l ≤ i → map f (drop i l) ≡ []
listed_end f l i h = rw (drop_of_length-le l {i = i} h)

-- the puts for the items of an iterator so far, each seen as v sees it, and one more
pub push_next : {A B : Type 0} (v : A → B) (f : B → Put) (xs : List A) (x : A) {j₀ j after : List Put} → Adds j₀ (map f (map v xs)) j
    → Adds j (f (v x) ∷ []) after → Adds j₀ (map f (map v (xs ++ x ∷ []))) after
push_next v f xs x h a = rw (map-append v xs (x ∷ []), map-append f (map v xs) (v x ∷ [])) (adds_then h a)
