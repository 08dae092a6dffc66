-- Searches, computed: numbers that stand there and absent ones, a list of none and of one, one that doesn't rise, and the most looks.
use Rattle.std.specs.Prelude.{◌≡◌, refl, List, [], ◌∷◌, map, ℕ, replicate}
use Rattle.packed.specs.Halving.{search_from, place_found}

abbrev places : List ℕ → List ℕ → List ℕ
places vs l = map (λ v. (place_found v l).at) vs

pub in_three : places (1 ∷ 3 ∷ 4 ∷ 5 ∷ 6 ∷ 8 ∷ 9 ∷ []) (3 ∷ 5 ∷ 8 ∷ []) ≡ 0 ∷ 0 ∷ 1 ∷ 1 ∷ 2 ∷ 2 ∷ 3 ∷ []
unfolding place_found search_from
in_three = refl

pub in_one : places (3 ∷ 5 ∷ 8 ∷ []) (5 ∷ []) ≡ 0 ∷ 0 ∷ 1 ∷ []
unfolding place_found search_from
in_one = refl

pub in_none : places (0 ∷ 5 ∷ []) [] ≡ 0 ∷ 0 ∷ []
unfolding place_found search_from
in_none = refl

-- a list that falls: the end is a place with a smaller number in front of it
pub in_falling : places (2 ∷ 5 ∷ 9 ∷ []) (8 ∷ 3 ∷ 1 ∷ []) ≡ 0 ∷ 3 ∷ 3 ∷ []
unfolding place_found search_from
in_falling = refl

-- the looks for a number in front of all, which are the most, at 0, 16, 64, 128 and 256 numbers
pub most_looks : map (λ n. (place_found 0 (replicate n 1)).looks) (0 ∷ 16 ∷ 64 ∷ 128 ∷ 256 ∷ []) ≡ 0 ∷ 5 ∷ 7 ∷ 8 ∷ 9 ∷ []
unfolding place_found search_from
most_looks = refl
