-- Document 02's wish 3: the walk along one key's postings starts at the place that is found by halving, and ends at the first posting of another key.
use Rattle.std.specs.Prelude.{Bool, cond, List, [], ◌∷◌, ℕ, drop, eqb}
use Rattle.rules.specs.Store.{posting, key_of}
use Rattle.packed.specs.Halving.{place_found}

abbrev pub of_key : ℕ → ℕ → Bool
of_key k c = eqb (key_of c) k

-- those in front that pass, up to the first that doesn't
abbrev pub leading : (ℕ → Bool) → List ℕ → List ℕ
leading f [] = []
leading f (c ∷ l) = cond (f c) (c ∷ leading f l) []

-- no posting of the key stands in front of this one
abbrev pub first_posting : ℕ → ℕ
first_posting k = posting k 0

-- the postings of key k that are found in a list, whatever its order
unfoldable pub key_walk : ℕ → List ℕ → List ℕ
key_walk k l = leading (of_key k) (drop (place_found (first_posting k) l).at l)
