-- The first puts of an array, as a journal's fields hold them.
use Rattle.std.specs.Prelude.{◌≡◌, List, [], ◌∷◌, ◌++◌, map, ℕ, ◌+◌, ◌<◌, min, length, set, take}
use Rattle.std.proofs.Common.{sym}
use Rattle.std.proofs.lemmas.List.{take-map, take_min, map-append, take_more_set}
use Rattle.journal.specs.Journal.{Planned, meant}

-- one put more
pub held_more : (l : List Planned) (n : ℕ) (p : Planned) → n < length l → map meant (take (n + 1) (set l n p)) ≡ map meant (take n l) ++ meant p ∷ []
held_more l n p h = rw (take_more_set l n p h) (map-append meant (take n l) (p ∷ []))

-- the first of them, no more than there are
pub held_first : (l : List Planned) (n m : ℕ) → m ≡ min n (length l) → map meant (take m l) ≡ take n (map meant l)
held_first l n m e = rw (e, take_min n l) (sym (take-map meant n l))
