-- Document 02's wish 3: "halve the range". Where a search that looks at the middle of what is left ends, on any list, and how often it looks.
use Rattle.std.specs.Prelude.{Bool, cond, List, ℕ, zero, suc, ◌+◌, ◌-◌, ◌/◌, length, get_or, eqb, ltb}
use Rattle.packed.specs.declared.halving.Place.{Place}

-- nothing is left
abbrev pub ended : ℕ → Place
ended from = record { at = from; looks = 0 }

-- a look, and then the search of what it left
abbrev pub one_look : Place → Place
one_look p = record { at = p.at; looks = suc p.looks }

abbrev pub half : ℕ → ℕ
half size = size / 2

-- y stands in front of v
abbrev pub below : ℕ → ℕ → Bool
below v y = ltb y v

-- `size` numbers from place `from` on are left: if the middle one is below v, go on behind it, else in front of it. A look leaves fewer, so
-- `most` looks are enough where `most` is not below size
unfoldable pub search_from : ℕ → ℕ → List ℕ → ℕ → ℕ → Place
search_from zero v l from size = ended from
search_from (suc most) v l from size =
    let middle = from + half size in
    let behind = search_from most v l (suc middle) (size - suc (half size)) in
    let before = search_from most v l from (half size) in
    cond (eqb size 0) (ended from) (one_look (cond (below v (get_or l middle 0)) behind before))

-- where v stands in a list, or would stand
unfoldable pub place_found : ℕ → List ℕ → Place
place_found v l = search_from (length l) v l 0 (length l)
