-- Chains, and the walk of all chains.
use Rattle.std.specs.Prelude.{Bool, true, false, not, List, [], ◌∷◌, ℕ, zero, suc, get_or, set, eqb, ltb}
use Rattle.records.specs.Limits.{slots, places, no_marks}

-- the chain that starts at p
unfoldable pub chain_from : ℕ → List ℕ → ℕ → List ℕ
chain_from zero next p = []
chain_from (suc f) next zero = []
chain_from (suc f) next (suc p) = suc p ∷ chain_from f next (get_or next (suc p) 0)

pub record Walk : Type 0 where
  pub ok : Bool
  pub seen : List ℕ

abbrev pub stop : List ℕ → Walk
stop seen = record { ok = false; seen = seen }

-- one chain from p, with the slots seen so far
unfoldable pub walk_row : ℕ → List ℕ → List ℕ → ℕ → Walk
walk_row zero next seen p = elim (eqb p 0) [ true ↦ record { ok = true; seen = seen } | false ↦ stop seen ]
walk_row (suc f) next seen p =
    elim (eqb p 0) [
      | true ↦ record { ok = true; seen = seen }
      | false ↦ elim (ltb slots p) [
        | true ↦ stop seen
        | false ↦
            elim (eqb (get_or seen p 0) 0) [ true ↦ walk_row f next (set seen p 1) (get_or next p 0) | false ↦ stop seen ]
      ]
    ]

-- "The walk of all chains stops at the first slot reached twice."
unfoldable pub walk_rows : List ℕ → List ℕ → List ℕ → Walk
walk_rows next [] seen = record { ok = true; seen = seen }
walk_rows next (h ∷ hs) seen =
    let w = walk_row places next seen h in
    elim w.ok [ true ↦ walk_rows next hs w.seen | false ↦ w ]

unfoldable pub walk : List ℕ → List ℕ → Walk
walk heads next = walk_rows next heads no_marks

-- on a chain, by the marks of the walk
abbrev pub on : List ℕ → ℕ → Bool
on seen p = not (eqb (get_or seen p 0) 0)
