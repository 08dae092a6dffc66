-- "Admitted stores": who is unfinished.
use Rattle.std.specs.Prelude.{◌≡◌, true, List, ◌≢◌, ◌⊎◌, ℕ}
use Rattle.rules.specs.Lists.{memb}

-- "Unfinished" means active or doomed; 0 is no txid
abbrev pub Unfinished : List ℕ → ℕ → ℕ → Type 0
Unfinished act doomed t = (t ≢ 0) × ((memb t act ≡ true) ⊎ (t ≡ doomed))
