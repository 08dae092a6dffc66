-- A row of tests, all of which must hold.
use Rattle.std.specs.Prelude.{◌≡◌, refl, Bool, true, false, List, [], ◌∷◌, ◌++◌, ℕ, zero, suc, get_or}
use Rattle.rules.specs.Lists.{every}
use Rattle.basic_laws.specs.Cases.{clash}
use Rattle.basic_laws.specs.Members.{Each}

abbrev pub Holds : Bool → Type 0
Holds b = b ≡ true

-- one that fails fails the row
pub every_fails : (l : List Bool) (k : ℕ) → get_or l k true ≡ false → every l ≡ false
unfolding every
every_fails [] k e = e
every_fails (b ∷ l) zero e = rw e
every_fails (true ∷ l) (suc k) e = every_fails l k e
every_fails (false ∷ l) (suc k) e = refl

-- the row holds where each does, and back
pub each_every : (l : List Bool) → Each Holds l → every l ≡ true
unfolding every
each_every [] h = refl
each_every (b ∷ l) h = rw h.0 (each_every l h.1)

pub every_each : (l : List Bool) → every l ≡ true → Each Holds l
unfolding every
every_each [] e = tt
every_each (true ∷ l) e = (refl, every_each l e)
every_each (false ∷ l) e = clash {b = false} e refl

-- where all but the last hold, the last decides
pub every_last : (l : List Bool) (b : Bool) → Each Holds l → every (l ++ (b ∷ [])) ≡ b
unfolding every
every_last [] true h = refl
every_last [] false h = refl
every_last (c ∷ l) b h = rw h.0 (every_last l b h.1)
