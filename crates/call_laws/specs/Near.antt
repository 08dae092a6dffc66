-- A store changed off its chains: the marks of the walk stay.
use Rattle.std.specs.Prelude.{◌≡◌, List, ℕ}
use Rattle.rules.specs.Chains.{on}
use Rattle.basic_laws.specs.Cases.{iff}
use Rattle.basic_laws.specs.Chained.{Chained}

-- the marks of one set of chains are the same, whatever else changes
pub on_near : (heads next next' seen seen' : List ℕ) (L : ℕ → List ℕ) → Chained heads next seen L → Chained heads next' seen' L → (n : ℕ)
    → on seen' n ≡ on seen n
on_near heads next next' seen seen' L C D n = iff (on seen' n) (on seen n)
    (λ e. let g = D.found n e in C.marked g.0 n g.1 g.2)
    (λ e. let g = C.found n e in D.marked g.0 n g.1 g.2)
