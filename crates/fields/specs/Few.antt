-- How many of a list pass a test: no more than it has.
use Rattle.std.specs.Prelude.{Bool, List, [], ◌∷◌, ◌≤◌, length}
use Rattle.std.proofs.Common.{arith}
use Rattle.rules.specs.Lists.{those}
use Rattle.basic_laws.specs.Cases.{by}

pub those_few {ℓ} : {A : Type ℓ} (f : A → Bool) (l : List A) → length (those f l) ≤ length l
those_few f [] = omega arith
those_few f (x ∷ l) = let h = those_few f l in by (f x) (λ e. rw e (omega arith)) (λ e. rw e (omega arith))
