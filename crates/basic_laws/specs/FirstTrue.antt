-- The place of the first test that holds, and the entries of commit's four tests: a test says yes exactly where an entry conflicts.
use Rattle.std.specs.Prelude.{◌≡◌, refl, Bool, true, false, List, [], ◌∷◌, map, ℕ, zero, suc, ◌<◌, get_or, eqb}
use Rattle.std.proofs.Common.{ap, arith}
use Rattle.std.proofs.lemmas.Bool.{false≢true}
use Rattle.basic_laws.specs.Cases.{by, clash}
use Rattle.rules.specs.Lists.{any, first_true}
use Rattle.rules.specs.Types.{Write}
use Rattle.rules.specs.Transaction.{final_writes}
use Rattle.rules.specs.Tests.{finals_that}

-- one of the tests holds
abbrev pub yes : List Bool → Bool
yes l = any (λ b. b) l

-- of each member, and of one of them
pub yes_map {ℓ} : {A : Type ℓ} (f : A → Bool) (l : List A) → yes (map f l) ≡ any f l
yes_map f [] = refl
yes_map f (a ∷ l) = by (f a) (λ e. rw e) (λ e. rw e (yes_map f l))

-- a final write passes: by the whole list and by the list of final writes
pub yes_finals : (f : Write → Bool) (ws : List Write) → yes (finals_that f ws) ≡ any f (final_writes ws)
yes_finals f [] = refl
yes_finals f (w ∷ ws) =
    by (any (λ (v : Write). eqb v.row.0 w.row.0) ws)
    (λ e. rw e (yes_finals f ws))
    (λ e. by (f w) (λ k. rw (e, k)) (λ k. rw (e, k) (yes_finals f ws)))

-- the first that holds does hold, and none before it
pub first_holds : (l : List Bool) → yes l ≡ true → get_or l (first_true l) false ≡ true
first_holds [] h = h
first_holds (true ∷ l) h = refl
first_holds (false ∷ l) h = first_holds l h

pub first_before : (l : List Bool) (q : ℕ) → q < first_true l → get_or l q false ≡ false
first_before [] q h = refl
first_before (true ∷ l) q h = absurd (omega arith)
first_before (false ∷ l) zero h = refl
first_before (false ∷ l) (suc q) h = first_before l q (omega arith)

-- one that holds, and none before it, is the first; so one of them holds
pub first_only : (l : List Bool) (p : ℕ) → get_or l p false ≡ true → ((q : ℕ) → q < p → get_or l q false ≡ false) → first_true l ≡ p
first_only [] p h k = absurd (false≢true h)
first_only (true ∷ l) zero h k = refl
first_only (true ∷ l) (suc p) h k = clash {b = true} refl (k 0 (omega arith))
first_only (false ∷ l) zero h k = absurd (false≢true h)
first_only (false ∷ l) (suc p) h k = ap suc (first_only l p h (λ q m. k (suc q) (omega arith)))

pub one_holds : (l : List Bool) (p : ℕ) → get_or l p false ≡ true → yes l ≡ true
one_holds [] p h = h
one_holds (true ∷ l) p h = refl
one_holds (false ∷ l) zero h = absurd (false≢true h)
one_holds (false ∷ l) (suc p) h = one_holds l p h

pub none_holds : (l : List Bool) (p : ℕ) → yes l ≡ false → get_or l p false ≡ false
none_holds [] p h = refl
none_holds (true ∷ l) p h = clash {b = true} refl h
none_holds (false ∷ l) zero h = refl
none_holds (false ∷ l) (suc p) h = none_holds l p h
