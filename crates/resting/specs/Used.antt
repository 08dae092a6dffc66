-- The rules for used slots, off the chains and on them; and the test of all used slots.
use Rattle.std.specs.Prelude.{◌≡◌, refl, Bool, ◌||◌, List, [], ◌∷◌, ℕ, suc, eqb}
use Rattle.std.specs.List.{list_all, enumerate_from}
use Rattle.std.proofs.Math.Numerals.{add-one}
use Rattle.basic_laws.specs.Cases.{by}
use Rattle.rules.specs.Types.{Store}
use Rattle.rules.specs.Lists.{all, is_zero, nonzero_from}
use Rattle.rules.specs.Admitted.{off_ok, rests_at}
use Rattle.resting.specs.VersionTurns.{fin}

-- a test of the used slots, as one of all slots beside their xmins, counted from n on
pub used_pairs : (f : ℕ → Bool) (n : ℕ) (l : List ℕ) → list_all (λ (p : ℕ × ℕ). is_zero p.1 || f p.0) (enumerate_from n l) ≡ all f (nonzero_from n l)
used_pairs f n [] = refl
used_pairs f n (x ∷ l) = by (eqb x 0) (λ e. rw (e, add-one n, used_pairs f (suc n) l)) (λ e. rw (e, add-one n, used_pairs f (suc n) l))

-- the rule for a used slot off every chain
unfoldable pub off_at : Store → List ℕ → ℕ → Bool
off_at S seen i = off_ok S.xmin S.xmax S.next (fin S) seen i

-- finished, or the doomed one
unfoldable pub settled_by : Store → ℕ → Bool
settled_by S t = fin S t || eqb t S.doomed

-- the rule for a used slot on a chain of a resting store
unfoldable pub rest_at : Store → List ℕ → ℕ → Bool
rest_at S seen i = rests_at S.xmin S.xmax (fin S) S.doomed seen i
