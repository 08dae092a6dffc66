-- Pointers that calls take from a store are of slots, or null.
use Rattle.std.specs.Prelude.{◌≡◌, true, List, [], ◌∷◌, ℕ, suc, ◌+◌, ◌<◌, ◌≤◌, length, get_or, drop, eqb, ltb}
use Rattle.std.proofs.Common.{arith, lit<, ltb-true, ltb-false, length-drop}
use Rattle.std.proofs.Math.ListN.{get_or-eq_default}
use Rattle.records.specs.Limits.{places}
use Rattle.basic_laws.specs.Cases.{by}
use Rattle.basic_laws.specs.Chain.{IsChain}
use Rattle.basic_laws.specs.Chained.{walk_sound}
use Rattle.basic_laws.specs.TestParts.{repairable_parts, resting_parts}
use Rattle.rules.specs.Lists.{first_zero}
use Rattle.rules.specs.Types.{Store}
use Rattle.rules.specs.Admitted.{resting}
use Rattle.rules.specs.Calls.{lowest_free}
use Rattle.statements.specs.Sized.{Sized}

-- in a store at rest a head is a slot or null
pub head_placed : (S : Store) (r : ℕ) → Sized S → resting S ≡ true → get_or S.heads r 0 < places
head_placed S r z rests =
    let walked = walk_sound S.heads S.next z.next (repairable_parts S (resting_parts S rests).mendable).walked in
    by (ltb r (length S.heads))
    (λ lt. first (walked.0 r) (walked.1.stand.chain r (ltb-true r (length S.heads) lt)))
    (λ ge. rw (get_or-eq_default S.heads 0 {n = r} (ltb-false r (length S.heads) ge)) (lit< tt))
  where
    first : (l : List ℕ) → IsChain S.next (get_or S.heads r 0) l → get_or S.heads r 0 < places
    first [] e = omega arith
    first (p ∷ l) c = omega (arith, c.0, c.2, z.next)

-- the lowest free slot is a slot or null
zero_within : (p : ℕ) (l : List ℕ) → first_zero p l ≤ p + length l
zero_within p [] = omega arith
zero_within p (y ∷ l) = by (eqb y 0) (λ e. rw e (omega arith)) (λ e. rw e (omega (arith, zero_within (suc p) l)))

pub free_placed : (xmin : List ℕ) → lowest_free xmin ≤ suc (length xmin)
unfolding lowest_free
free_placed xmin = omega (arith, zero_within 1 (drop 1 xmin), length-drop 1 xmin)
