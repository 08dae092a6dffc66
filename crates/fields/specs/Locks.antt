-- Who locks a slot, from the fields of the store that the test reads.
use Rattle.std.specs.Prelude.{◌≡◌, refl, Bool, false, not, ◌&&◌, List, ℕ, get_or, eqb}
use Rattle.rules.specs.Lists.{memb}
use Rattle.rules.specs.Types.{Store}
use Rattle.rules.specs.Store.{active_txids}
use Rattle.rules.specs.Calls.{locked_by_another}

module _ (locked : List Bool) (owner active : List ℕ) (t p : ℕ) where
  unfoldable pub locked_of : Bool
  locked_of = let o = get_or owner p 0 in get_or locked p false && (not (eqb o t) && memb o (active_txids active))

-- it is the definition's on the whole store
pub locked_of_law : (S : Store) (t p : ℕ) → locked_by_another S t p ≡ locked_of S.locked S.owner S.active t p
unfolding locked_by_another locked_of
locked_of_law S t p = refl
