-- What an accepted call leaves: a resting store of the same sizes, and a transaction that the next call takes.
use Rattle.std.specs.Prelude.{◌≡◌, true}
use Rattle.rules.specs.Lists.{memb}
use Rattle.rules.specs.Types.{Store, Tx}
use Rattle.rules.specs.Store.{active_txids}
use Rattle.rules.specs.Admitted.{resting}
use Rattle.rules.specs.Fit.{fit}
use Rattle.statements.specs.Sized.{Sized}
use Rattle.call_laws.specs.Counts.{SizedTx}

-- numbers 1, 2 and 3 don't apply to the next call
pub record Keeps (T : Store) (y : Tx) : Type 0 where
  pub sized : Sized T
  pub shaped : SizedTx y
  pub rests : resting T ≡ true
  pub fits : fit T y ≡ true
  pub active : memb y.txid.0 (active_txids T.active) ≡ true
