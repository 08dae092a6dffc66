-- "A refused call beside commit answers none, 0, empty or a zero transaction", and leaves store and transaction as they were.
use Rattle.std.specs.Prelude.{◌≡◌, refl, ◌≢◌, ℕ}
use Rattle.records.specs.Limits.{rows}
use Rattle.rules.specs.Types.{Store, Tx, RowId, Value}
use Rattle.rules.specs.Numbers.{number_of}
use Rattle.rules.specs.Calls.{begin, read, write, lookup, row_lock, abort}
use Rattle.statements.specs.CallWords.{RefusedBegin, RefusedRead, RefusedWrite, RefusedLookup, RefusedReply}
use Rattle.sentences.specs.CallsSay.{none_at_all, zero_tx_law}
use Rattle.sentences.specs.Refusals.{begin_refused, read_refused, write_refused, lookup_refused, row_lock_refused, abort_refused}

-- begin answers a zero transaction
pub begin_refuses : (S : Store) → number_of (begin S).refusal ≢ 0 → RefusedBegin S (begin S)
begin_refuses S n = rw (begin_refused S n) (record { store = refl; tx = zero_tx_law })

module _ (S : Store) (x : Tx) where
  -- read none, write 0, lookup no row
  pub read_refuses : (r : ℕ) → number_of (read S x r).refusal ≢ 0 → RefusedRead x (read S x r)
  read_refuses r n = rw (read_refused S x r n) (record { value = refl; tx = refl })

  pub write_refuses : (r : ℕ) (v : Value) → number_of (write S x r v).refusal ≢ 0 → RefusedWrite S x (write S x r v)
  write_refuses r v n = rw (write_refused S x r v n) (record { slot = refl; store = refl; tx = refl })

  pub lookup_refuses : (k : ℕ) → number_of (lookup S x k).refusal ≢ 0 → RefusedLookup x (lookup S x k)
  lookup_refuses k n =
      rw (lookup_refused S x k n) (record { rows = none_at_all {A = RowId} (record { 0 = 0 }) (λ r. r.0 ≡ 0) refl rows; tx = refl })

  -- row lock and abort nothing
  pub row_lock_refuses : (r : ℕ) → number_of (row_lock S x r).refusal ≢ 0 → RefusedReply S x (row_lock S x r)
  row_lock_refuses r n = rw (row_lock_refused S x r n) (record { store = refl; tx = refl })

  pub abort_refuses : number_of (abort S x).refusal ≢ 0 → RefusedReply S x (abort S x)
  abort_refuses n = rw (abort_refused S x n) (record { store = refl; tx = refl })
