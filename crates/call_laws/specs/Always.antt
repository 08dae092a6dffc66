-- The store rests from the empty one on: whatever a call beside commit is given, and whatever it answers.
use Rattle.std.specs.Prelude.{◌≡◌, refl, true, ℕ, ◌≤◌}
use Rattle.std.proofs.Common.{arith}
use Rattle.records.specs.Zero.{fresh}
use Rattle.rules.specs.Types.{Store, Tx, Value}
use Rattle.rules.specs.Admitted.{resting}
use Rattle.rules.specs.Numbers.{number_of}
use Rattle.rules.specs.Calls.{begin, write, row_lock, abort}
use Rattle.rules.specs.Computing.{computing}
use Rattle.statements.specs.Sized.{Sized}
use Rattle.admitted_laws.specs.Resting.{rests}
use Rattle.sentences.specs.FirstLine.{either}
use Rattle.sentences.specs.Refusals.{begin_refused, begin_accepted, write_refused, row_lock_refused, row_lock_accepted, abort_refused}
use Rattle.call_laws.specs.Counts.{SizedTx}
use Rattle.call_laws.specs.BeginLaws.{begin_keeps}
use Rattle.call_laws.specs.RowLockLaws.{row_lock_keeps}
use Rattle.call_laws.specs.WriteLaws.{write_took, write_keeps}
use Rattle.call_laws.specs.AbortLaws.{abort_aborts, abort_keeps}

-- a resting store of the right sizes, with a clock that has not been lowered
pub record Stays (S T : Store) : Type 0 where
  pub sized : Sized T
  pub rests : resting T ≡ true
  pub clock : S.clock ≤ T.clock

-- the empty store is one
pub fresh_rests : resting fresh ≡ true
unfolding computing
fresh_rests = refl

module _ (S : Store) (z : Sized S) (k : resting S ≡ true) where
  same : Stays S S
  same = record { sized = z; rests = k; clock = omega arith }

  -- begin
  pub begin_stays : Stays S (begin S).store
  begin_stays = either (number_of (begin S).refusal)
      (λ h. let K = begin_keeps S z h in record { sized = K.sized; rests = K.rests; clock = rw (begin_accepted S h) (omega arith) })
      (λ n. rw (begin_refused S n) same)

  -- write
  pub write_stays : (x : Tx) (r : ℕ) (v : Value) → SizedTx x → Stays S (write S x r v).store
  write_stays x r v y = either (number_of (write S x r v).refusal)
      (λ h. let K = write_keeps S x r v z h y in
      let R = rests S z k in
      record { sized = K.sized; rests = K.rests; clock = rw (write_took S x r v z h) (omega arith) })
      (λ n. rw (write_refused S x r v n) same)

  -- row lock
  pub row_lock_stays : (x : Tx) (r : ℕ) → SizedTx x → Stays S (row_lock S x r).store
  row_lock_stays x r y = either (number_of (row_lock S x r).refusal)
      (λ h. let K = row_lock_keeps S x r z h y in record { sized = K.sized; rests = K.rests; clock = rw (row_lock_accepted S x r h) (omega arith) })
      (λ n. rw (row_lock_refused S x r n) same)

  -- abort
  pub abort_stays : (x : Tx) → Stays S (abort S x).store
  abort_stays x = either (number_of (abort S x).refusal)
      (λ h. let K = abort_keeps S x z h in
      let R = rests S z k in
      record { sized = K.0; rests = K.1; clock = rw (abort_aborts S x R.0 z R.1 h).clock (omega arith) })
      (λ n. rw (abort_refused S x n) same)
