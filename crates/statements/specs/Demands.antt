-- The three demands. Crate `demands` proves them of the definitions, `demands_in_code` states them as contracts of code.
use Rattle.std.specs.Prelude.{◌≡◌, Bool, true, false, [], ◌↔◌, ℕ, replicate}
use Rattle.records.specs.Limits.{rows}
use Rattle.records.specs.Zero.{zero_tx}
use Rattle.rules.specs.Types.{Store, Tx, Schedule, Cut, Uncut, Value, Absent, Done, Open, NotRepairable}
use Rattle.rules.specs.Admitted.{repairable, resting}
use Rattle.rules.specs.Numbers.{number_of, is_done}
use Rattle.rules.specs.Calls.{begin, read, write, as_row, lookup, row_lock, abort}
use Rattle.rules.specs.Recovery.{recovered, recover}
use Rattle.rules.specs.Commit.{fails}
use Rattle.rules.specs.Answer.{commit}
use Rattle.statements.specs.CallWords.{OnlyTxid}
use Rattle.statements.specs.Sized.{Sized, Keyed}
use Rattle.statements.specs.Words.{Admitted, Quiet, Conflicts, Committed, Freed, aborted_number, Safe}
use Rattle.statements.specs.Table.{first_row, Reason, Answers, Told}
use Rattle.statements.specs.NumbersSeen.{commit_rows, done_row}
use Rattle.statements.specs.OtherNumbers.{first_lines, begin_lines, read_lines, write_lines, lookup_lines, row_lock_lines}

-- "No call trusts its caller. Any store, transaction or fault schedule may arrive; unfit ones are refused by number, and store, transaction and
-- record afterwards are fixed for each refusal."

-- commit: the answer is that of the first row of the table that applies, of the row of 0 if none does; so a number is answered exactly where one
-- of its rows applies and none before it does
pub record AnswersByTable (S : Store) (x : Tx) (logged : Bool) (plan : Schedule) (cut : Cut) : Type 0 where
  pub by_first : Answers S x (commit S x logged plan cut) (first_row (commit_rows S x logged plan cut) (done_row S x logged plan))
  pub exactly : (n : ℕ) → (number_of (commit S x logged plan cut).refusal ≡ n)
      ↔ Reason n [] (commit_rows S x logged plan cut) (done_row S x logged plan)

abbrev pub Demand1 : Type 0
Demand1 = (S : Store) (x : Tx) (logged : Bool) (plan : Schedule) (cut : Cut) → Sized S → AnswersByTable S x logged plan cut

-- the calls beside commit: each number is given exactly where its line of the call's table says, with the line's fate; a refused call changes nothing
pub record Others (S : Store) (x : Tx) : Type 0 where
  pub begins : Told (begin S).refusal [] (begin_lines S)
  pub reads : (r : ℕ) → Told (read S x r).refusal [] (read_lines S x r)
  pub writes : (r : ℕ) (v : Value) → Told (write S x r v).refusal [] (write_lines S x r v)
  pub looks : (k : ℕ) → Told (lookup S x k).refusal [] (lookup_lines S x k)
  pub locks : (r : ℕ) → Told (row_lock S x r).refusal [] (row_lock_lines S x r)
  pub aborts : Told (abort S x).refusal [] (first_lines S x)
  pub begin_same : (number_of (begin S).refusal ≡ 0 → ⊥) → begin S ≡ record { refusal = (begin S).refusal; store = S; tx = zero_tx }
  pub read_same : (r : ℕ) → (number_of (read S x r).refusal ≡ 0 → ⊥)
      → read S x r ≡ record { refusal = (read S x r).refusal; value = Absent; tx = x }
  pub write_same : (r : ℕ) (v : Value) → (number_of (write S x r v).refusal ≡ 0 → ⊥)
      → write S x r v ≡ record { refusal = (write S x r v).refusal; slot = record { 0 = 0 }; store = S; tx = x }
  pub look_same : (k : ℕ) → (number_of (lookup S x k).refusal ≡ 0 → ⊥)
      → lookup S x k ≡ record { refusal = (lookup S x k).refusal; rows = replicate rows (as_row 0); count = 0; tx = x }
  pub lock_same : (r : ℕ) → (number_of (row_lock S x r).refusal ≡ 0 → ⊥)
      → row_lock S x r ≡ record { refusal = (row_lock S x r).refusal; store = S; tx = x }
  pub abort_same : (number_of (abort S x).refusal ≡ 0 → ⊥) → abort S x ≡ record { refusal = (abort S x).refusal; store = S; tx = x }
  pub recovers : repairable S ≡ true → recover S ≡ record { refusal = Done; store = recovered S }
  pub recover_same : repairable S ≡ false → recover S ≡ record { refusal = NotRepairable Open; store = S }

abbrev pub Demand1Others : Type 0
Demand1Others = (S : Store) (x : Tx) → Others S x

-- "With an admitted, unpoisoned store, a fit open transaction, no fault, no cut, and either logging, no writes or a store not durably bound, it
-- succeeds exactly when the four conflict tests all say no; the record then names that transaction and its final writes."
abbrev pub Demand2 : Type 0
Demand2 = (S : Store) (x : Tx) (logged : Bool) (plan : Schedule) → Sized S → Keyed S → Quiet S x logged plan
    → let a = commit S x logged plan Uncut in
    ((number_of a.refusal ≡ 0) ↔ (Conflicts S x → ⊥)) × (is_done a.refusal ≡ true → Committed S x a)

-- "Each abort that neither fault nor cut strikes truly frees and deregisters": the aborts inside commit (5, 6, 7, 9, 11, 12, and 19 where only
-- the rollback failed), whatever the cut allows to be answered
abbrev pub Demand2Aborts : Type 0
Demand2Aborts = (S : Store) (x : Tx) (logged : Bool) (plan : Schedule) (cut : Cut)
    → Sized S → Admitted S x plan → fails S x logged plan 23 ≡ false
    → let a = commit S x logged plan cut in
    aborted_number (number_of a.refusal) ≡ true → Freed S x.txid.0 a.store × OnlyTxid x.txid.0 a.tx

-- and the call's own
abbrev pub Demand2Abort : Type 0
Demand2Abort = (S : Store) (x : Tx) → Sized S → number_of (abort S x).refusal ≡ 0
    → Freed S x.txid.0 (abort S x).store × OnlyTxid x.txid.0 (abort S x).tx

-- "Stop a commit after any single store, or fail or panic any step that may; then recover. From an admitted store every row shows its old value, or
-- all final writes show together and every other row its old value": for every resting store, poisoned ones included, every transaction,
-- logging choice, schedule and cut
abbrev pub Demand3 : Type 0
Demand3 = (S : Store) (x : Tx) (logged : Bool) (plan : Schedule) → Sized S → Keyed S → resting S ≡ true
    → (cut : Cut) → Safe S x logged plan (commit S x logged plan cut).store
