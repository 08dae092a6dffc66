-- What a commit leaves of the transaction, by its number, field by field.
use Rattle.std.specs.Prelude.{◌≡◌, Bool, ℕ}
use Rattle.std.proofs.Common.{sym, subst, ⊎_elim, eq-eqb}
use Rattle.rules.specs.Types.{Store, Tx, Schedule, Cut}
use Rattle.rules.specs.Transaction.{no_writes, no_accesses, emptied}
use Rattle.rules.specs.Numbers.{number_of}
use Rattle.rules.specs.Answer.{commit}
use Rattle.statements.specs.Words.{Admitted}
use Rattle.statements.specs.CallWords.{ListsEmptied, AccessesEmptied, WritesEmptied, TxAfter}
use Rattle.sentences.specs.CallsSay.{lists_emptied, accesses_emptied, writes_emptied}
use Rattle.run_laws.specs.Aftermath.{row_0, row_13_17}

module _ (S : Store) (x : Tx) (logged : Bool) (plan : Schedule) (cut : Cut) (ok : Admitted S x plan) where
  abbrev y : Tx
  y = (commit S x logged plan cut).tx

  abbrev n : ℕ
  n = number_of (commit S x logged plan cut).refusal

  -- 13 to 17, by number
  after_13 : n ≡ 13 → y ≡ x
  after_13 e = rw e at (row_13_17 S x logged plan cut ok (rw e)).lists

  after_14 : n ≡ 14 → y ≡ no_accesses x
  after_14 e = rw e at (row_13_17 S x logged plan cut ok (rw e)).lists

  after_15 : n ≡ 15 → y ≡ no_writes x
  after_15 e = rw e at (row_13_17 S x logged plan cut ok (rw e)).lists

  after_16 : n ≡ 16 → y ≡ emptied x
  after_16 e = rw e at (row_13_17 S x logged plan cut ok (rw e)).lists

  after_17 : n ≡ 17 → y ≡ emptied x
  after_17 e = rw e at (row_13_17 S x logged plan cut ok (rw e)).lists

  after_0 : n ≡ 0 → y ≡ emptied x
  after_0 e = (row_0 S x logged plan cut ok (eq-eqb n 0 e)).0

  -- so for each of these numbers
  pub tx_after : TxAfter n x y
  tx_after = record {
    emptied = λ o. ⊎_elim
        (λ e. subst (ListsEmptied x) (sym (after_0 e)) (lists_emptied x))
        (λ m. ⊎_elim
        (λ e. subst (ListsEmptied x) (sym (after_16 e)) (lists_emptied x))
        (λ e. subst (ListsEmptied x) (sym (after_17 e)) (lists_emptied x)) m) o;
    unchanged = after_13;
    accesses = λ e. subst (AccessesEmptied x) (sym (after_14 e)) (accesses_emptied x);
    writes = λ e. subst (WritesEmptied x) (sym (after_15 e)) (writes_emptied x);
  }
