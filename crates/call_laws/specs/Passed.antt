-- What a call that answers 0 has passed, in words.
use Rattle.std.specs.Prelude.{◌≡◌, true, false, not, ℕ, ◌≤◌, ◌<◌, length, get_or}
use Rattle.std.proofs.lemmas.Bool.{eqb-false, not-false}
use Rattle.std.proofs.Common.{ltb-false, leb-false}
use Rattle.records.specs.Limits.{rows, active_limit, write_limit, read_limit, clock_end, last_minute}
use Rattle.rules.specs.Lists.{memb}
use Rattle.rules.specs.Types.{Store, Tx, Value}
use Rattle.rules.specs.Store.{active_txids}
use Rattle.rules.specs.Transaction.{reads_of}
use Rattle.rules.specs.Admitted.{resting}
use Rattle.rules.specs.Fit.{fit}
use Rattle.rules.specs.Numbers.{number_of}
use Rattle.rules.specs.Calls.{begin, record_read, read, lowest_free, write, candidates, record_reads, lookup, locked_by_another, row_lock, abort}
use Rattle.sentences.specs.FirstLine.{none_applies}
use Rattle.statements.specs.StoreWords.{stored_key}
use Rattle.statements.specs.OtherNumbers.{first_lines, begin_lines, read_lines, write_lines, lookup_lines, row_lock_lines}
use Rattle.sentences.specs.Refusals.{begin_told, read_told, write_told, lookup_told, row_lock_told, abort_told}

-- begin: not 1, 9, 21, 22
pub record BeginPassed (S : Store) : Type 0 where
  pub rests : resting S ≡ true
  pub healthy : S.poisoned ≡ false
  pub few : length (active_txids S.active) < active_limit
  pub early : S.clock < clock_end

-- an accepted begin has passed so (and so for each call)
pub begin_passed : (S : Store) → number_of (begin S).refusal ≡ 0 → BeginPassed S
begin_passed S h =
    let n = none_applies (begin S).refusal (begin_lines S) (begin_told S) h in
    record {
      rests = not-false (resting S) n.0;
      healthy = n.1.0;
      few = leb-false active_limit (length (active_txids S.active)) n.1.1.0;
      early = leb-false clock_end S.clock n.1.1.1.0;
    }

module _ (S : Store) (x : Tx) where
  -- every other call: not 1, 2, 3; that is all that abort asks
  pub record Admitted : Type 0 where
    pub rests : resting S ≡ true
    pub fits : fit S x ≡ true
    pub active : memb x.txid.0 (active_txids S.active) ≡ true

  -- (from the three tests)
  admits_of : {B : Type 0} → (not (resting S) ≡ false) × ((not (fit S x) ≡ false) × ((not (memb x.txid.0 (active_txids S.active)) ≡ false) × B))
      → Admitted
  admits_of n = record {
    rests = not-false (resting S) n.0;
    fits = not-false (fit S x) n.1.0;
    active = not-false (memb x.txid.0 (active_txids S.active)) n.1.1.0;
  }

  -- an accepted abort
  pub abort_passed : number_of (abort S x).refusal ≡ 0 → Admitted
  abort_passed h = admits_of (none_applies (abort S x).refusal (first_lines S x) (abort_told S x) h)

  -- read: not 9, 23, 24 either
  pub record ReadPassed (r : ℕ) : Type 0 where
    pub first : Admitted
    pub healthy : S.poisoned ≡ false
    pub row : r < rows
    pub room : length (record_read S x r (reads_of x)) ≤ read_limit

  pub read_passed : (r : ℕ) → number_of (read S x r).refusal ≡ 0 → ReadPassed r
  read_passed r h =
      let n = none_applies (read S x r).refusal (read_lines S x r) (read_told S x r) h in
      let m = n.1.1.1 in
      record {
        first = admits_of n;
        healthy = m.0;
        row = leb-false rows r m.1.0;
        room = ltb-false read_limit (length (record_read S x r (reads_of x))) m.1.1.0;
      }

  -- write: not 9, 23, 25, 31, 26
  pub record WritePassed (r : ℕ) (v : Value) : Type 0 where
    pub first : Admitted
    pub healthy : S.poisoned ≡ false
    pub row : r < rows
    pub room : x.write_count < write_limit
    pub minute : stored_key v ≤ last_minute
    pub free : lowest_free S.xmin ≡ 0 → ⊥

  pub write_passed : (r : ℕ) (v : Value) → number_of (write S x r v).refusal ≡ 0 → WritePassed r v
  write_passed r v h =
      let n = none_applies (write S x r v).refusal (write_lines S x r v) (write_told S x r v) h in
      let m = n.1.1.1 in
      record {
        first = admits_of n;
        healthy = m.0;
        row = leb-false rows r m.1.0;
        room = leb-false write_limit x.write_count m.1.1.0;
        minute = ltb-false last_minute (stored_key v) m.1.1.1.0;
        free = eqb-false (lowest_free S.xmin) 0 m.1.1.1.1.0;
      }

  -- lookup: not 9, 31, 24
  pub record LookupPassed (k : ℕ) : Type 0 where
    pub first : Admitted
    pub healthy : S.poisoned ≡ false
    pub minute : k ≤ last_minute
    pub room : length (record_reads S x (candidates S x k) (reads_of x)) ≤ read_limit

  pub lookup_passed : (k : ℕ) → number_of (lookup S x k).refusal ≡ 0 → LookupPassed k
  lookup_passed k h =
      let n = none_applies (lookup S x k).refusal (lookup_lines S x k) (lookup_told S x k) h in
      let m = n.1.1.1 in
      record {
        first = admits_of n;
        healthy = m.0;
        minute = ltb-false last_minute k m.1.0;
        room = ltb-false read_limit (length (record_reads S x (candidates S x k) (reads_of x))) m.1.1.0;
      }

  -- row lock: not 9, 23, 27, 28
  pub record RowLockPassed (r : ℕ) : Type 0 where
    pub first : Admitted
    pub healthy : S.poisoned ≡ false
    pub row : r < rows
    pub void : locked_by_another S x.txid.0 (get_or S.heads r 0) ≡ false
    pub some : get_or S.heads r 0 ≡ 0 → ⊥

  pub row_lock_passed : (r : ℕ) → number_of (row_lock S x r).refusal ≡ 0 → RowLockPassed r
  row_lock_passed r h =
      let n = none_applies (row_lock S x r).refusal (row_lock_lines S x r) (row_lock_told S x r) h in
      let m = n.1.1.1 in
      record {
        first = admits_of n;
        healthy = m.0;
        row = leb-false rows r m.1.0;
        void = m.1.1.0;
        some = eqb-false (get_or S.heads r 0) 0 m.1.1.1.0;
      }
