-- "Shows", tied to a read: what a store shows, by begin, read and lookup themselves, and by nothing that lies under them.
use Rattle.std.specs.Prelude.{◌≡◌, Bool, true, false, List, ◌↔◌, ◌≢◌, ◌⊎◌, ℕ, suc, ◌%◌, ◌≤◌, ◌<◌, length, get_or}
use Rattle.records.specs.Limits.{rows, stripes, active_limit, read_limit, key_end, clock_end, last_minute}
use Rattle.records.specs.Zero.{empty_store}
use Rattle.rules.specs.Lists.{memb}
use Rattle.rules.specs.Types.{Store, Tx, Schedule, Cut, Uncut, Value, Key, Found}
use Rattle.rules.specs.Store.{active_txids}
use Rattle.rules.specs.Transaction.{finals}
use Rattle.rules.specs.Admitted.{repairable, resting}
use Rattle.rules.specs.Numbers.{number_of, is_done}
use Rattle.rules.specs.Calls.{begin, read, write, lookup, row_lock, abort}
use Rattle.rules.specs.Recovery.{recover}
use Rattle.rules.specs.Answer.{commit}
use Rattle.statements.specs.Sized.{Sized, SizedTx, Keyed}
use Rattle.statements.specs.Words.{Quiet, row_value, shown, with_new, after}

-- the rows with key k: rising, and exactly the rows whose value it is
pub record RowsWith (value : ℕ → Value) (k : ℕ) (found : List ℕ) : Type 0 where
  pub rising : (i j : ℕ) → i < j → j < length found → get_or found i 0 < get_or found j 0
  pub exactly : (r : ℕ) → (memb r found ≡ true) ↔ ((r < rows) × (value r ≡ Key k))

-- a stamp that a transaction begun on T can't see: neither none nor that of a transaction which is over
abbrev pub Unseen : Store → ℕ → Type 0
Unseen T t = (t ≢ 0) × ((T.clock < t) ⊎ (memb t (active_txids T.active) ≡ true))

-- every stamp is none, or the txid of a transaction that is over: one from before the clock that is not active
abbrev pub Stamped : Store → Type 0
Stamped T = (i : ℕ) → let t = get_or T.stamps i 0 in (t ≡ 0) ⊎ ((t < T.clock) × (memb t (active_txids T.active) ≡ false))

-- a lookup on T that answers exactly these rows: their count, each at its place, zero behind them; index_conflict is down, and would be up exactly
-- where the stamp of the key's stripe is unseen
pub record Answered (T : Store) (k : ℕ) (found : List ℕ) (a : Found) : Type 0 where
  pub number : number_of a.refusal ≡ 0
  pub count : a.count ≡ length found
  pub long : length a.rows ≡ rows
  pub places : (i : ℕ) → (get_or a.rows i (record { 0 = 0 })).0 ≡ get_or found i 0
  pub down : Stamped T → a.tx.index_conflict ≡ false
  pub up : (a.tx.index_conflict ≡ true) ↔ Unseen T (get_or T.stamps (k % stripes) 0)

-- y is what is left of x after n reads on U, one after the other
pub data AfterReads (U : Store) (x : Tx) : ℕ → Tx → Type 0 where
  unread : AfterReads U x 0 x
  again : {n : ℕ} {y : Tx} → AfterReads U x n y → (r : ℕ) → r < rows → AfterReads U x (suc n) (read U y r).tx

-- T shows these values: begin is accepted; then a read of any row gives its value, as often as a transaction can record reads, and a lookup of any
-- minute exactly the rows with it, or 24 exactly where they are more than a transaction can record; of a key that is no minute, 31
pub record Shown (T : Store) (value : ℕ → Value) : Type 0 where
  pub begins : number_of (begin T).refusal ≡ 0
  pub reads : (n : ℕ) (y : Tx) → AfterReads (begin T).store (begin T).tx n y → n < read_limit
      → (r : ℕ) → r < rows → let a = read (begin T).store y r in (number_of a.refusal ≡ 0) × (a.value ≡ value r)
  pub looks : (k : ℕ) → let a = lookup (begin T).store (begin T).tx k in
      (found : List ℕ)
      × RowsWith value k found
      × (k ≤ last_minute → length found ≤ read_limit → Answered T k found a)
      × ((number_of a.refusal ≡ 24) ↔ (read_limit < length found))
      × ((number_of a.refusal ≡ 31) ↔ (last_minute < k))

-- AT ANY TIME: an unpoisoned store at rest with room for one more transaction shows what its rows hold, whoever else is active
abbrev pub RestingShows : Type 0
RestingShows = (T : Store) → Sized T → resting T ≡ true → T.poisoned ≡ false → length (active_txids T.active) < active_limit → T.clock < clock_end
    → Shown T (row_value T)

-- AFTER RECOVERY: of any repairable store, each row shows the value of its first version whose creator is finished
abbrev pub RecoveredShows : Type 0
RecoveredShows = (S : Store) → Sized S → Keyed S → repairable S ≡ true → S.clock < clock_end
    → Shown (recover S).store (shown S) × (Stamped S → Stamped (recover S).store)

-- AFTER A CUT OR A FAULT (demand 3): recovery of what a commit leaves shows old or new
abbrev pub CutShows : Type 0
CutShows = (S : Store) (x : Tx) (logged : Bool) (plan : Schedule) → Sized S → Keyed S → resting S ≡ true → S.clock < clock_end
    → (cut : Cut) → let D = (commit S x logged plan cut).store in
    Shown (recover D).store (after S x logged plan D) × (Stamped S → Stamped (recover D).store)

-- AFTER A SUCCESSFUL COMMIT (demand 2): every final write shows, and every other row its old value, whoever else is active
abbrev pub CommittedShows : Type 0
CommittedShows = (S : Store) (x : Tx) (logged : Bool) (plan : Schedule) → Sized S → Keyed S → Quiet S x logged plan → S.clock < clock_end
    → let a = commit S x logged plan Uncut in
    is_done a.refusal ≡ true → Shown a.store (with_new S.key S.has (finals x) (row_value S)) × (Stamped S → Stamped a.store)

-- EVERY STORE THAT THE CALLS REACH from the empty one: whatever they are given, whatever they answer, wherever a commit is cut (read and lookup
-- answer no store)
pub data Reached : Store → Type 0 where
  empty : (bound : Bool) → Reached (empty_store bound)
  begun : (S : Store) → Reached S → Reached (begin S).store
  written : (S : Store) → Reached S → (x : Tx) → SizedTx x → (r : ℕ) (v : Value) → ((k : ℕ) → v ≡ Key k → k < key_end) → Reached (write S x r v).store
  locked : (S : Store) → Reached S → (x : Tx) → SizedTx x → (r : ℕ) → Reached (row_lock S x r).store
  aborted : (S : Store) → Reached S → (x : Tx) → Reached (abort S x).store
  committed : (S : Store) → Reached S → (x : Tx) (logged : Bool) (plan : Schedule) (cut : Cut) → Reached (commit S x logged plan cut).store
  recovered : (S : Store) → Reached S → Reached (recover S).store

-- what each of them has; so recovery of each shows the value of each row's first finished version, index_conflict down at every key
pub record Sound (S : Store) : Type 0 where
  pub sized : Sized S
  pub keyed : Keyed S
  pub mendable : repairable S ≡ true
  pub stamped : Stamped S

abbrev pub ReachedShows : Type 0
ReachedShows = (S : Store) → Reached S → Sound S × (S.clock < clock_end → Shown (recover S).store (shown S) × Stamped (recover S).store)
