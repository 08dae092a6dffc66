-- "Other calls": begin, read, write, lookup, row lock, abort.
use Rattle.std.specs.Prelude.{Bool, false, not, cond, ◌&&◌, ◌||◌, List, [], ◌∷◌, ◌++◌, map, ℕ, suc, length, get_or, drop, replicate, eqb, ltb, leb}
use Rattle.records.specs.Limits.{rows, active_limit, write_limit, read_limit, clock_end, places}
use Rattle.rules.specs.Lists.{any, memb, those, pad, in_order, first_of, first_zero}
use Rattle.rules.specs.Types.{Store, Tx, RowId, ReadRecord, IndexRead, Reply, Seen, Written, Found, Value, Absent, Key, Open, Closed}
use Rattle.rules.specs.Types.{Refusal, NotResting, Unfit, NotActive, FoundPoisoned, ActiveFull, ClockAtEnd}
use Rattle.rules.specs.Types.{RowTooHigh, ReadsFull, WritesFull, SlotsFull, LockedByAnother, NoHead, ImpossibleMinute}
use Rattle.records.specs.Zero.{only_txid, zero_tx}
use Rattle.rules.specs.Store.{value_at, carries, impossible, key_of, row_of, stripe_of, postings_of, active_txids}
use Rattle.rules.specs.Transaction.{writes_of, reads_of, index_reads_of, sees, last_own, with_writes, with_reads, with_index_reads}
use Rattle.rules.specs.Chains.{chain_from}
use Rattle.rules.specs.Admitted.{resting}
use Rattle.rules.specs.Fit.{fit}
use Rattle.rules.specs.Numbers.{Try, refuse, tries, is_done}
use Rattle.rules.specs.Puts.{put_enter, put_clock, put_lock, take_slot, apply_all, abort_puts}

-- "1, 2, 3": "store not resting; transaction .. unfit; txid not active"
unfoldable pub admits : Store → Tx → List Try → Refusal
admits S x more = tries (
    refuse (not (resting S)) (NotResting Open)
    ∷ refuse (not (fit S x)) (Unfit Open)
    ∷ refuse (not (memb x.txid.0 (active_txids S.active))) (NotActive Closed)
    ∷ more)

-- "Others: 1, 2, 3, 9, then 23 to 28 rising"; 31 is asked "after 25" by write, "after 9" by lookup
abbrev pub admits_healthy : Store → Tx → List Try → Refusal
admits_healthy S x more = admits S x (refuse S.poisoned (FoundPoisoned Open) ∷ more)

-- "Begin: txid and snapshot_xmax are the clock, which then rises; snapshot holds the earlier active list; snapshot_xmin is its smallest or the txid."
unfoldable pub begun : Store → Tx
begun S =
    let act = active_txids S.active in
    record {
      txid = record { 0 = S.clock };
      snapshot_xmin = record { 0 = get_or act 0 S.clock };
      snapshot_xmax = record { 0 = S.clock };
      snapshot = S.active;
      snapshot_count = length act;
      writes = zero_tx.writes;
      write_count = 0;
      reads = zero_tx.reads;
      read_count = 0;
      index_reads = zero_tx.index_reads;
      index_read_count = 0;
      index_conflict = false;
      savepoints = zero_tx.savepoints;
      savepoint_count = 0;
    }

-- "begin 1, 9, 21, 22"
unfoldable pub begin : Store → Reply
begin S =
    let why = tries (
    refuse (not (resting S)) (NotResting Open)
    ∷ refuse S.poisoned (FoundPoisoned Open)
    ∷ refuse (leb active_limit (length (active_txids S.active))) (ActiveFull Open)
    ∷ refuse (leb clock_end S.clock) (ClockAtEnd Open)
    ∷ []) in
    cond (is_done why)
    (record { refusal = why; store = apply_all (put_enter S.clock ∷ put_clock (suc S.clock) ∷ []) S; tx = begun S })
    (record { refusal = why; store = S; tx = zero_tx })

-- "the first chain version with a visible creator", 0 if none
unfoldable pub visible_version : List ℕ → List ℕ → List ℕ → Tx → ℕ → ℕ
visible_version heads next xmin x r = first_of (λ p. sees x (get_or xmin p 0)) (chain_from places next (get_or heads r 0))

-- "Read: the last own write of the row, else the first chain version with a visible creator."
unfoldable pub read_ptr : Store → Tx → ℕ → ℕ
read_ptr S x r =
    let own = (last_own r (writes_of x)).new.0 in
    cond (eqb own 0) (visible_version S.heads S.next S.xmin x r) own

-- "A found version's pointer and xmin are recorded once per pointer"; document 02's wish 2: the read of an absent row "is recorded with pointer 0 and
-- xmin 0, once per row". Whether e is the read of row r that finds p
abbrev pub same_read : ℕ → ℕ → ReadRecord → Bool
same_read r p e = (not (eqb p 0) || eqb e.row.0 r) && eqb e.ptr.0 p

-- own writes are not recorded; place 0, which is no slot, has xmin 0
unfoldable pub record_read : Store → Tx → ℕ → List ReadRecord → List ReadRecord
record_read S x r l =
    let p = read_ptr S x r in
    cond (not (eqb (last_own r (writes_of x)).new.0 0) || any (same_read r p) l)
    l
    (l ++ record { row = record { 0 = r }; ptr = record { 0 = p }; xmin = record { 0 = get_or S.xmin p 0 } } ∷ [])

unfoldable pub read : Store → Tx → ℕ → Seen
read S x r =
    let l = record_read S x r (reads_of x) in
    let why = admits_healthy S x (refuse (leb rows r) (RowTooHigh Open) ∷ refuse (ltb read_limit (length l)) (ReadsFull Open) ∷ []) in
    cond (is_done why)
    (record { refusal = why; value = value_at S.key S.has (read_ptr S x r); tx = with_reads l x })
    (record { refusal = why; value = Absent; tx = x })

-- "the lowest free slot", 0 if none
unfoldable pub lowest_free : List ℕ → ℕ
lowest_free xmin = first_zero 1 (drop 1 xmin)

-- "base is the found committed version's pointer (0 if none), kept for later writes of that row"
unfoldable pub base_of : Store → Tx → ℕ → ℕ
base_of S x r =
    let own = last_own r (writes_of x) in
    cond (eqb own.new.0 0) (visible_version S.heads S.next S.xmin x r) own.base.0

-- "Write: .. no read recorded; the lowest free slot is taken."
unfoldable pub write : Store → Tx → ℕ → Value → Written
write S x r v =
    let p = lowest_free S.xmin in
    let base = base_of S x r in
    let why = admits_healthy S x (
    refuse (leb rows r) (RowTooHigh Open)
    ∷ refuse (leb write_limit x.write_count) (WritesFull Open)
    ∷ refuse (impossible v) (ImpossibleMinute Open)
    ∷ refuse (eqb p 0) (SlotsFull Open)
    ∷ []) in
    cond (is_done why)
    (record {
      refusal = why;
      slot = record { 0 = p };
      store = apply_all (take_slot p x.txid.0 base v) S;
      tx = with_writes (writes_of x ++ record { row = record { 0 = r }; base = record { 0 = base }; new = record { 0 = p } } ∷ []) x;
    })
    (record { refusal = why; slot = record { 0 = 0 }; store = S; tx = x })

-- "Lookup: rows from postings of the key and own writes", rising
unfoldable pub candidates : Store → Tx → ℕ → List ℕ
candidates S x k = in_order (map row_of (those (λ c. eqb (key_of c) k) (postings_of S)) ++ map (λ w. w.row.0) (writes_of x))

-- "records candidates as Read does"
abbrev pub record_reads : Store → Tx → List ℕ → List ReadRecord → List ReadRecord
record_reads S x [] l = l
record_reads S x (r ∷ rs) l = record_reads S x rs (record_read S x r l)

-- "and the stripe's stamp once per stripe"
abbrev pub record_stamp : ℕ → ℕ → List IndexRead → List IndexRead
record_stamp i t l = cond (any (λ e. eqb e.stripe i) l) l (l ++ record { stripe = i; stamp = record { 0 = t } } ∷ [])

-- "kept if the read value is the key"
unfoldable pub matching : Store → Tx → ℕ → List ℕ
matching S x k = those (λ r. carries S.key S.has (read_ptr S x r) k) (candidates S x k)

abbrev pub as_row : ℕ → RowId
as_row r = record { 0 = r }

-- "24 if they don't all fit"; "raises index_conflict if the present stamp is nonzero and not visible"
unfoldable pub lookup : Store → Tx → ℕ → Found
lookup S x k =
    let l = record_reads S x (candidates S x k) (reads_of x) in
    let t = get_or S.stamps (stripe_of k) 0 in
    let why = admits_healthy S x (refuse (impossible (Key k)) (ImpossibleMinute Open) ∷ refuse (ltb read_limit (length l)) (ReadsFull Open) ∷ []) in
    cond (is_done why)
    (record {
      refusal = why;
      rows = pad rows (as_row 0) (map as_row (matching S x k));
      count = length (matching S x k);
      tx = with_index_reads (record_stamp (stripe_of k) t (index_reads_of x)) (x.index_conflict || (not (eqb t 0) && not (sees x t))) (with_reads l x);
    })
    (record { refusal = why; rows = replicate rows (as_row 0); count = 0; tx = x })

-- "a lock whose owner isn't active is void": locked by an active owner other than t
unfoldable pub locked_by_another : Store → ℕ → ℕ → Bool
locked_by_another S t p =
    let o = get_or S.owner p 0 in
    get_or S.locked p false && (not (eqb o t) && memb o (active_txids S.active))

-- "Row lock: on the head"
unfoldable pub row_lock : Store → Tx → ℕ → Reply
row_lock S x r =
    let h = get_or S.heads r 0 in
    let why = admits_healthy S x (
    refuse (leb rows r) (RowTooHigh Open)
    ∷ refuse (locked_by_another S x.txid.0 h) (LockedByAnother Open)
    ∷ refuse (eqb h 0) (NoHead Open)
    ∷ []) in
    record { refusal = why; store = cond (is_done why) (apply_all (put_lock h x.txid.0 ∷ []) S) S; tx = x }

-- "Abort tries 1, 2, 3 and works on a poisoned store"; "zeroes the transaction but for its txid"
unfoldable pub abort : Store → Tx → Reply
abort S x =
    let why = admits S x [] in
    cond (is_done why)
    (record { refusal = why; store = apply_all (abort_puts S x.txid.0) S; tx = only_txid x.txid.0 })
    (record { refusal = why; store = S; tx = x })
