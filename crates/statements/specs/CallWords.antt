-- "Other calls" in words: begin, write, row lock, abort, recovery; what is emptied and what is kept.
use Rattle.std.specs.Prelude.{◌≡◌, true, false, ◌||◌, List, [], ◌∷◌, ◌++◌, ◌≢◌, ◌⊎◌, ℕ, suc, ◌+◌, ◌*◌, ◌≤◌, ◌<◌, length, get_or, take, eqb}
use Rattle.records.specs.Limits.{rows, stripes, partitions, active_limit, write_limit, read_limit, index_read_limit, savepoint_limit}
use Rattle.rules.specs.Lists.{any, memb, without}
use Rattle.rules.specs.Types.{Store, Tx, Write, ReadRecord, IndexRead, Value, Absent, Record, Reply, Seen, Written, Found}
use Rattle.rules.specs.Store.{active_txids}
use Rattle.statements.specs.StoreWords.{Packed, Blank, SameSlot, Part, Active, Clock, RowLocks, Kept, Lowest, Taken}
use Rattle.statements.specs.AdmittedWords.{Unfinished}
use Rattle.statements.specs.ReadWords.{VisibleAt, NoneIn, FirstIn, LastOf, its_writes, of_row}

-- WHAT IS EMPTIED AND WHAT IS KEPT

-- zero entries of a transaction's lists
abbrev pub ZeroWrite : Write → Type 0
ZeroWrite w = (w.row.0 ≡ 0) × (w.base.0 ≡ 0) × (w.new.0 ≡ 0)

abbrev pub ZeroRead : ReadRecord → Type 0
ZeroRead e = (e.row.0 ≡ 0) × (e.ptr.0 ≡ 0) × (e.xmin.0 ≡ 0)

abbrev pub ZeroIndexRead : IndexRead → Type 0
ZeroIndexRead e = (e.stripe ≡ 0) × (e.stamp.0 ≡ 0)

abbrev pub Zero : ℕ → Type 0
Zero n = n ≡ 0

-- an array of n places whose places from c on are zero entries (d is read past the end, and says nothing)
pub record ZeroFrom {A : Type 0} (Z : A → Type 0) (n c : ℕ) (l : List A) : Type 0 where
  pub long : length l ≡ n
  pub zero : (d : A) (i : ℕ) → c ≤ i → i < n → Z (get_or l i d)

-- a list emptied: its count is 0 and every place of its array is zero
pub record Empty {A : Type 0} (Z : A → Type 0) (n : ℕ) (l : List A) (count : ℕ) : Type 0 where
  pub none : count ≡ 0
  pub blank : ZeroFrom Z n 0 l

-- "txid kept", "the snapshot stays"
pub record SameSnapshot (x y : Tx) : Type 0 where
  pub txid : y.txid.0 ≡ x.txid.0
  pub snapshot_xmin : y.snapshot_xmin.0 ≡ x.snapshot_xmin.0
  pub snapshot_xmax : y.snapshot_xmax.0 ≡ x.snapshot_xmax.0
  pub snapshot : y.snapshot ≡ x.snapshot
  pub snapshot_count : y.snapshot_count ≡ x.snapshot_count

-- a list kept, array and count
pub record SameReads (x y : Tx) : Type 0 where
  pub reads : y.reads ≡ x.reads
  pub read_count : y.read_count ≡ x.read_count

pub record SameIndexReads (x y : Tx) : Type 0 where
  pub index_reads : y.index_reads ≡ x.index_reads
  pub index_read_count : y.index_read_count ≡ x.index_read_count

pub record SameSavepoints (x y : Tx) : Type 0 where
  pub savepoints : y.savepoints ≡ x.savepoints
  pub savepoint_count : y.savepoint_count ≡ x.savepoint_count

-- '"Lists emptied" clears writes, reads, index reads and savepoints and lowers index_conflict; the snapshot stays': x becomes y
pub record ListsEmptied (x y : Tx) : Type 0 where
  pub snapshot : SameSnapshot x y
  pub writes : Empty ZeroWrite write_limit y.writes y.write_count
  pub reads : Empty ZeroRead read_limit y.reads y.read_count
  pub index_reads : Empty ZeroIndexRead index_read_limit y.index_reads y.index_read_count
  pub savepoints : Empty Zero savepoint_limit y.savepoints y.savepoint_count
  pub index_conflict : y.index_conflict ≡ false

-- 14: "writes, reads, index reads emptied"; savepoints and index_conflict are as they were
pub record AccessesEmptied (x y : Tx) : Type 0 where
  pub snapshot : SameSnapshot x y
  pub writes : Empty ZeroWrite write_limit y.writes y.write_count
  pub reads : Empty ZeroRead read_limit y.reads y.read_count
  pub index_reads : Empty ZeroIndexRead index_read_limit y.index_reads y.index_read_count
  pub savepoints : SameSavepoints x y
  pub index_conflict : y.index_conflict ≡ x.index_conflict

-- 15: "writes alone emptied"
pub record WritesEmptied (x y : Tx) : Type 0 where
  pub snapshot : SameSnapshot x y
  pub writes : Empty ZeroWrite write_limit y.writes y.write_count
  pub reads : SameReads x y
  pub index_reads : SameIndexReads x y
  pub savepoints : SameSavepoints x y
  pub index_conflict : y.index_conflict ≡ x.index_conflict

-- "zeroes the transaction but for its txid", which is t; "a zero transaction" is that with 0
pub record OnlyTxid (t : ℕ) (y : Tx) : Type 0 where
  pub txid : y.txid.0 ≡ t
  pub snapshot_xmin : y.snapshot_xmin.0 ≡ 0
  pub snapshot_xmax : y.snapshot_xmax.0 ≡ 0
  pub snapshot : Empty Zero active_limit y.snapshot y.snapshot_count
  pub writes : Empty ZeroWrite write_limit y.writes y.write_count
  pub reads : Empty ZeroRead read_limit y.reads y.read_count
  pub index_reads : Empty ZeroIndexRead index_read_limit y.index_reads y.index_read_count
  pub savepoints : Empty Zero savepoint_limit y.savepoints y.savepoint_count
  pub index_conflict : y.index_conflict ≡ false

-- one write more, of row r over base q in slot p: the earlier ones stand where they stood, the places behind it are zero, nothing else changes
pub record OneWriteMore (x y : Tx) (r q p : ℕ) : Type 0 where
  pub snapshot : SameSnapshot x y
  pub write_count : y.write_count ≡ suc x.write_count
  pub earlier : (d : Write) (i : ℕ) → i < x.write_count → get_or y.writes i d ≡ get_or x.writes i d
  pub row : (d : Write) → (get_or y.writes x.write_count d).row.0 ≡ r
  pub base : (d : Write) → (get_or y.writes x.write_count d).base.0 ≡ q
  pub new : (d : Write) → (get_or y.writes x.write_count d).new.0 ≡ p
  pub behind : ZeroFrom ZeroWrite write_limit (suc x.write_count) y.writes
  pub reads : SameReads x y
  pub index_reads : SameIndexReads x y
  pub savepoints : SameSavepoints x y
  pub index_conflict : y.index_conflict ≡ x.index_conflict

-- what a commit with number n leaves of the transaction x: y. 0, 16, 17 "lists emptied"; 13 "open"; 14 "writes, reads, index reads emptied"; 15 "writes
-- alone emptied" (what an abort leaves is demand 2's; 18 leaves a zero one and the other numbers leave it as it was, as the table of numbers says)
pub record TxAfter (n : ℕ) (x y : Tx) : Type 0 where
  pub emptied : (n ≡ 0) ⊎ ((n ≡ 16) ⊎ (n ≡ 17)) → ListsEmptied x y
  pub unchanged : n ≡ 13 → y ≡ x
  pub accesses : n ≡ 14 → AccessesEmptied x y
  pub writes : n ≡ 15 → WritesEmptied x y

-- "The record is zero unless 0"
pub record ZeroRecord (r : Record) : Type 0 where
  pub txid : r.txid.0 ≡ 0
  pub writes : Empty ZeroWrite write_limit r.writes r.count

-- 0: the record names the txid t and the final writes ws, in their order, and the places behind them are zero
pub record Names (t : ℕ) (ws : List Write) (r : Record) : Type 0 where
  pub txid : r.txid.0 ≡ t
  pub count : r.count ≡ length ws
  pub writes : (d : Write) (i : ℕ) → i < length ws → get_or r.writes i d ≡ get_or ws i d
  pub behind : ZeroFrom ZeroWrite write_limit (length ws) r.writes

-- "A refused call beside commit answers none, 0, empty or a zero transaction"; "unchanged"
pub record RefusedBegin (S : Store) (a : Reply) : Type 0 where
  pub store : a.store ≡ S
  pub tx : OnlyTxid 0 a.tx

pub record RefusedRead (x : Tx) (a : Seen) : Type 0 where
  pub value : a.value ≡ Absent
  pub tx : a.tx ≡ x

pub record RefusedWrite (S : Store) (x : Tx) (a : Written) : Type 0 where
  pub slot : a.slot.0 ≡ 0
  pub store : a.store ≡ S
  pub tx : a.tx ≡ x

pub record RefusedLookup (x : Tx) (a : Found) : Type 0 where
  pub rows : Empty (λ r. r.0 ≡ 0) rows a.rows a.count
  pub tx : a.tx ≡ x

-- (a row lock or an abort)
pub record RefusedReply (S : Store) (x : Tx) (a : Reply) : Type 0 where
  pub store : a.store ≡ S
  pub tx : a.tx ≡ x

-- BEGIN

-- the smallest of the active txids, or the new one
pub record Smallest (l : List ℕ) (t m : ℕ) : Type 0 where
  pub either : (memb m l || eqb m t) ≡ true
  pub least : (u : ℕ) → memb u l ≡ true → m ≤ u
  pub within : m ≤ t

-- "txid and snapshot_xmax are the clock, which then rises; snapshot holds the earlier active list; snapshot_xmin is its smallest or the txid"; the
-- txid is entered behind the others, every list of the transaction is empty, and nothing else of the store changes
pub record Begins (S : Store) (a : Reply) : Type 0 where
  pub txid : a.tx.txid.0 ≡ S.clock
  pub fresh : memb S.clock (active_txids S.active) ≡ false
  pub latest : a.tx.snapshot_xmax.0 ≡ S.clock
  pub earliest : Smallest (active_txids S.active) S.clock a.tx.snapshot_xmin.0
  pub snapshot : take a.tx.snapshot_count a.tx.snapshot ≡ active_txids S.active
  pub behind : ZeroFrom Zero active_limit a.tx.snapshot_count a.tx.snapshot
  pub writes : Empty ZeroWrite write_limit a.tx.writes a.tx.write_count
  pub reads : Empty ZeroRead read_limit a.tx.reads a.tx.read_count
  pub index_reads : Empty ZeroIndexRead index_read_limit a.tx.index_reads a.tx.index_read_count
  pub savepoints : Empty Zero savepoint_limit a.tx.savepoints a.tx.savepoint_count
  pub index_conflict : a.tx.index_conflict ≡ false
  pub active : active_txids a.store.active ≡ active_txids S.active ++ S.clock ∷ []
  pub after : ZeroFrom Zero active_limit (suc (length (active_txids S.active))) a.store.active
  pub risen : a.store.clock ≡ suc S.clock
  pub else : (part : Part) → part ≢ Active → part ≢ Clock → Kept S a.store part

-- WRITE

-- "base is the found committed version's pointer (0 if none), kept for later writes of that row"; the chain of row r is c
pub data Based (S : Store) (x : Tx) (r : ℕ) (c : List ℕ) : ℕ → Type 0 where
  kept : (w : Write) → LastOf r (its_writes x) w → Based S x r c w.base.0
  found : (p : ℕ) → any (of_row r) (its_writes x) ≡ false → FirstIn (VisibleAt S x) c p → Based S x r c p
  none : any (of_row r) (its_writes x) ≡ false → NoneIn (VisibleAt S x) c → Based S x r c 0

-- "no read recorded; the lowest free slot is taken": one write more in the transaction, that slot taken in the store, and nothing else changes. The
-- taken slot has xmax 0 and no lock
pub record Writes (S : Store) (x : Tx) (r : ℕ) (v : Value) (c : List ℕ) (a : Written) : Type 0 where
  pub slot : Lowest S.xmin a.slot.0
  pub base : ℕ
  pub based : Based S x r c base
  pub tx : OneWriteMore x a.tx r base a.slot.0
  pub store : Taken S a.store a.slot.0 x.txid.0 base v
  pub unmarked : get_or a.store.xmax a.slot.0 0 ≡ 0
  pub unlocked : get_or a.store.locked a.slot.0 false ≡ false
  pub unowned : get_or a.store.owner a.slot.0 0 ≡ 0

-- ROW LOCK

-- "Row lock: on the head": the head is locked by the transaction, every other slot is as it was, and nothing else changes
pub record Locks (S : Store) (x : Tx) (r : ℕ) (a : Reply) : Type 0 where
  pub locked : get_or a.store.locked (get_or S.heads r 0) false ≡ true
  pub owner : get_or a.store.owner (get_or S.heads r 0) 0 ≡ x.txid.0
  pub other_locks : (p : ℕ) → p ≢ get_or S.heads r 0 → get_or a.store.locked p false ≡ get_or S.locked p false
  pub other_owners : (p : ℕ) → p ≢ get_or S.heads r 0 → get_or a.store.owner p 0 ≡ get_or S.owner p 0
  pub else : (part : Part) → part ≢ RowLocks → Kept S a.store part
  pub tx : a.tx ≡ x

-- ABORT

-- "frees .. every off-chain slot of the txid, then drops it from the active list and zeroes the transaction but for its txid": every other slot is as
-- it was, the other txids stay in their order with zero after them, and nothing else of the store changes. The chain of row r is L r
pub record Aborts (S : Store) (x : Tx) (L : ℕ → List ℕ) (a : Reply) : Type 0 where
  pub freed : (p : ℕ) → get_or S.xmin p 0 ≡ x.txid.0 → ((r : ℕ) → r < length S.heads → memb p (L r) ≡ false) → Blank a.store p
  pub others : (p : ℕ) → get_or S.xmin p 0 ≢ x.txid.0 → SameSlot S a.store p
  pub chained : (r p : ℕ) → r < length S.heads → memb p (L r) ≡ true → SameSlot S a.store p
  pub gone : memb x.txid.0 (active_txids a.store.active) ≡ false
  pub listed : active_txids a.store.active ≡ without x.txid.0 (active_txids S.active)
  pub after : ZeroFrom Zero active_limit (length (active_txids a.store.active)) a.store.active
  pub heads : a.store.heads ≡ S.heads
  pub postings : a.store.postings ≡ S.postings
  pub posting_count : a.store.posting_count ≡ S.posting_count
  pub stripe_guards : a.store.stripe_guards ≡ S.stripe_guards
  pub partition_guards : a.store.partition_guards ≡ S.partition_guards
  pub stamps : a.store.stamps ≡ S.stamps
  pub clock : a.store.clock ≡ S.clock
  pub poisoned : a.store.poisoned ≡ S.poisoned
  pub doomed : a.store.doomed ≡ S.doomed
  pub bound : a.store.bound ≡ S.bound
  pub tx : OnlyTxid x.txid.0 a.tx

-- RECOVERY

-- unfinished in the store S
abbrev pub UnfinishedIn : Store → ℕ → Type 0
UnfinishedIn S t = Unfinished S.active S.doomed t

-- on a chain: a head, or next to a slot on a chain
pub data Reached (heads next : List ℕ) : ℕ → Type 0 where
  head : (r : ℕ) → r < length heads → get_or heads r 0 ≢ 0 → Reached heads next (get_or heads r 0)
  along : (p : ℕ) → Reached heads next p → get_or next p 0 ≢ 0 → Reached heads next (get_or next p 0)

-- p is the head of a row
abbrev pub IsHead : Store → ℕ → Type 0
IsHead S p = (r : ℕ) × (r < rows) × (get_or S.heads r 0 ≡ p)

-- the head of row r has a value, and c is its posting, (key, row)
abbrev pub HeadPosting : Store → ℕ → Type 0
HeadPosting S c =
    (r : ℕ) × (r < rows) × (get_or S.has (get_or S.heads r 0) false ≡ true) × (c ≡ get_or S.key (get_or S.heads r 0) 0 * rows + r)

-- every place of an array of n is 0
abbrev pub AllZero : ℕ → List ℕ → Type 0
AllZero n l = (length l ≡ n) × ((i : ℕ) → get_or l i 0 ≡ 0)

-- what recovery makes of a repairable store S, row by row and slot by slot (the arrays' lengths are in `Recovered`)
pub record Repaired (S D : Store) : Type 0 where
  -- "it removes an unfinished first version", and no other
  pub removed : (r : ℕ) → r < rows → get_or S.heads r 0 ≢ 0 → UnfinishedIn S (get_or S.xmin (get_or S.heads r 0) 0)
      → get_or D.heads r 0 ≡ get_or S.next (get_or S.heads r 0) 0
  pub stays : (r : ℕ) → r < rows → (UnfinishedIn S (get_or S.xmin (get_or S.heads r 0) 0) → ⊥) → get_or D.heads r 0 ≡ get_or S.heads r 0
  -- the other versions of each chain stay: creator, next and value
  pub xmin : (p : ℕ) → Reached D.heads S.next p → get_or D.xmin p 0 ≡ get_or S.xmin p 0
  pub next : (p : ℕ) → Reached D.heads S.next p → get_or D.next p 0 ≡ get_or S.next p 0
  pub key : (p : ℕ) → Reached D.heads S.next p → get_or D.key p 0 ≡ get_or S.key p 0
  pub has : (p : ℕ) → Reached D.heads S.next p → get_or D.has p false ≡ get_or S.has p false
  -- "sets an unfinished head xmax to 0", and no other
  pub cleared : (p : ℕ) → Reached D.heads S.next p → IsHead D p → UnfinishedIn S (get_or S.xmax p 0) → get_or D.xmax p 0 ≡ 0
  pub marked : (p : ℕ) → Reached D.heads S.next p → (IsHead D p → UnfinishedIn S (get_or S.xmax p 0) → ⊥) → get_or D.xmax p 0 ≡ get_or S.xmax p 0
  -- "frees off-chain slots"
  pub freed : (p : ℕ) → (Reached D.heads S.next p → ⊥) → Blank D p
  -- "rebuilds postings": exactly those of the heads
  pub postings : Packed D.postings D.posting_count (HeadPosting D)
  -- "clears guards, row locks, active list, poison and doom"
  pub stripe_guards : AllZero stripes D.stripe_guards
  pub partition_guards : AllZero partitions D.partition_guards
  pub unlocked : (p : ℕ) → get_or D.locked p false ≡ false
  pub unowned : (p : ℕ) → get_or D.owner p 0 ≡ 0
  pub active : AllZero active_limit D.active
  pub healthy : D.poisoned ≡ false
  pub undoomed : D.doomed ≡ 0
  -- "Clock, stamps and durably bound stay."
  pub clock : D.clock ≡ S.clock
  pub stamps : D.stamps ≡ S.stamps
  pub bound : D.bound ≡ S.bound
