-- "Other calls" in words: what a transaction sees, reads, looks up and records. Nothing here uses the definitions of these calls but `read` itself, in
-- "records candidates as Read does".
use Rattle.std.specs.Prelude.{◌≡◌, Bool, true, false, ◌&&◌, List, [], ◌∷◌, ◌++◌, map, ◌↔◌, ◌≢◌, ◌⊎◌, ℕ, ◌+◌, ◌*◌, ◌%◌, ◌≤◌, ◌<◌, length, get_or, take, eqb}
use Rattle.records.specs.Limits.{rows, stripes, read_limit, index_read_limit}
use Rattle.rules.specs.Lists.{any, memb, rising}
use Rattle.rules.specs.Types.{Store, Tx, RowId, Write, ReadRecord, IndexRead, Seen, Found, Value, Absent, Key}
use Rattle.rules.specs.Numbers.{number_of}
use Rattle.rules.specs.Calls.{read}

-- WHAT IS SEEN

-- t is one of the snapshot's txids
abbrev pub InSnapshot : Tx → ℕ → Type 0
InSnapshot x t = (i : ℕ) × (i < x.snapshot_count) × (i < length x.snapshot) × (get_or x.snapshot i 0 ≡ t)

-- "A creator is visible if it is the reader, or below snapshot_xmax and not in the snapshot."
abbrev pub Visible : Tx → ℕ → Type 0
Visible x t = (t ≡ x.txid.0) ⊎ ((t < x.snapshot_xmax.0) × (InSnapshot x t → ⊥))

-- the creator of slot p is visible
abbrev pub VisibleAt : Store → Tx → ℕ → Type 0
VisibleAt S x p = Visible x (get_or S.xmin p 0)

-- none of a list has it; the first that has it, and none before it
abbrev pub NoneIn : (ℕ → Type 0) → List ℕ → Type 0
NoneIn has l = (q : ℕ) → memb q l ≡ true → has q → ⊥

pub record FirstIn (has : ℕ → Type 0) (l : List ℕ) (p : ℕ) : Type 0 where
  pub before : List ℕ
  pub after : List ℕ
  pub split : l ≡ before ++ p ∷ after
  pub none : NoneIn has before
  pub passes : has p

-- WHAT A TRANSACTION HOLDS

-- its writes, reads and index reads: the first places of each array, as many as its count says
abbrev pub its_writes : Tx → List Write
its_writes x = take x.write_count x.writes

abbrev pub its_reads : Tx → List ReadRecord
its_reads x = take x.read_count x.reads

abbrev pub its_index_reads : Tx → List IndexRead
its_index_reads x = take x.index_read_count x.index_reads

-- a write of row r
abbrev pub of_row : ℕ → Write → Bool
of_row r w = eqb w.row.0 r

-- the last write of row r, and none after it
pub record LastOf (r : ℕ) (ws : List Write) (w : Write) : Type 0 where
  pub before : List Write
  pub after : List Write
  pub split : ws ≡ before ++ w ∷ after
  pub row : w.row.0 ≡ r
  pub none : any (of_row r) after ≡ false

-- a read record, an index read and a row id, made of numbers
abbrev pub read_of : ℕ → ℕ → ℕ → ReadRecord
read_of r p t = record { row = record { 0 = r }; ptr = record { 0 = p }; xmin = record { 0 = t } }

abbrev pub index_read_of : ℕ → ℕ → IndexRead
index_read_of i t = record { stripe = i; stamp = record { 0 = t } }

abbrev pub row_id : ℕ → RowId
row_id r = record { 0 = r }

-- the read's pointer is p; the index read's stripe is i
abbrev pub of_ptr : ℕ → ReadRecord → Bool
of_ptr p e = eqb e.ptr.0 p

abbrev pub of_stripe : ℕ → IndexRead → Bool
of_stripe i e = eqb e.stripe i

-- the read of row r as absent: pointer 0, and that row
abbrev pub of_absent : ℕ → ReadRecord → Bool
of_absent r e = eqb e.row.0 r && eqb e.ptr.0 0

-- a list in an array of n places with its count; every place behind it is the blank z
pub record LaidOut {A : Type 0} (n : ℕ) (z : A) (l : List A) (array : List A) (count : ℕ) : Type 0 where
  pub long : length array ≡ n
  pub counted : count ≡ length l
  pub holds : (i : ℕ) → i < length l → get_or array i z ≡ get_or l i z
  pub blank : (i : ℕ) → length l ≤ i → get_or array i z ≡ z

-- what neither a read nor a lookup changes
pub record Kept (x y : Tx) : Type 0 where
  pub txid : y.txid ≡ x.txid
  pub snapshot_xmin : y.snapshot_xmin ≡ x.snapshot_xmin
  pub snapshot_xmax : y.snapshot_xmax ≡ x.snapshot_xmax
  pub snapshot : y.snapshot ≡ x.snapshot
  pub snapshot_count : y.snapshot_count ≡ x.snapshot_count
  pub writes : y.writes ≡ x.writes
  pub write_count : y.write_count ≡ x.write_count
  pub savepoints : y.savepoints ≡ x.savepoints
  pub savepoint_count : y.savepoint_count ≡ x.savepoint_count

-- READ

-- the value at slot p is v: the key where there is one, else none
abbrev pub HasValue : Store → ℕ → Value → Type 0
HasValue S p v = ((get_or S.has p false ≡ true) × (v ≡ Key (get_or S.key p 0))) ⊎ ((get_or S.has p false ≡ false) × (v ≡ Absent))

-- "Read: the last own write of the row, else the first chain version with a visible creator. A found version's pointer and xmin are recorded once
-- per pointer; own writes .. are not." Document 02's wish 2: the read of an absent row "is recorded with pointer 0 and xmin 0, once per row". The chain
-- of row r is c, l the reads before, v the value; last the reads afterwards
pub data Reading (S : Store) (x : Tx) (r : ℕ) (c : List ℕ) (l : List ReadRecord) (v : Value) : List ReadRecord → Type 0 where
  own : (w : Write) → LastOf r (its_writes x) w → HasValue S w.new.0 v → Reading S x r c l v l
  found : (p : ℕ) → any (of_row r) (its_writes x) ≡ false → FirstIn (VisibleAt S x) c p → any (of_ptr p) l ≡ false → HasValue S p v
      → Reading S x r c l v (l ++ read_of r p (get_or S.xmin p 0) ∷ [])
  known : (p : ℕ) → any (of_row r) (its_writes x) ≡ false → FirstIn (VisibleAt S x) c p → any (of_ptr p) l ≡ true → HasValue S p v → Reading S x r c l v l
  absent : any (of_row r) (its_writes x) ≡ false → NoneIn (VisibleAt S x) c → any (of_absent r) l ≡ false → v ≡ Absent
      → Reading S x r c l v (l ++ read_of r 0 0 ∷ [])
  known_absent : any (of_row r) (its_writes x) ≡ false → NoneIn (VisibleAt S x) c → any (of_absent r) l ≡ true → v ≡ Absent → Reading S x r c l v l

-- "once per pointer", "once per row": of two reads the pointers differ, or both are of absent rows and the rows do
abbrev pub ApartReads : ReadRecord → ReadRecord → Type 0
ApartReads d e = (d.ptr.0 ≢ e.ptr.0) ⊎ ((e.ptr.0 ≡ 0) × (d.row.0 ≢ e.row.0))

abbrev pub RecordedOnce : List ReadRecord → Type 0
RecordedOnce l = (i j : ℕ) → i < j → j < length l → ApartReads (get_or l i (read_of 0 0 0)) (get_or l j (read_of 0 0 0))

-- what an accepted read answers: that value, and the transaction with those reads and nothing else changed
pub record Reads (S : Store) (x : Tx) (r : ℕ) (c : List ℕ) (a : Seen) : Type 0 where
  pub after : List ReadRecord
  pub reading : Reading S x r c (its_reads x) a.value after
  pub reads : LaidOut read_limit (read_of 0 0 0) after a.tx.reads a.tx.read_count
  pub index_reads : a.tx.index_reads ≡ x.index_reads
  pub index_read_count : a.tx.index_read_count ≡ x.index_read_count
  pub index_conflict : a.tx.index_conflict ≡ x.index_conflict
  pub kept : Kept x a.tx

-- "24 .. no room for a new read": with what the read would record there are more reads than places
abbrev pub ReadTooMany : Store → Tx → ℕ → List ℕ → Type 0
ReadTooMany S x r c = (v : Value) × (m : List ReadRecord) × Reading S x r c (its_reads x) v m × (read_limit < length m)

-- LOOKUP

-- "rows from postings of the key and own writes"
abbrev pub Candidate : Store → Tx → ℕ → ℕ → Type 0
Candidate S x k r = (memb (k * rows + r) (take S.posting_count S.postings) ≡ true) ⊎ (any (of_row r) (its_writes x) ≡ true)

-- the rows that it finds: "kept if the read value is the key, rising"; the chain of row r is L r
pub record Finds (S : Store) (x : Tx) (k : ℕ) (L : ℕ → List ℕ) (found : List ℕ) : Type 0 where
  pub rise : rising 0 found ≡ true
  pub below : (r : ℕ) → memb r found ≡ true → r < rows
  pub exactly : (r : ℕ) → r < rows
      → (memb r found ≡ true) ↔ (Candidate S x k r × ((m : List ReadRecord) × Reading S x r (L r) (its_reads x) (Key k) m))

-- the rows that it reads: the candidates, rising
pub record Tried (S : Store) (x : Tx) (k : ℕ) (cs : List ℕ) : Type 0 where
  pub rise : rising 0 cs ≡ true
  pub below : (r : ℕ) → memb r cs ≡ true → r < rows
  pub exactly : (r : ℕ) → r < rows → (memb r cs ≡ true) ↔ Candidate S x k r

-- rows read one after the other, each reading's reads the next one's
pub data InTurn (S : Store) (x : Tx) (L : ℕ → List ℕ) : List ℕ → List ReadRecord → List ReadRecord → Type 0 where
  done : {l : List ReadRecord} → InTurn S x L [] l l
  next : {r : ℕ} {rs : List ℕ} {v : Value} {l m n : List ReadRecord} → Reading S x r (L r) l v m → InTurn S x L rs m n → InTurn S x L (r ∷ rs) l n

-- the same by the call: what the reads leave, and that each is accepted
abbrev pub read_all : Store → Tx → List ℕ → Tx
read_all S x [] = x
read_all S x (r ∷ rs) = read_all S (read S x r).tx rs

abbrev pub AllRead : Store → Tx → List ℕ → Type 0
AllRead S x [] = Unit {0}
AllRead S x (r ∷ rs) = (number_of (read S x r).refusal ≡ 0) × AllRead S (read S x r).tx rs

-- "and the stripe's stamp once per stripe": stripe i, stamp t, the index reads before; last those afterwards
pub data Stamping (i t : ℕ) (l : List IndexRead) : List IndexRead → Type 0 where
  added : any (of_stripe i) l ≡ false → Stamping i t l (l ++ index_read_of i t ∷ [])
  there : any (of_stripe i) l ≡ true → Stamping i t l l

-- the present stamp of the key's stripe
abbrev pub stamp_of : Store → ℕ → ℕ
stamp_of S k = get_or S.stamps (k % stripes) 0

-- what an accepted lookup answers: the rows found; the transaction with the reads of its candidates, "as Read does", the stripe's stamp, and
-- index_conflict raised "if the present stamp is nonzero and not visible"; nothing else changed
pub record Looks (S : Store) (x : Tx) (k : ℕ) (L : ℕ → List ℕ) (a : Found) : Type 0 where
  pub found : List ℕ
  pub finds : Finds S x k L found
  pub array : LaidOut rows (row_id 0) (map row_id found) a.rows a.count
  pub read_rows : List ℕ
  pub tried : Tried S x k read_rows
  pub after : List ReadRecord
  pub in_turn : InTurn S x L read_rows (its_reads x) after
  pub reads : LaidOut read_limit (read_of 0 0 0) after a.tx.reads a.tx.read_count
  pub accepted : AllRead S x read_rows
  pub as_read : its_reads a.tx ≡ its_reads (read_all S x read_rows)
  pub stamps : List IndexRead
  pub stamping : Stamping (k % stripes) (stamp_of S k) (its_index_reads x) stamps
  pub index_reads : LaidOut index_read_limit (index_read_of 0 0) stamps a.tx.index_reads a.tx.index_read_count
  pub conflict : (a.tx.index_conflict ≡ true) ↔ ((x.index_conflict ≡ true) ⊎ ((stamp_of S k ≡ 0 → ⊥) × (Visible x (stamp_of S k) → ⊥)))
  pub kept : Kept x a.tx

-- "24 if they don't all fit": with what its candidates would record there are more reads than places
abbrev pub LookupTooMany : Store → Tx → ℕ → (ℕ → List ℕ) → Type 0
LookupTooMany S x k L =
    (cs : List ℕ) × (m : List ReadRecord) × Tried S x k cs × InTurn S x L cs (its_reads x) m × (read_limit < length m)
