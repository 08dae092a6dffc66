-- "Store and transaction" in words: arrays, slots, postings and the active list; what each kind of store changes; the limits' numbers.
use Rattle.std.specs.Prelude.{◌≡◌, Bool, true, false, List, [], ◌∷◌, ◌≢◌, ◌⊎◌, ◌↔◌, ℕ, suc, ◌+◌, ◌*◌, ◌^◌, ◌≤◌, ◌<◌, length, get_or}
use Rattle.records.specs.Limits.{rows, slots, places, posting_limit, stripes, partitions, active_limit, write_limit, read_limit, index_read_limit}
use Rattle.records.specs.Limits.{savepoint_limit, step_count, key_end, clock_end, last_minute, place_limit}
use Rattle.rules.specs.Lists.{memb}
use Rattle.rules.specs.Types.{Store, Value, Absent, Key}
use Rattle.rules.specs.Store.{posting, key_of, row_of}
use Rattle.rules.specs.Puts.{Put, apply, k_stripe, k_partition, k_insert, k_remove, k_xmax, k_head, k_free, k_drop, k_stamp, k_poison, k_doom}
use Rattle.rules.specs.Puts.{k_enter, k_clock, k_xmin, k_next, k_key, k_lock, put_stripe, put_partition, put_insert, put_remove, put_xmax, put_head, put_free}
use Rattle.rules.specs.Puts.{put_drop, put_stamp, put_poison, put_doom, put_enter, put_clock, put_xmin, put_next, put_key, put_lock}
use Rattle.statements.specs.Sized.{Sized}

-- ARRAYS

-- one place of an array changed: place p holds v (if there is such a place), every other place is as it was, and there are as many
pub record Sets {A : Type 0} (l m : List A) (p : ℕ) (v : A) : Type 0 where
  pub long : length m ≡ length l
  pub here : (d : A) → p < length l → get_or m p d ≡ v
  pub other : (d : A) (q : ℕ) → q ≢ p → get_or m q d ≡ get_or l q d

-- "kept rising, packed, unique": the first n places of an array hold exactly the numbers that are `In`, rising, and the others are zero
pub record Packed (l : List ℕ) (n : ℕ) (In : ℕ → Type 0) : Type 0 where
  pub within : n ≤ length l
  pub rising : (i j : ℕ) → i < j → j < n → get_or l i 0 < get_or l j 0
  pub exactly : (c : ℕ) → In c ↔ ((i : ℕ) × (i < n) × (get_or l i 0 ≡ c))
  pub after : (i : ℕ) → n ≤ i → get_or l i 0 ≡ 0

-- SLOTS

-- "A free slot is all zero"
pub record Blank (T : Store) (p : ℕ) : Type 0 where
  pub xmin : get_or T.xmin p 0 ≡ 0
  pub xmax : get_or T.xmax p 0 ≡ 0
  pub next : get_or T.next p 0 ≡ 0
  pub key : get_or T.key p 0 ≡ 0
  pub has : get_or T.has p false ≡ false
  pub locked : get_or T.locked p false ≡ false
  pub owner : get_or T.owner p 0 ≡ 0

-- a slot as it was
pub record SameSlot (S T : Store) (p : ℕ) : Type 0 where
  pub xmin : get_or T.xmin p 0 ≡ get_or S.xmin p 0
  pub xmax : get_or T.xmax p 0 ≡ get_or S.xmax p 0
  pub next : get_or T.next p 0 ≡ get_or S.next p 0
  pub key : get_or T.key p 0 ≡ get_or S.key p 0
  pub has : get_or T.has p false ≡ get_or S.has p false
  pub locked : get_or T.locked p false ≡ get_or S.locked p false
  pub owner : get_or T.owner p 0 ≡ get_or S.owner p 0

-- an absent key is stored as 0
abbrev pub stored_key : Value → ℕ
stored_key Absent = 0
stored_key (Key k) = k

abbrev pub is_present : Value → Bool
is_present Absent = false
is_present (Key k) = true

-- A STORE IS ONE CHANGE

-- the parts of a store; a value is key and has, a lock is locked and owner
pub data Part : Type 0 where
  Heads : Part
  Xmin : Part
  Xmax : Part
  Next : Part
  Values : Part
  RowLocks : Part
  Postings : Part
  StripeGuards : Part
  PartitionGuards : Part
  Stamps : Part
  Active : Part
  Clock : Part
  Poisoned : Part
  Doomed : Part
  Bound : Part

-- a part is as it was
abbrev pub Kept : Store → Store → Part → Type 0
Kept S T Heads = T.heads ≡ S.heads
Kept S T Xmin = T.xmin ≡ S.xmin
Kept S T Xmax = T.xmax ≡ S.xmax
Kept S T Next = T.next ≡ S.next
Kept S T Values = (T.key ≡ S.key) × (T.has ≡ S.has)
Kept S T RowLocks = (T.locked ≡ S.locked) × (T.owner ≡ S.owner)
Kept S T Postings = (T.postings ≡ S.postings) × (T.posting_count ≡ S.posting_count)
Kept S T StripeGuards = T.stripe_guards ≡ S.stripe_guards
Kept S T PartitionGuards = T.partition_guards ≡ S.partition_guards
Kept S T Stamps = T.stamps ≡ S.stamps
Kept S T Active = T.active ≡ S.active
Kept S T Clock = T.clock ≡ S.clock
Kept S T Poisoned = T.poisoned ≡ S.poisoned
Kept S T Doomed = T.doomed ≡ S.doomed
Kept S T Bound = T.bound ≡ S.bound

-- "A store is one guard, posting, xmax, head, slot, active-list, stamp or poison change": the kinds that change each part. No other kind does.
abbrev pub changed_by : Part → List ℕ
changed_by Heads = k_head ∷ []
changed_by Xmin = k_free ∷ k_xmin ∷ []
changed_by Xmax = k_free ∷ k_xmax ∷ []
changed_by Next = k_free ∷ k_next ∷ []
changed_by Values = k_free ∷ k_key ∷ []
changed_by RowLocks = k_free ∷ k_lock ∷ []
changed_by Postings = k_insert ∷ k_remove ∷ []
changed_by StripeGuards = k_stripe ∷ []
changed_by PartitionGuards = k_partition ∷ []
changed_by Stamps = k_stamp ∷ []
changed_by Active = k_drop ∷ k_enter ∷ []
changed_by Clock = k_clock ∷ []
changed_by Poisoned = k_poison ∷ k_doom ∷ []
changed_by Doomed = k_doom ∷ []
changed_by Bound = []

-- and nothing else changes
abbrev pub NothingElse : Store → Type 0
NothingElse S = (p : Put) (part : Part) → memb p.kind (changed_by part) ≡ false → Kept S (apply p S) part

-- what each kind puts where: "guard (0 or the holder's txid)", "xmax", "head", "stamp"; the changes of begin, write and row lock
pub record StoreKinds (S : Store) : Type 1 where
  pub stripe : (i t : ℕ) → Sets S.stripe_guards (apply (put_stripe i t) S).stripe_guards i t
  pub partition : (i t : ℕ) → Sets S.partition_guards (apply (put_partition i t) S).partition_guards i t
  pub xmax : (p t : ℕ) → Sets S.xmax (apply (put_xmax p t) S).xmax p t
  pub head : (r p : ℕ) → Sets S.heads (apply (put_head r p) S).heads r p
  pub stamp : (i t : ℕ) → Sets S.stamps (apply (put_stamp i t) S).stamps i t
  pub xmin : (p t : ℕ) → Sets S.xmin (apply (put_xmin p t) S).xmin p t
  pub next : (p q : ℕ) → Sets S.next (apply (put_next p q) S).next p q
  pub key : (p k : ℕ) → Sets S.key (apply (put_key p k) S).key p k
  pub has : (p k : ℕ) → Sets S.has (apply (put_key p k) S).has p true
  pub locked : (p t : ℕ) → Sets S.locked (apply (put_lock p t) S).locked p true
  pub owner : (p t : ℕ) → Sets S.owner (apply (put_lock p t) S).owner p t
  -- a slot freed: "A free slot is all zero"
  pub free_xmin : (p : ℕ) → Sets S.xmin (apply (put_free p) S).xmin p 0
  pub free_xmax : (p : ℕ) → Sets S.xmax (apply (put_free p) S).xmax p 0
  pub free_next : (p : ℕ) → Sets S.next (apply (put_free p) S).next p 0
  pub free_key : (p : ℕ) → Sets S.key (apply (put_free p) S).key p 0
  pub free_has : (p : ℕ) → Sets S.has (apply (put_free p) S).has p false
  pub free_locked : (p : ℕ) → Sets S.locked (apply (put_free p) S).locked p false
  pub free_owner : (p : ℕ) → Sets S.owner (apply (put_free p) S).owner p 0
  -- a posting more, a posting less; the list stays packed and rising
  pub insert : (c : ℕ) (In : ℕ → Type 0) → Packed S.postings S.posting_count In → S.posting_count < posting_limit
      → let T = apply (put_insert c) S in Packed T.postings T.posting_count (λ d. (d ≡ c) ⊎ In d)
  pub remove : (c : ℕ) (In : ℕ → Type 0) → Packed S.postings S.posting_count In → S.posting_count ≤ posting_limit
      → let T = apply (put_remove c) S in Packed T.postings T.posting_count (λ d. (d ≢ c) × In d)
  pub posting_room : (p : Put) → memb p.kind (changed_by Postings) ≡ true → length (apply p S).postings ≡ posting_limit
  -- a txid less, a txid more (above the others) in the active list, which is n txids, rising, zero after them
  pub drop : (t n : ℕ) (In : ℕ → Type 0) → Packed S.active n In → (In 0 → ⊥) → n ≤ active_limit
      → (m : ℕ) × Packed (apply (put_drop t) S).active m (λ d. (d ≢ t) × In d)
  pub enter : (t n : ℕ) (In : ℕ → Type 0) → Packed S.active n In → (In 0 → ⊥) → n < active_limit → 0 < t → ((d : ℕ) → In d → d < t)
      → Packed (apply (put_enter t) S).active (suc n) (λ d. (d ≡ t) ⊎ In d)
  pub active_room : (p : Put) → memb p.kind (changed_by Active) ≡ true → length (apply p S).active ≡ active_limit
  pub clock : (t : ℕ) → (apply (put_clock t) S).clock ≡ t
  -- poison; "A poison store, doom included"
  pub poison : (apply put_poison S).poisoned ≡ true
  pub doom_poisons : (t : ℕ) → (apply (put_doom t) S).poisoned ≡ true
  pub doom : (t : ℕ) → (apply (put_doom t) S).doomed ≡ t

-- a free slot p taken for a version of t over the base q with value v: that slot alone changes, and nothing else of the store
pub record Taken (S T : Store) (p t q : ℕ) (v : Value) : Type 0 where
  pub xmin : Sets S.xmin T.xmin p t
  pub next : Sets S.next T.next p q
  pub key : Sets S.key T.key p (stored_key v)
  pub has : Sets S.has T.has p (is_present v)
  pub else : (part : Part) → part ≢ Xmin → part ≢ Next → part ≢ Values → Kept S T part

-- NUMBERS OF THE PAPER

-- the limits, in this one place as the paper's numbers; a place more than slots, since place 0 is none
pub record PaperNumbers : Type 0 where
  pub row_ids : rows ≡ 128
  pub last_slot : slots ≡ 512
  pub slot_places : places ≡ suc slots
  pub postings : posting_limit ≡ 256
  pub stripes_are : stripes ≡ 16
  pub partitions_are : partitions ≡ 16
  pub actives : active_limit ≡ 16
  pub writes : write_limit ≡ 16
  pub reads : read_limit ≡ 32
  pub index_reads : index_read_limit ≡ 16
  pub savepoints : savepoint_limit ≡ 4
  pub steps : step_count ≡ 24
  -- "a 32-bit key"; "A 64-bit clock", whose largest is one less than 2 to the 64; "place 0 to 15"
  pub keys : key_end ≡ 2 ^ 32
  pub largest : suc clock_end ≡ 2 ^ 64
  pub places_of_replay : place_limit ≡ 16
  -- document 02, wish 7: "527,039 is the last in a leap year"
  pub minutes : last_minute ≡ 527039

-- the empty store, durably bound or not: no row has a version, every slot is free, no posting, guard, stamp or active txid; "A 64-bit clock from 1"
pub record EmptyStore (durable : Bool) (S : Store) : Type 0 where
  pub sized : Sized S
  pub heads : (r : ℕ) → get_or S.heads r 0 ≡ 0
  pub slots : (p : ℕ) → Blank S p
  pub posting_count : S.posting_count ≡ 0
  pub postings : (i : ℕ) → get_or S.postings i 0 ≡ 0
  pub stripe_guards : (i : ℕ) → get_or S.stripe_guards i 0 ≡ 0
  pub partition_guards : (i : ℕ) → get_or S.partition_guards i 0 ≡ 0
  pub stamps : (i : ℕ) → get_or S.stamps i 0 ≡ 0
  pub active : (i : ℕ) → get_or S.active i 0 ≡ 0
  pub clock : S.clock ≡ 1
  pub poisoned : S.poisoned ≡ false
  pub doomed : S.doomed ≡ 0
  pub bound : S.bound ≡ durable

-- "A posting is (key, row)": one number c for key k and row r, which tells both, and the numbers' order is by key and then by row
pub record PostingPair (k r c : ℕ) : Type 0 where
  pub key : key_of c ≡ k
  pub row : row_of c ≡ r
  pub before : (j q : ℕ) → q < rows → (c < posting j q) ↔ ((k < j) ⊎ ((k ≡ j) × (r < q)))

-- k mod m is i
pub record Remainder (k m i : ℕ) : Type 0 where
  pub below : i < m
  pub times : ℕ
  pub whole : k ≡ m * times + i

-- LISTS READ FROM ARRAYS

-- the first n places of an array
pub record FirstPlaces {A : Type 0} (a : List A) (n : ℕ) (l : List A) : Type 0 where
  pub long : length l ≡ n
  pub same : (d : A) (i : ℕ) → i < n → get_or l i d ≡ get_or a i d

-- the places before the first 0
pub record BeforeZero (a l : List ℕ) : Type 0 where
  pub within : length l ≤ length a
  pub same : (i : ℕ) → i < length l → get_or l i 0 ≡ get_or a i 0
  pub some : (i : ℕ) → i < length l → get_or a i 0 ≢ 0
  pub ends : get_or a (length l) 0 ≡ 0

-- rising, and exactly the numbers that are `In`
pub record RisingOf (l : List ℕ) (In : ℕ → Type 0) : Type 0 where
  pub rising : (i j : ℕ) → i < j → j < length l → get_or l i 0 < get_or l j 0
  pub exactly : (c : ℕ) → In c ↔ ((i : ℕ) × (i < length l) × (get_or l i 0 ≡ c))

-- "the lowest free slot"
pub record Lowest (xmin : List ℕ) (p : ℕ) : Type 0 where
  pub some : 0 < p
  pub within : p < length xmin
  pub free : get_or xmin p 0 ≡ 0
  pub least : (q : ℕ) → 0 < q → q < p → 0 < get_or xmin q 0
