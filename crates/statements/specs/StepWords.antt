-- "Steps and faults" in words: final writes, changes, guards, publication, recycling, stamps; what is in each list, and in which order.
-- No list's definition is cited by its own description; slot values are said by `has` and `key`, chains by heads and next pointers.
use Rattle.std.specs.Prelude.{◌≡◌, Bool, true, false, List, [], ◌∷◌, ◌++◌, map, ◌≢◌, ◌⊎◌, ◌↔◌, ℕ, suc, ◌+◌, ◌-◌, ◌<◌, ◌≤◌, ◌%◌, length, get_or, take, drop}
use Rattle.records.specs.Limits.{rows, stripes, partitions}
use Rattle.records.specs.Zero.{no_write}
use Rattle.rules.specs.Lists.{memb}
use Rattle.rules.specs.Types.{Store, Tx, Schedule, Write, Value, Absent, Key, Answer, Uncut, After}
use Rattle.rules.specs.Store.{posting}
use Rattle.rules.specs.Transaction.{writes_of, reads_of, index_reads_of, finals}
use Rattle.rules.specs.Puts.{Put, put_stripe, put_partition, put_insert, put_remove, put_xmax, put_head, put_free, put_drop, put_stamp, put_poison}
use Rattle.rules.specs.Changes.{Change, index_guards, partition_guards, insertions, removals, publication, recycling}
use Rattle.rules.specs.Numbers.{number_of}
use Rattle.rules.specs.Commit.{count}
use Rattle.rules.specs.Answer.{commit}
use Rattle.statements.specs.Words.{Some}

-- LISTS

-- "rising": each number is below every later one, so none stands twice
abbrev pub Rises : List ℕ → Type 0
Rises l = (a b : ℕ) → a < b → b < length l → get_or l a 0 < get_or l b 0

-- exactly the numbers of which P holds, rising
pub record Exactly (P : ℕ → Type 0) (l : List ℕ) : Type 0 where
  pub rises : Rises l
  pub members : (i : ℕ) → (memb i l ≡ true) ↔ P i

-- one put for each number of which P holds, rising
pub record OneEach (P : ℕ → Type 0) (f : ℕ → Put) (ps : List Put) : Type 0 where
  pub places : List ℕ
  pub exactly : Exactly P places
  pub puts : ps ≡ map f places

-- what each write gives, one after the other in the writes' order
abbrev pub InTurn {ℓ} : {A : Type ℓ} → (Write → List A → Type ℓ) → List Write → List A → Type ℓ
InTurn P [] l = l ≡ []
InTurn {A = A} P (w ∷ ws) l = (m : List A) × (n : List A) × (l ≡ m ++ n) × P w m × InTurn P ws n

-- the last first
pub record Reversed (l m : List ℕ) : Type 0 where
  pub long : length m ≡ length l
  pub turned : (i : ℕ) → i < length l → get_or m i 0 ≡ get_or l (length l - suc i) 0

-- FINAL WRITES

-- "those with no later write of their row": the write at place a is one
abbrev pub FinalAt : List Write → ℕ → Type 0
FinalAt ws a =
    (a < length ws) × ((b : ℕ) → a < b → b < length ws → (get_or ws b no_write).row.0 ≢ (get_or ws a no_write).row.0)

-- "Final writes are those with no later write of their row, in list order.": the writes at those places, the places rising
pub record FinalWrites (ws fs : List Write) : Type 0 where
  pub places : List ℕ
  pub exactly : Exactly (FinalAt ws) places
  pub writes : fs ≡ map (λ a. get_or ws a no_write) places

-- CHANGES

module _ (S : Store) where
  -- "a value (a 32-bit key, or none)" at a slot pointer: none where `has` is down, else the key there
  abbrev pub HasKey : ℕ → ℕ → Type 0
  HasKey p k = (get_or S.has p false ≡ true) × (get_or S.key p 0 ≡ k)

  abbrev pub HasNone : ℕ → Type 0
  HasNone p = get_or S.has p false ≡ false

  -- both none, or both the same key
  abbrev pub SameAt : ℕ → ℕ → Type 0
  SameAt p q = (HasNone p × HasNone q) ⊎ ((k : ℕ) × HasKey p k × HasKey q k)

  -- "A change exists where the base's value .. differs from the new one."
  abbrev pub Changes : Write → Type 0
  Changes w = SameAt w.base.0 w.new.0 → ⊥

  -- the value v is the one at p
  pub record ValueIs (p : ℕ) (v : Value) : Type 0 where
    pub key : (k : ℕ) → HasKey p k → v ≡ Key k
    pub none : HasNone p → v ≡ Absent

  -- "(none for 0 or a free slot)"
  pub record NoneForFree : Type 0 where
    pub null : HasNone 0
    pub free : (p : ℕ) → get_or S.xmin p 0 ≡ 0 → HasNone p

  -- the changes of one write: one where there is one, of its row, from the base's value to the new one
  pub record ChangesOf (w : Write) (cs : List Change) : Type 0 where
    pub one : Changes w → (c : Change) × (cs ≡ c ∷ []) × (c.row ≡ w.row.0) × ValueIs w.base.0 c.before × ValueIs w.new.0 c.after
    pub same : SameAt w.base.0 w.new.0 → cs ≡ []

  -- the posting (key, row) of one side of a change, `side` its slot pointer: none where there is no change or no key
  pub record PostsOf {A : Type 0} (side : Write → ℕ) (f : ℕ → A) (w : Write) (l : List A) : Type 0 where
    pub key : (k : ℕ) → Changes w → HasKey (side w) k → l ≡ f (posting k w.row.0) ∷ []
    pub none : HasNone (side w) → l ≡ []
    pub same : SameAt w.base.0 w.new.0 → l ≡ []

-- "Changes .. go in final-write order": the new value's posting put in; the base's taken out
abbrev pub PutsIn : {A : Type 0} → Store → (ℕ → A) → List Write → List A → Type 0
PutsIn S f ws l = InTurn (PostsOf S (λ w. w.new.0) f) ws l

abbrev pub TakesOut : {A : Type 0} → Store → (ℕ → A) → List Write → List A → Type 0
TakesOut S f ws l = InTurn (PostsOf S (λ w. w.base.0) f) ws l

-- GUARDS AND STAMPS

module _ (S : Store) (x : Tx) where
  -- i is the stripe of a changed key, before or after
  abbrev pub ChangedStripe : ℕ → Type 0
  ChangedStripe i =
      Some (λ w. Changes S w × ((k : ℕ) × (HasKey S w.base.0 k ⊎ HasKey S w.new.0 k) × (i ≡ k % stripes))) (finals x)

  -- "Guards: stripes of changed keys, both sides, and of index reads"
  abbrev pub GuardedStripe : ℕ → Type 0
  GuardedStripe i = ChangedStripe i ⊎ Some (λ e. i ≡ e.stripe) (index_reads_of x)

-- "partitions of written and read rows"
abbrev pub GuardedPartition : Tx → ℕ → Type 0
GuardedPartition x i = Some (λ w. i ≡ w.row.0 % partitions) (writes_of x) ⊎ Some (λ e. i ≡ e.row.0 % partitions) (reads_of x)

module _ (S : Store) (x : Tx) where
  -- "rising, taken index first"
  pub record Takes (t : ℕ) (ps : List Put) : Type 0 where
    pub index : List Put
    pub partition : List Put
    pub first : OneEach (GuardedStripe S x) (λ i. put_stripe i t) index
    pub then : OneEach (GuardedPartition x) (λ i. put_partition i t) partition
    pub both : ps ≡ index ++ partition

  -- "released partition first"
  pub record LetsGo (ps : List Put) : Type 0 where
    pub partition : List Put
    pub index : List Put
    pub first : OneEach (GuardedPartition x) (λ i. put_partition i 0) partition
    pub then : OneEach (GuardedStripe S x) (λ i. put_stripe i 0) index
    pub both : ps ≡ partition ++ index

-- PUBLICATION

-- "Publishing marks a nonzero base's xmax, then moves the head.": one write, by the txid t
pub record PublishesOne (t : ℕ) (w : Write) (ps : List Put) : Type 0 where
  pub based : w.base.0 ≢ 0 → ps ≡ put_xmax w.base.0 t ∷ put_head w.row.0 w.new.0 ∷ []
  pub unbased : w.base.0 ≡ 0 → ps ≡ put_head w.row.0 w.new.0 ∷ []

-- "publication go[es] in final-write order"
abbrev pub Publishes : ℕ → List Write → List Put → Type 0
Publishes t ws ps = InTurn (PublishesOne t) ws ps

-- OFF-CHAIN SLOTS

-- from slot p along the next pointers, never over 0
pub data Leads (next : List ℕ) : ℕ → ℕ → Type 0 where
  here : {p : ℕ} → 0 < p → Leads next p p
  along : {p q : ℕ} → 0 < p → Leads next (get_or next p 0) q → Leads next p q

-- on some row's chain
abbrev pub OnChain : Store → ℕ → Type 0
OnChain S p = (r : ℕ) × (r < rows) × Leads S.next (get_or S.heads r 0) p

-- "off-chain slot of the txid"
pub record OffChainOf (S : Store) (t p : ℕ) : Type 0 where
  pub used : 0 < get_or S.xmin p 0
  pub mine : get_or S.xmin p 0 ≡ t
  pub off : OnChain S p → ⊥

-- "the txid's other off-chain slots": no final write's
abbrev pub Recycled : Store → Tx → ℕ → Type 0
Recycled S x p = OffChainOf S x.txid.0 p × (Some (λ w. w.new.0 ≡ p) (finals x) → ⊥)

-- "Abort frees, rising, every off-chain slot of the txid, then drops it from the active list"
pub record FreesAndDrops (S : Store) (t : ℕ) (ps : List Put) : Type 0 where
  pub frees : List Put
  pub first : OneEach (OffChainOf S t) put_free frees
  pub then : ps ≡ frees ++ put_drop t ∷ []

-- ROLLBACK

-- "rollback in reverse": the postings `made` taken out, the last first; where it fails, the first k of these, and then the poison, which "a
-- poisoned store" doesn't need
pub record RollsBack (made : List ℕ) (already failed : Bool) (k : ℕ) (ps : List Put) : Type 0 where
  pub back : List ℕ
  pub reversed : Reversed made back
  pub all : failed ≡ false → ps ≡ map put_remove back
  pub some : failed ≡ true → already ≡ false → ps ≡ take k (map put_remove back) ++ put_poison ∷ []
  pub poisoned : failed ≡ true → already ≡ true → ps ≡ take k (map put_remove back)

-- A CLEAN COMMIT

-- its stores, in the order of source 000's steps: 7 and 8, 15, 17, 18, 19, 21, 22, and the guards let go
pub record CleanRun (S : Store) (x : Tx) (ps : List Put) : Type 0 where
  pub taken : List Put
  pub inserted : List Put
  pub removed : List Put
  pub published : List Put
  pub freed : List Put
  pub stamped : List Put
  pub released : List Put
  pub takes : Takes S x x.txid.0 taken
  pub inserts : PutsIn S put_insert (finals x) inserted
  pub removes : TakesOut S put_remove (finals x) removed
  pub publishes : Publishes x.txid.0 (finals x) published
  pub frees : OneEach (Recycled S x) put_free freed
  pub stamps : OneEach (ChangedStripe S x) (λ i. put_stamp i x.txid.0) stamped
  pub lets_go : LetsGo S x released
  pub order : ps ≡ taken ++ (inserted ++ (removed ++ (published ++ (freed ++ put_drop x.txid.0 ∷ (stamped ++ released)))))

-- STAMPS AFTER A COMMIT

module _ (S : Store) (x : Tx) where
  -- the first m of the changed stripes, rising, hold the txid; every other stamp is as it was
  pub record Stamped (m : ℕ) (T : Store) : Type 0 where
    pub changed : List ℕ
    pub exactly : Exactly (ChangedStripe S x) changed
    pub stamped : (i : ℕ) → memb i (take m changed) ≡ true → get_or T.stamps i 0 ≡ x.txid.0
    pub others : (i : ℕ) → memb i (take m changed) ≡ false → get_or T.stamps i 0 ≡ get_or S.stamps i 0

  -- every changed stripe holds the txid; every other stamp is as it was
  pub record AllStamped (T : Store) : Type 0 where
    pub stamped : (i : ℕ) → ChangedStripe S x i → get_or T.stamps i 0 ≡ x.txid.0
    pub others : (i : ℕ) → (ChangedStripe S x i → ⊥) → get_or T.stamps i 0 ≡ get_or S.stamps i 0

  -- the stores that a run has made when it has passed step 21: guards, insertions, removals, publication, recycling, and the drop
  abbrev pub stores_to21 : ℕ
  stores_to21 =
      length (index_guards S x x.txid.0) + length (partition_guards x x.txid.0) + length (insertions S x) + length (removals S x)
      + length (publication x) + length (recycling S x) + 1

module _ (S : Store) (x : Tx) (logged : Bool) (plan : Schedule) where
  -- "Stamps are the txid, on changed stripes only.": an answer's stamps; "22 stamp Fk": 17 leaves the first k of them
  pub record StampsAfter (a : Answer) : Type 0 where
    pub done : number_of a.refusal ≡ 0 → AllStamped S x a.store
    pub failed : number_of a.refusal ≡ 17 → Stamped S x (count S x logged plan 22) a.store
    pub else : number_of a.refusal ≢ 0 → number_of a.refusal ≢ 17 → number_of a.refusal ≢ 18 → a.store.stamps ≡ S.stamps

  -- a commit cut at n, T the store left: the number that it answers uncut says how far the stamps can come
  pub record StampsCut (n : ℕ) (uncut : ℕ) (T : Store) : Type 0 where
    pub done : uncut ≡ 0 → Stamped S x (n - stores_to21 S x) T
    pub failed : uncut ≡ 17 → (m : ℕ) × Stamped S x m T × (m ≤ n - stores_to21 S x) × (m ≤ count S x logged plan 22)
        × ((m ≡ n - stores_to21 S x) ⊎ (m ≡ count S x logged plan 22))
    pub else : uncut ≢ 0 → uncut ≢ 17 → T.stamps ≡ S.stamps

-- GUARDS DURING A COMMIT

-- exactly these guards are held, by t; every other guard is 0
pub record Held (t : ℕ) (ss ps : List ℕ) (T : Store) : Type 0 where
  pub stripe : (i : ℕ) → memb i ss ≡ true → get_or T.stripe_guards i 0 ≡ t
  pub no_stripe : (i : ℕ) → memb i ss ≡ false → get_or T.stripe_guards i 0 ≡ 0
  pub partition : (i : ℕ) → memb i ps ≡ true → get_or T.partition_guards i 0 ≡ t
  pub no_partition : (i : ℕ) → memb i ps ≡ false → get_or T.partition_guards i 0 ≡ 0

-- the guards of the stripes ss and the partitions ps as stores are made, T n the store after n of them: "rising, taken index first, released
-- partition first"; from the last one taken to the store `from` all of them are held
pub record InOrder (t : ℕ) (T : ℕ → Store) (ss ps : List ℕ) (from : ℕ) : Type 0 where
  pub taking : (n : ℕ) → n ≤ length ss + length ps → Held t (take n ss) (take (n - length ss) ps) (T n)
  pub during : (n : ℕ) → length ss + length ps ≤ n → n ≤ from → Held t ss ps (T n)
  pub releasing : (n : ℕ) → from ≤ n → Held t (drop (n - from - length ps) ss) (drop (n - from) ps) (T n)
  pub apart : length ss + length ps ≤ from

-- a commit, uncut, that passed step 14's test: it answers 0 or 10 to 17, or (19 in place of 11) its events say so
abbrev pub PassedTests : Answer → Type 0
PassedTests u = (number_of u.refusal ≡ 0) ⊎ (((10 ≤ number_of u.refusal) × (number_of u.refusal ≤ 17)) ⊎ (u.events.base_validated ≡ true))

-- a commit, cut at each of its stores: all guards, or those of the stripes, or none, taken and released in that order; where it passed its tests
-- all of them, and they are held to the last stores
pub record GuardsOf (S : Store) (x : Tx) (logged : Bool) (plan : Schedule) : Type 0 where
  pub ss : List ℕ
  pub ps : List ℕ
  pub from : ℕ
  pub order : InOrder x.txid.0 (λ n. (commit S x logged plan (After n)).store) ss ps from
  pub stripes : (ss ≡ []) ⊎ Exactly (GuardedStripe S x) ss
  pub partitions : (ps ≡ []) ⊎ Exactly (GuardedPartition x) ps
  pub all_stripes : PassedTests (commit S x logged plan Uncut) → Exactly (GuardedStripe S x) ss
  pub all_partitions : PassedTests (commit S x logged plan Uncut) → Exactly (GuardedPartition x) ps
  pub to_the_end : PassedTests (commit S x logged plan Uncut) → from + length ps + length ss ≡ (commit S x logged plan Uncut).stores
