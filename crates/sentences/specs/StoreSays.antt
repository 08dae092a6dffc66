-- "Store and transaction"; "A store is one guard, posting, xmax, head, slot, active-list, stamp or poison change."
use Rattle.std.specs.Prelude.{◌≡◌, refl, Bool, true, false, not, ◌||◌, List, [], ◌∷◌, ◌++◌, map, ◌≢◌, ◌⊎◌, ◌↔◌, ℕ, zero}
use Rattle.std.specs.Prelude.{suc, ◌+◌, ◌/◌, ◌-◌, ◌≤◌, ◌<◌, length, get_or, set, take, drop, replicate, eqb, ltb, leb}
use Rattle.std.proofs.Common.{sym, ap, ◌∙◌, inl, inr, ⊎_elim, arith, length-set, length-drop, length-append, get_or-set_same, get_or-set_other}
use Rattle.std.proofs.Common.{get_or-take, get_or-drop, eqb-true, eq-eqb, ne_eqb, ltb-true, ltb-false, lt-ltb, le-ltb, le-leb}
use Rattle.std.proofs.lemmas.List.{length-replicate}
use Rattle.std.proofs.Math.Seq.{length-take-le}
use Rattle.std.proofs.lemmas.Bool.{eqb-false, not-true}
use Rattle.records.specs.Limits.{rows, places, posting_limit, stripes, partitions, active_limit, fault_limit}
use Rattle.records.specs.Setters.{relisted}
use Rattle.records.specs.Zero.{empty_store, fresh, no_fault, no_faults}
use Rattle.records.specs.Relations.{rows_some, stripes_some}
use Rattle.rules.specs.Lists.{those, memb, rising, into, without, pad, nonzero_from, first_zero}
use Rattle.rules.specs.Types.{Store, Tx, Fault, Value, Absent, Key}
use Rattle.rules.specs.Store.{used, used_slots, postings_of, active_txids, posting, key_of, row_of, stripe_of, partition_of}
use Rattle.rules.specs.Transaction.{writes_of, reads_of, index_reads_of, snapshot_of, savepoints_of}
use Rattle.rules.specs.Numbers.{number_of}
use Rattle.rules.specs.Calls.{begin, lowest_free}
use Rattle.rules.specs.Computing.{computing}
use Rattle.rules.specs.Puts.{Put, apply, apply_all, take_slot, posts, enters, k_stripe, k_partition, k_insert, k_remove}
use Rattle.rules.specs.Puts.{k_xmax, k_head, k_free, k_drop, k_stamp, k_poison, k_doom, k_enter, k_clock, k_xmin, k_next, k_key, k_lock}
use Rattle.basic_laws.specs.Cases.{by, clash, or_true, or_false, or_left, or_right, and_true, and_both, mem_here, mem_there}
use Rattle.basic_laws.specs.Members.{at_mem, mem_at, mem_nonzero}
use Rattle.basic_laws.specs.Rising.{rising_less, rising_from, mem_into, rising_into, into_length, mem_without, rising_without, without_length}
use Rattle.basic_laws.specs.LaidOut.{pad_length}
use Rattle.basic_laws.specs.Placed.{get_d_any, rising_at, at_rising, packed_of, packed_rising, packed_members, before_first}
use Rattle.statements.specs.StoreWords.{Sets, Packed, Blank, stored_key, is_present, Part, Heads, Xmin, Xmax, Next, Values, RowLocks, Postings, StripeGuards}
use Rattle.statements.specs.StoreWords.{PartitionGuards, Stamps, Active, Clock, Poisoned, Doomed, Bound, Kept, changed_by, NothingElse, StoreKinds, Taken}
use Rattle.statements.specs.StoreWords.{EmptyStore, PostingPair, Remainder, FirstPlaces, BeforeZero, RisingOf, Lowest}

-- one place set
module _ {A : Type 0} where
  sets_one : (l : List A) (p : ℕ) (v : A) → Sets l (set l p v) p v
  sets_one l p v = record {
    long = length-set l p v;
    here = λ d lt. get_or-set_same l p v d lt;
    other = λ d q ne. get_or-set_other l p q v d ne;
  }

  -- .. to what it holds
  sets_same : (l : List A) (p : ℕ) (v d : A) → (p < length l → get_or l p d ≡ v) → Sets l l p v
  sets_same l p v d e = record { long = refl; here = λ c lt. get_d_any l p c d lt ∙ e lt; other = λ c q ne. refl }

-- a kind that is none of one or two
not_one : (k a : ℕ) → memb k (a ∷ []) ≡ false → eqb k a ≡ false
not_one k a n = (or_false (eqb k a) false n).0

not_two : (k a b : ℕ) → memb k (a ∷ b ∷ []) ≡ false → (eqb k a ≡ false) × (eqb k b ≡ false)
not_two k a b n = let h = or_false (eqb k a) (memb k (b ∷ [])) n in (h.0, not_one k b h.1)

-- no other part changes
pub nothing_else : (S : Store) → NothingElse S
nothing_else S p Heads n = rw (not_one p.kind k_head n)
nothing_else S p Xmin n = let h = not_two p.kind k_free k_xmin n in rw (h.0, h.1)
nothing_else S p Xmax n = let h = not_two p.kind k_free k_xmax n in rw (h.0, h.1)
nothing_else S p Next n = let h = not_two p.kind k_free k_next n in rw (h.0, h.1)
nothing_else S p Values n = let h = not_two p.kind k_free k_key n in (rw (h.0, h.1), rw (h.0, h.1))
nothing_else S p RowLocks n = let h = not_two p.kind k_free k_lock n in (rw (h.0, h.1), rw (h.0, h.1))
nothing_else S p Postings n = let h = not_two p.kind k_insert k_remove n in (rw (h.0, h.1), rw (h.0, h.1))
nothing_else S p StripeGuards n = rw (not_one p.kind k_stripe n)
nothing_else S p PartitionGuards n = rw (not_one p.kind k_partition n)
nothing_else S p Stamps n = rw (not_one p.kind k_stamp n)
nothing_else S p Active n = let h = not_two p.kind k_drop k_enter n in rw (h.0, h.1)
nothing_else S p Clock n = rw (not_one p.kind k_clock n)
nothing_else S p Poisoned n = let h = not_two p.kind k_poison k_doom n in rw (h.0, h.1)
nothing_else S p Doomed n = rw (not_one p.kind k_doom n)
nothing_else S p Bound n = refl

-- one number more in a rising list, and one less, laid out again
module _ (l : List ℕ) (lo : ℕ) (In : ℕ → Type 0) (up : rising lo l ≡ true) (has : (c : ℕ) → In c ↔ (memb c l ≡ true)) where
  more : (n c : ℕ) → lo ≤ c → length l < n → Packed (pad n 0 (into c l)) (length (into c l)) (λ d. (d ≡ c) ⊎ In d)
  more n c le lt = packed_of n lo (into c l) (λ d. (d ≡ c) ⊎ In d) (omega (arith, into_length c l)) (rising_into lo c l le up) (λ d. (
    λ m. rw (mem_into c l d) (⊎_elim (λ e. or_left (eqb d c) (memb d l) (eq-eqb d c e)) (λ i. or_right (eqb d c) (memb d l) ((has d).0 i)) m),
    λ m. or_true (eqb d c) (memb d l) (sym (mem_into c l d) ∙ m) (λ e. inl (eqb-true d c e)) (λ e. inr ((has d).1 e)),
  ))

  less : (n c : ℕ) → length l ≤ n → Packed (pad n 0 (without c l)) (length (without c l)) (λ d. (d ≢ c) × In d)
  less n c le = packed_of n lo (without c l) (λ d. (d ≢ c) × In d) (omega (arith, without_length c l)) (rising_without lo c l up) (λ d. (
    λ m. rw (mem_without c l d) (rw (ne_eqb d c m.0) ((has d).0 m.1)),
    λ m. let h = and_true (not (eqb d c)) (memb d l) (sym (mem_without c l d) ∙ m) in (eqb-false d c (not-true (eqb d c) h.0), (has d).1 h.1),
  ))

  -- the largest one put behind
  last : (n c : ℕ) → lo ≤ c → length l < n → ((d : ℕ) → In d → d < c) → Packed (pad n 0 (l ++ c ∷ [])) (suc (length l)) (λ d. (d ≡ c) ⊎ In d)
  last n c le lt top =
      let e : l ++ c ∷ [] ≡ into c l = behind l c (λ d m. top d ((has d).1 m)) in
      let k : length (into c l) ≡ suc (length l) = rw (sym e, length-append l (c ∷ [])) (omega arith) in
      rw (e, ← k) (more n c le lt)
    where
      behind : (l : List ℕ) (c : ℕ) → ((d : ℕ) → memb d l ≡ true → d < c) → l ++ c ∷ [] ≡ into c l
      behind [] c h = refl
      behind (x ∷ l) c h =
          let lt = h x (mem_here x l) in
          rw (le-ltb c x (omega arith), ne_eqb c x (λ e. omega arith), behind l c (λ d m. h d (mem_there d x l m)))

module _ (S : Store) where
  -- the postings, a rising list
  posted : S.posting_count ≤ length S.postings → length (postings_of S) ≡ S.posting_count
  unfolding postings_of
  posted le = length-take-le S.posting_count S.postings le

  inserted : (c : ℕ) (In : ℕ → Type 0) → Packed S.postings S.posting_count In → S.posting_count < posting_limit
      → Packed (pad posting_limit 0 (into c (postings_of S))) (length (into c (postings_of S))) (λ d. (d ≡ c) ⊎ In d)
  unfolding postings_of
  inserted c In P lt =
      more (postings_of S) 0 In (packed_rising _ _ In P 0 (λ d i. omega arith)) (packed_members _ _ In P) posting_limit c (omega arith)
      (omega (arith, posted P.within))

  removed : (c : ℕ) (In : ℕ → Type 0) → Packed S.postings S.posting_count In → S.posting_count ≤ posting_limit
      → Packed (pad posting_limit 0 (without c (postings_of S))) (length (without c (postings_of S))) (λ d. (d ≢ c) × In d)
  unfolding postings_of
  removed c In P le =
      less (postings_of S) 0 In (packed_rising _ _ In P 0 (λ d i. omega arith)) (packed_members _ _ In P) posting_limit c (omega (arith, posted P.within))

  -- the active txids, those before the first 0
  module _ (n : ℕ) (In : ℕ → Type 0) (P : Packed S.active n In) (some : In 0 → ⊥) where
    firsts : active_txids S.active ≡ take n S.active
    firsts = before_first S.active n P.within (λ i lt e. some ((P.exactly 0).1 (i, lt, e))) (P.after n (omega arith))

    few : length (active_txids S.active) ≡ n
    few = rw firsts (length-take-le n S.active P.within)

    climbs : rising 1 (active_txids S.active) ≡ true
    climbs = rw firsts (packed_rising S.active n In P 1 (λ c i. positive c i))
      where
        positive : (c : ℕ) → In c → 1 ≤ c
        positive zero i = absurd (some i)
        positive (suc c) i = omega arith

    these : (c : ℕ) → In c ↔ (memb c (active_txids S.active) ≡ true)
    these c = rw firsts (packed_members S.active n In P c)

    dropped : (t : ℕ) → n ≤ active_limit → (m : ℕ) × Packed (pad active_limit 0 (without t (active_txids S.active))) m (λ d. (d ≢ t) × In d)
    dropped t le = (length (without t (active_txids S.active)), less (active_txids S.active) 1 In climbs these active_limit t (omega (arith, few)))

    entered : (t : ℕ) → n < active_limit → 0 < t → ((d : ℕ) → In d → d < t)
        → Packed (pad active_limit 0 (active_txids S.active ++ t ∷ [])) (suc n) (λ d. (d ≡ t) ⊎ In d)
    entered t lt pos top = rw (← few) (last (active_txids S.active) 1 In climbs these active_limit t pos (omega (arith, few)) top)

  -- a put that changes the postings, or the active list, leaves as many places
  has_room : (p : Put) → memb p.kind (changed_by Postings) ≡ true → length (apply p S).postings ≡ posting_limit
  has_room p m = by (eqb p.kind k_insert || eqb p.kind k_remove)
      (λ e. rw e (pad_length {A = ℕ} posting_limit 0 (posts p (postings_of S))))
      (λ e. let o = or_false (eqb p.kind k_insert) (eqb p.kind k_remove) e in clash m (rw (o.0, o.1)))

  has_places : (p : Put) → memb p.kind (changed_by Active) ≡ true → length (apply p S).active ≡ active_limit
  has_places p m = by (eqb p.kind k_drop || eqb p.kind k_enter)
      (λ e. rw e (pad_length {A = ℕ} active_limit 0 (enters p (active_txids S.active))))
      (λ e. let o = or_false (eqb p.kind k_drop) (eqb p.kind k_enter) e in clash m (rw (o.0, o.1)))

  -- "A store is one guard, posting, xmax, head, slot, active-list, stamp or poison change."
  pub store_changes : StoreKinds S
  store_changes = record {
    stripe = λ i t. sets_one S.stripe_guards i t;
    partition = λ i t. sets_one S.partition_guards i t;
    xmax = λ p t. sets_one S.xmax p t;
    head = λ r p. sets_one S.heads r p;
    stamp = λ i t. sets_one S.stamps i t;
    xmin = λ p t. sets_one S.xmin p t;
    next = λ p q. sets_one S.next p q;
    key = λ p k. sets_one S.key p k;
    has = λ p k. sets_one S.has p true;
    locked = λ p t. sets_one S.locked p true;
    owner = λ p t. sets_one S.owner p t;
    free_xmin = λ p. sets_one S.xmin p 0;
    free_xmax = λ p. sets_one S.xmax p 0;
    free_next = λ p. sets_one S.next p 0;
    free_key = λ p. sets_one S.key p 0;
    free_has = λ p. sets_one S.has p false;
    free_locked = λ p. sets_one S.locked p false;
    free_owner = λ p. sets_one S.owner p 0;
    insert = λ c In P lt. inserted c In P lt;
    remove = λ c In P le. removed c In P le;
    posting_room = has_room;
    drop = λ t n In P some le. dropped n In P some t le;
    enter = λ t n In P some lt pos top. entered n In P some t lt pos top;
    active_room = has_places;
    clock = λ t. refl;
    poison = refl;
    doom_poisons = λ t. refl;
    doom = λ t. refl;
  }

-- parts with different numbers are different parts
abbrev pub number : Part → ℕ
number Heads = 0
number Xmin = 1
number Xmax = 2
number Next = 3
number Values = 4
number RowLocks = 5
number Postings = 6
number StripeGuards = 7
number PartitionGuards = 8
number Stamps = 9
number Active = 10
number Clock = 11
number Poisoned = 12
number Doomed = 13
number Bound = 14

pub differ : (a b : Part) → eqb (number a) (number b) ≡ false → a ≢ b
differ a b n e = clash (eq-eqb (number a) (number b) (ap number e)) n

-- "the lowest free slot is taken": a blank slot p taken for a version of t
pub slot_taken : (S : Store) (p t q : ℕ) (v : Value) → Blank S p → Taken S (apply_all (take_slot p t q v) S) p t q v
slot_taken S p t q v B = record {
  xmin = slot_xmin v;
  next = slot_next v;
  key = slot_key v;
  has = slot_has v;
  else = λ part a b c. slot_else v part a b c;
}
  where
    slot_xmin : (v : Value) → Sets S.xmin (apply_all (take_slot p t q v) S).xmin p t
    slot_xmin Absent = sets_one S.xmin p t
    slot_xmin (Key k) = sets_one S.xmin p t

    slot_next : (v : Value) → Sets S.next (apply_all (take_slot p t q v) S).next p q
    slot_next Absent = sets_one S.next p q
    slot_next (Key k) = sets_one S.next p q

    slot_key : (v : Value) → Sets S.key (apply_all (take_slot p t q v) S).key p (stored_key v)
    slot_key Absent = sets_same S.key p 0 0 (λ lt. B.key)
    slot_key (Key k) = sets_one S.key p k

    slot_has : (v : Value) → Sets S.has (apply_all (take_slot p t q v) S).has p (is_present v)
    slot_has Absent = sets_same S.has p false false (λ lt. B.has)
    slot_has (Key k) = sets_one S.has p true

    slot_else : (v : Value) (part : Part) → part ≢ Xmin → part ≢ Next → part ≢ Values → Kept S (apply_all (take_slot p t q v) S) part
    slot_else v Xmin a b c = absurd (a refl)
    slot_else v Next a b c = absurd (b refl)
    slot_else v Values a b c = absurd (c refl)
    slot_else Absent Heads a b c = refl
    slot_else (Key k) Heads a b c = refl
    slot_else Absent Xmax a b c = refl
    slot_else (Key k) Xmax a b c = refl
    slot_else Absent RowLocks a b c = (refl, refl)
    slot_else (Key k) RowLocks a b c = (refl, refl)
    slot_else Absent Postings a b c = (refl, refl)
    slot_else (Key k) Postings a b c = (refl, refl)
    slot_else Absent StripeGuards a b c = refl
    slot_else (Key k) StripeGuards a b c = refl
    slot_else Absent PartitionGuards a b c = refl
    slot_else (Key k) PartitionGuards a b c = refl
    slot_else Absent Stamps a b c = refl
    slot_else (Key k) Stamps a b c = refl
    slot_else Absent Active a b c = refl
    slot_else (Key k) Active a b c = refl
    slot_else Absent Clock a b c = refl
    slot_else (Key k) Clock a b c = refl
    slot_else Absent Poisoned a b c = refl
    slot_else (Key k) Poisoned a b c = refl
    slot_else Absent Doomed a b c = refl
    slot_else (Key k) Doomed a b c = refl
    slot_else Absent Bound a b c = refl
    slot_else (Key k) Bound a b c = refl

-- nonzero numbers before a place, and one more in front
up : (x : ℕ) (l : List ℕ) (i : ℕ) → 0 < x → ((j : ℕ) → j < i → 0 < get_or l j 0) → (j : ℕ) → j < suc i → 0 < get_or (x ∷ l) j 0
up x l i n h zero lt = n
up x l i n h (suc j) lt = h j (omega arith)

-- the first 0 of an array, counted from a number past 0
first_zero_law : (k : ℕ) (l : List ℕ) → (first_zero (suc k) l ≡ 0 → ⊥)
    → (i : ℕ) × (first_zero (suc k) l ≡ suc k + i) × (i < length l) × (get_or l i 0 ≡ 0) × ((j : ℕ) → j < i → 0 < get_or l j 0)
first_zero_law k [] n = absurd (n refl)
first_zero_law k (x ∷ l) n = by (eqb x 0)
    (λ e. (zero, rw e (omega arith), omega arith, eqb-true x 0 e, λ j lt. absurd (omega arith)))
    (λ e. let r = first_zero_law (suc k) l (λ q. n (rw e q)) in
    (suc r.0, rw e (omega (arith, r.1)), omega (arith, r.2), r.3, up x l r.0 (omega (arith, eqb-false x 0 e)) r.4))

-- "the lowest free slot": the definition finds it
pub lowest : (xmin : List ℕ) → (lowest_free xmin ≡ 0 → ⊥) → Lowest xmin (lowest_free xmin)
unfolding lowest_free
lowest xmin n =
    let r = first_zero_law 0 (drop 1 xmin) n in
    let at : (i : ℕ) → get_or (drop 1 xmin) i 0 ≡ get_or xmin (1 + i) 0 = λ i. get_or-drop 1 xmin i 0 in
    rw r.1 (record {
      some = omega arith;
      within = omega (arith, r.2, length-drop 1 xmin);
      free = sym (at r.0) ∙ r.3;
      least = λ q pos lt.
          let e : 1 + (q - 1) ≡ q = omega arith in
          rw (at (q - 1), e) at (r.4 (q - 1) (omega arith));
    })

-- and 0 where there is none
pub none_free : (xmin : List ℕ) → lowest_free xmin ≡ 0 → (p : ℕ) → 0 < p → p < length xmin → 0 < get_or xmin p 0
unfolding lowest_free
none_free xmin e p pos lt =
    let k : 1 + (p - 1) ≡ p = omega arith in
    rw (get_or-drop 1 xmin (p - 1) 0, k) at (none 0 (drop 1 xmin) e (p - 1) (omega (arith, length-drop 1 xmin)))
  where
    none : (k : ℕ) (l : List ℕ) → first_zero (suc k) l ≡ 0 → (i : ℕ) → i < length l → 0 < get_or l i 0
    none k [] e i lt = absurd (omega arith)
    none k (x ∷ l) e i lt = by (eqb x 0)
        (λ q. absurd (let h : suc k ≡ 0 = rw q at e in omega (arith, h)))
        (λ q. up x l (length l) (omega (arith, eqb-false x 0 q)) (λ j lj. none (suc k) l (rw q at e) j lj) i lt)

-- THE PAPER'S NUMBERS

-- the kinds of stores are different numbers
pub kinds_differ : rising 1 (k_stripe ∷ k_partition ∷ k_insert ∷ k_remove ∷ k_xmax ∷ k_head ∷ k_free ∷ k_drop ∷ k_stamp ∷ k_poison ∷ k_doom ∷ k_enter ∷ k_clock
    ∷ k_xmin ∷ k_next ∷ k_key ∷ k_lock ∷ []) ≡ true
kinds_differ = refl

-- "Key k has stripe k mod 16; row id r has partition r mod 16."
pub stripe_says : (k : ℕ) → Remainder k stripes (stripe_of k)
stripe_says k = record { below = omega (arith, stripes_some); times = k / stripes; whole = omega arith }

pub partition_says : (r : ℕ) → Remainder r partitions (partition_of r)
partition_says r = record { below = omega arith; times = r / partitions; whole = omega arith }

-- "A posting is (key, row)", and every number is one
pub posting_says : (k r : ℕ) → r < rows → PostingPair k r (posting k r)
posting_says k r lt = record {
  key = omega arith;
  row = omega arith;
  before = λ j q lq. (
    λ h. by (ltb k j)
        (λ e. inl (ltb-true k j e))
        (λ e. inr (let ge = ltb-false k j e in (omega arith, omega arith))),
    λ h. ⊎_elim (λ l. omega arith) (λ e. omega (arith, e.0, e.1)) h,
  );
}

pub posting_back : (c : ℕ) → (posting (key_of c) (row_of c) ≡ c) × (row_of c < rows)
posting_back c = (omega arith, omega (arith, rows_some))

-- THE EMPTY STORE

blank_at : {A : Type 0} (n : ℕ) (z : A) (i : ℕ) → get_or (replicate n z) i z ≡ z
blank_at zero z i = refl
blank_at (suc n) z zero = refl
blank_at (suc n) z (suc i) = blank_at n z i

pub empty_store_law : (durable : Bool) → EmptyStore durable (empty_store durable)
unfolding empty_store
empty_store_law durable = record {
  sized = record {
    heads = length-replicate {A = ℕ} rows 0;
    xmin = length-replicate {A = ℕ} places 0;
    xmax = length-replicate {A = ℕ} places 0;
    next = length-replicate {A = ℕ} places 0;
    key = length-replicate {A = ℕ} places 0;
    has = length-replicate {A = Bool} places false;
    locked = length-replicate {A = Bool} places false;
    owner = length-replicate {A = ℕ} places 0;
    postings = length-replicate {A = ℕ} posting_limit 0;
    stripe_guards = length-replicate {A = ℕ} stripes 0;
    partition_guards = length-replicate {A = ℕ} partitions 0;
    stamps = length-replicate {A = ℕ} stripes 0;
    active = length-replicate {A = ℕ} active_limit 0;
  };
  heads = blank_at rows 0;
  slots = λ p. record {
    xmin = blank_at places 0 p;
    xmax = blank_at places 0 p;
    next = blank_at places 0 p;
    key = blank_at places 0 p;
    has = blank_at places false p;
    locked = blank_at places false p;
    owner = blank_at places 0 p;
  };
  posting_count = refl;
  postings = blank_at posting_limit 0;
  stripe_guards = blank_at stripes 0;
  partition_guards = blank_at partitions 0;
  stamps = blank_at stripes 0;
  active = blank_at active_limit 0;
  clock = refl;
  poisoned = refl;
  doomed = refl;
  bound = refl;
}

pub fresh_store : EmptyStore false fresh
unfolding fresh
fresh_store = empty_store_law false

-- and the empty schedule: no fault, zero at every place
pub no_faults_law : (no_faults.count ≡ 0) × (length no_faults.faults ≡ fault_limit)
    × ((i : ℕ) → let f = get_or no_faults.faults i no_fault in (f.step ≡ 0) × (f.letter ≡ 0) × (f.k ≡ 0))
unfolding no_faults
no_faults_law = (refl, length-replicate {A = Fault} fault_limit no_fault, λ i. rw (blank_at fault_limit no_fault i) (refl, refl, refl))

-- THE CLOCK'S END

-- "begin: clock at its largest": at one below it begin takes a txid, at it the answer is 22
abbrev late : ℕ → Store
late t = relisted (replicate active_limit 0) t fresh

pub clock_ends : map (λ t. number_of (begin (late t)).refusal) (1 ∷ 18446744073709551613 ∷ 18446744073709551614 ∷ 18446744073709551615 ∷ [])
    ≡ 0 ∷ 0 ∷ 0 ∷ 22 ∷ []
unfolding computing
clock_ends = refl

-- LISTS READ FROM ARRAYS

-- a transaction's lists and the store's postings are the first places of their arrays, as many as the count says
first_places : {A : Type 0} (n : ℕ) (a : List A) → n ≤ length a → FirstPlaces a n (take n a)
first_places n a le = record { long = length-take-le n a le; same = λ d i lt. get_or-take n a i d lt }

pub writes_are : (x : Tx) → x.write_count ≤ length x.writes → FirstPlaces x.writes x.write_count (writes_of x)
writes_are x le = first_places x.write_count x.writes le

pub reads_are : (x : Tx) → x.read_count ≤ length x.reads → FirstPlaces x.reads x.read_count (reads_of x)
reads_are x le = first_places x.read_count x.reads le

pub index_reads_are : (x : Tx) → x.index_read_count ≤ length x.index_reads → FirstPlaces x.index_reads x.index_read_count (index_reads_of x)
index_reads_are x le = first_places x.index_read_count x.index_reads le

pub snapshot_is : (x : Tx) → x.snapshot_count ≤ length x.snapshot → FirstPlaces x.snapshot x.snapshot_count (snapshot_of x)
snapshot_is x le = first_places x.snapshot_count x.snapshot le

pub savepoints_are : (x : Tx) → x.savepoint_count ≤ length x.savepoints → FirstPlaces x.savepoints x.savepoint_count (savepoints_of x)
savepoints_are x le = first_places x.savepoint_count x.savepoints le

pub postings_are : (S : Store) → S.posting_count ≤ length S.postings → FirstPlaces S.postings S.posting_count (postings_of S)
unfolding postings_of
postings_are S le = first_places S.posting_count S.postings le

-- "Active txids: .. zero after them": those before the first 0
pub actives_are : (a : List ℕ) → BeforeZero a (active_txids a)
actives_are [] = record { within = omega arith; same = λ i lt. refl; some = λ i lt. absurd (omega arith); ends = refl }
actives_are (x ∷ a) = by (eqb x 0)
    (λ e. rw e (record { within = omega arith; same = λ i lt. absurd (omega arith); some = λ i lt. absurd (omega arith); ends = eqb-true x 0 e }))
    (λ e. let h = actives_are a in rw e (record {
      within = omega (arith, h.within);
      same = λ i lt. same x (active_txids a) a h.same i lt;
      some = λ i lt. some x (active_txids a) a (eqb-false x 0 e) h.some i lt;
      ends = h.ends;
    }))
  where
    same : (x : ℕ) (l a : List ℕ) → ((i : ℕ) → i < length l → get_or l i 0 ≡ get_or a i 0) → (i : ℕ) → i < suc (length l)
        → get_or (x ∷ l) i 0 ≡ get_or (x ∷ a) i 0
    same x l a h zero lt = refl
    same x l a h (suc i) lt = h i (omega arith)

    some : (x : ℕ) (l a : List ℕ) → x ≢ 0 → ((i : ℕ) → i < length l → get_or a i 0 ≢ 0) → (i : ℕ) → i < suc (length l) → get_or (x ∷ a) i 0 ≢ 0
    some x l a n h zero lt = n
    some x l a n h (suc i) lt = h i (omega arith)

-- "A used slot has xmin, ..": used where its xmin isn't 0; the used slots, rising
pub used_says : (xmin : List ℕ) (p : ℕ) → (used xmin p ≡ true) ↔ (get_or xmin p 0 ≢ 0)
used_says xmin p = (
  λ h e. omega (arith, e, ltb-true 0 (get_or xmin p 0) h),
  λ n. by (eqb (get_or xmin p 0) 0) (λ e. absurd (n (eqb-true (get_or xmin p 0) 0 e)))
      (λ e. lt-ltb 0 (get_or xmin p 0) (omega (arith, eqb-false (get_or xmin p 0) 0 e))),
)

-- the places of the nonzero numbers rise
nonzero_rises : (k : ℕ) (l : List ℕ) → rising k (nonzero_from k l) ≡ true
nonzero_rises k [] = refl
nonzero_rises k (x ∷ l) = let r = nonzero_rises (suc k) l in by (eqb x 0)
    (λ e. rw e (rising_less k (suc k) (nonzero_from (suc k) l) (omega arith) r))
    (λ e. rw e (and_both (leb k k) (rising (suc k) (nonzero_from (suc k) l)) (le-leb k k (omega arith)) r))

pub used_slots_are : (xmin : List ℕ) → RisingOf (used_slots xmin) (λ p. get_or xmin p 0 ≢ 0)
used_slots_are xmin = record {
  rising = rising_at 0 (used_slots xmin) (nonzero_rises 0 xmin);
  exactly = λ p. (
    λ n. mem_at (used_slots xmin) p (mem_nonzero xmin p ∙ (used_says xmin p).1 n),
    λ k. (used_says xmin p).0 (sym (mem_nonzero xmin p) ∙ (rw k.2 at (at_mem (used_slots xmin) k.0 k.1))),
  );
}

-- "rising", as the test says it
pub rising_says : (lo : ℕ) (l : List ℕ) → (rising lo l ≡ true)
    ↔ (((i : ℕ) → i < length l → lo ≤ get_or l i 0) × ((i j : ℕ) → i < j → j < length l → get_or l i 0 < get_or l j 0))
rising_says lo l = (
  λ h. (λ i lt. rising_from lo l (get_or l i 0) h (at_mem l i lt), rising_at lo l h),
  λ h. at_rising lo l h.0 h.1,
)

-- "in list order": those of a list that pass, one after the other as they stand
pub those_say : {A : Type 0} (f : A → Bool) (l m : List A) → those f (l ++ m) ≡ those f l ++ those f m
those_say f [] m = refl
those_say {A} f (x ∷ l) m = let r = those_say f l m in by (f x) (λ e. rw e (ap (λ (t : List A). x ∷ t) r)) (λ e. rw e r)

pub those_one : {A : Type 0} (f : A → Bool) (x : A) → (f x ≡ true → those f (x ∷ []) ≡ x ∷ []) × (f x ≡ false → those f (x ∷ []) ≡ [])
those_one f x = (λ e. rw e, λ e. rw e)
