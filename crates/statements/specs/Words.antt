-- The words in which the demands are put.
use Rattle.std.specs.Prelude.{◌≡◌, Bool, true, false, not, cond, ◌&&◌, ◌||◌, List, [], ◌∷◌, ◌≢◌, ◌⊎◌, ℕ, ◌<◌, ◌≤◌, get_or, eqb}
use Rattle.records.specs.Limits.{rows, places}
use Rattle.rules.specs.Lists.{memb, first_of}
use Rattle.rules.specs.Types.{Store, Tx, Write, ReadRecord, Schedule, Answer, Uncut, Value, Refusal, Done}
use Rattle.rules.specs.Store.{used, value_at, active_txids, postings_of}
use Rattle.rules.specs.Transaction.{writes_of, reads_of, index_reads_of, snapshot_of, final_writes, finals}
use Rattle.rules.specs.Chains.{chain_from, walk, on}
use Rattle.rules.specs.Admitted.{finished, head_postings, resting}
use Rattle.rules.specs.Fit.{fit}
use Rattle.rules.specs.Faults.{schedule_fit}
use Rattle.rules.specs.Numbers.{number_of}
use Rattle.rules.specs.Recovery.{recover}
use Rattle.rules.specs.Commit.{unlogged_writes}
use Rattle.rules.specs.Answer.{commit}
use Rattle.statements.specs.Sized.{Sized}
pub use Rattle.statements.specs.StoreWords.{Blank}
use Rattle.statements.specs.CallWords.{ListsEmptied, Names}

-- PREMISES

-- what a commit is admitted with: numbers 1, 2 and 3 don't apply
pub record Admitted (S : Store) (x : Tx) (plan : Schedule) : Type 0 where
  pub rests : resting S ≡ true
  pub fits : fit S x ≡ true
  pub planned : schedule_fit plan ≡ true
  pub active : memb x.txid.0 (active_txids S.active) ≡ true

-- "an admitted, unpoisoned store, a fit open transaction, no fault, .. and either logging, no writes or a store not durably bound"
pub record Quiet (S : Store) (x : Tx) (logged : Bool) (plan : Schedule) : Type 0 where
  pub ok : Admitted S x plan
  pub faultless : plan.count ≡ 0
  pub sound : S.poisoned ≡ false
  pub free : (unlogged_writes S x logged plan && S.bound) ≡ false

-- THE FOUR TESTS

-- one of a list
abbrev pub Some {ℓ} : {A : Type ℓ} → (A → Type 0) → List A → Type 0
Some P [] = ⊥
Some P (x ∷ l) = P x ⊎ Some P l

-- "a live lock of another": the slot is locked, and its owner is not t and is active
abbrev pub LockedByAnother : Store → ℕ → ℕ → Type 0
LockedByAnother S t p =
    (get_or S.locked p false ≡ true)
    × ((get_or S.owner p 0 ≢ t) × (memb (get_or S.owner p 0) (active_txids S.active) ≡ true))

-- "13 per read, in order: changed xmin conflicts first; xmax 0 or own is none; xmax at or above snapshot_xmax, or in the snapshot, conflicts"
abbrev pub Overtaken : Store → Tx → ReadRecord → Type 0
Overtaken S x e =
    let b = get_or S.xmax e.ptr.0 0 in
    (get_or S.xmin e.ptr.0 0 ≢ e.xmin.0)
    ⊎ (((b ≢ 0) × (b ≢ x.txid.0)) × ((x.snapshot_xmax.0 ≤ b) ⊎ (memb b (snapshot_of x) ≡ true)))

-- a stale read: of a version, overtaken; of an absent row (pointer 0), document 02's wish 2: "that row's head is no longer 0", and nothing else
abbrev pub Stale : Store → Tx → ReadRecord → Type 0
Stale S x e = ((e.ptr.0 ≡ 0) × (get_or S.heads e.row.0 0 ≢ 0)) ⊎ ((e.ptr.0 ≢ 0) × Overtaken S x e)

-- one of the four says yes: "index_conflict is set or a recorded stamp differs"; "a written row's head has a live lock of another"; a stale read;
-- "a final write's base is not the head"
abbrev pub Conflicts : Store → Tx → Type 0
Conflicts S x =
    ((x.index_conflict ≡ true) ⊎ Some (λ e. get_or S.stamps e.stripe 0 ≢ e.stamp.0) (index_reads_of x))
    ⊎ (Some (λ w. LockedByAnother S x.txid.0 (get_or S.heads w.row.0 0)) (writes_of x)
    ⊎ (Some (Stale S x) (reads_of x)
    ⊎ Some (λ w. get_or S.heads w.row.0 0 ≢ w.base.0) (final_writes (writes_of x))))

-- WHAT ROWS HOLD AND SHOW

-- the value of a row's head
abbrev pub row_value : Store → ℕ → Value
row_value T r = value_at T.key T.has (get_or T.heads r 0)

-- of a chain: the value of the first version whose creator is finished, none if there is none
abbrev pub shown_in : List ℕ → List ℕ → List Bool → (ℕ → Bool) → List ℕ → Value
shown_in xmin key has f l = value_at key has (first_of (λ p. f (get_or xmin p 0)) l)

-- of a row
unfoldable pub shown : Store → ℕ → Value
shown S r =
    shown_in S.xmin S.key S.has (finished S.active S.doomed) (chain_from places S.next (get_or S.heads r 0))

-- the rows with writes put in
abbrev pub with_new : List ℕ → List Bool → List Write → (ℕ → Value) → ℕ → Value
with_new key has [] old r = old r
with_new key has (w ∷ ws) old r = with_new key has ws (λ q. cond (eqb q w.row.0) (value_at key has w.new.0) (old q)) r

-- DEMAND 2: what success leaves

pub record Committed (S : Store) (x : Tx) (a : Answer) : Type 0 where
  pub names : Names x.txid.0 (finals x) a.«record»
  pub rows : (r : ℕ) → r < rows → row_value a.store r ≡ with_new S.key S.has (finals x) (row_value S) r
  pub postings : postings_of a.store ≡ head_postings a.store.key a.store.has 0 a.store.heads
  pub gone : memb x.txid.0 (active_txids a.store.active) ≡ false
  pub home : (p : ℕ) → get_or a.store.xmin p 0 ≡ x.txid.0 → on (walk a.store.heads a.store.next).seen p ≡ true
  pub rests : resting a.store ≡ true
  pub healthy : a.store.poisoned ≡ false
  pub lists : ListsEmptied x a.tx

-- what an abort leaves: every off-chain slot of t is all zero, and t is no longer active
pub record Freed (S : Store) (t : ℕ) (T : Store) : Type 0 where
  pub freed : (p : ℕ) → get_or S.xmin p 0 ≡ t → on (walk S.heads S.next).seen p ≡ false → Blank T p
  pub gone : memb t (active_txids T.active) ≡ false

-- the numbers after an abort
abbrev pub aborted_number : ℕ → Bool
aborted_number n = eqb n 5 || (eqb n 6 || (eqb n 7 || (eqb n 9 || (eqb n 11 || (eqb n 12 || eqb n 19)))))

-- DEMAND 3: old or new

-- what recovery leaves of S: a resting store D whose rows hold what S shows
pub record Recovered (S D : Store) : Type 0 where
  pub sized : Sized D
  pub rests : resting D ≡ true
  pub healthy : D.poisoned ≡ false
  pub undoomed : D.doomed ≡ 0
  pub alone : active_txids D.active ≡ []
  pub shows : (r : ℕ) → r < rows → value_at D.key D.has (get_or D.heads r 0) ≡ shown S r
  pub exact : postings_of D ≡ head_postings D.key D.has 0 D.heads
  pub packed : (p : ℕ) → used D.xmin p ≡ true → on (walk D.heads D.next).seen p ≡ true
  pub unlocked : (p : ℕ) → get_or D.locked p false ≡ false
  pub clock : D.clock ≡ S.clock
  pub stamps : D.stamps ≡ S.stamps
  pub bound : D.bound ≡ S.bound

-- the rows of a store before the call, by recovery itself
abbrev pub before : Store → ℕ → Value
before S r = row_value (recover S).store r

-- a commit stands where its number is 0 or 17
abbrev pub stands : Refusal → Bool
stands why = eqb (number_of why) 0 || eqb (number_of why) 17

-- "step 21's deregistration was stored and neither publication nor recycling had failed": the commit, uncut, answers 0 or 17, and the store D
-- left behind has its txid no longer active
abbrev pub survived : Store → Tx → Bool → Schedule → Store → Bool
survived S x logged plan D = stands (commit S x logged plan Uncut).refusal && not (memb x.txid.0 (active_txids D.active))

-- "every row shows its old value, or all final writes show together and every other row its old value"
abbrev pub after : Store → Tx → Bool → Schedule → Store → ℕ → Value
after S x logged plan D r = cond (survived S x logged plan D) (with_new S.key S.has (finals x) (before S) r) (before S r)

-- recovery of D accepts, leaves what recovery leaves, and shows old or new
pub record Safe (S : Store) (x : Tx) (logged : Bool) (plan : Schedule) (D : Store) : Type 0 where
  pub accepted : (recover D).refusal ≡ Done
  pub mended : Recovered D (recover D).store
  pub rows : (r : ℕ) → r < rows → row_value (recover D).store r ≡ after S x logged plan D r
