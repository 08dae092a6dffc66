-- "Replay" in words: which bytes are a line of which form, what each line does and what it prints.
use Rattle.std.specs.Prelude.{◌≡◌, Bool, true, false, List, [], ◌∷◌, ◌++◌, ◌≢◌, ◌⊎◌, ℕ, suc, ◌+◌, ◌-◌, ◌*◌, ◌^◌, ◌<◌, ◌≤◌, length, get_or}
use Rattle.records.specs.Limits.{place_limit}
use Rattle.records.specs.Zero.{zero_tx, no_fault}
use Rattle.rules.specs.Lists.{memb}
use Rattle.rules.specs.Types.{Tx, Fault, Schedule, Value, Absent, Key, Cut, Uncut, After, Fate, Cause, Conflict}
use Rattle.rules.specs.Faults.{schedule_fit}
use Rattle.rules.specs.Numbers.{number_of, More, nothing, cause, test_named, place_named}
use Rattle.rules.specs.Calls.{begin, read, write, lookup, row_lock, abort}
use Rattle.rules.specs.Recovery.{recover}
use Rattle.rules.specs.Answer.{commit}
use Rattle.rules.specs.Replay.{Line, line_b, line_r, line_w, line_l, line_k, line_a, line_c, line_f, line_v, line_bad, Third, num, dash, Out, Desk}
use Rattle.statements.specs.StoreWords.{EmptyStore}
use Rattle.statements.specs.CallWords.{OnlyTxid}

-- BYTES: 9 is the tab, 10 the line feed, 45 the -, 48 to 57 are the digits, 65 to 90 the letters A to Z, 108 is l, 117 is u
abbrev pub Bytes : Type 0
Bytes = List ℕ

-- what digits are worth: each times its power of ten
abbrev pub worth : Bytes → ℕ
worth [] = 0
worth (b ∷ w) = (b - 48) * 10 ^ length w + worth w

-- "Numbers are decimal, without leading zeros": digits alone, at least one, and a first 0 stands alone
pub record Decimal (n : ℕ) (w : Bytes) : Type 0 where
  pub some : 0 < length w
  pub digits : (j : ℕ) → j < length w → (48 ≤ get_or w j 0) × (get_or w j 0 ≤ 57)
  pub unpadded : get_or w 0 0 ≡ 48 → length w ≡ 1
  pub value : worth w ≡ n

-- ".. at most 32 bits"; "place 0 to 15"; "key or -"; "u or l"; "letter (A to Z)"
abbrev pub Number : ℕ → Bytes → Type 0
Number n w = Decimal n w × (n < 2 ^ 32)

abbrev pub Place : ℕ → Bytes → Type 0
Place i w = Decimal i w × (i < place_limit)

abbrev pub KeyOr : Value → Bytes → Type 0
KeyOr Absent w = w ≡ 45 ∷ []
KeyOr (Key k) w = Number k w

-- u is unlogged, l is logged
abbrev pub Mode : Bool → Bytes → Type 0
Mode false w = w ≡ 117 ∷ []
Mode true w = w ≡ 108 ∷ []

abbrev pub Letter : ℕ → Bytes → Type 0
Letter b w = (w ≡ b ∷ []) × (65 ≤ b) × (b ≤ 90)

-- "Tab-separated lines": fields, each after a tab
abbrev pub tabbed : List Bytes → Bytes
tabbed [] = []
tabbed (w ∷ ws) = 9 ∷ (w ++ tabbed ws)

-- "B place; R place row; W place row key or -; L place key; K place row; A place; C place u or l, optionally a cut; F step letter k; V recovers":
-- the bytes w are a line of this form, with these numbers
abbrev pub IsForm : Line → Bytes → Type 0
IsForm (line_b i) w = (p : Bytes) × (w ≡ 66 ∷ tabbed (p ∷ [])) × Place i p
IsForm (line_r i r) w = (p : Bytes) × (q : Bytes) × (w ≡ 82 ∷ tabbed (p ∷ q ∷ [])) × Place i p × Number r q
IsForm (line_w i r v) w = (p : Bytes) × (q : Bytes) × (s : Bytes) × (w ≡ 87 ∷ tabbed (p ∷ q ∷ s ∷ [])) × Place i p × Number r q × KeyOr v s
IsForm (line_l i k) w = (p : Bytes) × (q : Bytes) × (w ≡ 76 ∷ tabbed (p ∷ q ∷ [])) × Place i p × Number k q
IsForm (line_k i r) w = (p : Bytes) × (q : Bytes) × (w ≡ 75 ∷ tabbed (p ∷ q ∷ [])) × Place i p × Number r q
IsForm (line_a i) w = (p : Bytes) × (w ≡ 65 ∷ tabbed (p ∷ [])) × Place i p
IsForm (line_c i m Uncut) w = (p : Bytes) × (q : Bytes) × (w ≡ 67 ∷ tabbed (p ∷ q ∷ [])) × Place i p × Mode m q
IsForm (line_c i m (After n)) w = (p : Bytes) × (q : Bytes) × (s : Bytes) × (w ≡ 67 ∷ tabbed (p ∷ q ∷ s ∷ [])) × Place i p × Mode m q × Number n s
IsForm (line_f n b k) w = (p : Bytes) × (q : Bytes) × (s : Bytes) × (w ≡ 70 ∷ tabbed (p ∷ q ∷ s ∷ [])) × Number n p × Letter b q × Number k s
IsForm line_v w = w ≡ 86 ∷ []
IsForm line_bad w = ⊥

-- what a line's bytes mean: the line of which they are the form; bad exactly if they are of no form
abbrev pub Means : Line → Bytes → Type 0
Means l w = IsForm l w ⊎ ((l ≡ line_bad) × ((m : Line) → IsForm m w → ⊥))

-- a script's lines: each ends at a line feed and has none in it; a last line without one counts if it has a byte
abbrev pub LinesOf : Bytes → List Bytes → Type 0
LinesOf bs [] = bs ≡ []
LinesOf bs (w ∷ ws) =
    (memb 10 w ≡ false)
    × (((rest : Bytes) × (bs ≡ w ++ 10 ∷ rest) × LinesOf rest ws) ⊎ ((bs ≡ w) × (0 < length w) × (ws ≡ [])))

-- each of the bytes means the line at the same place
abbrev pub Each : List Line → List Bytes → Type 0
Each [] [] = Unit
Each [] (w ∷ ws) = ⊥
Each (l ∷ ls) [] = ⊥
Each (l ∷ ls) (w ∷ ws) = Means l w × Each ls ws

abbrev pub IsScript : List Line → Bytes → Type 0
IsScript ls bs = (ws : List Bytes) × LinesOf bs ws × Each ls ws

-- OUTPUT

-- the third field: a number, or -
abbrev pub IsThird : Third → Bytes → Type 0
IsThird (num n) w = Decimal n w
IsThird dash w = w ≡ 45 ∷ []

-- document 02's wish 4: "the test as a fourth field and the place as a fifth", each after a tab; of any other answer nothing
abbrev pub IsMore : More → Bytes → Type 0
IsMore nothing w = w ≡ []
IsMore (cause c) w = (t : Bytes) × (p : Bytes) × (w ≡ tabbed (t ∷ p ∷ [])) × Decimal (test_named c) t × Decimal (place_named c) p

-- "Output: line number, number, then ..", tab-separated, a line feed after each; the lines are numbered on from n
abbrev pub IsOutput : ℕ → List Out → Bytes → Type 0
IsOutput n [] w = w ≡ []
IsOutput n (o ∷ os) w =
    (p : Bytes) × (q : Bytes) × (t : Bytes) × (m : Bytes) × (rest : Bytes) × (w ≡ p ++ 9 ∷ (q ++ 9 ∷ (t ++ (m ++ 10 ∷ rest))))
    × Decimal n p × Decimal o.number q × IsThird o.third t × IsMore o.more m × IsOutput (suc n) os rest

-- what is printed has 64 bits
abbrev pub Third64 : Third → Type 0
Third64 (num n) = n < 2 ^ 64
Third64 dash = Unit

abbrev pub More64 : More → Type 0
More64 nothing = Unit
More64 (cause c) = place_named c < 2 ^ 64

abbrev pub Outs64 : List Out → Type 0
Outs64 [] = Unit
Outs64 (o ∷ os) = (o.number < 2 ^ 64) × Third64 o.third × More64 o.more × Outs64 os

-- WHAT EACH LINE DOES: the desk d before it, the desk e after it, what it prints

-- place i's transaction
abbrev pub tx_of : Desk → ℕ → Tx
tx_of d i = get_or d.txs i zero_tx

-- x is place i's transaction now; every other place's is as it was, and there are as many places
pub record Laid (i : ℕ) (x : Tx) (d e : Desk) : Type 0 where
  pub own : i < length d.txs → tx_of e i ≡ x
  pub others : (j : ℕ) → j ≢ i → tx_of e j ≡ tx_of d j
  pub places : length e.txs ≡ length d.txs

-- "B place": begin's store and transaction, "then txid"; "a refused B keeps its place's transaction", and all else; "0 for any .. refusal"
pub record Begins (i : ℕ) (d e : Desk) (o : Out) : Type 0 where
  pub number : o.number ≡ number_of (begin d.store).refusal
  pub more : o.more ≡ nothing
  pub store : number_of (begin d.store).refusal ≡ 0 → e.store ≡ (begin d.store).store
  pub tx : number_of (begin d.store).refusal ≡ 0 → Laid i (begin d.store).tx d e
  pub third : number_of (begin d.store).refusal ≡ 0 → o.third ≡ num (begin d.store).tx.txid.0
  pub faults : e.plan ≡ d.plan
  pub refused : number_of (begin d.store).refusal ≢ 0 → (e ≡ d) × (o.third ≡ num 0)

-- "key or - (R)": - is for a read that found no key
abbrev pub KeyOrDash : Value → Third → Type 0
KeyOrDash Absent t = t ≡ dash
KeyOrDash (Key k) t = t ≡ num k

-- "R place row": read's transaction; the store as it was; a refused one prints 0, never -
pub record Reads (i r : ℕ) (d e : Desk) (o : Out) : Type 0 where
  pub number : o.number ≡ number_of (read d.store (tx_of d i) r).refusal
  pub more : o.more ≡ nothing
  pub store : e.store ≡ d.store
  pub tx : Laid i (read d.store (tx_of d i) r).tx d e
  pub faults : e.plan ≡ d.plan
  pub third : number_of (read d.store (tx_of d i) r).refusal ≡ 0 → KeyOrDash (read d.store (tx_of d i) r).value o.third
  pub refused : number_of (read d.store (tx_of d i) r).refusal ≢ 0 → o.third ≡ num 0

-- "W place row key or -": write's store and transaction, then "slot (W)"
pub record Writes (i r : ℕ) (v : Value) (d e : Desk) (o : Out) : Type 0 where
  pub number : o.number ≡ number_of (write d.store (tx_of d i) r v).refusal
  pub more : o.more ≡ nothing
  pub store : e.store ≡ (write d.store (tx_of d i) r v).store
  pub tx : Laid i (write d.store (tx_of d i) r v).tx d e
  pub faults : e.plan ≡ d.plan
  pub third : number_of (write d.store (tx_of d i) r v).refusal ≡ 0 → o.third ≡ num (write d.store (tx_of d i) r v).slot.0
  pub refused : number_of (write d.store (tx_of d i) r v).refusal ≢ 0 → o.third ≡ num 0

-- "L place key": lookup's transaction; the store as it was; then "row count (L)"
pub record LooksUp (i k : ℕ) (d e : Desk) (o : Out) : Type 0 where
  pub number : o.number ≡ number_of (lookup d.store (tx_of d i) k).refusal
  pub more : o.more ≡ nothing
  pub store : e.store ≡ d.store
  pub tx : Laid i (lookup d.store (tx_of d i) k).tx d e
  pub faults : e.plan ≡ d.plan
  pub third : number_of (lookup d.store (tx_of d i) k).refusal ≡ 0 → o.third ≡ num (lookup d.store (tx_of d i) k).count
  pub refused : number_of (lookup d.store (tx_of d i) k).refusal ≢ 0 → o.third ≡ num 0

-- "K place row": the row lock's store; the transactions as they were; "0 for any other line"
pub record Locks (i r : ℕ) (d e : Desk) (o : Out) : Type 0 where
  pub number : o.number ≡ number_of (row_lock d.store (tx_of d i) r).refusal
  pub more : o.more ≡ nothing
  pub store : e.store ≡ (row_lock d.store (tx_of d i) r).store
  pub tx : Laid i (tx_of d i) d e
  pub faults : e.plan ≡ d.plan
  pub third : o.third ≡ num 0

-- "A place": abort's store and transaction; "0 for any other line"
pub record Aborts (i : ℕ) (d e : Desk) (o : Out) : Type 0 where
  pub number : o.number ≡ number_of (abort d.store (tx_of d i)).refusal
  pub more : o.more ≡ nothing
  pub store : e.store ≡ (abort d.store (tx_of d i)).store
  pub tx : Laid i (abort d.store (tx_of d i)).tx d e
  pub faults : e.plan ≡ d.plan
  pub third : o.third ≡ num 0

-- no fault is pending
pub record NoFaults (c : Schedule) : Type 0 where
  pub count : c.count ≡ 0
  pub places : length c.faults ≡ 25
  pub zero : (j : ℕ) → get_or c.faults j no_fault ≡ record { step = 0; letter = 0; k = 0 }

-- "C place u or l, optionally a cut": commit's store and transaction, with the pending faults, which it "uses up whatever it answers";
-- "stores (C, refused or not)"; document 02's wish 4: the cause of a conflict, "on 7 only"
pub record Commits (i : ℕ) (logged : Bool) (cut : Cut) (d e : Desk) (o : Out) : Type 0 where
  pub number : o.number ≡ number_of (commit d.store (tx_of d i) logged d.plan cut).refusal
  pub store : e.store ≡ (commit d.store (tx_of d i) logged d.plan cut).store
  pub tx : Laid i (commit d.store (tx_of d i) logged d.plan cut).tx d e
  pub faults : NoFaults e.plan
  pub third : o.third ≡ num (commit d.store (tx_of d i) logged d.plan cut).stores
  pub more : (c : Cause) (f : Fate) → (commit d.store (tx_of d i) logged d.plan cut).refusal ≡ Conflict c f → o.more ≡ cause c
  pub only_7 : number_of (commit d.store (tx_of d i) logged d.plan cut).refusal ≢ 7 → o.more ≡ nothing

-- a fault more, after those that there are; a full list stays as it is, since it is unfit whatever comes
pub record OneMore (f : Fault) (c more : Schedule) : Type 0 where
  pub count : c.count < 25 → more.count ≡ suc c.count
  pub last : c.count < 25 → get_or more.faults c.count no_fault ≡ f
  pub others : (j : ℕ) → j < c.count → get_or more.faults j no_fault ≡ get_or c.faults j no_fault
  pub full : 25 ≤ c.count → (more ≡ c) × (schedule_fit c ≡ false)
  pub places : length more.faults ≡ length c.faults

-- "F step letter k (for the next C ..)": a fault more, nothing else
pub record Faults (n b k : ℕ) (d e : Desk) (o : Out) : Type 0 where
  pub number : o.number ≡ 0
  pub more : o.more ≡ nothing
  pub third : o.third ≡ num 0
  pub store : e.store ≡ d.store
  pub txs : e.txs ≡ d.txs
  pub faults : (d.plan.count ≤ 25) × (length d.plan.faults ≡ 25) → OneMore (record { step = n; letter = b; k = k }) d.plan e.plan

-- "V recovers": recovery's store; transactions and pending faults as they were
pub record Recovers (d e : Desk) (o : Out) : Type 0 where
  pub number : o.number ≡ number_of (recover d.store).refusal
  pub more : o.more ≡ nothing
  pub third : o.third ≡ num 0
  pub store : e.store ≡ (recover d.store).store
  pub txs : e.txs ≡ d.txs
  pub faults : e.plan ≡ d.plan

-- "A line that isn't one of these forms is answered 2", and changes nothing
pub record Refused (d e : Desk) (o : Out) : Type 0 where
  pub number : o.number ≡ 2
  pub more : o.more ≡ nothing
  pub third : o.third ≡ num 0
  pub desk : e ≡ d

abbrev pub Does : Line → Desk → Desk → Out → Type 0
Does (line_b i) = Begins i
Does (line_r i r) = Reads i r
Does (line_w i r v) = Writes i r v
Does (line_l i k) = LooksUp i k
Does (line_k i r) = Locks i r
Does (line_a i) = Aborts i
Does (line_c i m c) = Commits i m c
Does (line_f n b k) = Faults n b k
Does line_v = Recovers
Does line_bad = Refused

-- the lines one after the other, each from the desk that the one before it left; an answer for each
abbrev pub Plays : Desk → List Line → List Out → Type 0
Plays d [] os = os ≡ []
Plays d (l ∷ ls) os = (e : Desk) × (o : Out) × (rest : List Out) × (os ≡ o ∷ rest) × Does l d e o × Plays e ls rest

-- THE START

-- "It starts from the empty store and zero transactions"
pub record Starts (d : Desk) : Type 0 where
  pub store : EmptyStore false d.store
  pub places : length d.txs ≡ place_limit
  pub zero : (i : ℕ) → OnlyTxid 0 (tx_of d i)
  pub faults : NoFaults d.plan

-- A WHOLE REPLAY: the script's lines, played from the start, and their answers written from line 1 on
pub record Replays (bs text : Bytes) : Type 0 where
  pub desk : Desk
  pub lines : List Line
  pub outs : List Out
  pub starts : Starts desk
  pub script : IsScript lines bs
  pub plays : Plays desk lines outs
  pub prints : length outs < 2 ^ 64 → Outs64 outs → IsOutput 1 outs text
