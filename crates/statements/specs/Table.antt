-- A table of numbers, as "Numbers seen" is one: the first row that applies says what is answered.
use Rattle.std.specs.Prelude.{◌≡◌, Bool, true, false, cond, List, [], ◌∷◌, ◌++◌, ◌↔◌, ◌⊎◌, ℕ, ◌≤◌, length}
use Rattle.records.specs.Limits.{write_limit}
use Rattle.rules.specs.Types.{Store, Tx, Record, Refusal, Events, Answer}
use Rattle.rules.specs.Transaction.{finals}
use Rattle.rules.specs.Numbers.{number_of}
use Rattle.rules.specs.Puts.{Put, apply_all}
use Rattle.statements.specs.CallWords.{ZeroRecord, Names}

-- none of these tests holds
abbrev pub None : List Bool → Type 0
None [] = Unit {0}
None (b ∷ bs) = (b ≡ false) × None bs

-- first these stores, then those
infixr 4 ◌⨾◌
abbrev pub ◌⨾◌ : List Put → List Put → List Put
ps ⨾ qs = ps ++ qs

-- the columns "No.", "When" and "Afterwards", the refusal with its fate inside; between them all the stores that are made, in their order, the
-- guards taken and let go among them; at the end the events
pub record Row : Type 0 where
  pub number : ℕ
  pub when : Bool
  pub says : Refusal
  pub makes : List Put
  pub store : Store
  pub tx : Tx
  pub events : Events

abbrev pub row : ℕ → Bool → Refusal → List Put → Store → Tx → Events → Row
row n b why ps T y e = record { number = n; when = b; says = why; makes = ps; store = T; tx = y; events = e }

-- the first row that applies, d if none does
abbrev pub first_row : List Row → Row → Row
first_row [] d = d
first_row (r ∷ rs) d = cond r.when r (first_row rs d)

-- why a number is given: a row of that number applies and none before it does; d's number where none applies at all
abbrev pub Reason : ℕ → List Bool → List Row → Row → Type 0
Reason n before [] d = (n ≡ d.number) × None before
Reason n before (r ∷ rs) d = ((n ≡ r.number) × None before × (r.when ≡ true)) ⊎ Reason n (before ++ r.when ∷ []) rs d

-- "The record is zero unless 0": then it names the transaction and its final writes (a fit transaction has no more of them than there are places)
pub record Recorded (n : ℕ) (x : Tx) (r : Record) : Type 0 where
  pub committed : n ≡ 0 → length (finals x) ≤ write_limit → Names x.txid.0 (finals x) r
  pub refused : (n ≡ 0 → ⊥) → ZeroRecord r

-- an answer is what a row says: its refusal, fate inside; "The record is zero unless 0"; store and transaction; the store is the one at entry, S, with
-- the row's stores made one after the other, so no guard, stamp or posting is otherwise than they leave it; their number; the events
pub record Answers (S : Store) (x : Tx) (a : Answer) (w : Row) : Type 0 where
  pub refusal : a.refusal ≡ w.says
  pub «record» : Recorded (number_of w.says) x a.«record»
  pub store : a.store ≡ w.store
  pub made : a.store ≡ apply_all w.makes S
  pub stores : a.stores ≡ length w.makes
  pub tx : a.tx ≡ w.tx
  pub events : a.events ≡ w.events

-- the same without what the stores add up to, and without the record: this much is read off the steps one by one
pub record Says (S : Store) (a : Answer) (w : Row) : Type 0 where
  pub refusal : a.refusal ≡ w.says
  pub made : a.store ≡ apply_all w.makes S
  pub stores : a.stores ≡ length w.makes
  pub tx : a.tx ≡ w.tx
  pub events : a.events ≡ w.events

-- a line of a shorter table, whose refusals change nothing: the number, the refusal with its fate inside, and when it applies
pub record Line : Type 0 where
  pub number : ℕ
  pub says : Refusal
  pub when : Bool

abbrev pub line : ℕ → Refusal → Bool → Line
line n why b = record { number = n; says = why; when = b }

-- an answer is as the lines say: a line's number is given exactly where the line applies and none before it does, and then it is the line's
-- refusal with its fate; 0 is given exactly where none applies
abbrev pub Told : Refusal → List Bool → List Line → Type 0
Told why before [] = (number_of why ≡ 0) ↔ None before
Told why before (l ∷ ls) =
    ((number_of why ≡ l.number) ↔ (None before × (l.when ≡ true)))
    × (number_of why ≡ l.number → why ≡ l.says)
    × Told why (before ++ l.when ∷ []) ls
