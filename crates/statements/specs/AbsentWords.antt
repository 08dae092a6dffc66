-- Document 02, wish 2, "Forecasters read a row that isn't there", in words: "Two of us each checked that minute 512 had no slack, and both added one."
use Rattle.std.specs.Prelude.{◌≡◌, Bool, true, false, List, [], ◌∷◌, ◌++◌, ◌≢◌, ℕ, ◌%◌, ◌<◌, get_or}
use Rattle.records.specs.Limits.{rows, partitions}
use Rattle.rules.specs.Lists.{any}
use Rattle.rules.specs.Types.{Store, Tx, Schedule, Cut, Uncut, Value}
use Rattle.rules.specs.Admitted.{resting}
use Rattle.rules.specs.Numbers.{number_of}
use Rattle.rules.specs.Calls.{begin, read, write, lookup, row_lock, abort}
use Rattle.rules.specs.Recovery.{recover}
use Rattle.rules.specs.Answer.{commit}
use Rattle.statements.specs.Sized.{Sized, Keyed}
use Rattle.statements.specs.ReadWords.{VisibleAt, NoneIn, its_writes, its_reads, of_row, of_absent, read_of}
use Rattle.statements.specs.StepWords.{GuardedPartition}
use Rattle.statements.specs.Words.{Quiet, row_value, before}

-- WHAT IS RECORDED

-- row r is absent for x: no own write, and no version of its chain c has a visible creator, whether it has a head or not
pub record AbsentRow (S : Store) (x : Tx) (r : ℕ) (c : List ℕ) : Type 0 where
  pub unwritten : any (of_row r) (its_writes x) ≡ false
  pub unseen : NoneIn (VisibleAt S x) c

-- x has the read of row r as absent among its reads
abbrev pub ReadAsAbsent : Tx → ℕ → Type 0
ReadAsAbsent x r = any (of_absent r) (its_reads x) ≡ true

-- "such a read is recorded with pointer 0 and xmin 0, once per row": x becomes y
pub record RecordsAbsent (x : Tx) (r : ℕ) (y : Tx) : Type 0 where
  pub first : any (of_absent r) (its_reads x) ≡ false → its_reads y ≡ its_reads x ++ read_of r 0 0 ∷ []
  pub again : ReadAsAbsent x r → its_reads y ≡ its_reads x
  pub recorded : ReadAsAbsent y r

-- and stays recorded to the transaction's end, whatever its further calls are given and answer
pub record ReadStays (S : Store) (x : Tx) (r : ℕ) : Type 0 where
  pub reads : (q : ℕ) → ReadAsAbsent (read S x q).tx r
  pub writes : (q : ℕ) (v : Value) → ReadAsAbsent (write S x q v).tx r
  pub looks : (k : ℕ) → ReadAsAbsent (lookup S x k).tx r
  pub locks : (q : ℕ) → ReadAsAbsent (row_lock S x q).tx r

abbrev pub ReadsStay : Type 0
ReadsStay = (S : Store) (x : Tx) (r : ℕ) → ReadAsAbsent x r → ReadStays S x r

-- its row's partition is guarded as any read row's
abbrev pub AbsentGuarded : Type 0
AbsentGuarded = (x : Tx) (r : ℕ) → ReadAsAbsent x r → GuardedPartition x (r % partitions)

-- WHAT IT REFUSES

abbrev pub WritesRow : Tx → ℕ → Type 0
WritesRow x r = any (of_row r) (its_writes x) ≡ true

abbrev pub HasHead : Store → ℕ → Type 0
HasHead S r = get_or S.heads r 0 ≢ 0

-- "test 13 says yes when that row's head is no longer 0": such a commit never answers 0, in any store, whatever is scheduled and wherever it is cut
abbrev pub NeverDone : Type 0
NeverDone = (S : Store) (x : Tx) (r : ℕ) → ReadAsAbsent x r → HasHead S r → (logged : Bool) (plan : Schedule) (cut : Cut)
    → number_of (commit S x logged plan cut).refusal ≢ 0

-- and nothing of it shows: after it and recovery every row has the value that recovery alone would have shown
abbrev pub NothingShown : Type 0
NothingShown = (S : Store) (x : Tx) (r : ℕ) → Sized S → Keyed S → resting S ≡ true → ReadAsAbsent x r → HasHead S r
    → (logged : Bool) (plan : Schedule) (cut : Cut) (q : ℕ) → q < rows → row_value (recover (commit S x logged plan cut).store).store q ≡ before S q

-- where nothing else is in its way it is answered 7
abbrev pub AnsweredSeven : Type 0
AnsweredSeven = (S : Store) (x : Tx) (r : ℕ) (logged : Bool) (plan : Schedule) → Quiet S x logged plan → ReadAsAbsent x r → HasHead S r
    → number_of (commit S x logged plan Uncut).refusal ≡ 7

-- TWO FORECASTERS

-- both may commit on S, and they are two
pub record TwoOpen (S : Store) (x y : Tx) (lx ly : Bool) (px py : Schedule) : Type 0 where
  pub sized : Sized S
  pub keyed : Keyed S
  pub one : Quiet S x lx px
  pub other : Quiet S y ly py
  pub apart : y.txid.0 ≢ x.txid.0

-- x commits, and then y is answered 7
abbrev pub Beats : Store → Tx → Tx → Bool → Bool → Schedule → Schedule → Type 0
Beats S x y lx ly px py =
    let a = commit S x lx px Uncut in number_of a.refusal ≡ 0 → number_of (commit a.store y ly py Uncut).refusal ≡ 7

-- one has read as absent the row that the other writes, whatever it writes itself
abbrev pub SecondRefused : Type 0
SecondRefused = (S : Store) (x y : Tx) (r : ℕ) (lx ly : Bool) (px py : Schedule) → TwoOpen S x y lx ly px py → WritesRow x r → ReadAsAbsent y r
    → Beats S x y lx ly px py

-- "each checked .., and both added one": both read row r as absent and both write it; whichever commits second is answered 7
abbrev pub BothAdded : Type 0
BothAdded = (S : Store) (x y : Tx) (r : ℕ) (lx ly : Bool) (px py : Schedule) → TwoOpen S x y lx ly px py
    → ReadAsAbsent x r → ReadAsAbsent y r → WritesRow x r → WritesRow y r
    → Beats S x y lx ly px py × Beats S y x ly lx py px

-- other calls may come between them: a head stays, whatever begin, write, row lock, abort and commit are given and wherever a commit is cut
pub record HeadStays (S : Store) (r : ℕ) (x : Tx) : Type 0 where
  pub begins : HasHead (begin S).store r
  pub writes : (q : ℕ) (v : Value) → HasHead (write S x q v).store r
  pub locks : (q : ℕ) → HasHead (row_lock S x q).store r
  pub aborts : HasHead (abort S x).store r
  pub commits : (logged : Bool) (plan : Schedule) (cut : Cut) → HasHead (commit S x logged plan cut).store r

abbrev pub HeadsStay : Type 0
HeadsStay = (S : Store) (r : ℕ) (x : Tx) → Sized S → HasHead S r → HeadStays S r x
