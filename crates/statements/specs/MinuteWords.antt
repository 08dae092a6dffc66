-- Document 02, wish 7, "Refuse impossible minutes", in words: "Our key is a minute of the year, so 527,039 is the last in a leap year."
use Rattle.std.specs.Prelude.{◌≡◌, Bool, true, false, ◌↔◌, ◌≢◌, ℕ, ◌≤◌, ◌<◌, get_or}
use Rattle.records.specs.Limits.{rows, write_limit, last_minute}
use Rattle.rules.specs.Lists.{memb}
use Rattle.rules.specs.Types.{Store, Tx, Schedule, Cut, Value}
use Rattle.rules.specs.Store.{key_of, postings_of, active_txids}
use Rattle.rules.specs.Admitted.{repairable, resting}
use Rattle.rules.specs.Fit.{fit}
use Rattle.rules.specs.Numbers.{number_of}
use Rattle.rules.specs.Calls.{begin, read, write, lookup, row_lock, abort}
use Rattle.rules.specs.Recovery.{recover}
use Rattle.rules.specs.Answer.{commit}
use Rattle.statements.specs.Sized.{Sized, SizedTx}
use Rattle.statements.specs.StoreWords.{stored_key}

-- slot p is used and holds a key over the last minute
pub record Impossible (S : Store) (p : ℕ) : Type 0 where
  pub used : get_or S.xmin p 0 ≢ 0
  pub key : get_or S.has p false ≡ true
  pub over : last_minute < get_or S.key p 0

-- no slot does
abbrev pub Possible : Store → Type 0
Possible S = (p : ℕ) → Impossible S p → ⊥

-- "A write of a larger key is refused with 31, after 25 and before the search for a slot. Lookup of such a key gets the same number, after 9": where
-- nothing that is asked earlier refuses, exactly then
pub record RefusedThen (S : Store) (x : Tx) : Type 0 where
  pub writes : (r : ℕ) → r < rows → x.write_count < write_limit → (v : Value) → (number_of (write S x r v).refusal ≡ 31) ↔ (last_minute < stored_key v)
  pub looks : (k : ℕ) → (number_of (lookup S x k).refusal ≡ 31) ↔ (last_minute < k)

abbrev pub RefusedExactly : Type 0
RefusedExactly = (S : Store) (x : Tx) → resting S ≡ true → fit S x ≡ true → memb x.txid.0 (active_txids S.active) ≡ true → S.poisoned ≡ false
    → RefusedThen S x

-- "A store holding one in any used slot is not repairable, so it is 1 or 20": 1 from every call, 20 from recovery, whatever else they are given
pub record NotTaken (S : Store) : Type 0 where
  pub unrepairable : repairable S ≡ false
  pub begins : number_of (begin S).refusal ≡ 1
  pub reads : (x : Tx) (r : ℕ) → number_of (read S x r).refusal ≡ 1
  pub writes : (x : Tx) (r : ℕ) (v : Value) → number_of (write S x r v).refusal ≡ 1
  pub looks : (x : Tx) (k : ℕ) → number_of (lookup S x k).refusal ≡ 1
  pub locks : (x : Tx) (r : ℕ) → number_of (row_lock S x r).refusal ≡ 1
  pub aborts : (x : Tx) → number_of (abort S x).refusal ≡ 1
  pub commits : (x : Tx) (logged : Bool) (plan : Schedule) (cut : Cut) → number_of (commit S x logged plan cut).refusal ≡ 1
  pub recovers : number_of (recover S).refusal ≡ 20

abbrev pub HoldingRefused : Type 0
HoldingRefused = (S : Store) (p : ℕ) → Sized S → Impossible S p → NotTaken S

-- no call, whatever it is given and answers, and no commit, cut after any of its stores, brings such a key into a store that has none
pub record StaysPossible (S : Store) (x : Tx) : Type 0 where
  pub begins : Possible (begin S).store
  pub writes : (r : ℕ) (v : Value) → Possible (write S x r v).store
  pub locks : (r : ℕ) → Possible (row_lock S x r).store
  pub aborts : Possible (abort S x).store
  pub commits : (logged : Bool) (plan : Schedule) (cut : Cut) → Possible (commit S x logged plan cut).store
  pub recovers : Possible (recover S).store

abbrev pub NoneBrought : Type 0
NoneBrought = (S : Store) (x : Tx) → Sized S → SizedTx x → Possible S → StaysPossible S x

-- so a slip at the keyboard becomes no posting: an unpoisoned store at rest has none of such a key
abbrev pub NonePosted : Type 0
NonePosted = (S : Store) → Sized S → resting S ≡ true → S.poisoned ≡ false → (c : ℕ) → memb c (postings_of S) ≡ true → key_of c ≤ last_minute
