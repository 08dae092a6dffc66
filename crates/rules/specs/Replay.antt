-- "Replay": the lines, already taken apart, and what each answers.
use Rattle.std.specs.Prelude.{Bool, cond, List, [], ◌∷◌, ◌++◌, ℕ, suc, get_or, set, replicate, ltb}
use Rattle.records.specs.Limits.{place_limit, fault_limit}
use Rattle.rules.specs.Lists.{pad}
use Rattle.rules.specs.Types.{Store, Tx, Fault, Schedule, Value, Absent, Key, Cut, Refusal}
use Rattle.records.specs.Zero.{fresh, zero_tx, no_fault, no_faults}
use Rattle.rules.specs.Faults.{faults_of}
use Rattle.rules.specs.Numbers.{number_of, More, nothing, more_in, is_done}
use Rattle.rules.specs.Calls.{begin, read, write, lookup, row_lock, abort}
use Rattle.rules.specs.Recovery.{recover}
use Rattle.rules.specs.Answer.{commit}

-- "B place; R place row; W place row key or -; L place key; K place row; A place; C place u or l, optionally a cut; F step letter k; V recovers"
pub data Line : Type 0 where
  line_b : ℕ → Line
  line_r : ℕ → ℕ → Line
  line_w : ℕ → ℕ → Value → Line
  line_l : ℕ → ℕ → Line
  line_k : ℕ → ℕ → Line
  line_a : ℕ → Line
  line_c : ℕ → Bool → Cut → Line
  line_f : ℕ → ℕ → ℕ → Line
  line_v : Line
  line_bad : Line

-- the third field: a number, or - for a read without a key
pub data Third : Type 0 where
  num : ℕ → Third
  dash : Third

-- document 02's wish 4: "the test as a fourth field and the place as a fifth, on 7 only"
pub record Out : Type 0 where
  pub number : ℕ
  pub third : Third
  pub more : More

-- the store, the transactions of the places, the pending faults
pub record Desk : Type 0 where
  pub store : Store
  pub txs : List Tx
  pub plan : Schedule

pub record Turn : Type 0 where
  pub desk : Desk
  pub out : Out

abbrev pub desk_of : Store → Desk
desk_of S = record { store = S; txs = replicate place_limit zero_tx; plan = no_faults }

-- "It starts from the empty store and zero transactions"
unfoldable pub start : Desk
start = desk_of fresh

abbrev pub value_third : Value → Third
value_third Absent = dash
value_third (Key k) = num k

abbrev pub tx_at : Desk → ℕ → Tx
tx_at d i = get_or d.txs i zero_tx

abbrev pub laid : Desk → Store → ℕ → Tx → Desk
laid d S i x = record { store = S; txs = set d.txs i x; plan = d.plan }

-- one fault more for the next C; one beyond the array makes no difference, since a full one is unfit
unfoldable pub with_fault : Fault → Schedule → Schedule
with_fault f c =
    cond (ltb c.count fault_limit) (record { faults = pad fault_limit no_fault (faults_of c ++ f ∷ []); count = suc c.count }) c

abbrev pub says : ℕ → Third → Out
says n t = record { number = n; third = t; more = nothing }

abbrev pub says_of_commit : Refusal → ℕ → Out
says_of_commit why stores = record { number = number_of why; third = num stores; more = more_in why }

-- "Output: .. number, then txid (B), key or - (R), slot (W), row count (L), stores (C, refused or not); 0 for any other line or refusal";
-- "a refused B keeps its place's transaction"; "the next C, which judges it and uses it up whatever it answers"
unfoldable pub turn : Line → Desk → Turn
turn (line_b i) d =
    let a = begin d.store in
    cond (is_done a.refusal)
    (record { desk = laid d a.store i a.tx; out = says 0 (num a.tx.txid.0) })
    (record { desk = d; out = says (number_of a.refusal) (num 0) })
turn (line_r i r) d =
    let a = read d.store (tx_at d i) r in
    record { desk = laid d d.store i a.tx; out = says (number_of a.refusal) (cond (is_done a.refusal) (value_third a.value) (num 0)) }
turn (line_w i r v) d =
    let a = write d.store (tx_at d i) r v in
    record { desk = laid d a.store i a.tx; out = says (number_of a.refusal) (num a.slot.0) }
turn (line_l i k) d =
    let a = lookup d.store (tx_at d i) k in
    record { desk = laid d d.store i a.tx; out = says (number_of a.refusal) (num a.count) }
turn (line_k i r) d =
    let a = row_lock d.store (tx_at d i) r in
    record { desk = laid d a.store i a.tx; out = says (number_of a.refusal) (num 0) }
turn (line_a i) d =
    let a = abort d.store (tx_at d i) in
    record { desk = laid d a.store i a.tx; out = says (number_of a.refusal) (num 0) }
turn (line_c i logged cut) d =
    let a = commit d.store (tx_at d i) logged d.plan cut in
    record { desk = record { store = a.store; txs = set d.txs i a.tx; plan = no_faults }; out = says_of_commit a.refusal a.stores }
turn (line_f n c k) d =
    record { desk = record { store = d.store; txs = d.txs; plan = with_fault (record { step = n; letter = c; k = k }) d.plan }; out = says 0 (num 0) }
turn line_v d =
    let a = recover d.store in
    record { desk = record { store = a.store; txs = d.txs; plan = d.plan }; out = says (number_of a.refusal) (num 0) }
turn line_bad d = record { desk = d; out = says 2 (num 0) }

abbrev pub replay_from : Desk → List Line → List Out
replay_from d [] = []
replay_from d (l ∷ ls) = let t = turn l d in t.out ∷ replay_from t.desk ls

unfoldable pub replay : List Line → List Out
replay ls = replay_from start ls
