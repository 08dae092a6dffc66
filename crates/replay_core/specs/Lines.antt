-- What each kind of line answers, from what its call answers.
use Rattle.std.specs.Prelude.{◌≡◌, ℕ, Bool, true, false, refl}
use Rattle.std.proofs.Common.{sym, ◌∙◌}
use Rattle.std.proofs.Math.Path.{ap}
use borrow.Author.Tests.{eqb-true}
use Rattle.records.specs.Zero.{no_faults}
use Rattle.rules.specs.Types.{Store, Tx, Schedule, Fault, Value, Cut, Reply, Seen, Written, Found, Mended, Answer}
use Rattle.rules.specs.Numbers.{number_of, is_done, More, more_in}
use Rattle.rules.specs.Calls.{begin, read, write, lookup, row_lock, abort}
use Rattle.rules.specs.Recovery.{recover}
use Rattle.rules.specs.Answer.{commit}
use Rattle.rules.specs.Replay.{line_b, line_r, line_w, line_l, line_k, line_a, line_c, line_f, line_v, line_bad, Third, num, value_third}
use Rattle.rules.specs.Replay.{with_fault, says_of_commit, turn}
use Rattle.script.specs.Print.{tells}
use Rattle.replay_core.specs.Turn.{single, leaves, left}

module _ (S : Store) (x : Tx) (plan : Schedule) where
  module _ {a : Reply} (e : a ≡ begin S) where
    pub begin_refused : is_done a.refusal ≡ false → left S x plan (number_of a.refusal) (num 0) ≡ turn (line_b 0) (single S x plan)
    unfolding turn
    begin_refused some =
        let n : is_done (begin S).refusal ≡ false = sym (ap (λ q. is_done q.refusal) e) ∙ some in
        rw n (λ i. left S x plan (number_of (e i).refusal) (num 0))

    pub begun : is_done a.refusal ≡ true → left a.store a.tx plan (number_of a.refusal) (num a.tx.txid.0) ≡ turn (line_b 0) (single S x plan)
    unfolding turn
    begun none =
        let d : is_done (begin S).refusal ≡ true = sym (ap (λ q. is_done q.refusal) e) ∙ none in
        let zero : number_of a.refusal ≡ 0 = eqb-true (number_of a.refusal) 0 none in
        rw d (λ i. left (e i).store (e i).tx plan (zero i) (num (e i).tx.txid.0))

  module _ (r : ℕ) {a : Seen} (e : a ≡ read S x r) where
    pub read_refused : is_done a.refusal ≡ false → left S a.tx plan (number_of a.refusal) (num 0) ≡ turn (line_r 0 r) (single S x plan)
    unfolding turn
    read_refused some =
        let n : is_done (read S x r).refusal ≡ false = sym (ap (λ q. is_done q.refusal) e) ∙ some in
        rw n (λ i. left S (e i).tx plan (number_of (e i).refusal) (num 0))

    pub read_gave : is_done a.refusal ≡ true → {t : Third} → t ≡ value_third a.value
        → left S a.tx plan (number_of a.refusal) t ≡ turn (line_r 0 r) (single S x plan)
    unfolding turn
    read_gave none {t} v =
        let d : is_done (read S x r).refusal ≡ true = sym (ap (λ q. is_done q.refusal) e) ∙ none in
        let w : t ≡ value_third (read S x r).value = v ∙ ap (λ q. value_third q.value) e in
        rw d (λ i. left S (e i).tx plan (number_of (e i).refusal) (w i))

-- the calls whose number is answered as it is
module _ (S : Store) (x : Tx) (plan : Schedule) where
  pub wrote : (r : ℕ) (v : Value) {a : Written} → a ≡ write S x r v
      → left a.store a.tx plan (number_of a.refusal) (num a.slot.0) ≡ turn (line_w 0 r v) (single S x plan)
  unfolding turn
  wrote r v e = λ i. left (e i).store (e i).tx plan (number_of (e i).refusal) (num (e i).slot.0)

  pub looked_up_law : (k : ℕ) {a : Found} → a ≡ lookup S x k → left S a.tx plan (number_of a.refusal) (num a.count) ≡ turn (line_l 0 k) (single S x plan)
  unfolding turn
  looked_up_law k e = λ i. left S (e i).tx plan (number_of (e i).refusal) (num (e i).count)

  pub locked : (r : ℕ) {a : Reply} → a ≡ row_lock S x r → left a.store a.tx plan (number_of a.refusal) (num 0) ≡ turn (line_k 0 r) (single S x plan)
  unfolding turn
  locked r e = λ i. left (e i).store (e i).tx plan (number_of (e i).refusal) (num 0)

  pub aborted : {a : Reply} → a ≡ abort S x → left a.store a.tx plan (number_of a.refusal) (num 0) ≡ turn (line_a 0) (single S x plan)
  unfolding turn
  aborted e = λ i. left (e i).store (e i).tx plan (number_of (e i).refusal) (num 0)

  pub committed : (logged : Bool) (cut : Cut) {a : Answer} {none : Schedule} {m : More} → a ≡ commit S x logged plan cut → m ≡ more_in a.refusal
      → none ≡ no_faults → leaves a.store a.tx none (tells (number_of a.refusal) (num a.stores) m) ≡ turn (line_c 0 logged cut) (single S x plan)
  unfolding turn
  committed logged cut {a} e more z =
      (λ i. leaves a.store a.tx (z i) (tells (number_of a.refusal) (num a.stores) (more i)))
      ∙ (λ i. leaves (e i).store (e i).tx no_faults (says_of_commit (e i).refusal (e i).stores))

  pub recovered : {a : Mended} → a ≡ recover S → left a.store x plan (number_of a.refusal) (num 0) ≡ turn line_v (single S x plan)
  unfolding turn
  recovered e = λ i. left (e i).store x plan (number_of (e i).refusal) (num 0)

pub faulted : (S : Store) (x : Tx) (plan : Schedule) (f : Fault) {more : Schedule} → more ≡ with_fault f plan
    → left S x more 0 (num 0) ≡ turn (line_f f.step f.letter f.k) (single S x plan)
unfolding turn
faulted S x plan f e = λ i. left S x (e i) 0 (num 0)

pub refused : (S : Store) (x : Tx) (plan : Schedule) → left S x plan 2 (num 0) ≡ turn line_bad (single S x plan)
unfolding turn
refused S x plan = refl
