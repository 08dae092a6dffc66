-- The demands, carried over to what a contract gives.
use Rattle.std.specs.Prelude.{◌≡◌, refl, Bool, true, List, [], ◌∷◌, ◌↔◌, ◌≢◌, ℕ, suc, ◌≤◌, ◌<◌, length, get_or, ltb}
use Rattle.std.proofs.Common.{arith, lt-ltb}
use Rattle.records.specs.Limits.{rows, read_limit, key_end, clock_end, last_minute}
use Rattle.records.specs.Zero.{no_faults}
use Rattle.basic_laws.specs.Cases.{and_both}
use Rattle.rules.specs.Lists.{all}
use Rattle.rules.specs.Types.{Store, Tx, Schedule, Answer, Mended, Reply, Seen, Found, Cut, Uncut}
use Rattle.rules.specs.Transaction.{finals}
use Rattle.rules.specs.Admitted.{repairable, resting}
use Rattle.rules.specs.Numbers.{number_of, is_done}
use Rattle.rules.specs.Calls.{begin, read, lookup}
use Rattle.rules.specs.Answer.{commit}
use Rattle.rules.specs.Recovery.{recover}
use Rattle.statements.specs.Sized.{Sized, Keyed}
use Rattle.statements.specs.Table.{first_row, Answers}
use Rattle.statements.specs.Words.{Conflicts, Committed, Safe, Quiet, row_value, shown, with_new}
use Rattle.statements.specs.ShowWords.{RowsWith, Answered, unread}
use Rattle.statements.specs.NumbersSeen.{commit_rows, done_row}
use Rattle.statements.specs.AbsentWords.{ReadAsAbsent, WritesRow}
use Rattle.demands.specs.Demand1.{demand_1}
use Rattle.demands.specs.Demand2.{demand_2}
use Rattle.demands.specs.Demand3.{demand_3}
use Rattle.demands.specs.Shows.{recovered_shows, committed_shows}
use Rattle.demands.specs.AbsentRows.{second_refused}

-- a list whose places all hold keys
pub all_keys : (l : List ℕ) → ((i : ℕ) → get_or l i 0 < key_end) → all (λ k. ltb k key_end) l ≡ true
all_keys [] h = refl
all_keys (k ∷ l) h = and_both (ltb k key_end) (all (λ k. ltb k key_end) l) (lt-ltb k key_end (h 0)) (all_keys l (λ i. h (suc i)))

-- demand 1, of an answer that is the definition's
pub answers_by_table : (S : Store) (x : Tx) (logged : Bool) (plan : Schedule) (cut : Cut) → Sized S → {a : Answer} → a ≡ commit S x logged plan cut
    → Answers S x a (first_row (commit_rows S x logged plan cut) (done_row S x logged plan))
answers_by_table S x logged plan cut z e =
    rw e (demand_1 S x logged plan cut z).by_first

module _ (S : Store) (x : Tx) (logged : Bool) (z : Sized S) (k : Keyed S) where
  -- demand 2, of an answer that is the definition's
  pub commits_quietly : {plan : Schedule} {a : Answer} → plan ≡ no_faults → a ≡ commit S x logged plan Uncut
      → (a ≡ commit S x logged no_faults Uncut)
      × (Quiet S x logged no_faults → ((number_of a.refusal ≡ 0) ↔ (Conflicts S x → ⊥)) × (is_done a.refusal ≡ true → Committed S x a))
  unfolding no_faults
  commits_quietly p e =
      (rw p at e, λ q. rw (e, p) (demand_2 S x logged no_faults z k q))

  -- what is shown after it
  pub reads_committed : {plan : Schedule} {c : Answer} {b : Reply} → plan ≡ no_faults → c ≡ commit S x logged plan Uncut → b ≡ begin c.store
      → (r : ℕ) {a : Seen} → a ≡ read b.store b.tx r
      → (a ≡ read (begin (commit S x logged no_faults Uncut).store).store (begin (commit S x logged no_faults Uncut).store).tx r)
      × (Quiet S x logged no_faults → S.clock < clock_end → is_done (commit S x logged no_faults Uncut).refusal ≡ true → r < rows
      → (number_of a.refusal ≡ 0) × (a.value ≡ with_new S.key S.has (finals x) (row_value S) r))
  reads_committed p e f r g =
      let same = rw (f, e, p) at g in (
        same,
        λ q early d lt. rw same
            ((committed_shows S x logged no_faults z k q early d).0.reads 0 (begin (commit S x logged no_faults Uncut).store).tx unread (omega arith) r lt),
      )

  -- demand 3, of a recovery of what a commit left
  pub survives : (plan : Schedule) (cut : Cut) {a : Answer} {r : Mended} → a ≡ commit S x logged plan cut → r ≡ recover a.store
      → (r ≡ recover (commit S x logged plan cut).store) × (resting S ≡ true → Safe S x logged plan (commit S x logged plan cut).store)
  survives plan cut e f = (rw e at f, λ rest. demand_3 S x logged plan z k rest cut)

-- what is shown after recovery, of what begin, read and lookup answer there
module _ (S : Store) (z : Sized S) (k : Keyed S) {m : Mended} {b : Reply} (e : m ≡ recover S) (f : b ≡ begin m.store) where
  pub reads_after : (r : ℕ) {a : Seen} → a ≡ read b.store b.tx r
      → (a ≡ read (begin (recover S).store).store (begin (recover S).store).tx r)
      × (repairable S ≡ true → S.clock < clock_end → r < rows → (number_of a.refusal ≡ 0) × (a.value ≡ shown S r))
  reads_after r g =
      let same = rw (f, e) at g in
      (same, λ mends early lt. rw same ((recovered_shows S z k mends early).0.reads 0 (begin (recover S).store).tx unread (omega arith) r lt))

  pub looks_after : (q : ℕ) {a : Found} → a ≡ lookup b.store b.tx q
      → (a ≡ lookup (begin (recover S).store).store (begin (recover S).store).tx q)
      × (repairable S ≡ true → S.clock < clock_end → (found : List ℕ) × RowsWith (shown S) q found
      × (q ≤ last_minute → length found ≤ read_limit → Answered (recover S).store q found a) × ((number_of a.refusal ≡ 24) ↔ (read_limit < length found))
      × ((number_of a.refusal ≡ 31) ↔ (last_minute < q)))
  looks_after q g =
      let same = rw (f, e) at g in
      (same, λ mends early. rw same ((recovered_shows S z k mends early).0.looks q))

-- wish 2, of two answers that are the definition's
pub commits_both : (S : Store) (x y : Tx) (lx ly : Bool) → Sized S → Keyed S → {plan : Schedule} {a b : Answer} → plan ≡ no_faults
    → a ≡ commit S x lx plan Uncut → b ≡ commit a.store y ly plan Uncut
    → (b ≡ commit (commit S x lx no_faults Uncut).store y ly no_faults Uncut)
    × ((r : ℕ) → Quiet S x lx no_faults → Quiet S y ly no_faults → y.txid.0 ≢ x.txid.0 → WritesRow x r → ReadAsAbsent y r
    → number_of (commit S x lx no_faults Uncut).refusal ≡ 0 → number_of b.refusal ≡ 7)
commits_both S x y lx ly z k p e f = (
  rw (f, e, p),
  λ r one other apart w a h. rw (f, e, p) (second_refused S x y r lx ly no_faults no_faults
      (record { sized = z; keyed = k; one = one; other = other; apart = apart }) w a h),
)
