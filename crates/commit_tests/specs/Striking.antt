-- The faults of a schedule as a table by step: of each step the fault that strikes there.
use Rattle.std.specs.Prelude.{◌≡◌, cond, ℕ, ◌<◌, ◌≤◌, ◌+◌, ◌-◌, length, drop, set, replicate, eqb, ltb}
use Rattle.std.proofs.Math.Path.{refl, sym}
use Rattle.std.proofs.Common.{ap, ◌∙◌, arith, drop-cons, add-one}
use mathlib.Core.List.{List, [], ◌∷◌}
use Rattle.std.proofs.Math.ListN.{get_or, length-set, length-replicate, get_or-replicate, get_or-eq_default}
use Rattle.std.proofs.Math.Seq.{get_or-set_same, get_or-set_other, set_out}
use borrow.Author.Tests.{eqb-true, eqb-false, ltb-true, ltb-false}
use Rattle.records.specs.Limits.{fault_limit}
use Rattle.records.specs.Zero.{no_fault}
use Rattle.rules.specs.Types.{Fault, Schedule}
use Rattle.basic_laws.specs.Cases.{by}
use Rattle.rules.specs.Faults.{fault_at, faults_of}
use Rattle.commit_tests.specs.declared.faults.Letters.{Letters}

-- the table of a list of faults; the first fault of a step stands
unfoldable pub table_of : List Fault → List Fault
table_of [] = replicate fault_limit no_fault
table_of (f ∷ fs) = set (table_of fs) f.step f

table_length : (l : List Fault) → length (table_of l) ≡ fault_limit
unfolding table_of
table_length [] = length-replicate {A = Fault} fault_limit no_fault
table_length (f ∷ fs) = length-set (table_of fs) f.step f ∙ table_length fs

pub table_none : replicate fault_limit no_fault ≡ table_of []
unfolding table_of
table_none = refl

-- one fault more: it is put in, if its step is one
module _ (f : Fault) (at : List Fault) (l fs : List Fault) (next : l ≡ f ∷ fs) (are : at ≡ table_of fs) where
  pub table_in : set at f.step f ≡ table_of l
  unfolding table_of
  table_in = rw (next, are)

  pub table_out : fault_limit ≤ f.step → at ≡ table_of l
  unfolding table_of
  table_out h = let long = table_length fs in rw (next, set_out (table_of fs) f.step f (omega arith)) are

-- going back, the fault before a place and those from there on
pub fault_next : (l : List Fault) (i : ℕ) → 0 < i → i ≤ length l → drop (i - 1) l ≡ get_or l (i - 1) no_fault ∷ drop i l
fault_next l i h k =
    let e : i - 1 + 1 ≡ i = omega arith in
    let b : drop (i - 1) l ≡ get_or l (i - 1) no_fault ∷ drop (i - 1 + 1) l = rw (drop-cons l (i - 1) no_fault (omega arith), add-one) in
    rw e at b

-- the entry of a step; past the table it is no fault
abbrev pub entry_at : List Fault → ℕ → Fault
entry_at l n = cond (ltb n fault_limit) (fault_at n l) no_fault

within : (l : List Fault) (n : ℕ) → n < fault_limit → get_or (table_of l) n no_fault ≡ fault_at n l
unfolding table_of
within [] n h = get_or-replicate {A = Fault} fault_limit n no_fault no_fault h
within (f ∷ fs) n h =
    by (eqb f.step n)
    (λ e.
    let long = table_length fs in
    rw e (ap (λ (k : ℕ). get_or (set (table_of fs) k f) n no_fault) (eqb-true f.step n e) ∙ get_or-set_same (table_of fs) n f no_fault (omega arith)))
    (λ e. rw (e, get_or-set_other (table_of fs) f.step n f no_fault (λ q. eqb-false f.step n e (sym q))) (within fs n h))

-- the table's entry at any number
pub entry_at_law : (l : List Fault) (n : ℕ) → get_or (table_of l) n no_fault ≡ entry_at l n
entry_at_law l n =
    let long = table_length l in
    by (ltb n fault_limit)
    (λ e. rw (e, within l n (ltb-true n fault_limit e)))
    (λ e. rw (e, get_or-eq_default (table_of l) no_fault {n = n} (omega (arith, ltb-false))))

unfoldable pub letters : Schedule → Letters
letters plan = record { at = table_of (faults_of plan) }

pub letters_are : (plan : Schedule) {at : List Fault} → at ≡ table_of (faults_of plan) → ◌≡◌ {A = Letters} (record { at = at }) (letters plan)
unfolding letters
letters_are plan a = λ i. record { at = a i }

-- the letter that a table has at a step, and its k
abbrev pub letter_in : Letters → ℕ → ℕ
letter_in l n = (get_or l.at n no_fault).letter

abbrev pub count_in : Letters → ℕ → ℕ
count_in l n = (get_or l.at n no_fault).k

-- the letter that strikes at a step of the table, as the faults have it, and its k
unfoldable pub letter_at : List Fault → ℕ → ℕ
letter_at l n = (entry_at l n).letter

unfoldable pub count_at : List Fault → ℕ → ℕ
count_at l n = (entry_at l n).k

-- the table of a schedule says which letter strikes at each step, and with which k
module _ (plan : Schedule) (l : Letters) (is : l ≡ letters plan) where
  entries : (n : ℕ) → get_or l.at n no_fault ≡ entry_at (faults_of plan) n
  unfolding letters
  entries n = ap (λ (m : Letters). get_or m.at n no_fault) is ∙ entry_at_law (faults_of plan) n

  pub letters_say : ◌≡◌ {A = ℕ → ℕ} (letter_in l) (letter_at (faults_of plan))
  unfolding letter_at
  letters_say = λ i n. (entries n i).letter

  pub counts_say : ◌≡◌ {A = ℕ → ℕ} (count_in l) (count_at (faults_of plan))
  unfolding count_at
  counts_say = λ i n. (entries n i).k
