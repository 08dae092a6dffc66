-- Document 02's wish 4, "Tell us which test refused", in words: which entry of which test conflicts, which is the first, and what a 7 tells.
use Rattle.std.specs.Prelude.{◌≡◌, Bool, true, false, ◌≢◌, ◌⊎◌, ◌↔◌, ℕ, suc, ◌<◌, length, get_or}
use Rattle.records.specs.Zero.{no_write, no_read, no_index_read}
use Rattle.rules.specs.Types.{Store, Tx, Schedule, Cut, Uncut, Fate, Refusal, Cause, Conflict}
use Rattle.rules.specs.Transaction.{writes_of, reads_of, index_reads_of}
use Rattle.rules.specs.Faults.{B, P}
use Rattle.rules.specs.Numbers.{number_of, test_named, place_named}
use Rattle.rules.specs.Commit.{strikes, fails}
use Rattle.rules.specs.Answer.{commit}
use Rattle.statements.specs.Words.{Admitted, Quiet, LockedByAnother, Stale}
use Rattle.statements.specs.StepWords.{FinalAt}

-- ENTRIES

module _ (S : Store) (x : Tx) where
  -- "for 11, a set index_conflict is place 0 and the index reads follow from 1": it is set, or the recorded stamp differs
  abbrev pub IndexRead : ℕ → Type 0
  IndexRead p =
      ((p ≡ 0) × (x.index_conflict ≡ true))
      ⊎ ((i : ℕ) × (p ≡ suc i) × (i < length (index_reads_of x))
      × (let e = get_or (index_reads_of x) i no_index_read in get_or S.stamps e.stripe 0 ≢ e.stamp.0))

  -- "for 12 and 14 the place in the write list": the row's head has a live lock of another
  abbrev pub RowLock : ℕ → Type 0
  RowLock p =
      (p < length (writes_of x)) × LockedByAnother S x.txid.0 (get_or S.heads (get_or (writes_of x) p no_write).row.0 0)

  -- "for 13 in the read list, from 0": the read is stale
  abbrev pub Serialization : ℕ → Type 0
  Serialization p = (p < length (reads_of x)) × Stale S x (get_or (reads_of x) p no_read)

  -- 14: the write is final, no later write of the whole list is of its row, and its base is not the head
  abbrev pub WriteBase : ℕ → Type 0
  WriteBase p = FinalAt (writes_of x) p × (let w = get_or (writes_of x) p no_write in get_or S.heads w.row.0 0 ≢ w.base.0)

  -- the entry at place p of test t conflicts
  abbrev pub ConflictsAt : ℕ → ℕ → Type 0
  ConflictsAt t p =
      ((t ≡ 11) × IndexRead p) ⊎ (((t ≡ 12) × RowLock p) ⊎ (((t ≡ 13) × Serialization p) ⊎ ((t ≡ 14) × WriteBase p)))

  -- "the place of the first entry that conflicts", of the first test that says yes: the tests before it say no, no earlier entry of it conflicts
  pub record First (t p : ℕ) : Type 0 where
    pub conflicts : ConflictsAt t p
    pub before : (u q : ℕ) → u < t → ConflictsAt u q → ⊥
    pub earlier : (q : ℕ) → q < p → ConflictsAt t q → ⊥

-- WHAT A REFUSAL TELLS

-- "busy guard, or which of tests 11 to 14 and at which place": a 7 tells test t and place p, "0 and 0 for a busy guard"
abbrev pub Tells : Refusal → ℕ → ℕ → Type 0
Tells why t p = (c : Cause) × (f : Fate) × (why ≡ Conflict c f) × (test_named c ≡ t) × (place_named c ≡ p)

module _ (S : Store) (x : Tx) (logged : Bool) (plan : Schedule) where
  -- B strikes where guards are taken
  abbrev pub Busy : Type 0
  Busy = (strikes S x logged plan 7 B ≡ true) ⊎ (strikes S x logged plan 8 B ≡ true)

  -- no step before 7 ends the run
  pub record Opened : Type 0 where
    pub changes : fails S x logged plan 3 ≡ false
    pub keys : fails S x logged plan 4 ≡ false
    pub prepared : logged ≡ true → fails S x logged plan 5 ≡ false
    pub payload : logged ≡ true → (fails S x logged plan 6 ≡ false) × (strikes S x logged plan 6 P ≡ false)

  -- it strikes first: no step before 7 ends the run, and where it strikes at 8, 7 doesn't fail
  abbrev pub BusyFirst : Type 0
  BusyFirst = Opened × ((strikes S x logged plan 7 B ≡ true) ⊎ ((fails S x logged plan 7 ≡ false) × (strikes S x logged plan 8 B ≡ true)))

-- whatever arrives, a 7 tells the busy guard exactly where B strikes, and else the first entry that conflicts, and nothing but that entry. This holds of
-- a 7 whose abort failed too: its number is 7
abbrev pub SevenTells : Type 0
SevenTells = (S : Store) (x : Tx) (logged : Bool) (plan : Schedule) (cut : Cut) → let why = (commit S x logged plan cut).refusal in
    number_of why ≡ 7
    → (Tells why 0 0 ↔ Busy S x logged plan)
    × ((t p : ℕ) → t ≢ 0 → Tells why t p ↔ ((Busy S x logged plan → ⊥) × First S x t p))

-- only a 7 tells
abbrev pub OnlySevenTells : Type 0
OnlySevenTells = (S : Store) (x : Tx) (logged : Bool) (plan : Schedule) (cut : Cut) (t p : ℕ)
    → let why = (commit S x logged plan cut).refusal in Tells why t p → number_of why ≡ 7

-- an admitted commit that isn't cut tells a busy guard exactly where B strikes first
abbrev pub BusyTold : Type 0
BusyTold = (S : Store) (x : Tx) (logged : Bool) (plan : Schedule) → Admitted S x plan
    → Tells (commit S x logged plan Uncut).refusal 0 0 ↔ BusyFirst S x logged plan

-- demand 2's commit tells test t and place p exactly where "the tests before t say no, entry p conflicts and no earlier entry does"
abbrev pub TestTold : Type 0
TestTold = (S : Store) (x : Tx) (logged : Bool) (plan : Schedule) → Quiet S x logged plan → (t p : ℕ)
    → Tells (commit S x logged plan Uncut).refusal t p ↔ First S x t p
