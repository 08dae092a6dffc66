-- "Numbers seen" for a commit, as one table in upstream's order: when each number is answered, with which fate, which stores are made, in their
-- order, what store and transaction are afterwards, and which events are told. A row applies where none before it does. A 7 names the busy guard, or
-- the test and the place of its first entry that conflicts (document 02's wish 4, in words in `CauseWords`), whether its abort failed or not.
use Rattle.std.specs.Prelude.{◌≡◌, ◌≢◌, Bool, true, false, not, cond, ◌&&◌, ◌||◌, List, [], ◌∷◌, ◌++◌, map, reverse, ℕ, length, get_or, take, drop, ltb, leb}
use Rattle.records.specs.Zero.{only_txid, zero_tx}
use Rattle.rules.specs.Lists.{memb}
use Rattle.rules.specs.Types.{Store, Tx, Schedule, Events, Cut, Uncut, After, Fate, Open, Closed, Undone, Standing, Refusal, Done, NotResting, Unfit, NotActive}
use Rattle.rules.specs.Types.{StepFailed, PrepareFailed, PreparePanicked, Conflict, BoundDurably, FoundPoisoned, InsertFailed, CallbackFailed}
use Rattle.rules.specs.Types.{CallbackPanicked, RemoveFailed, PublishFailed, RecycleFailed, FinishFailed, StampFailed, CutOff, CleanupFailed}
use Rattle.rules.specs.Store.{active_txids}
use Rattle.rules.specs.Transaction.{finals, no_writes, no_accesses, emptied}
use Rattle.rules.specs.Admitted.{resting}
use Rattle.rules.specs.Fit.{fit}
use Rattle.rules.specs.Faults.{B, P, X, Q, schedule_fit}
use Rattle.rules.specs.Puts.{Put, put_insert, put_remove, put_drop, put_poison, put_doom, apply, apply_all, abort_puts}
use Rattle.rules.specs.Types.{BusyGuard, IndexReadAt, RowLockAt, SerializationAt, WriteBaseAt}
use Rattle.rules.specs.Tests.{index_read_conflict, row_lock_conflict, serialization_conflict, write_base_conflict}
use Rattle.rules.specs.Tests.{index_read_place, row_lock_place, serialization_place, write_base_place}
use Rattle.rules.specs.Changes.{changes, destinations, index_guards, partition_guards, insertions, removals, publication, recycling, stamping}
use Rattle.rules.specs.Commit.{strikes, fails, count}
use Rattle.rules.specs.Numbers.{number_of}
use Rattle.rules.specs.Answer.{commit}
use Rattle.statements.specs.Table.{◌⨾◌, Row, row, first_row}

module _ (S : Store) (x : Tx) (logged : Bool) (plan : Schedule) where
  -- F at a step; another letter at a step; the first k stores of a step, k the fault's: "after k stores clipped to the step's number"
  abbrev pub failed : ℕ → Bool
  failed n = fails S x logged plan n

  abbrev pub struck_by : ℕ → ℕ → Bool
  struck_by n letter = strikes S x logged plan n letter

  abbrev pub first_of : ℕ → List Put → List Put
  first_of n ps = take (count S x logged plan n) ps

  -- 9 is "unlogged with writes only"
  abbrev pub unlogged : Bool
  unlogged = not logged && ltb 0 (length (finals x))

  -- guards "taken index first, released partition first"; at step 8 the index guards alone are held
  abbrev pub takes_index : List Put
  takes_index = index_guards S x x.txid.0

  abbrev pub lets_index_go : List Put
  lets_index_go = index_guards S x 0

  abbrev pub takes : List Put
  takes = index_guards S x x.txid.0 ++ partition_guards x x.txid.0

  abbrev pub lets_go : List Put
  lets_go = partition_guards x 0 ++ index_guards S x 0

  -- the store of a poison; "Poisoning a poisoned store makes no store"; poison with doom
  abbrev pub poisons : List Put
  poisons = put_poison ∷ []

  abbrev pub poisons_unless : Bool → List Put
  poisons_unless already = cond already [] poisons

  abbrev pub dooms : List Put
  dooms = put_doom x.txid.0 ∷ []

  -- 21's store; in 14 and 15 too: "a finish fault in 14 or 15 leaves the txid active and changes no number"
  abbrev pub drops : List Put
  drops = put_drop x.txid.0 ∷ []

  abbrev pub finishes : List Put
  finishes = cond (failed 21) [] drops

  -- "rollback in reverse": what was put in is taken out, the last first
  abbrev pub takes_out : List ℕ → List Put
  takes_out made = map put_remove (reverse made)

  -- the abort's frees and its drop
  abbrev pub frees : List Put
  frees = abort_puts S x.txid.0

  -- a store poisoned; a store with this transaction's slots freed and its txid dropped; the store at entry with some postings put in
  abbrev pub poisoned : Store → Store
  poisoned T = apply put_poison T

  abbrev pub aborted : Store → Store
  aborted T = apply_all (abort_puts S x.txid.0) T

  abbrev pub with : List ℕ → Store
  with cs = apply_all (map put_insert cs) S

  -- of the insertions made, those that a rollback has not come to when it fails after k of its stores: "rollback in reverse"
  abbrev pub left : List ℕ → List ℕ
  left made = reverse (drop (count S x logged plan 24) (reverse made))

  -- what 15 put in before it failed, and in all
  abbrev pub some : List ℕ
  some = take (count S x logged plan 15) (destinations (changes S x))

  abbrev pub whole : List ℕ
  whole = destinations (changes S x)

  -- "zero but for its txid"
  abbrev pub gone : Tx
  gone = only_txid x.txid.0

  -- "The 22 Events are returned as flags": n is the last step that was passed, and a step's flag is up where the step was passed. Beside that: the
  -- check of an unlogged write is told once 9 is tried; "rows_published means publication was tried", once 17 is passed; "deregistered is step 21's
  -- alone", in 14 and 15 by their finish; destinations are not told as prepared once all of them are taken out again
  abbrev pub flags : (n : ℕ) → (poisoned unclean taken_out finished : Bool) → Events
  flags n poisoned unclean taken_out finished = record {
    index_locked = false;
    partition_locked = false;
    index_validated = leb 11 n;
    row_lock_validated = leb 12 n;
    serial_validated = leb 13 n;
    base_validated = leb 14 n;
    write_ahead = logged;
    durably_bound = S.bound;
    has_writes = ltb 0 (length (finals x));
    unlogged_write_checked = not logged && (ltb 0 (length (finals x)) && leb 8 n);
    health_checked = leb 10 n;
    health_cleanup_required = false;
    record_prepared = logged && leb 5 n;
    payload_prepared = logged && leb 6 n;
    preparation_cleanup_required = unclean;
    destinations_prepared = leb 15 n && not taken_out;
    callback_complete = logged && leb 16 n;
    prepared = leb 17 n;
    rows_published = leb 17 n;
    deregistered = leb 21 n || finished;
    stamped = leb 22 n;
    poisoned = poisoned;
  }

  -- nothing but what the steps tell; and poisoned: "poisoned rises where a step poisons or 10 finds it"
  abbrev pub told : ℕ → Events
  told n = flags n false false false false

  abbrev pub spoilt : ℕ → Events
  spoilt n = flags n true false false false

  -- "zero on 1, 2, 3 and 18"
  abbrev pub silent : Events
  silent = record {
    index_locked = false;
    partition_locked = false;
    index_validated = false;
    row_lock_validated = false;
    serial_validated = false;
    base_validated = false;
    write_ahead = false;
    durably_bound = false;
    has_writes = false;
    unlogged_write_checked = false;
    health_checked = false;
    health_cleanup_required = false;
    record_prepared = false;
    payload_prepared = false;
    preparation_cleanup_required = false;
    destinations_prepared = false;
    callback_complete = false;
    prepared = false;
    rows_published = false;
    deregistered = false;
    stamped = false;
    poisoned = false;
  }

  -- after p steps, the stores `taken` made and `back` to be made: "unchanged, open"
  abbrev pub stays : (p : ℕ) (taken back : List Put) → ℕ → (Fate → Refusal) → Bool → Row
  stays p taken back n kind b = row n b (kind Open) (taken ⨾ back) S x (told p)

  -- "aborted"; found: 10 finds the store poisoned
  abbrev pub aborts : (p : ℕ) (taken back : List Put) (found : Bool) → ℕ → (Fate → Refusal) → Bool → Row
  aborts p taken back found n kind b = row n b (kind Closed) (taken ⨾ back ⨾ frees) (aborted S) gone (flags p found false false false)

  -- the abort failed: "A fault at 23 strikes before abort's first store and leaves the transaction's lists"; preparing: it was to clean up after 5 or 6
  abbrev pub unaborted : (p : ℕ) (taken back : List Put) (preparing : Bool) → ℕ → (Fate → Refusal) → Bool → Row
  unaborted p taken back preparing n kind b =
      row n (b && failed 23) (kind Undone) (taken ⨾ back ⨾ poisons_unless S.poisoned) (poisoned S) x (flags p true preparing false false)

  -- 16, struck by one of two letters, the worse of which poisons at once: rollback and abort failed, the rollback alone, the abort alone, neither.
  -- n is the number, m the number where something of the cleaning up failed
  abbrev pub called : (n m : ℕ) → (kind bad : Fate → Refusal) → (worse plain : Bool) → List Row → List Row
  called n m kind bad worse plain more =
      row m ((logged && (worse || plain)) && (failed 24 && failed 23)) (bad Undone)
      (takes ⨾ insertions S x ⨾ cond worse poisons [] ⨾ first_of 24 (takes_out whole) ⨾ poisons_unless worse ⨾ lets_go)
      (poisoned (with (left whole))) x (spoilt 15)
      ∷ row m ((logged && (worse || plain)) && failed 24) (bad Undone)
      (takes ⨾ insertions S x ⨾ cond worse poisons [] ⨾ first_of 24 (takes_out whole) ⨾ poisons_unless worse ⨾ frees ⨾ lets_go)
      (aborted (poisoned (with (left whole)))) gone (spoilt 15)
      ∷ row m ((logged && (worse || plain)) && failed 23) (bad Undone)
      (takes ⨾ insertions S x ⨾ cond worse poisons [] ⨾ takes_out whole ⨾ poisons_unless worse ⨾ lets_go)
      (poisoned S) x (flags 15 true false true false)
      ∷ row n (logged && worse) (kind Undone) (takes ⨾ insertions S x ⨾ poisons ⨾ takes_out whole ⨾ frees ⨾ lets_go)
      (aborted (poisoned S)) gone (flags 15 true false true false)
      ∷ row n (logged && plain) (kind Closed) (takes ⨾ insertions S x ⨾ takes_out whole ⨾ frees ⨾ lets_go)
      (aborted S) gone (flags 15 false false true false)
      ∷ more

  -- 17, 18, 19, 21, 22: what was stored so far, the poison right after it, the finish of 14 and 15
  abbrev pub stored : List Put → Store
  stored ps = apply_all (insertions S x ++ ps) S

  -- a row of these: between the guards the insertions and then ps
  abbrev pub late : ℕ → Bool → Refusal → List Put → Tx → Events → Row
  late n b why ps y e = row n b why (takes ⨾ insertions S x ⨾ ps ⨾ lets_go) (stored ps) y e

  abbrev pub late_rows : List Row
  late_rows =
      late 13 (failed 17) (RemoveFailed Undone) (first_of 17 (removals S x) ⨾ poisons) x (spoilt 16)
      ∷ late 14 (failed 18) (PublishFailed Undone) (removals S x ⨾ first_of 18 (publication x) ⨾ dooms ⨾ finishes) (no_accesses x)
      (flags 17 true false false (not (failed 21)))
      ∷ late 15 (failed 19) (RecycleFailed Undone) (removals S x ⨾ publication x ⨾ first_of 19 (recycling S x) ⨾ dooms ⨾ finishes) (no_writes x)
      (flags 18 true false false (not (failed 21)))
      ∷ late 16 (failed 21) (FinishFailed Undone) (removals S x ⨾ publication x ⨾ recycling S x ⨾ dooms) (emptied x) (spoilt 20)
      ∷ late 17 (failed 22) (StampFailed Standing)
      (removals S x ⨾ publication x ⨾ recycling S x ⨾ drops ⨾ first_of 22 (stamping S x) ⨾ poisons) (emptied x) (spoilt 21)
      ∷ []

  -- 15, whose insertions are undone, or not all of them; then 16: 12 keeps its number, and 19 is "given in place of" 11
  abbrev pub rows15 : List Row
  rows15 =
      row 10 (failed 15 && failed 24) (InsertFailed Undone)
      (takes ⨾ first_of 15 (insertions S x) ⨾ first_of 24 (takes_out some) ⨾ poisons ⨾ lets_go)
      (poisoned (with (left some))) x (spoilt 14)
      ∷ row 10 (failed 15) (InsertFailed Open) (takes ⨾ first_of 15 (insertions S x) ⨾ takes_out some ⨾ lets_go) S x (told 14)
      ∷ called 12 12 CallbackPanicked CallbackPanicked (struck_by 16 Q) (struck_by 16 P)
      (called 11 19 CallbackFailed CleanupFailed (struck_by 16 X) (failed 16) late_rows)

  -- the steps, in order; "Faults at 7 and 8 strike before any guard is taken", so that at 7 there is none, at 8 the index guards alone
  unfoldable pub step_rows : List Row
  step_rows =
      stays 2 [] [] 4 StepFailed (failed 3)
      ∷ stays 3 [] [] 4 StepFailed (failed 4)
      ∷ unaborted 4 [] [] true 19 CleanupFailed (logged && failed 5)
      ∷ aborts 4 [] [] false 5 PrepareFailed (logged && failed 5)
      ∷ unaborted 5 [] [] true 19 CleanupFailed (logged && failed 6)
      ∷ aborts 5 [] [] false 5 PrepareFailed (logged && failed 6)
      ∷ unaborted 5 [] [] true 6 PreparePanicked (logged && struck_by 6 P)
      ∷ aborts 5 [] [] false 6 PreparePanicked (logged && struck_by 6 P)
      ∷ stays 6 [] [] 4 StepFailed (failed 7)
      ∷ unaborted 6 [] [] false 7 (Conflict BusyGuard) (struck_by 7 B)
      ∷ aborts 6 [] [] false 7 (Conflict BusyGuard) (struck_by 7 B)
      ∷ stays 7 takes_index lets_index_go 4 StepFailed (failed 8)
      ∷ unaborted 7 takes_index lets_index_go false 7 (Conflict BusyGuard) (struck_by 8 B)
      ∷ aborts 7 takes_index lets_index_go false 7 (Conflict BusyGuard) (struck_by 8 B)
      ∷ stays 8 takes lets_go 4 StepFailed (unlogged && failed 9)
      ∷ stays 8 takes lets_go 8 BoundDurably (unlogged && S.bound)
      ∷ unaborted 9 takes lets_go false 19 CleanupFailed (failed 10 || S.poisoned)
      ∷ aborts 9 takes lets_go (not (failed 10)) 9 FoundPoisoned (failed 10 || S.poisoned)
      ∷ stays 10 takes lets_go 4 StepFailed (failed 11)
      ∷ unaborted 10 takes lets_go false 7 (Conflict (IndexReadAt (index_read_place S x))) (index_read_conflict S x)
      ∷ aborts 10 takes lets_go false 7 (Conflict (IndexReadAt (index_read_place S x))) (index_read_conflict S x)
      ∷ stays 11 takes lets_go 4 StepFailed (failed 12)
      ∷ unaborted 11 takes lets_go false 7 (Conflict (RowLockAt (row_lock_place S x))) (row_lock_conflict S x)
      ∷ aborts 11 takes lets_go false 7 (Conflict (RowLockAt (row_lock_place S x))) (row_lock_conflict S x)
      ∷ stays 12 takes lets_go 4 StepFailed (failed 13)
      ∷ unaborted 12 takes lets_go false 7 (Conflict (SerializationAt (serialization_place S x))) (serialization_conflict S x)
      ∷ aborts 12 takes lets_go false 7 (Conflict (SerializationAt (serialization_place S x))) (serialization_conflict S x)
      ∷ stays 13 takes lets_go 4 StepFailed (failed 14)
      ∷ unaborted 13 takes lets_go false 7 (Conflict (WriteBaseAt (write_base_place S x))) (write_base_conflict S x)
      ∷ aborts 13 takes lets_go false 7 (Conflict (WriteBaseAt (write_base_place S x))) (write_base_conflict S x)
      ∷ rows15

  -- 0: "committed: lists emptied, txid kept"
  abbrev pub done_row : Row
  done_row = late 0 true Done (removals S x ⨾ publication x ⨾ recycling S x ⨾ drops ⨾ stamping S x) (emptied x) (told 23)

  -- the row by which the commit is answered that isn't cut
  abbrev pub uncut_row : Row
  uncut_row = first_row step_rows done_row

  -- "18 cut: n stores done; transaction zero"; "A cut at n happens only if the uncut run makes more than n stores."
  abbrev pub cut_short : Cut → Bool
  cut_short Uncut = false
  cut_short (After n) = ltb n (length uncut_row.makes)

  abbrev pub cut_makes : Cut → List Put
  cut_makes Uncut = []
  cut_makes (After n) = take n uncut_row.makes

  abbrev pub cut_row : Cut → Row
  cut_row cut = row 18 (cut_short cut) (CutOff Closed) (cut_makes cut) (apply_all (cut_makes cut) S) zero_tx silent

  -- "Commit tries 1, 2, 3, then the steps."
  unfoldable pub commit_rows : Cut → List Row
  commit_rows cut =
      row 1 (not (resting S)) (NotResting Open) [] S x silent
      ∷ row 2 (not (fit S x && schedule_fit plan)) (Unfit Open) [] S x silent
      ∷ row 3 (not (memb x.txid.0 (active_txids S.active))) (NotActive Closed) [] S x silent
      ∷ cut_row cut
      ∷ step_rows

-- "Every commit answer but 1 and 18 leaves no guard held."
pub record Unguarded (T : Store) : Type 0 where
  pub stripes : (i : ℕ) → get_or T.stripe_guards i 0 ≡ 0
  pub partitions : (i : ℕ) → get_or T.partition_guards i 0 ≡ 0

abbrev pub NoGuardHeld : Type 0
NoGuardHeld = (S : Store) (x : Tx) (logged : Bool) (plan : Schedule) (cut : Cut) → let a = commit S x logged plan cut in
    number_of a.refusal ≢ 1 → number_of a.refusal ≢ 18 → Unguarded a.store
