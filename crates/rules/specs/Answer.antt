-- "Numbers seen": what commit answers. Record, events, number of stores, cuts, and the refusals before the steps.
use Rattle.std.specs.Prelude.{Bool, false, not, cond, ◌&&◌, ◌||◌, [], ◌∷◌, ℕ, length, take, replicate, ltb, leb}
use Rattle.records.specs.Limits.{write_limit}
use Rattle.rules.specs.Lists.{memb, pad}
use Rattle.rules.specs.Types.{Store, Tx, Schedule, Record, Events, Answer, Cut, Uncut, After}
use Rattle.rules.specs.Types.{Open, Closed, Refusal, Done, NotResting, Unfit, NotActive, CutOff}
use Rattle.records.specs.Zero.{no_write, zero_tx}
use Rattle.rules.specs.Store.{active_txids}
use Rattle.rules.specs.Transaction.{finals}
use Rattle.rules.specs.Admitted.{resting}
use Rattle.rules.specs.Fit.{fit}
use Rattle.rules.specs.Faults.{schedule_fit}
use Rattle.rules.specs.Numbers.{refuse, tries, is_done}
use Rattle.rules.specs.Puts.{apply_all}
use Rattle.rules.specs.Commit.{End, ending, Run, run_of}

-- "The 22 Events are returned as flags": n steps passed. "poisoned rises where a step poisons or 10 finds it; rows_published means
-- publication was tried; deregistered is step 21's alone", in 14 and 15 too.
unfoldable pub events_of : Bool → Bool → Bool → ℕ → End → Events
events_of logged bound writing n e = record {
  index_locked = false;
  partition_locked = false;
  index_validated = leb 11 n;
  row_lock_validated = leb 12 n;
  serial_validated = leb 13 n;
  base_validated = leb 14 n;
  write_ahead = logged;
  durably_bound = bound;
  has_writes = writing;
  unlogged_write_checked = not logged && (writing && leb 8 n);
  health_checked = leb 10 n;
  health_cleanup_required = false;
  record_prepared = logged && leb 5 n;
  payload_prepared = logged && leb 6 n;
  preparation_cleanup_required = e.cleanup;
  destinations_prepared = leb 15 n && not e.undone;
  callback_complete = logged && leb 16 n;
  prepared = leb 17 n;
  rows_published = leb 17 n;
  deregistered = leb 21 n || e.dropped;
  stamped = leb 22 n;
  poisoned = e.poisoned;
}

-- "zero on 1, 2, 3 and 18"
unfoldable pub no_events : Events
no_events = events_of false false false 0 (ending Done zero_tx false)

unfoldable pub no_record : Record
no_record = record { txid = record { 0 = 0 }; writes = replicate write_limit no_write; count = 0 }

-- "The record is zero unless 0": then it names the transaction and its final writes
unfoldable pub record_of : Refusal → Tx → Record
record_of why x =
    cond (is_done why) (record { txid = x.txid; writes = pad write_limit no_write (finals x); count = length (finals x) }) no_record

unfoldable pub uncut : Store → Tx → Bool → Run → Answer
uncut S x logged r = record {
  refusal = r.end.refusal;
  «record» = record_of r.end.refusal x;
  store = apply_all r.puts S;
  tx = r.end.tx;
  events = events_of logged S.bound (ltb 0 (length (finals x))) r.passed r.end;
  stores = length r.puts;
}

-- "18 cut: n stores done; transaction zero"
unfoldable pub cut_off : Store → Run → ℕ → Answer
cut_off S r n = record {
  refusal = CutOff Closed;
  «record» = no_record;
  store = apply_all (take n r.puts) S;
  tx = zero_tx;
  events = no_events;
  stores = n;
}

-- "A cut at n happens only if the uncut run makes more than n stores."
abbrev pub answer : Store → Tx → Bool → Run → Cut → Answer
answer S x logged r Uncut = uncut S x logged r
answer S x logged r (After n) = cond (ltb n (length r.puts)) (cut_off S r n) (uncut S x logged r)

-- "all unchanged"
abbrev pub unchanged : Store → Tx → Refusal → Answer
unchanged S x why = record { refusal = why; «record» = no_record; store = S; tx = x; events = no_events; stores = 0 }

-- "Commit tries 1, 2, 3, then the steps.", of which r is the run
abbrev pub commit_by : Run → Store → Tx → Bool → Schedule → Cut → Answer
commit_by r S x logged plan cut =
    let why = tries (
    refuse (not (resting S)) (NotResting Open)
    ∷ refuse (not (fit S x && schedule_fit plan)) (Unfit Open)
    ∷ refuse (not (memb x.txid.0 (active_txids S.active))) (NotActive Closed)
    ∷ []) in
    cond (is_done why) (answer S x logged r cut) (unchanged S x why)

unfoldable pub commit : Store → Tx → Bool → Schedule → Cut → Answer
commit S x logged plan cut = commit_by (run_of S x logged plan) S x logged plan cut
