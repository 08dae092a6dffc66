-- The record and the events that commit answers, from what code has at hand.
use Rattle.std.specs.Prelude.{◌≡◌, refl, Bool, cond, ℕ, length}
use Rattle.records.specs.Limits.{write_limit}
use Rattle.records.specs.Zero.{no_write, zero_tx}
use Rattle.rules.specs.Lists.{pad}
use Rattle.rules.specs.Types.{Tx, Record, Events, Refusal}
use Rattle.rules.specs.Numbers.{is_done}
use Rattle.rules.specs.Transaction.{finals}
use Rattle.rules.specs.Commit.{End}
use Rattle.rules.specs.Answer.{events_of, no_record, record_of}
use Rattle.commit_tests.specs.declared.finals.Finals.{Finals}
use Rattle.commit_tests.specs.FinalTurns.{finals_laid}
use Rattle.steps.specs.declared.ends.Ending.{Ending}

-- the end of a run: how it ends, and the transaction left
abbrev pub end_with : Ending → Tx → End
end_with a y = record { refusal = a.refusal; tx = y; poisoned = a.poisoned; cleanup = a.cleanup; undone = a.undone; dropped = a.dropped }

-- the record of a commit that is done, and else none
unfoldable pub record_if : Bool → Tx → Record
record_if done x = cond done (record { txid = x.txid; writes = pad write_limit no_write (finals x); count = length (finals x) }) no_record

-- the same from final writes that are laid out
unfoldable pub record_with : Bool → Tx → Finals → Record
record_with done x f = cond done (record { txid = x.txid; writes = f.at; count = f.count }) no_record

pub record_with_law : (done : Bool) (x : Tx) {f : Finals} → f ≡ finals_laid x → record_with done x f ≡ record_if done x
unfolding record_with record_if finals_laid
record_with_law done x e = rw e

pub record_if_law : (why : Refusal) (x : Tx) → record_of why x ≡ record_if (is_done why) x
unfolding record_of record_if
record_if_law why x = refl

-- the events don't hang on the transaction left
unfoldable pub events_by : Bool → Bool → Bool → ℕ → Ending → Events
events_by logged bound writing n a = events_of logged bound writing n (end_with a zero_tx)

pub events_by_law : (logged bound writing : Bool) (n : ℕ) (a : Ending) (y : Tx)
    → events_of logged bound writing n (end_with a y) ≡ events_by logged bound writing n a
unfolding events_of events_by
events_by_law logged bound writing n a y = refl
