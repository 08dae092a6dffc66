-- `own_rows` meets its contract: the own writes from an index on, marked besides those marked so far, make the marks of all.
use Rattle.std.proofs.Common.{◌≡◌, length, drop}
use Rattle.records.specs.Limits.{rows}
use Rattle.rules.specs.Transaction.{writes_of}
use Rattle.fields.specs.Marks.{mark_all}
use Rattle.recording.specs.CandidateTurns.{own_rows}
use Rattle.recording.proofs.candidates.own_rows.Given as goal

abbrev pub invariant-loop-w : goal.invariant-loop-w
invariant-loop-w l = (length l.m ≡ rows) × (mark_all (own_rows (drop l.w-index l.w-items)) l.m ≡ mark_all (own_rows (writes_of l.x)) l.initial.m)
