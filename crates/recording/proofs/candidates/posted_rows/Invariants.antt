-- `posted_rows` meets its contract: the postings in front from an index on, marked besides those marked so far, make the marks of the walk.
use Rattle.std.proofs.Common.{◌≡◌, drop}
use Rattle.fields.specs.Lent.{at_postings}
use Rattle.fields.specs.Marks.{mark_all}
use Rattle.recording.specs.MarkedRows.{no_rows}
use Rattle.recording.specs.CandidateTurns.{rows_in_front, posted_rows}
use Rattle.recording.proofs.candidates.posted_rows.Given as goal

abbrev pub invariant-loop-c : goal.invariant-loop-c
invariant-loop-c l =
    mark_all (rows_in_front l.k (drop l.c-index l.c-items)) l.m ≡ mark_all (posted_rows (at_postings l.s.postings) l.s.posting_count l.k) no_rows
