-- `record_marked` meets its contract: l holds the reads recorded so far, and those of the rows from i on make them all.
use Rattle.recording.proofs.lookup.record_marked.Given as goal
use Rattle.std.proofs.Common.{◌≡◌, List, Ok}
use Rattle.rules.specs.Types.{ReadRecord}
use Rattle.rules.specs.Transaction.{reads_of}
use Rattle.fields.specs.Lent.{at_rows, at_places, flags_at_rows}
use Rattle.recording.specs.MarkedRows.{marked_rows, marked_at}
use Rattle.recording.specs.ReadList.{reads_split}
use Rattle.recording.specs.LookupTurns.{record_reads_of}

abbrev pub invariant-loop-i : goal.invariant-loop-i
invariant-loop-i l = (m : List ReadRecord)
    × (Ok l.l ≡ reads_split m)
    × (record_reads_of (at_rows l.s.heads) (at_places l.s.next) (at_places l.s.xmin) l.x (marked_at l.marks l.i) m
    ≡ record_reads_of (at_rows l.s.heads) (at_places l.s.next) (at_places l.s.xmin) l.x (marked_rows (flags_at_rows l.marks)) (reads_of l.x))
