-- `matching` meets its contract: the rows found so far and those that match from r on are all that match.
use Rattle.fields.specs.Lent.{at_rows, at_places, flags_at_places, flags_at_rows}
use Rattle.recording.specs.MarkedRows.{marked_rows, marked_at}
use Rattle.recording.specs.LookupTurns.{matching_of}
use Rattle.recording.specs.FoundRows.{Finding}
use Rattle.recording.proofs.lookup.matching.Given as goal

abbrev pub invariant-loop-r : goal.invariant-loop-r
invariant-loop-r l = Finding l.found l.r
    (matching_of (at_rows l.s.heads) (at_places l.s.next) (at_places l.s.xmin) (at_places l.s.key) (flags_at_places l.s.has) l.x l.k (marked_at l.marks l.r))
    (matching_of (at_rows l.s.heads) (at_places l.s.next) (at_places l.s.xmin) (at_places l.s.key) (flags_at_places l.s.has) l.x l.k
    (marked_rows (flags_at_rows l.marks)))
