-- `candidates` meets its contract: the rows of own writes are marked after those of postings.
use Rattle.fields.specs.Lent.{at_postings}
use Rattle.recording.specs.CandidateTurns.{candidate_marks_law}
use Rattle.recording.proofs.candidates.candidates.Goals as goal

pub returns : goal.returns
returns c =
    let a = c.args in
    candidate_marks_law (at_postings a.s.now.postings) a.s.now.posting_count a.x.now a.k _ _ c.posted_rows-m.ensures c.own_rows.ensures
