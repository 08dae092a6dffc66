-- `posted_rows` meets its contract: the postings in front from an index on, marked besides those marked so far, make the marks of the walk.
use mathlib.Core.Path.{ap}
use native.Mathlib.Omega.{arith}
use Rattle.std.proofs.Common.{◌≤◌, ◌*◌, take, length-take}
use Rattle.records.specs.Limits.{rows}
use Rattle.fields.specs.Marks.{mark_all}
use Rattle.packed.specs.HalvingLaws.{place_between}
use Rattle.packed.specs.declared.halving.Place.{Place}
use Rattle.recording.specs.MarkedRows.{no_rows}
use Rattle.recording.specs.CandidateTurns.{walk_starts}
use Rattle.recording.proofs.candidates.posted_rows.Goals.{After-find_place-first}
use Rattle.recording.proofs.candidates.posted_rows.Goals as goal

-- the place is one of the first n, or behind them
place_low : (c : After-find_place-first) → c.find_place-first.result.at ≤ c.min-n.result
place_low c =
    let l = take c.min-n.result c.args.s.now.postings in
    rw c.find_place-first.ensures (omega (arith, (place_between (c.args.k * rows) l).within, length-take c.min-n.result c.args.s.now.postings))

pub offset_bounds-s-first : goal.offset_bounds-s-first
offset_bounds-s-first c = let low = place_low c in omega arith

pub slice_bounds-c-items-count : goal.slice_bounds-c-items-count
slice_bounds-c-items-count c = let low = place_low (goal.at.slice_bounds-c-items-count c).After-find_place-first in omega arith

pub slice_bounds-c-items-start : goal.slice_bounds-c-items-start
slice_bounds-c-items-start c = let low = place_low (goal.at.slice_bounds-c-items-start c).After-find_place-first in omega arith

pub loop-c-init : goal.loop-c-init
unfolding no_rows
loop-c-init c =
    let a = c.args in
    ap (λ l. mark_all l no_rows)
    (walk_starts a.s.now.postings a.s.now.posting_count c.min-n.result a.k _ (omega arith) c.min-n.ensures
    (ap (λ (p : Place). p.at) c.find_place-first.ensures))
