-- `matching` meets its contract: the rows found so far and those that match from r on are all that match.
use native.Mathlib.Omega.{arith}
use Rattle.recording.specs.MarkedRows.{marked_whole, marked_end, marked_yes, marked_no}
use Rattle.recording.specs.FoundRows.{row_list, none_found, not_found, found_few, found_one, all_found, matches_none, matches_yes, matches_not}
use Rattle.recording.proofs.lookup.matching.Goals.{then-marked+then-has_key, else-marked, else-marked-via-then-marked+else-has_key}
use Rattle.recording.proofs.lookup.matching.Goals.{else-marked-via-else-marked}
use Rattle.recording.proofs.lookup.matching.Goals as goal

pub loop-r-init : goal.loop-r-init
unfolding row_list
loop-r-init c = rw c.empty-found.ensures (none_found _ _ (rw (marked_whole c.args.marks.now)))

pub push-requires : goal.push-requires
push-requires c = (omega arith, omega (arith, found_few _ _ _ _ c.loop-r.invariant))

pub loop-r-preserved : goal.loop-r-preserved
loop-r-preserved c =
    let s = c.loop-r in
    elim c.if-marked.branch [
      | then-marked+then-has_key w ↦
          let yes = marked_yes c.args.marks.now s.r c.loop-r-test.true w.if-marked.true in
          let there = matches_yes _ _ _ _ _ _ _ _ _ _ _ yes w.read_ptr.ensures _ w.has_key.ensures w.if-has_key.true in
          rw w.found-is (found_one _ _ _ _ s.invariant _ there w.push.ensures)
      | else-marked w ↦ rw w.found-is (elim w.else-marked.branch [
        | else-marked-via-then-marked+else-has_key v ↦
            let yes = marked_yes c.args.marks.now s.r c.loop-r-test.true v.if-marked.true in
            let other = matches_not _ _ _ _ _ _ _ _ _ _ _ yes v.read_ptr.ensures _ v.has_key.ensures v.if-has_key.false in
            not_found _ _ _ _ s.invariant _ other
        | else-marked-via-else-marked v ↦
            let no = marked_no c.args.marks.now s.r c.loop-r-test.true v.if-marked.false in
            not_found _ _ _ _ s.invariant _ (rw no)
      ])
    ]

pub returns : goal.returns
returns c = all_found _ _ _ _ c.loop-r.invariant (matches_none _ _ _ _ _ _ _ _ (marked_end _ _ (omega arith)))
