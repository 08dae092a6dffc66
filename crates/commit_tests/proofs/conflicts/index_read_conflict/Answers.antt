-- `index_read_conflict` meets its contract: index_conflict, or the first index read whose stamp differs, or how many entries there are.
use Rattle.std.proofs.Common.{◌≡◌, ◌∙◌, refl, sym, ap, arith, rules, take, eqb, not, get_or, length, Ok, Err}
use Rattle.std.proofs.lemmas.List.{length-take}
use Rattle.std.proofs.lemmas.Iterator.{YieldsList-from_slice, YieldsList-from_take}
use Rattle.std.proofs.lemmas.Iterator.Search.{position_from_yields_List}
use Rattle.records.specs.Limits.{index_read_limit}
use Rattle.fields.specs.Lent.{at_stripes}
use Rattle.rules.specs.Tests.{stamp_differs, index_read_conflict, index_read_place}
use Rattle.commit_tests.specs.Conflicts.{first_place, no_place, one_more, later_place}
use Rattle.commit_tests.proofs.conflicts.index_read_conflict.Goals as goal

pub returns-then-x : goal.returns-then-x
unfolding index_read_conflict index_read_place
returns-then-x c = λ S e. rw c.if-x.true

pub returns-in-Some : goal.returns-in-Some
unfolding index_read_conflict index_read_place
returns-in-Some c = λ S h.
    let s = c.args.s.now in
    let x = c.args.x.now in
    rw c.if-x.false (
    ap Err (omega arith) ∙ ap one_more (
    first_place (stamp_differs S) (take x.index_read_count x.index_reads)
    (sym c.in-Some.is ∙ position_from_yields_List (stamp_differs S) _ _ _ c.position-differs.ensures.ran
    (YieldsList-from_take x.index_read_count (YieldsList-from_slice x.index_reads (cc)) (cc))
    (λ e b q k.
    let z : (q ≡ _) × (b ≡ not (eqb (get_or (at_stripes s.stamps) e.now.stripe 0) e.now.stamp.0)) = search rules in
    (z.0, z.1 ∙ rw h))) refl) ∙ later_place _ _)

pub returns-in-None : goal.returns-in-None
unfolding index_read_conflict index_read_place
returns-in-None c = λ S h.
    let s = c.args.s.now in
    let x = c.args.x.now in
    let full : length x.index_reads ≡ index_read_limit = search rules in
    rw c.if-x.false (
    ap Ok (omega arith) ∙ ap one_more (
    no_place (stamp_differs S) (take x.index_read_count x.index_reads)
    (sym c.in-None.is ∙ position_from_yields_List (stamp_differs S) _ _ _ c.position-differs.ensures.ran
    (YieldsList-from_take x.index_read_count (YieldsList-from_slice x.index_reads (cc)) (cc))
    (λ e b q k.
    let z : (q ≡ _) × (b ≡ not (eqb (get_or (at_stripes s.stamps) e.now.stripe 0) e.now.stamp.0)) = search rules in
    (z.0, z.1 ∙ rw h)))
    (c.clipped.ensures ∙ sym (rw full at (length-take x.index_read_count x.index_reads)))) ∙ later_place _ _)
