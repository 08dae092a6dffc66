-- `has_write_base_conflict` meets its contract: it answers what the writes from the present place on do.
use Rattle.std.proofs.Common.{◌∙◌, sym, ap, arith, rules, Ok, Err}
use Rattle.std.proofs.Math.ListN.{drop_of_length-le}
use Rattle.rules.specs.Tests.{base_moved, finals_that}
use Rattle.commit_tests.specs.Conflicts.{answer_here, answer_next, answer_none, write_bases_all}
use Rattle.commit_tests.specs.FinalTurns.{of_row, write_next}
use Rattle.commit_tests.proofs.conflicts.has_write_base_conflict.Goals as goal

pub loop-i-init : goal.loop-i-init
loop-i-init c = λ S h. rw c.written-writes.ensures.are (write_bases_all S c.args.x.now)

pub returns-then-unwritten_from : goal.returns-then-unwritten_from
unfolding of_row
returns-then-unwritten_from c = λ S h.
    ap Err (omega arith)
    ∙ sym (answer_here _ _ (ap (finals_that (base_moved S)) (write_next c.written-writes.result.now c.loop-i.i (omega arith))) (rw h (search rules)))
    ∙ c.loop-i.invariant S h

-- here a later write is of the row, or the base is the head
pub loop-i-preserved : goal.loop-i-preserved
unfolding of_row
loop-i-preserved c = λ S h.
    sym (answer_next _ _ (ap (finals_that (base_moved S)) (write_next c.written-writes.result.now c.loop-i.i (omega arith))) (rw h (search rules)))
    ∙ c.loop-i.invariant S h

pub returns : goal.returns
returns c = λ S h.
    ap Ok (omega arith)
    ∙ sym (answer_none _ _ (ap (finals_that (base_moved S)) (drop_of_length-le c.written-writes.result.now {i = c.loop-i.i} (omega arith))))
    ∙ c.loop-i.invariant S h
