-- `final_writes` meets its contract: the final writes among those passed are laid out.
use Rattle.std.proofs.Common.{◌≡◌, ◌∙◌, sym, arith, drop, get_or, ◌∷◌, ◌+◌}
use Rattle.records.specs.Zero.{no_write}
use Rattle.rules.specs.Transaction.{writes_of}
use Rattle.std.proofs.Math.ListN.{drop_of_length-le}
use borrow.Author.Tests.{not-true, not-false}
use Rattle.commit_tests.specs.FinalTurns.{laid_none, laid_here, laid_later, laid_all, write_next}
use Rattle.commit_tests.proofs.finals.final_writes.Goals.{then-unwritten_from, else-unwritten_from}
use Rattle.commit_tests.proofs.finals.final_writes.Goals as goal

pub loop-i-init : goal.loop-i-init
loop-i-init c = laid_none _

pub bounds-at-count : goal.bounds-at-count
bounds-at-count c = let few = c.loop-i.invariant.few in let all = c.written-writes.ensures.few in omega arith

pub loop-i-preserved : goal.loop-i-preserved
loop-i-preserved c =
    let x = c.args.x.now in
    let few = c.written-writes.ensures.few in
    let ws = c.written-writes.result.now in
    let i = c.loop-i.i in
    let next : drop i (writes_of x) ≡ get_or ws i no_write ∷ drop (i + 1) (writes_of x) =
    rw (← c.written-writes.ensures.are) (write_next ws i (omega arith)) in
    let so = c.loop-i.invariant in
    elim c.if-unwritten_from.branch [
      | then-unwritten_from w ↦ rw (w.at-is, w.count-is) (laid_here x _ _ _ _ so next (omega arith)
          (rw (← c.written-writes.ensures.are) (not-true _ (sym c.unwritten_from.ensures ∙ w.if-unwritten_from.true))))
      | else-unwritten_from w ↦ rw (w.at-is, w.count-is) (laid_later x _ _ _ _ so next
          (rw (← c.written-writes.ensures.are) (not-false _ (sym c.unwritten_from.ensures ∙ w.if-unwritten_from.false))))
    ]

pub returns : goal.returns
returns c =
    laid_all c.args.x.now _ _ _ c.loop-i.invariant
    (rw (← c.written-writes.ensures.are) (drop_of_length-le c.written-writes.result.now {i = c.loop-i.i} (omega arith)))
