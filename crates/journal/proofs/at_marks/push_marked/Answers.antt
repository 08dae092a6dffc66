-- `push_marked` meets its contract. The invariant: what is pushed so far and what is left are the block.
use Rattle.std.proofs.Common.{rules, arith}
use Rattle.journal.specs.Pushing.{pushing_start, pushing_end}
use Rattle.journal.specs.AtMarks.{marked_placed, marked_none, marked_end, push_mark, pass_mark}
use Rattle.journal.proofs.at_marks.push_marked.Goals as goal
use Rattle.journal.proofs.at_marks.push_marked.Goals.{then-mark, else-mark}

pub loop-i-init : goal.loop-i-init
loop-i-init g c = λ f e. rw (marked_placed f _ _) (pushing_start _ _)

pub returns-then-left-eq0 : goal.returns-then-left-eq0
returns-then-left-eq0 g c = λ f e. pushing_end (c.loop-i.invariant f e) (marked_none f _ _ _ (omega arith))

pub loop-i-preserved : goal.loop-i-preserved
loop-i-preserved g c = λ f e. elim c.if-mark.branch [
  | then-mark w ↦
      rw (w.j-is, w.left-is)
      (push_mark f _ _ _ (omega arith) (c.loop-i.invariant f e) (omega arith) w.if-mark.true (e _ _ (omega arith) (search rules)) w.push.ensures)
  | else-mark w ↦ rw (w.j-is, w.left-is) (pass_mark f _ _ _ (omega arith) (c.loop-i.invariant f e) w.if-mark.false)
]

pub returns : goal.returns
returns g c = λ f e. pushing_end (c.loop-i.invariant f e) (marked_end f _ _ _ (omega arith))
