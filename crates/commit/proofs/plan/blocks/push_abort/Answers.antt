-- `push_abort` meets its contract: the marks are those of the own slots.
use Rattle.std.proofs.Common.{sym, ◌∙◌}
use Rattle.visibility.specs.OwnMarks.{abort_puts_law, abort_marked}
use Rattle.commit.proofs.plan.blocks.push_abort.Goals as goal

pub returns : goal.returns
returns c = λ S e long. rw ((abort_marked S.heads S.next S.xmin _ e long).1 ∙ sym (abort_puts_law S _)) at c.push_abort.ensures
