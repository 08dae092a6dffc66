-- `put_answer` meets its contract: the text is the answer line's.
use Rattle.replay_core.proofs.answer.put_answer.Goals as goal

pub returns : goal.returns
returns c = rw c.print_line-text.ensures.text at c.put_text.ensures
