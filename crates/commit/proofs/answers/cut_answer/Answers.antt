-- `cut_answer` meets its contract.
use Rattle.commit.specs.Run.{cut_answer}
use Rattle.std.proofs.Common.{rules}
use Rattle.commit.proofs.answers.cut_answer.Goals as goal

pub returns : goal.returns
unfolding cut_answer
returns c = search rules
