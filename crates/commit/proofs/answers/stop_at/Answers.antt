-- `stop_at` meets its contract: a case for each cut.
use Rattle.std.proofs.Common.{rules}
use Rattle.commit.specs.Run.{stop_at}
use Rattle.commit.proofs.answers.stop_at.Goals as goal

pub returns-in-Uncut : goal.returns-in-Uncut
unfolding stop_at
returns-in-Uncut c = rw c.in-Uncut.is

pub returns-in-After : goal.returns-in-After
unfolding stop_at
returns-in-After c = rw c.in-After.is (search rules)
