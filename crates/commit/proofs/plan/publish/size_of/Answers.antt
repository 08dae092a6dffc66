-- `size_of` meets its contract: by whether the write has a base.
use Rattle.std.proofs.Common.{rules}
use Rattle.commit.specs.Plan.Publish.{size_new, size_over}
use Rattle.commit.proofs.plan.publish.size_of.Goals as goal

pub returns-then-eq : goal.returns-then-eq
returns-then-eq c = size_new _ (search rules)

pub returns-else-eq : goal.returns-else-eq
returns-else-eq c = size_over _ (search rules)
