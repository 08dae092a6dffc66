-- `begun` meets its contract.
use Rattle.std.proofs.Common.{rules}
use Rattle.calls.specs.BeginAnswer.{begun_is}
use Rattle.calls.proofs.begin.begun.Goals as goal

pub returns : goal.returns
returns c = begun_is _ _ _ _ _ c.oldest_active.ensures c.active_count.ensures c.zero.ensures (search rules)
