-- `index_conflict` meets its contract, by its tests in order.
use Rattle.std.proofs.Common.{rules}
use Rattle.recording.specs.StampList.{index_conflict}
use Rattle.recording.proofs.stamps.index_conflict.Goals as goal

pub returns-then-x : goal.returns-then-x
unfolding index_conflict
returns-then-x c = search rules

pub returns-then-ne : goal.returns-then-ne
unfolding index_conflict
returns-then-ne c = search rules

pub returns-else-ne : goal.returns-else-ne
unfolding index_conflict
returns-else-ne c = search rules
