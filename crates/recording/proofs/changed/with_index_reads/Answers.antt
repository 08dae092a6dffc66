-- `with_index_reads` meets its contract: the array and the count are the list's.
use mathlib.Core.Path.{refl}
use Rattle.recording.specs.StampList.{index_reads_from}
use Rattle.recording.proofs.changed.with_index_reads.Goals as goal

pub returns : goal.returns
unfolding index_reads_from
returns c = refl
