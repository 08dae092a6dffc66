-- `with_reads` meets its contract: the array and the count are the list's.
use mathlib.Core.Path.{refl}
use Rattle.recording.specs.ReadList.{reads_from}
use Rattle.recording.proofs.changed.with_reads.Goals as goal

pub returns : goal.returns
unfolding reads_from
returns c = refl
