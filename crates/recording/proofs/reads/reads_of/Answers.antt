-- `reads_of` meets its contract: the first places hold them all.
use native.Mathlib.Omega.{arith}
use Rattle.records.specs.Limits.{read_limit}
use Rattle.records.specs.Zero.{no_read}
use Rattle.recording.specs.Laid.{counted}
use Rattle.recording.specs.ReadList.{all_split}
use Rattle.recording.proofs.reads.reads_of.Goals as goal

pub returns : goal.returns
returns c =
    let held = c.first.ensures.first in
    let count = counted read_limit c.first.result no_read _ held in
    all_split c.first.result _ held (omega (arith, c.first.ensures.few))
