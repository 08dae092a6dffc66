-- `empty` meets its contract: there is no element, and the array is `none` alone.
use Rattle.recording.specs.Laid.{empty_laid}
use Rattle.recording.proofs.laid.Laid.empty.Goals as goal

pub returns : goal.returns
returns g c = empty_laid g.row.N c.args.none
