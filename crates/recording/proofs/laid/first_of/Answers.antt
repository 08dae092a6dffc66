-- `first_of` meets its contract: a count above the places counts them all.
use Rattle.fields.specs.Pad.{take_clip}
use Rattle.recording.proofs.laid.first_of.Goals as goal

pub returns : goal.returns
returns g c = rw c.min.ensures (take_clip c.args.count g.row.N c.args.x.now c.told-x)
