-- `first` meets its contract: the elements are copied in front.
use native.Mathlib.Omega.{arith}
use Rattle.recording.specs.Laid.{first_laid}
use Rattle.recording.proofs.laid.Laid.first.Goals as goal

pub returns : goal.returns
returns g c = record {
  first = first_laid g.row.N c.args.none c.args.x.now _ c.args.count _ c.told-x c.min-n.ensures c.copy_from_slice.ensures.after;
  few = omega arith;
}
