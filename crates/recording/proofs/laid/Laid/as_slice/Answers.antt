-- `as_slice` meets its contract: the first places hold the list.
use Rattle.std.proofs.Common.{◌∙◌}
use Rattle.recording.specs.Laid.{counted_back}
use Rattle.recording.proofs.laid.Laid.as_slice.Goals as goal

pub returns : goal.returns
returns g c = record {
  first = c.first_of.ensures;
  whole = λ z m holds fits. c.first_of.ensures ∙ counted_back g.row.N c.args.self.now z m holds fits;
}
