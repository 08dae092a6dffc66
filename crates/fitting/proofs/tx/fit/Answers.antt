-- `fit` meets its contract: under the marks of its own walk, the store is judged as it stands.
use Rattle.std.proofs.Common.{ap, ◌∙◌}
use Rattle.rules.specs.Chains.{Walk}
use Rattle.fitting.specs.Fits.{fit_by_law}
use Rattle.fields.proofs.Lengths.{sized}
use Rattle.fitting.proofs.tx.fit.Goals as goal

pub returns : goal.returns
returns c = c.fit_of.ensures ∙ fit_by_law c.args.s c.args.x _ (sized c.args.s c.well_formed.0) (ap (λ (w : Walk). w.seen) c.walk_all.ensures)
