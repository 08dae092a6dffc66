-- `used_if_marked` meets its contract.
use mathlib.Core.Path.{◌∙◌}
use mathlib.Core.Bool.{◌||◌}
use native.Mathlib.Omega.{arith}
use borrow.Author.Rules.{rules}
use Rattle.std.proofs.Common.{tests}
use Rattle.std.proofs.lemmas.Iterator.{YieldsList-from_slice, YieldsList-from_zip}
use Rattle.std.proofs.lemmas.Iterator.Search.{all_from_yields_List}
use Rattle.rules.specs.Lists.{is_zero, nonzero}
use Rattle.resting.specs.SlotForm.{pairs_are}
use Rattle.resting.proofs.slots.used_if_marked.Goals as goal

pub returns : goal.returns
returns c =
    all_from_yields_List (λ p. is_zero p.0 || nonzero p.1) c.all.new.self _ _ c.all.ensures.ran
    (YieldsList-from_zip (YieldsList-from_slice c.args.seen.now cc) (YieldsList-from_slice c.args.s.now.xmin cc)) (λ x b q k. search (rules, tests))
    ∙ pairs_are is_zero nonzero c.args.seen.now c.args.s.now.xmin (omega arith)
