-- `off_slots_ok` meets its contract.
use mathlib.Core.Path.{◌∙◌}
use mathlib.Core.Bool.{◌||◌}
use borrow.Author.Rules.{rules}
use Rattle.std.proofs.Common.{tests}
use Rattle.std.proofs.lemmas.Iterator.{YieldsList-from_slice}
use Rattle.std.proofs.lemmas.Iterator.Search.{all_from_yields_List}
use Rattle.std.proofs.lemmas.Iterator.Consumers.{YieldsList-from_enumerate}
use Rattle.rules.specs.Lists.{is_zero}
use Rattle.resting.specs.Used.{off_at, used_pairs}
use Rattle.resting.proofs.chains.off_slots_ok.Goals as goal

pub returns : goal.returns
returns c =
    all_from_yields_List (λ p. is_zero p.1 || off_at c.args.s.now c.args.seen.now p.0) c.all.new.self _ _ c.all.ensures.ran
    (YieldsList-from_enumerate (YieldsList-from_slice c.args.s.now.xmin cc) cc) (λ x b q k. search (rules, tests))
    ∙ used_pairs (off_at c.args.s.now c.args.seen.now) 0 c.args.s.now.xmin
