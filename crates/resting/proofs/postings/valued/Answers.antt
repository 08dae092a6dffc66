-- `valued` meets its contract.
use mathlib.Core.Path.{◌∙◌, ap}
use lib.ListN.{length}
use borrow.Author.Rules.{rules}
use Rattle.std.proofs.Common.{tests}
use Rattle.std.proofs.lemmas.Iterator.{YieldsList-from_slice}
use Rattle.std.proofs.lemmas.Iterator.Consumers.{YieldsList-from_filter, count_from_yields_List}
use Rattle.basic_laws.specs.Chains.{those_of_list}
use Rattle.resting.specs.PostingForm.{valued_by}
use Rattle.resting.proofs.postings.valued.Goals as goal

pub returns : goal.returns
returns c =
    count_from_yields_List c.filter.result _ c.count.ensures.ran
    (YieldsList-from_filter _ (valued_by c.args.s.now) (YieldsList-from_slice c.args.s.now.heads cc) c.filter.ensures.closure
    (λ x b q k. search (rules, tests)))
    ∙ ap length (those_of_list (valued_by c.args.s.now) c.args.s.now.heads)
