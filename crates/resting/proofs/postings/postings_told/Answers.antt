-- `postings_told` meets its contract.
use mathlib.Core.Path.{◌≡◌}
use lib.ListN.{take}
use borrow.Author.Rules.{rules}
use Rattle.std.proofs.lemmas.Iterator.{YieldsList-from_slice, YieldsList-from_take}
use Rattle.std.proofs.lemmas.Iterator.Search.{all_from_yields_List}
use Rattle.rules.specs.Lists.{all}
use Rattle.resting.specs.PostingForm.{told_at}
use Rattle.resting.proofs.postings.postings_told.Goals as goal
use Rattle.resting.proofs.postings.postings_told.Goals.{After-all}

each_told : (c : After-all) → c.all.result ≡ all (told_at c.args.s.now) (take c.args.s.now.posting_count c.args.s.now.postings)
each_told c =
    all_from_yields_List (told_at c.args.s.now) _ _ _ c.all.ensures.ran
    (YieldsList-from_take c.args.s.now.posting_count (YieldsList-from_slice c.args.s.now.postings cc) cc) (λ x b q k. search rules)

pub returns-then-all : goal.returns-then-all
returns-then-all c = rw (← each_told (goal.at.returns-then-all c).After-all, c.if-all.true, c.valued.ensures)

pub returns-else-all : goal.returns-else-all
returns-else-all c = rw (← each_told (goal.at.returns-else-all c).After-all, c.if-all.false)
