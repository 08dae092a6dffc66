-- `lowest_free` meets its contract: the first free place from i on is the first of all.
use mathlib.Core.Path.{sym, ◌∙◌}
use native.Mathlib.Omega.{arith}
use borrow.Author.Rules.{rules}
use Rattle.rules.specs.Calls.{lowest_free}
use Rattle.visibility.specs.Slots.{free_from, free_end, free_here, free_next_law}
use Rattle.visibility.proofs.slots.lowest_free.Goals as goal

pub loop-i-init : goal.loop-i-init
unfolding free_from lowest_free
loop-i-init c = search rules

pub returns-then-xmin-i-eq0 : goal.returns-then-xmin-i-eq0
returns-then-xmin-i-eq0 c = sym (free_here _ _ (omega arith) c.if-xmin-i-eq0.true) ∙ c.loop-i.invariant

pub loop-i-preserved : goal.loop-i-preserved
loop-i-preserved c = sym (free_next_law _ _ (omega arith) c.if-xmin-i-eq0.false) ∙ c.loop-i.invariant

pub returns : goal.returns
returns c = sym (free_end _ _ (omega arith)) ∙ c.loop-i.invariant
