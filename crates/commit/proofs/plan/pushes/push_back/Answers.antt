-- `push_back` meets its contract. The invariant: the removals of the postings so far are pushed.
use Rattle.std.proofs.Common.{ℕ, Bor, reverse}
use Rattle.std.proofs.lemmas.List.{take-map}
use Rattle.std.proofs.lemmas.Iterator.{YieldsList-from_take}
use Rattle.std.proofs.lemmas.Iterator.Adapters.{YieldsList-from_rev_slice}
use Rattle.std.proofs.lemmas.Iterator.Consumers.{YieldsList-end}
use Rattle.rules.specs.Puts.{put_remove}
use Rattle.journal.specs.Adds.{adds_none}
use Rattle.commit.specs.Plan.Pushes.{push_next}
use Rattle.commit.proofs.plan.pushes.push_back.Goals as goal

pub loop-c-init : goal.loop-c-init
loop-c-init c = adds_none _

pub loop-c-preserved : goal.loop-c-preserved
loop-c-preserved c = push_next (λ (x : Bor ℕ). x.now) put_remove c.loop-c.yielded c.in-Some.c c.loop-c.invariant c.push.ensures

pub returns : goal.returns
returns c =
    let l = c.args.codes.now in
    let n = c.args.limit in
    let all = YieldsList-end (YieldsList-from_take n (YieldsList-from_rev_slice l cc) cc) c.loop-c.yielded _ c.loop-c.yielded_by _ _ c.in-None.is
    c.next.ensures.steps in
    rw (take-map put_remove n (reverse l), ← all.0) c.loop-c.invariant
