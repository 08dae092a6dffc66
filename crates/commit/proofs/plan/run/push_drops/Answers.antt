-- `push_drops` meets its contract, by the gate.
use Rattle.std.proofs.Common.{◌≡◌, rules}
use Rattle.std.specs.Prelude.{◌||◌}
use Rattle.journal.specs.Adds.{adds_none}
use Rattle.commit.specs.Plan.Planned.{txid_is, own_is}
use Rattle.commit.specs.Plan.Ends.{abort_is, drops_call, drops_publish, drops_recycle, drops_none}
use Rattle.commit.proofs.plan.run.push_drops.Goals as goal
use Rattle.commit.proofs.plan.run.push_drops.Goals.{then-s, else-s}

pub returns-after-s : goal.returns-after-s
returns-after-s c =
    let s = c.args.s.now in
    let already : c.if-s.abort_or_poison ≡ (s.worse || s.rollback) = elim c.if-s.branch [ then-s w ↦ search rules | else-s w ↦ search rules ] in
    λ S x logged plan h. drops_call h _ already c.in-21.is
    (c.abort_or_poison.ensures S x logged plan (own_is h) (txid_is h) (abort_is S x logged plan h.strikes) h.long)

pub returns-in-23 : goal.returns-in-23
returns-in-23 c = λ S x logged plan h. rw (drops_publish S x logged plan _ c.in-23.is) (c.finish.ensures S x logged plan h)

pub returns-in-24 : goal.returns-in-24
returns-in-24 c = λ S x logged plan h. rw (drops_recycle S x logged plan _ c.in-24.is) (c.finish-in-24.ensures S x logged plan h)

pub returns-in_default : goal.returns-in_default
returns-in_default c = λ S x logged plan h. rw (drops_none S x logged plan c.args.gate (search rules) (search rules) (search rules)) (adds_none _)
