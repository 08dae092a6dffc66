-- `push_undoes` meets its contract, by the gate.
use Rattle.std.proofs.Common.{rules}
use Rattle.journal.specs.Adds.{adds_none}
use Rattle.commit.specs.Plan.Planned.{into_is}
use Rattle.commit.specs.Plan.Ends.{undoes_insert, undoes_call, undoes_none}
use Rattle.commit.proofs.plan.run.push_undoes.Goals as goal

pub returns-in-20 : goal.returns-in-20
returns-in-20 c = λ S x logged plan h. undoes_insert h _ c.in-20.is (c.roll_back.ensures S x logged plan (into_is h) h.strikes h.fits)

pub returns-in-21 : goal.returns-in-21
returns-in-21 c = λ S x logged plan h. undoes_call h _ c.in-21.is (c.roll_back-in-21.ensures S x logged plan (into_is h) h.strikes h.fits)

pub returns-in_default : goal.returns-in_default
returns-in_default c = λ S x logged plan h. rw (undoes_none S x logged plan c.args.gate (search rules) (search rules)) (adds_none _)
