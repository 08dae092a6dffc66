-- `plan_of` meets its contract, part by part.
use Rattle.fields.specs.Lent.{at_places, flags_at_places}
use Rattle.commit.specs.Plan.Planned.{plan_from_law}
use Rattle.commit.proofs.plan.run.plan_of.Goals as goal

pub returns : goal.returns
returns c = λ few.
    let a = c.args in
    plan_from_law a.x.now (at_places a.s.now.key) (at_places a.s.now.xmin) (at_places a.seen.now) (flags_at_places a.s.now.has) a.writes.now
    (c.index_changes-moves.ensures few) c.guarded_stripes.ensures
    c.guarded_partitions.ensures c.own_marks-own.ensures c.recycled_marks.ensures
