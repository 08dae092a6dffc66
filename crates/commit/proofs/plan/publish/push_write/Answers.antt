-- `push_write` meets its contract: a case for each of its ends.
use Rattle.std.proofs.Common.{rules, arith}
use Rattle.journal.specs.Adds.{adds_none, adds_then}
use Rattle.commit.specs.Plan.Publish.{write_none, write_new, write_mark, write_both}
use Rattle.commit.proofs.plan.publish.push_write.Goals as goal

pub returns-then-limit-eq0 : goal.returns-then-limit-eq0
returns-then-limit-eq0 c = let a = c.args in rw (write_none a.t.0 a.limit a.w (omega arith)) (adds_none _)

pub returns-then-eq : goal.returns-then-eq
returns-then-eq c = let a = c.args in rw (write_new a.t.0 a.limit a.w (omega arith) (search rules)) c.push.ensures

pub returns-then-limit-gt1 : goal.returns-then-limit-gt1
returns-then-limit-gt1 c =
    let a = c.args in
    rw (write_both a.t.0 a.limit a.w (omega arith) (search rules)) (adds_then c.push-2.ensures c.push-then-limit-gt1.ensures)

pub returns-else-limit-gt1 : goal.returns-else-limit-gt1
returns-else-limit-gt1 c = let a = c.args in rw (write_mark a.t.0 a.limit a.w (omega arith) (search rules)) c.push-2.ensures
