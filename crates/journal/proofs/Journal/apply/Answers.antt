-- `Journal::apply` meets its contract. The invariant: the puts so far are applied.
use Rattle.std.proofs.Common.{arith, take, take_all}
use Rattle.journal.specs.Held.{held_first}
use Rattle.journal.specs.Applied.{apply_more}
use Rattle.journal.proofs.Journal.apply.Goals as goal

pub loop-put-preserved : goal.loop-put-preserved
loop-put-preserved c =
    apply_more (take c.min.result c.held-puts.result.now) c.loop-put.put-index _ _ _ _ (omega arith) c.loop-put.invariant c.apply.ensures

pub returns : goal.returns
returns c =
    let puts = c.held-puts.result.now in
    let all = take_all c.loop-put.put-index (take c.min.result puts) (omega arith) in
    rw (← c.held-puts.ensures.puts, ← held_first puts c.args.n _ c.min.ensures, ← all) c.loop-put.invariant
