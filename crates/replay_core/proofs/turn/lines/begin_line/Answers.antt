-- `begin_line` meets its contract.
use Rattle.std.proofs.Common.{sym, ◌∙◌}
use Rattle.replay_core.specs.Lines.{begin_refused, begun}
use Rattle.replay_core.proofs.turn.lines.begin_line.Goals as goal

pub returns-then-not-is_done : goal.returns-then-not-is_done
returns-then-not-is_done c =
    let d = c.args.d.now in
    rw c.call.ensures (begin_refused d.store d.tx d.plan c.begin-a.ensures (sym c.is_done.ensures ∙ c.if-not-is_done.true))

pub returns : goal.returns
returns c = let d = c.args.d.now in rw c.call-2.ensures (begun d.store d.tx d.plan c.begin-a.ensures (sym c.is_done.ensures ∙ c.if-not-is_done.false))
