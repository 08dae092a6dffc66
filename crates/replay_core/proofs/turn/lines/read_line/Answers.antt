-- `read_line` meets its contract.
use Rattle.std.proofs.Common.{sym, ◌∙◌}
use Rattle.script.specs.Print.{third_of, tells}
use Rattle.replay_core.specs.Lines.{read_refused, read_gave}
use Rattle.replay_core.specs.Turn.{leaves}
use Rattle.replay_core.proofs.turn.lines.read_line.Goals as goal

pub returns-then-not-is_done : goal.returns-then-not-is_done
returns-then-not-is_done c =
    let d = c.args.d.now in
    rw c.call.ensures (read_refused d.store d.tx d.plan c.args.row.0 c.read-a.ensures (sym c.is_done.ensures ∙ c.if-not-is_done.true))

pub returns : goal.returns
returns c =
    let d = c.args.d.now in
    let e = c.call-2.ensures in
    (λ i. leaves d.store c.read-a.result.tx d.plan (tells (e i).number (third_of c.key_or_dash.result) (e i).more))
    ∙ read_gave d.store d.tx d.plan c.args.row.0 c.read-a.ensures (sym c.is_done.ensures ∙ c.if-not-is_done.false) c.key_or_dash.ensures
