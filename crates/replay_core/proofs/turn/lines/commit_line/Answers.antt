-- `commit_line` meets its contract.
use Rattle.std.proofs.Common.{◌∙◌}
use Rattle.script.specs.Print.{more_of, tells}
use Rattle.replay_core.specs.Lines.{committed}
use Rattle.replay_core.specs.Turn.{leaves}
use Rattle.replay_core.proofs.turn.lines.commit_line.Goals as goal

pub returns : goal.returns
returns c =
    let d = c.args.d.now in
    let a = c.commit-a.result in
    let e = c.call.ensures in
    (λ i. leaves a.store a.tx c.none-d.result (tells (e i).number (e i).third (more_of c.more_in.result)))
    ∙ committed d.store d.tx d.plan c.args.logged c.args.cut c.commit-a.ensures c.more_in.ensures c.none-d.ensures
