-- `healthy` meets its contract: refused before, or by its own tests in their order.
use Rattle.std.proofs.Common.{rules, true}
use Rattle.admit.specs.Admission.{admitted}
use Rattle.calls.specs.Refused.{unless_err, unless_ok, poisoned_tries}
use Rattle.calls.proofs.refusal.healthy.Goals as goal

pub returns-in_err-admitted : goal.returns-in_err-admitted
returns-in_err-admitted c =
    let kept = unless_err (admitted c.args.s.now c.args.x.now true) (poisoned_tries c.args.s.now.poisoned) c.in_err-admitted.ensures in
    search rules

pub returns : goal.returns
unfolding poisoned_tries
returns c = unless_ok _ _ _ c.in_ok-admitted.ensures (search rules)
