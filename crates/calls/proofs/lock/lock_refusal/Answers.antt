-- `lock_refusal` meets its contract: refused before, or by its own tests in their order.
use Rattle.std.proofs.Common.{rules}
use Rattle.calls.specs.Refused.{unless_err, unless_ok, first_tries}
use Rattle.calls.specs.LockAnswer.{lock_tries}
use Rattle.calls.proofs.lock.lock_refusal.Goals as goal

pub returns-in_err-healthy : goal.returns-in_err-healthy
returns-in_err-healthy c =
    let kept = unless_err (first_tries c.args.s.now c.args.x.now) (lock_tries c.args.r.0 c.args.locked c.args.head.0) c.in_err-healthy.ensures in
    search rules

pub returns-in_err-refuse : goal.returns-in_err-refuse
unfolding lock_tries
returns-in_err-refuse c = unless_ok _ _ _ c.in_ok-healthy.ensures (search rules)

pub returns-in_err-refuse-2 : goal.returns-in_err-refuse-2
unfolding lock_tries
returns-in_err-refuse-2 c = unless_ok _ _ _ c.in_ok-healthy.ensures (search rules)

pub returns : goal.returns
unfolding lock_tries
returns c = unless_ok _ _ _ c.in_ok-healthy.ensures (search rules)
