-- `write_refusal` meets its contract: refused before, or by its own tests in their order.
use Rattle.std.proofs.Common.{rules, eqb}
use Rattle.rules.specs.Store.{impossible}
use Rattle.calls.specs.Refused.{unless_err, unless_ok, first_tries}
use Rattle.calls.specs.WriteAnswer.{write_tries}
use Rattle.calls.proofs.write.write_refusal.Goals as goal

pub returns-in_err-healthy : goal.returns-in_err-healthy
returns-in_err-healthy c =
    let kept = unless_err (first_tries c.args.s.now c.args.x.now)
    (write_tries c.args.r.0 c.args.x.now.write_count (impossible c.args.v) (eqb c.args.free.0 0)) c.in_err-healthy.ensures in
    search rules

pub returns-in_err-refuse : goal.returns-in_err-refuse
unfolding write_tries
returns-in_err-refuse c = unless_ok _ _ _ c.in_ok-healthy.ensures (search rules)

pub returns-in_err-refuse-2 : goal.returns-in_err-refuse-2
unfolding write_tries
returns-in_err-refuse-2 c = unless_ok _ _ _ c.in_ok-healthy.ensures (search rules)

pub returns-in_err-refuse-3 : goal.returns-in_err-refuse-3
unfolding write_tries
returns-in_err-refuse-3 c = unless_ok _ _ _ c.in_ok-healthy.ensures (search rules)

pub returns : goal.returns
unfolding write_tries
returns c = unless_ok _ _ _ c.in_ok-healthy.ensures (search rules)
