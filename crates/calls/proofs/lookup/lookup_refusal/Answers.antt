-- `lookup_refusal` meets its contract: refused before, or by its own tests in their order.
use Rattle.std.proofs.Common.{rules}
use Rattle.calls.specs.Refused.{unless_err, unless_ok, first_tries}
use Rattle.calls.specs.LookupAnswer.{minute_tries}
use Rattle.calls.proofs.lookup.lookup_refusal.Goals as goal

pub returns-in_err-healthy : goal.returns-in_err-healthy
returns-in_err-healthy c = let kept = unless_err (first_tries c.args.s.now c.args.x.now) (minute_tries c.args.k) c.in_err-healthy.ensures in search rules

pub returns : goal.returns
unfolding minute_tries
returns c = unless_ok _ _ _ c.in_ok-healthy.ensures (search rules)
