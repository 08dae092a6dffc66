-- `oldest_active` meets its contract: the list is empty where its first place is 0, else it starts with it.
use mathlib.Core.Path.{sym, ap}
use native.Mathlib.Omega.{arith}
use lib.ListN.{get_or}
use Rattle.fields.specs.ActivePlaces.{active_from, active_zero, active_next}
use Rattle.visibility.proofs.active.oldest_active.Goals as goal

pub returns-then-a-eq0 : goal.returns-then-a-eq0
unfolding active_from
returns-then-a-eq0 c = ap (λ l. get_or l 0 c.args.clock) (sym (active_zero _ 0 (omega arith) c.if-a-eq0.true))

pub returns-else-a-eq0 : goal.returns-else-a-eq0
unfolding active_from
returns-else-a-eq0 c = ap (λ l. get_or l 0 c.args.clock) (sym (active_next _ 0 (omega arith) c.if-a-eq0.false))
