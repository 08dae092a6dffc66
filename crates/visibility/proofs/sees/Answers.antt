-- `sees` meets its contract, by its tests in order; the snapshot is as long as its type says.
use Rattle.std.proofs.Common.{◌≡◌, ap, not, length, rules}
use borrow.Author.Tests.{lt-ltb, le-ltb}
use Rattle.records.specs.Limits.{active_limit}
use Rattle.rules.specs.Transaction.{sees}
use Rattle.fields.specs.Lent.{array_same}
use Rattle.visibility.proofs.sees.Goals as goal

pub returns-then-eq : goal.returns-then-eq
unfolding sees
returns-then-eq c = rw (← c.eq.ensures, c.if-eq.true)

pub returns-then-t-x : goal.returns-then-t-x
unfolding sees
returns-then-t-x c =
    let x = c.args.x.now in
    let long : length x.snapshot ≡ active_limit = search rules in
    rw (← c.eq.ensures, c.if-eq.false, lt-ltb _ _ c.if-t-x.true, ← array_same active_limit 0 x.snapshot long) (ap not c.in_snapshot.ensures)

pub returns-else-t-x : goal.returns-else-t-x
unfolding sees
returns-else-t-x c = rw (← c.eq.ensures, c.if-eq.false, le-ltb _ _ c.if-t-x.false)
