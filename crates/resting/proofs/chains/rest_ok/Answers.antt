-- `rest_ok` meets its contract.
use mathlib.Core.Path.{refl}
use native.Mathlib.Omega.{arith}
use borrow.Author.Tests.{eq-eqb, ne_eqb}
use Rattle.records.specs.Limits.{places}
use Rattle.fields.specs.Lent.{lent_at}
use Rattle.resting.specs.Used.{settled_by, rest_at}
use Rattle.resting.proofs.chains.rest_ok.Goals as goal

pub returns-then-at-eq0 : goal.returns-then-at-eq0
unfolding rest_at
returns-then-at-eq0 c = rw (← lent_at places c.args.seen.now 0 (omega arith) refl c.at.ensures, eq-eqb _ _ c.if-at-eq0.true)

pub returns-then-settled : goal.returns-then-settled
unfolding rest_at settled_by
returns-then-settled c =
    let S = c.args.s.now in
    rw (
      ← lent_at places c.args.seen.now 0 (omega arith) refl c.at.ensures,
      ← lent_at places S.xmin 0 (omega arith) refl c.at-else-at-eq0.ensures,
      ← lent_at places S.xmax 0 (omega arith) refl c.at-then-settled.ensures,
      ne_eqb _ _ c.if-at-eq0.false,
      ← c.settled.ensures,
      c.if-settled.true,
    ) c.settled-then-settled.ensures

pub returns-else-settled : goal.returns-else-settled
unfolding rest_at settled_by
returns-else-settled c =
    rw (
      ← lent_at places c.args.seen.now 0 (omega arith) refl c.at.ensures,
      ← lent_at places c.args.s.now.xmin 0 (omega arith) refl c.at-else-at-eq0.ensures,
      ne_eqb _ _ c.if-at-eq0.false,
      ← c.settled.ensures,
      c.if-settled.false,
    )
