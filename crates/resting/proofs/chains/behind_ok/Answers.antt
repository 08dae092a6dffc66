-- `behind_ok` meets its contract.
use mathlib.Core.Logic.{⊎_elim}
use native.Mathlib.Omega.{arith}
use borrow.Author.Tests.{eq-eqb, ne_eqb}
use Rattle.records.specs.Limits.{places}
use Rattle.resting.specs.VersionTurns.{behind_none, behind_next}
use Rattle.fields.specs.Lent.{lent_at}
use Rattle.resting.proofs.chains.behind_ok.Goals as goal

pub returns-then-p-eq0 : goal.returns-then-p-eq0
returns-then-p-eq0 c = behind_none _ _ _ c.if-p-eq0.true

pub returns-then-by-t : goal.returns-then-by-t
returns-then-by-t c =
    behind_next _ _ _ _ _ c.if-p-eq0.false (lent_at places c.args.s.now.xmax 0 (omega arith) c.place.ensures c.at-by.ensures)
    (⊎_elim (λ e. rw (eq-eqb c.at-by.result 0 e) c.tail_ok.ensures)
    (λ e. rw (ne_eqb c.at-by.result 0 e.0, eq-eqb c.at-by.result c.args.t e.1) c.tail_ok.ensures) c.if-by-t.either)

pub returns-else-by-t : goal.returns-else-by-t
returns-else-by-t c =
    behind_next _ _ _ _ _ c.if-p-eq0.false (lent_at places c.args.s.now.xmax 0 (omega arith) c.place.ensures c.at-by.ensures)
    (rw (ne_eqb _ _ c.if-by-t.false.0, ne_eqb _ _ c.if-by-t.false.1) (cc))
