-- `walk_all` meets its contract. What is left to walk, from the present row and slot on, gives what the whole walk gives.
use mathlib.Core.Path.{◌≡◌, sym, ap, ◌∙◌}
use native.Mathlib.Omega.{arith}
use borrow.Author.Rules.{rules}
use borrow.Author.Tests.{ltb-false}
use lib.ListN.{length}
use Rattle.records.specs.Limits.{rows, no_marks}
use Rattle.rules.specs.Chains.{walk}
use Rattle.fields.specs.Lent.{at_rows, at_places, array_length, array_at}
use Rattle.basic_laws.specs.Walk.{after, row_end, row_out}
use Rattle.fields.specs.Walked.{row_high, row_twice, row_step, rows_end, rows_cons, after_end, after_stop}
use Rattle.fields.proofs.walk.walk_all.Goals as goal
use Rattle.fields.proofs.walk.walk_all.Goals.{then-left-eq0-via-then-left-eq0, then-left-eq0-via-else-left-eq0+then-i-gt-SLOTS}
use Rattle.fields.proofs.walk.walk_all.Goals.{then-left-eq0-via-else-left-eq0+else-i-gt-SLOTS+then-seen-i-ne0}

pub rows-init : goal.rows-init
unfolding no_marks walk
rows-init c = search rules

pub loop-p-init : goal.loop-p-init
loop-p-init c =
    let heads = c.args.heads.now in
    let r = c.rows.head-index in
    let n : length heads ≡ rows = search rules in
    let l : length (at_rows heads) ≡ rows = array_length rows 0 _ in
    let turn = rows_cons (at_places c.args.next.now) (at_rows heads) c.rows.seen r (omega arith) in
    (omega arith, search rules, sym (rw (array_at rows 0 heads r (omega arith)) at turn) ∙ c.rows.invariant.1)

pub loop-p-preserved : goal.loop-p-preserved
loop-p-preserved c = (
  omega arith,
  search rules,
  ap
      (after _ _)
      (sym
      (row_step
      _
      _
      _
      _
      _
      _
      _
      c.place-i.ensures
      (omega arith)
      (omega arith)
      (omega (arith, ltb-false))
      c.if-seen-i-ne0.false
      (array_at _ _ _ _ (omega (arith, ltb-false)))))
      ∙ c.loop-p.invariant.2,
)

pub rows-preserved : goal.rows-preserved
rows-preserved c = (search rules, sym (after_end _ _ _ _ (row_end _ _ _ _ (omega arith))) ∙ c.loop-p.invariant.2)

pub returns-after-rows : goal.returns-after-rows
returns-after-rows c =
    let n : length c.args.heads.now ≡ rows = search rules in
    let l : length (at_rows c.args.heads.now) ≡ rows = array_length rows 0 _ in
    rw c.rows.invariant.0
    (sym (rows_end _ (at_rows c.args.heads.now) _ c.rows.head-index (omega arith)) ∙ c.rows.invariant.1)

pub returns-then-left-eq0 : goal.returns-then-left-eq0
returns-then-left-eq0 c =
    let e = c.place-i.ensures in
    let left = c.loop-p.invariant.2 in
    elim c.then-left-eq0.branch [
      | then-left-eq0-via-then-left-eq0 w ↦ after_stop _ _ _ _ _ left (row_out _ _ _ _ w.if-left-eq0.true (omega arith))
      | then-left-eq0-via-else-left-eq0+then-i-gt-SLOTS w ↦
          after_stop _ _ _ _ _ left (row_high _ _ _ _ _ e w.if-left-eq0.false (omega arith) w.if-i-gt-SLOTS.true)
      | then-left-eq0-via-else-left-eq0+else-i-gt-SLOTS+then-seen-i-ne0 w ↦
          after_stop _ _ _ _ _ left (row_twice _ _ _ _ _ e w.if-left-eq0.false (omega arith) w.if-i-gt-SLOTS.false w.if-seen-i-ne0.true)
    ]
