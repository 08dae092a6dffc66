-- `index_changes` meets its contract. The invariant: what is noted so far are the changes of the writes passed.
use Rattle.std.proofs.Common.{◌≡◌, sym, ap, ◌∙◌, arith, rules}
use Rattle.std.proofs.Math.Bool.{true, false}
use Rattle.rules.specs.Store.{same_value}
use Rattle.rules.specs.Changes.{destinations, sources}
use Rattle.fields.specs.Lent.{at_places, flags_at_places}
use Rattle.commit.specs.Plan.Moves.{no_stripes, changed_marks, moves_of, changes_none, changes_to_few, next_same, next_new, changes_all}
use Rattle.commit.proofs.plan.moves.index_changes.Goals as goal
use Rattle.commit.proofs.plan.moves.index_changes.Goals.{then-ne, else-ne}

pub loop-w-init : goal.loop-w-init
unfolding no_stripes changed_marks moves_of destinations sources
loop-w-init c = λ few.
    let s = c.args.s.now in
    rw (c.none.ensures, c.none-2.ensures, changes_none (at_places s.key) (flags_at_places s.has) c.args.writes.now)

pub loop-w-preserved : goal.loop-w-preserved
loop-w-preserved c = λ few.
    let key = at_places c.args.s.now.key in
    let has = flags_at_places c.args.s.now.has in
    let ws = c.args.writes.now in
    let i = c.loop-w.w-index in
    let some = changes_to_few key has ws i in
    let b = c.value_at-before.result in
    let a = c.value_at-after.result in
    elim c.if-ne.branch [
      | then-ne w ↦
          let differ : same_value b a ≡ false = search rules in
          rw w.m-is (w.note.ensures _ (c.loop-w.invariant few) (omega arith)
          ∙ ap moves_of (sym (next_new key has ws i (omega arith) b a c.value_at-before.ensures c.value_at-after.ensures differ)))
      | else-ne w ↦
          let agree : same_value b a ≡ true = search rules in
          rw w.m-is (c.loop-w.invariant few
          ∙ ap moves_of (sym (next_same key has ws i (omega arith) b a c.value_at-before.ensures c.value_at-after.ensures agree)))
    ]

pub returns : goal.returns
returns c = λ few. let a = c.args in c.loop-w.invariant few ∙ ap moves_of (changes_all _ _ a.writes.now _ (omega arith))
