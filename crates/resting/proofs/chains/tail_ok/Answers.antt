-- `tail_ok` meets its contract: what is left from slot q on decides as the whole does.
use mathlib.Core.Path.{◌≡◌, sym, ◌∙◌}
use Prim.Native.Nat.{◌+◌, ◌-◌}
use native.Mathlib.Omega.{arith}
use Rattle.records.specs.Limits.{places}
use Rattle.resting.specs.VersionTurns.{tail_null, tail_out, tail_unfinished, tail_over, tail_step}
use Rattle.fields.specs.Lent.{lent_at}
use Rattle.resting.proofs.chains.tail_ok.Goals as goal
use Rattle.resting.proofs.chains.tail_ok.Goals.{then-at-v-via-then-at-v, then-at-v-via-else-at-v+then-not-is_finished}

pub returns-then-q-eq0 : goal.returns-then-q-eq0
returns-then-q-eq0 c = tail_null _ _ _ _ _ c.loop-turn.invariant c.if-q-eq0.true

pub returns-then-at-v : goal.returns-then-at-v
returns-then-at-v c = elim c.then-at-v.branch [
  | then-at-v-via-then-at-v w ↦
      tail_over _ _ _ _ _ c.loop-turn.invariant (omega arith) c.if-q-eq0.false _
      (lent_at places c.args.s.now.xmax 0 (omega arith) c.place-i.ensures c.at.ensures) w.if-at-v.true
  | then-at-v-via-else-at-v+then-not-is_finished w ↦
      tail_unfinished _ _ _ _ _ c.loop-turn.invariant (omega arith) c.if-q-eq0.false _
      (lent_at places c.args.s.now.xmin 0 (omega arith) c.place-i.ensures c.at-t.ensures)
      (sym w.is_finished.ensures ∙ w.if-not-is_finished.true)
]

pub loop-turn-preserved : goal.loop-turn-preserved
loop-turn-preserved c =
    let one : c.args.left - c.loop-turn._turn - 1 ≡ c.args.left - (c.loop-turn._turn + 1) = omega arith in
    rw one at (tail_step _ _ _ _ _ c.loop-turn.invariant (omega arith) c.if-q-eq0.false _ _ _
    (lent_at places c.args.s.now.xmin 0 (omega arith) c.place-i.ensures c.at-t.ensures)
    (lent_at places c.args.s.now.xmax 0 (omega arith) c.place-i.ensures c.at.ensures)
    (lent_at places c.args.s.now.next 0 (omega arith) c.place-i.ensures c.at-q.ensures)
    (sym c.is_finished.ensures ∙ c.if-not-is_finished.false)
    c.if-at-v.false)

pub returns : goal.returns
returns c = tail_out _ _ _ _ _ c.loop-turn.invariant (omega arith)
