-- `visible_version` meets its contract: what is found from the present version on is what is found from the head on.
use Rattle.std.proofs.Common.{◌≡◌, ◌-◌, ◌+◌, ◌<◌, sym, ◌∙◌, arith}
use borrow.Author.Tests.{eqb-true, eqb-false}
use Rattle.records.specs.Limits.{places}
use Rattle.visibility.specs.ChainTurns.{visible_whole, visible_out, visible_end, visible_here, visible_next}
use Rattle.visibility.proofs.chain.visible_version.Goals as goal
use Rattle.visibility.proofs.chain.visible_version.Goals.{then-eq-via-then-eq, then-eq-via-else-eq+then-sees}

pub returns-then-eq : goal.returns-then-eq
returns-then-eq c =
    let left : 0 < places - c.loop.counter = omega (arith, c.loop-test.true) in
    let whole = c.loop.invariant ∙ visible_whole _ _ _ _ _ _ c.head_of-p.ensures in
    elim c.then-eq.branch [
      | then-eq-via-then-eq w ↦
          let e = eqb-true _ _ (sym c.eq.ensures ∙ w.if-eq.true) in e ∙ sym (visible_end _ _ _ _ _ e) ∙ whole
      | then-eq-via-else-eq+then-sees w ↦
          let n = eqb-false _ _ (sym c.eq.ensures ∙ w.if-eq.false) in
          sym (visible_here _ _ _ _ _ _ left n w.txid_at.ensures (sym w.sees.ensures ∙ w.if-sees.true)) ∙ whole
    ]

pub loop-preserved : goal.loop-preserved
loop-preserved c =
    let left : 0 < places - c.loop.counter = omega (arith, c.loop-test.true) in
    let less : places - c.loop.counter - 1 ≡ places - (c.loop.counter + 1) = omega arith in
    let n = eqb-false _ _ (sym c.eq.ensures ∙ c.if-eq.false) in
    rw less at (sym (visible_next _ _ _ _ _ _ _ left n c.txid_at.ensures (sym c.sees.ensures ∙ c.if-sees.false) c.pointer_at-p.ensures) ∙ c.loop.invariant)

pub returns : goal.returns
returns c =
    let e : places - c.loop.counter ≡ 0 = omega (arith, c.loop-test.false) in
    sym (visible_out _ _ _ _) ∙ (rw e at c.loop.invariant ∙ visible_whole _ _ _ _ _ _ c.head_of-p.ensures)
