-- `find_place` meets its contract: the looks so far and the search of what is left make the whole search.
use native.Mathlib.Omega.{arith}
use Rattle.packed.specs.HalvingTurns.{turn_start, turn_end, turn_behind, turn_before}
use Rattle.packed.proofs.halving.find_place.Goals as goal

pub loop-size-init : goal.loop-size-init
loop-size-init c = (omega arith, omega arith, turn_start _ _ _ _ c.min-size.ensures)

pub loop-size-preserved-then-x-middle : goal.loop-size-preserved-then-x-middle
loop-size-preserved-then-x-middle c =
    let s = c.args in
    (omega arith, omega arith, turn_behind s.v s.n _ c.loop-size.from c.loop-size.size _ c.loop-size.invariant.2 (omega arith) (omega arith) c.if-x-middle.true)

pub loop-size-preserved : goal.loop-size-preserved
loop-size-preserved c =
    let s = c.args in (
      omega arith,
      omega arith,
      turn_before s.v s.n _ c.loop-size.from c.loop-size.size _ c.loop-size.invariant.2 (omega arith) (omega arith) c.if-x-middle.false,
    )

pub returns : goal.returns
returns c =
    let s = c.args in
    turn_end s.v s.n s.x.now c.loop-size.from c.loop-size.size c.loop-size.looks c.loop-size.invariant.2 (omega arith)
