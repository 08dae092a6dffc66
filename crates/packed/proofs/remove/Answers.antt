-- `remove` meets its contract: no more numbers than the array has.
use Rattle.packed.specs.Packed.{take_within}
use Rattle.packed.proofs.remove.Goals as goal

pub returns : goal.returns
returns c =
    let s = c.args in
    rw (← (take_within s.n c.min-first.result s.x.now c.min-first.ensures))
    c.strip.ensures
