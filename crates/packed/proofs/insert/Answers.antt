-- `insert` meets its contract: the number stands at the place found, or goes in there.
use native.Mathlib.Omega.{arith}
use Rattle.packed.specs.Insert.{place_within, insert_there, insert_new}
use Rattle.packed.proofs.insert.Goals.{else-i-m-via-then-i-m+else-x-i, else-i-m-via-else-i-m}
use Rattle.packed.proofs.insert.Goals as goal

pub returns-then-x-i : goal.returns-then-x-i
returns-then-x-i c =
    let s = c.args in
    insert_there s.v s.n c.min-m.result c.seek-i.result s.x.now c.min-m.ensures c.seek-i.ensures (omega arith) c.if-x-i.true c.clear.ensures

pub shift-requires : goal.shift-requires
shift-requires c =
    let s = c.args in (place_within s.v s.n c.min-m.result c.seek-i.result s.x.now c.min-m.ensures c.seek-i.ensures, omega arith)

pub returns : goal.returns
returns c =
    let s = c.args in
    insert_new s.v s.n c.min-m.result c.seek-i.result s.x.now c.min-m.ensures c.seek-i.ensures
    (elim c.else-i-m.branch [ else-i-m-via-then-i-m+else-x-i w ↦ λ _. w.if-x-i.false | else-i-m-via-else-i-m w ↦ λ h. absurd (omega arith) ])
    c.shift.ensures
