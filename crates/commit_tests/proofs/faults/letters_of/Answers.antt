-- `letters_of` meets its contract: the faults put in are those from i on.
use Rattle.std.proofs.Common.{◌≡◌, ◌∙◌, sym, ap, arith, length}
use Rattle.std.proofs.Math.ListN.{drop_of_length-le}
use Rattle.commit_tests.specs.Striking.{table_of, table_none, table_in, table_out, letters_are, fault_next}
use Rattle.commit_tests.proofs.faults.letters_of.Goals as goal

pub loop-i-init : goal.loop-i-init
loop-i-init c =
    let l = c.listed-faults.result.now in
    table_none ∙ ap table_of (sym (drop_of_length-le l {i = length l} (omega arith)))

pub loop-i-preserved-then-step-lt-FAULTS : goal.loop-i-preserved-then-step-lt-FAULTS
loop-i-preserved-then-step-lt-FAULTS c =
    table_in _ _ _ _ (fault_next c.listed-faults.result.now c.loop-i.i (omega arith) (omega arith)) c.loop-i.invariant

pub loop-i-preserved : goal.loop-i-preserved
loop-i-preserved c =
    table_out _ _ _ _ (fault_next c.listed-faults.result.now c.loop-i.i (omega arith) (omega arith)) c.loop-i.invariant (omega arith)

pub returns : goal.returns
returns c =
    let e : c.loop-i.i ≡ 0 = omega arith in
    letters_are _ (rw (e, c.listed-faults.ensures) at c.loop-i.invariant)
