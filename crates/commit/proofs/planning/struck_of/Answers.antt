-- `struck_of` meets its contract, part by part: the callback poisons too by either letter.
use Rattle.std.proofs.Common.{◌≡◌, rules, true, false, eqb}
use Rattle.rules.specs.Faults.{X}
use Rattle.commit_tests.specs.Striking.{letter_in}
use Rattle.commit.specs.Planning.{struck_is}
use Rattle.commit.proofs.planning.struck_of.Goals as goal

pub returns-then-strikes : goal.returns-then-strikes
returns-then-strikes c = λ S x logged plan is p.
    let e : eqb (letter_in c.args.l.now 16) X ≡ true = search rules in
    let z = rw e at (struck_is S x logged plan is p) in search rules

pub returns-else-strikes : goal.returns-else-strikes
returns-else-strikes c = λ S x logged plan is p.
    let e : eqb (letter_in c.args.l.now 16) X ≡ false = search rules in
    let z = rw e at (struck_is S x logged plan is p) in search rules
