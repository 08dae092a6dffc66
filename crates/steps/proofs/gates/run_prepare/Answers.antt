-- `run_prepare` meets its contract: its first gate is struck, or the next decides.
use Rattle.std.proofs.Common.{◌&&◌, [], ◌∷◌, arith, rules}
use Rattle.rules.specs.Faults.{F, P}
use Rattle.commit_tests.specs.Striking.{letter_in}
use Rattle.steps.specs.Places.{place_of}
use Rattle.steps.specs.Stops.{hits}
use Rattle.steps.specs.Chained.{ends_here, goes_on}
use Rattle.steps.proofs.gates.run_prepare.Goals as goal

pub returns-in_err-stop_if : goal.returns-in_err-stop_if
unfolding place_of
returns-in_err-stop_if c =
    ends_here 3 ((c.args.logged && hits (letter_in c.args.l.now) 6 F) ∷ []) ((c.args.logged && hits (letter_in c.args.l.now) 6 P) ∷ [])
    c.in_err-stop_if.field-0.0 c.from_residual.result c.from_residual.ensures.1 (search rules)

pub returns : goal.returns
unfolding place_of
returns c =
    goes_on 3 ((c.args.logged && hits (letter_in c.args.l.now) 6 F) ∷ []) ((c.args.logged && hits (letter_in c.args.l.now) 6 P) ∷ [])
    (search rules) (omega arith) (search rules)
