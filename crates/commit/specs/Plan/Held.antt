-- What the journal holds when a run is pushed into an empty one: the puts of the run.
use Rattle.std.specs.Prelude.{◌≡◌, Bool, List, [], ◌∷◌, ◌++◌, map, ℕ, ◌≤◌, get_or}
use Rattle.std.proofs.Common.{◌∙◌}
use Rattle.rules.specs.Types.{Store, Tx, Schedule}
use Rattle.rules.specs.Puts.{Put}
use Rattle.rules.specs.Commit.{run_of}
use Rattle.run_laws.specs.Gates.{gates, clean}
use Rattle.steps.specs.GateTable.{clean_gate}
use Rattle.journal.specs.Adds.{Adds, adds_all}
use Rattle.commit.specs.declared.plan.run.Plan.{Plan}
use Rattle.commit.specs.declared.plan.run.Struck.{Struck}
use Rattle.commit.specs.Plan.Room.{run_room}
use Rattle.commit.specs.Plan.Parts.{puts_at, puts_at_law}
use Rattle.commit.specs.Plan.Planned.{Planned}

-- g is the gate at which the run ends
pub run_held : {S : Store} {x : Tx} {logged : Bool} {plan : Schedule} {p : Plan} {s : Struck} {after : List Put} (g : ℕ)
    → Planned S x logged plan p s → g ≤ clean_gate
    → (run_of S x logged plan).puts
    ≡ get_or (map (λ h. h.then.puts) (gates S x logged plan) ++ (clean S x logged plan).puts ∷ []) g (clean S x logged plan).puts
    → Adds [] (puts_at S x logged plan g) after → after ≡ (run_of S x logged plan).puts
run_held {S} {x} {logged} {plan} g h le at a =
    let e = at ∙ puts_at_law S x logged plan g le in
    rw e (adds_all a (rw e at (run_room S x logged plan h.fits h.long)))
