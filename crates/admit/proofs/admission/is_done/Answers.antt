-- `is_done` meets its contract: whatever is another refusal than `Done` has another number than 0.
use mathlib.Core.Path.{◌≡◌, refl, sym}
use mathlib.Core.Bool.{false}
use Rattle.rules.specs.Types.{Refusal, Done}
use Rattle.rules.specs.Numbers.{is_done}
use Rattle.basic_laws.specs.Refusals.{Case, done, seven, plain, case_of}
use Rattle.admit.proofs.admission.is_done.Goals as goal

-- any other is not done
other : {w : Refusal} → Case w → (w ≡ Done → ⊥) → false ≡ is_done w
other done n = absurd (n refl)
other (seven c f) n = refl
other (plain d m) n = sym d

pub returns-in-Done : goal.returns-in-Done
returns-in-Done c = rw c.in-Done.is

pub returns-in_default : goal.returns-in_default
returns-in_default c = other (case_of c.args.why) c.in_default.not-Done
