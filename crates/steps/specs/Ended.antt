-- How the steps say where a run ends: its place among the gates, and the cause there, which a 7 names.
use Rattle.std.specs.Prelude.{◌≡◌, Bool, cond, ℕ, Result, Ok, Err, ⊤}
use Rattle.rules.specs.Types.{Store, Tx, Cause, BusyGuard}
use Rattle.steps.specs.declared.gate.Gate.{Gate}
use Rattle.steps.specs.declared.stop.Stop.{Stop}
use Rattle.steps.specs.GateTable.{clean_gate}
use Rattle.steps.specs.Places.{place_of}
use Rattle.steps.specs.Causes.{cause_at}

unfoldable pub stop_place : Result ⊤ Stop → ℕ
stop_place (Ok u) = clean_gate
stop_place (Err s) = place_of s.gate

-- the cause, where there is one
abbrev pub cause_of : Result ⊤ Stop → Cause
cause_of (Ok u) = BusyGuard
cause_of (Err s) = s.cause

-- the cause is that of the place where it ends
unfoldable pub Told : Store → Tx → Result ⊤ Stop → Type 0
Told S x r = cause_of r ≡ cause_at S x (stop_place r)

-- a test's two gates, that of its fault and its own: both tell the test's cause
unfoldable pub two_gates : Bool → Gate → Bool → Gate → Cause → Result ⊤ Stop
two_gates b f c g k = cond b (Err (record { gate = f; cause = k })) (cond c (Err (record { gate = g; cause = k })) (Ok tt))
