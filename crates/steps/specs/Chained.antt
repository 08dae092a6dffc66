-- Steps one after another: one of them ends the run, or the next ones decide.
use Rattle.std.specs.Prelude.{◌≡◌, Bool, List, [], ◌∷◌, true, false, ◌++◌, ℕ, suc, ◌+◌, ◌≤◌, length, Result, Ok, Err, IsErrAnd, ⊤}
use Rattle.std.proofs.Common.{refl, sym, ap, ◌∙◌, arith}
use Rattle.rules.specs.Types.{Store, Tx, Cause, BusyGuard}
use Rattle.steps.specs.declared.gate.Gate.{Gate}
use Rattle.steps.specs.declared.stop.Stop.{Stop}
use Rattle.steps.specs.GateTable.{clean_gate, row_at}
use Rattle.steps.specs.Causes.{cause_after, cause_at}
use Rattle.steps.specs.Places.{place_of, place_below, end_place}
use Rattle.steps.specs.Ended.{stop_place, Told, two_gates}
use Rattle.steps.specs.Stops.{gate_from, gate_stops, gate_goes}

-- what `?` passes on: the gate as it is, the gate as a stop, the stop as it is
pub passed_on : (g : Gate) (q : Result ⊤ Gate) → IsErrAnd q (λ h. h ≡ g) → end_place q ≡ place_of g
unfolding end_place
passed_on g (Ok u) p = absurd p
passed_on g (Err h) p = ap place_of p

pub passed_as_stop : (g : Gate) (q : Result ⊤ Stop) → IsErrAnd q (λ s. s ≡ record { gate = g; cause = BusyGuard })
    → q ≡ Err (record { gate = g; cause = BusyGuard })
passed_as_stop g (Ok u) p = absurd p
passed_as_stop g (Err s) p = ap Err p

pub passed_stop : (s : Stop) (q : Result ⊤ Stop) → IsErrAnd q (λ t. t ≡ s) → q ≡ Err s
passed_stop s (Ok u) p = absurd p
passed_stop s (Err t) p = ap Err p

-- a step that no gate is of doesn't end the run
pub never : (g : Gate) → end_place (Err g) ≡ clean_gate → ⊥
unfolding end_place
never g e = let below = place_below g in omega arith

module _ (n : ℕ) (bs cs : List Bool) where
  pub ends_here : (g : Gate) (q : Result ⊤ Gate) → IsErrAnd q (λ h. h ≡ g) → end_place (Err g) ≡ gate_from n bs → end_place q ≡ gate_from n (bs ++ cs)
  unfolding end_place
  ends_here g q gives e = passed_on g q gives ∙ gate_stops n (place_of g) bs cs e (place_below g)

  pub goes_on : {u : ⊤} {q : ℕ} → end_place (Ok u) ≡ gate_from n bs → n + length bs ≤ clean_gate → q ≡ gate_from (n + length bs) cs → q ≡ gate_from n (bs ++ cs)
  unfolding end_place
  goes_on e few t = gate_goes n clean_gate _ bs cs e (omega arith) few t

  pub stops_here : (s : Stop) → stop_place (Err s) ≡ gate_from n bs → stop_place (Err s) ≡ gate_from n (bs ++ cs)
  unfolding stop_place
  stops_here s e = gate_stops n (place_of s.gate) bs cs e (place_below s.gate)

  pub stops_on : {u : ⊤} {q : ℕ} → stop_place (Ok u) ≡ gate_from n bs → n + length bs ≤ clean_gate → q ≡ gate_from (n + length bs) cs
      → q ≡ gate_from n (bs ++ cs)
  unfolding stop_place
  stops_on e few t = gate_goes n clean_gate _ bs cs e (omega arith) few t

-- a clean run has no cause
pub clean_told : (S : Store) (x : Tx) (u : ⊤) → Told S x (Ok u)
unfolding Told stop_place row_at cause_after
clean_told S x u = refl

-- a test's two gates, one after the other: the first that holds ends the run, with the test's cause
pub tested_ends : (S : Store) (x : Tx) (n : ℕ) (f g : Gate) (k : Cause)
    → place_of f ≡ n → place_of g ≡ suc n → k ≡ cause_at S x n → k ≡ cause_at S x (suc n)
    → (a b c d : Bool) → a ≡ b → c ≡ d → {q : Result ⊤ Stop} → q ≡ two_gates a f c g k → (stop_place q ≡ gate_from n (b ∷ d ∷ [])) × Told S x q
unfolding two_gates gate_from stop_place Told row_at cause_after
tested_ends S x n f g k pf pg kf kg a true c d h e q = rw (q, h) (pf, kf ∙ ap (cause_at S x) (sym pf))
tested_ends S x n f g k pf pg kf kg a false c true h e q = rw (q, h, e) (pg, kg ∙ ap (cause_at S x) (sym pg))
tested_ends S x n f g k pf pg kf kg a false c false h e q = rw (q, h, e) (refl, refl)
