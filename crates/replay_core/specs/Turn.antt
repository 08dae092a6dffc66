-- One line at one place: what it makes of the store, of its place's transaction and of the pending faults.
use Rattle.std.specs.Prelude.{◌≡◌, ℕ, ◌<◌, [], ◌∷◌, slice_set, refl}
use Rattle.std.proofs.Common.{sym, ⊎_elim, arith}
use Rattle.std.proofs.lemmas.List.{set-get_or}
use Rattle.records.specs.Limits.{place_limit}
use Rattle.records.specs.Zero.{zero_tx}
use Rattle.rules.specs.Types.{Store, Tx, Schedule, Uncut, After}
use Rattle.basic_laws.specs.Cases.{by}
use Rattle.rules.specs.Numbers.{number_of, is_done}
use Rattle.rules.specs.Calls.{begin}
use Rattle.rules.specs.Recovery.{recover}
use Rattle.rules.specs.Replay.{Line, line_b, line_r, line_w, line_l, line_k, line_a, line_c, line_f, line_v}
use Rattle.rules.specs.Replay.{line_bad, Third, num, Out, Desk, Turn, says, tx_at, with_fault, turn}
use Rattle.rules.specs.Script.{Bytes, split, line_of}
use Rattle.script.specs.Print.{third_of, more_of, tells}
use Rattle.statements.specs.ReplayWords.{IsForm}
use Rattle.sentences.specs.ScriptSays.{line_says}
use Rattle.replay_core.specs.declared.turn.Desk as code
use Rattle.replay_core.specs.declared.turn.Told.{Told}

-- the place that a line names; the first for a line that names none
abbrev pub place_in : Line → ℕ
place_in (line_b i) = i
place_in (line_r i r) = i
place_in (line_w i r v) = i
place_in (line_l i k) = i
place_in (line_k i r) = i
place_in (line_a i) = i
place_in (line_c i m c) = i
place_in (line_f n b k) = 0
place_in line_v = 0
place_in line_bad = 0

-- the same line for the first place
abbrev pub at_first : Line → Line
at_first (line_b i) = line_b 0
at_first (line_r i r) = line_r 0 r
at_first (line_w i r v) = line_w 0 r v
at_first (line_l i k) = line_l 0 k
at_first (line_k i r) = line_k 0 r
at_first (line_a i) = line_a 0
at_first (line_c i m c) = line_c 0 m c
at_first (line_f n b k) = line_f n b k
at_first line_v = line_v
at_first line_bad = line_bad

-- a desk of one place
abbrev pub single : Store → Tx → Schedule → Desk
single S x plan = record { store = S; txs = x ∷ []; plan = plan }

-- what a line leaves and answers at the only place
abbrev pub leaves : Store → Tx → Schedule → Out → Turn
leaves S x plan o = record { desk = single S x plan; out = o }

-- the same for a line that answers no cause
abbrev pub left : Store → Tx → Schedule → ℕ → Third → Turn
left S x plan n t = leaves S x plan (says n t)

-- what the code's desk and answer mean
abbrev pub desk_of : code.Desk → Desk
desk_of d = single d.store d.tx d.plan

abbrev pub told : Told → Out
told t = tells t.number (third_of t.third) (more_of t.more)

abbrev pub turned : code.Desk → Told → Turn
turned d t = leaves d.store d.tx d.plan (told t)

-- a desk of which one place went through a turn
abbrev pub joined : Desk → ℕ → Turn → Turn
joined d i t = record { desk = record { store = t.desk.store; txs = slice_set d.txs i (tx_at t.desk 0); plan = t.desk.plan }; out = t.out }

-- what a place holds, laid there again
same_desk : (d : Desk) (i : ℕ) → d ≡ record { store = d.store; txs = slice_set d.txs i (tx_at d i); plan = d.plan }
same_desk d i = λ j. record { store = d.store; txs = sym (set-get_or d.txs i zero_tx) j; plan = d.plan }

-- a line reads and changes its own place alone
pub turn_alone : (l : Line) (d : Desk) → turn l d ≡ joined d (place_in l) (turn (at_first l) (single d.store (tx_at d (place_in l)) d.plan))
unfolding turn
turn_alone (line_b i) d =
    let a = begin d.store in
    by (is_done a.refusal)
    (λ e. rw e)
    (λ e. rw e (λ j. record { desk = same_desk d i j; out = says (number_of a.refusal) (num 0) }))
turn_alone (line_r i r) d = refl
turn_alone (line_w i r v) d = refl
turn_alone (line_l i k) d = refl
turn_alone (line_k i r) d = refl
turn_alone (line_a i) d = refl
turn_alone (line_c i m c) d = refl
turn_alone (line_f n b k) d = λ j. record {
  desk = record { store = d.store; txs = (same_desk d 0 j).txs; plan = with_fault (record { step = n; letter = b; k = k }) d.plan };
  out = says 0 (num 0);
}
turn_alone line_v d =
    let a = recover d.store in
    λ j. record { desk = record { store = a.store; txs = (same_desk d 0 j).txs; plan = d.plan }; out = says (number_of a.refusal) (num 0) }
turn_alone line_bad d = λ j. record { desk = same_desk d 0 j; out = says 2 (num 0) }

-- a line that is read names one of the places
below : (l : Line) (w : Bytes) → IsForm l w → place_in l < place_limit
below (line_b i) w h = omega (arith, h.2.1)
below (line_r i r) w h = omega (arith, h.3.1)
below (line_w i r v) w h = omega (arith, h.4.1)
below (line_l i k) w h = omega (arith, h.3.1)
below (line_k i r) w h = omega (arith, h.3.1)
below (line_a i) w h = omega (arith, h.2.1)
below (line_c i m Uncut) w h = omega (arith, h.3.1)
below (line_c i m (After n)) w h = omega (arith, h.4.1)
below (line_f n b k) w h = omega arith
below line_v w h = omega arith
below line_bad w h = omega arith

pub place_in_below : (w : Bytes) {l : Line} {p : ℕ} → l ≡ line_of (split 9 w) → p ≡ place_in l → p < place_limit
place_in_below w {l} e q = rw q (⊎_elim (below l w) (λ b. rw b.0 (omega arith)) ((line_says w l).0 (sym e)))
