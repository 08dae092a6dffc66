-- Document 02's wish 4: "without them each line is what it was before this landing". The cause goes nowhere but into the fourth and the fifth field.
use Rattle.std.specs.Prelude.{◌≡◌, Bool, cond, ◌&&◌, ℕ, zero, suc, ◌/◌, ◌%◌, ◌+◌, ◌<◌, eqb, take, set}
use Rattle.std.proofs.Math.Path.{refl, ap}
use Rattle.std.proofs.Common.{sym, ◌∙◌, arith, ne_eqb}
use Rattle.std.proofs.Math.Bool.{true, false}
use mathlib.Core.List.{List, [], ◌∷◌, ◌++◌, map}
use Rattle.std.proofs.Math.Dec.{ltb}
use Rattle.std.proofs.Math.ListN.{length}
use Rattle.records.specs.Limits.{digits64}
use Rattle.records.specs.Zero.{no_faults}
use Rattle.rules.specs.Lists.{memb}
use Rattle.rules.specs.Types.{Store, Tx, Schedule, Answer, Cut, Uncut, After, Cause, Conflict, BusyGuard, StepFailed}
use Rattle.rules.specs.Store.{active_txids}
use Rattle.rules.specs.Admitted.{resting}
use Rattle.rules.specs.Fit.{fit}
use Rattle.rules.specs.Faults.{schedule_fit}
use Rattle.rules.specs.Numbers.{number_of, is_done, fate, More, nothing, cause, test_named, place_named}
use Rattle.rules.specs.Puts.{Put, apply_all}
use Rattle.rules.specs.Tests.{index_read_conflict, row_lock_conflict, serialization_conflict, write_base_conflict}
use Rattle.rules.specs.Changes.{release}
use Rattle.rules.specs.Commit.{Step, goes, ends, stop_if, Run, run, committed, test, stays, fails, abort_or_poison, steps, run_of}
use Rattle.rules.specs.Calls.{begin}
use Rattle.rules.specs.Answer.{uncut, cut_off, answer, commit}
use Rattle.rules.specs.Replay.{Line, line_b, line_r, line_w, line_l, line_k, line_a, line_c, line_f, line_v, line_bad}
use Rattle.rules.specs.Replay.{Third, num, dash, Out, Desk, tx_at, says, start, turn, replay_from, replay}
use Rattle.rules.specs.Script.{Bytes, split, lines_in, parse, decimal, third, more, write, replay_text}
use Rattle.basic_laws.specs.Cases.{by, or_neither}
use Rattle.statements.specs.EarlierWords.{test_then, steps_then, run_then, commit_then, turn_then, replay_then, write_then, text_then, SameLines}
use Rattle.sentences.specs.ScriptSays.{split_on, lines_fed}
use Rattle.sentences.specs.ReplaySays.{in_full, line_first}

-- THE RUN

-- what a replay sees of a run: neither the cause nor the events
record Alike (r s : Run) : Type 0 where
  puts : r.puts ≡ s.puts
  number : number_of r.end.refusal ≡ number_of s.end.refusal
  tx : r.end.tx ≡ s.end.tx

-- .. and of an answer
record Told (a b : Answer) : Type 0 where
  number : number_of a.refusal ≡ number_of b.refusal
  store : a.store ≡ b.store
  tx : a.tx ≡ b.tx
  stores : a.stores ≡ b.stores

itself : (a : Answer) → Told a a
itself a = record { number = refl; store = refl; tx = refl; stores = refl }

either : (b d : Bool) {a a' c c' : Answer} → b ≡ d → Told a c → Told a' c' → Told (cond b a a') (cond d c c')
either b true e h k = rw e h
either b false e h k = rw e k

-- a 7 is a 7, whatever its cause
seven : (failed : Bool) (c : Cause) → number_of (cond failed (Conflict c) (Conflict c) (fate failed true)) ≡ 7
seven true c = refl
seven false c = refl

module _ (S : Store) (x : Tx) (logged : Bool) (plan : Schedule) where
  record Beside (ss us : List Step) : Type 0 where
    are : Alike (run (committed x) ss) (run (committed x) us)

  over : Beside [] []
  over = record { are = record { puts = refl; number = refl; tx = refl } }

  -- one and the same step
  same : (s : Step) {ss us : List Step} → Beside ss us → Beside (s ∷ ss) (s ∷ us)
  same (goes ps) h = record { are = record { puts = ap (λ (qs : List Put). ps ++ qs) h.are.puts; number = h.are.number; tx = h.are.tx } }
  same (ends ps d) h = record { are = record { puts = refl; number = refl; tx = refl } }

  stopped : (b : Bool) {s t u v : Step} {ss us : List Step} → Beside (s ∷ ss) (t ∷ us) → Beside (u ∷ ss) (v ∷ us)
      → Beside (stop_if b s u ∷ ss) (stop_if b t v ∷ us)
  unfolding stop_if
  stopped true h k = record { are = h.are }
  stopped false h k = record { are = k.are }

  tested : (n : ℕ) (b : Bool) (c : Cause) {ss us : List Step} → Beside ss us
      → Beside (test_then S x logged plan n b ∷ ss) (test S x logged plan n b c ∷ us)
  tested n b c h =
      let f = (abort_or_poison S x logged plan S.poisoned).failed in
      stopped (fails S x logged plan n) (same (stays S x logged plan (release S x) StepFailed) h)
      (stopped b (record { are = record { puts = refl; number = seven f BusyGuard ∙ sym (seven f c); tx = refl } }) (same (goes []) h))

  all_steps : Beside (steps_then S x logged plan) (steps S x logged plan)
  unfolding steps_then steps
  all_steps =
      same _ (same _ (same _ (same _ (same _ (same _ (same _ (same _ (same _ (same _ (
      tested 11 (index_read_conflict S x) _ (tested 12 (row_lock_conflict S x) _ (
      tested 13 (serialization_conflict S x) _ (tested 14 (write_base_conflict S x) _ (
      same _ (same _ (same _ (same _ (same _ (same _ (same _ (same _ (same _ over))))))))))))))))))))))

  run_then_law : Alike (run_then S x logged plan) (run_of S x logged plan)
  unfolding run_then run_of
  run_then_law = all_steps.are

  whole : (r s : Run) → Alike r s → Told (uncut S x logged r) (uncut S x logged s)
  unfolding uncut
  whole r s h = record {
    number = h.number;
    store = ap (λ (ps : List Put). apply_all ps S) h.puts;
    tx = h.tx;
    stores = ap length h.puts;
  }

  answered : (r s : Run) (cut : Cut) → Alike r s → Told (answer S x logged r cut) (answer S x logged s cut)
  unfolding cut_off
  answered r s Uncut h = whole r s h
  answered r s (After n) h =
      either (ltb n (length r.puts)) (ltb n (length s.puts)) (ap (λ (ps : List Put). ltb n (length ps)) h.puts)
      (record { number = refl; store = ap (λ (ps : List Put). apply_all (take n ps) S) h.puts; tx = refl; stores = refl })
      (whole r s h)

  commit_then_law : (cut : Cut) → Told (commit_then S x logged plan cut) (commit S x logged plan cut)
  unfolding commit_then commit
  commit_then_law cut =
      by (resting S)
      (λ r. by (fit S x && schedule_fit plan)
      (λ f. by (memb x.txid.0 (active_txids S.active))
      (λ m. rw (r, f, m) (answered (run_then S x logged plan) (run_of S x logged plan) cut run_then_law))
      (λ m. rw (r, f, m) (itself _)))
      (λ f. rw (r, f) (itself _)))
      (λ r. rw r (itself _))

-- THE LINES

abbrev bare : Out → Out
bare o = says o.number o.third

turned : (l : Line) (d : Desk) → turn_then l d ≡ record { desk = (turn l d).desk; out = bare (turn l d).out }
unfolding turn_then turn
turned (line_b i) d = by (is_done (begin d.store).refusal) (λ e. rw e) (λ e. rw e)
turned (line_r i r) d = refl
turned (line_w i r v) d = refl
turned (line_l i k) d = refl
turned (line_k i r) d = refl
turned (line_a i) d = refl
turned (line_c i logged cut) d =
    let h = commit_then_law d.store (tx_at d i) logged d.plan cut in
    λ j. record {
      desk = record { store = h.store j; txs = set d.txs i (h.tx j); plan = no_faults };
      out = says (h.number j) (num (h.stores j));
    }
turned (line_f n b k) d = refl
turned line_v d = refl
turned line_bad d = refl

replayed : (d : Desk) (ls : List Line) → replay_then d ls ≡ map bare (replay_from d ls)
replayed d [] = refl
replayed d (l ∷ ls) = rw (turned l d) (ap (λ os. bare (turn l d).out ∷ os) (replayed (turn l d).desk ls))

-- THE TEXT

-- what is written before a rest without the byte c, as a tab or a line feed, is without it, and doesn't look at the rest
record Apart (c : ℕ) (f : Bytes → Bytes) : Type 0 where
  on : (p rest : Bytes) → f (p ++ rest) ≡ f p ++ rest
  free : (p : Bytes) → memb c p ≡ false → memb c (f p) ≡ false

after : {c : ℕ} {f g : Bytes → Bytes} → Apart c f → Apart c g → Apart c (λ r. f (g r))
after {f = f} {g = g} h k = record {
  on = λ p rest. ap f (k.on p rest) ∙ h.on (g p) rest;
  free = λ p e. h.free (g p) (k.free p e);
}

byte : (c b : ℕ) → eqb c b ≡ false → Apart c (λ r. b ∷ r)
byte c b e = record { on = λ p rest. refl; free = λ p h. or_neither (eqb c b) (memb c p) e h }

tab : Apart 10 (λ r. 9 ∷ r)
tab = byte 10 9 refl

decimal_apart : (c f n : ℕ) → c < 48 → Apart c (decimal f n)
decimal_apart c zero n l = record { on = λ p rest. refl; free = λ p h. h }
decimal_apart c (suc f) n l =
    let d = byte c (48 + n % 10) (ne_eqb c (48 + n % 10) (λ e. omega (arith, e))) in
    by (ltb n 10)
    (λ t. record { on = λ p rest. rw (decimal, t) (d.on p rest); free = λ p h. rw (decimal, t) (d.free p h) })
    (λ t. let r = after (decimal_apart c f (n / 10) l) d in
    record { on = λ p rest. rw (decimal, t) (r.on p rest); free = λ p h. rw (decimal, t) (r.free p h) })

full_apart : (c n : ℕ) → c < 48 → Apart c (in_full n)
unfolding in_full
full_apart c n l = decimal_apart c digits64 n l

third_apart : (c : ℕ) (t : Third) → c < 45 → Apart c (third t)
unfolding in_full
third_apart c (num n) l = full_apart c n (omega arith)
third_apart c dash l = byte c 45 (ne_eqb c 45 (λ e. omega (arith, e)))

more_apart : (m : More) → Apart 10 (more m)
unfolding in_full
more_apart nothing = record { on = λ p rest. refl; free = λ p h. h }
more_apart (cause c) =
    after tab (after (full_apart 10 (test_named c) (omega arith)) (after tab (full_apart 10 (place_named c) (omega arith))))

-- an answer's line, with what follows it
abbrev line : ℕ → Out → Bytes → Bytes
line n o rest = in_full n (9 ∷ in_full o.number (9 ∷ third o.third (more o.more rest)))

line_apart : (n : ℕ) (o : Out) → Apart 10 (line n o)
line_apart n o =
    after (full_apart 10 n (omega arith)) (after tab (after (full_apart 10 o.number (omega arith)) (after tab
    (after (third_apart 10 o.third (omega arith)) (more_apart o.more)))))

-- it is the first of the lines
line_in : (n : ℕ) (o : Out) (rest : Bytes) → lines_in (line n o (10 ∷ rest)) ≡ line n o [] ∷ lines_in rest
line_in n o rest = ap lines_in ((line_apart n o).on [] (10 ∷ rest)) ∙ lines_fed (line n o []) rest ((line_apart n o).free [] refl)

then_first : (n : ℕ) (o : Out) (os : List Out) → write_then n (o ∷ os) ≡ line n (bare o) (10 ∷ write_then (suc n) os)
unfolding in_full
then_first n o os = refl

-- its parts between the tabs
first : {f : Bytes → Bytes} → Apart 9 f → (s : Bytes) (ws : List Bytes) → split 9 s ≡ [] ∷ ws → split 9 (f s) ≡ f [] ∷ ws
first {f} h s ws e = ap (split 9) (h.on [] s) ∙ split_on (f []) s ws (h.free [] refl) e

two : (n k : ℕ) (w : Bytes) → split 9 (in_full n (9 ∷ in_full k (9 ∷ w))) ≡ in_full n [] ∷ in_full k [] ∷ split 9 w
two n k w =
    first (full_apart 9 n (omega arith)) (9 ∷ in_full k (9 ∷ w)) _ refl
    ∙ ap (λ r. in_full n [] ∷ r) (first (full_apart 9 k (omega arith)) (9 ∷ w) _ refl)

alone : (t : Third) → split 9 (third t []) ≡ third t [] ∷ []
alone t = first (third_apart 9 t (omega arith)) [] [] refl

last : (t : Third) (m : More) → take 1 (split 9 (third t (more m []))) ≡ split 9 (third t [])
unfolding in_full
last t nothing = ap (take 1) (alone t) ∙ sym (alone t)
last t (cause c) =
    ap (take 1) (first (third_apart 9 t (omega arith)) (9 ∷ in_full (test_named c) (9 ∷ in_full (place_named c) [])) _ refl) ∙ sym (alone t)

fields : (n : ℕ) (o : Out) → take 3 (split 9 (line n o [])) ≡ split 9 (line n (bare o) [])
fields n o =
    ap (take 3) (two n o.number (third o.third (more o.more [])))
    ∙ ap (λ ws. in_full n [] ∷ in_full o.number [] ∷ ws) (last o.third o.more)
    ∙ sym (two n o.number (third o.third []))

written : (n : ℕ) (os : List Out)
    → map (λ w. take 3 (split 9 w)) (lines_in (write n os)) ≡ map (split 9) (lines_in (write_then n (map bare os)))
written n [] = refl
written n (o ∷ os) =
    ap (λ t. map (λ w. take 3 (split 9 w)) (lines_in t)) (line_first n o os)
    ∙ ap (map (λ w. take 3 (split 9 w))) (line_in n o (write (suc n) os))
    ∙ (λ i. fields n o i ∷ written (suc n) os i)
    ∙ ap (map (split 9)) (sym (line_in n (bare o) (write_then (suc n) (map bare os))))
    ∙ ap (λ t. map (split 9) (lines_in t)) (sym (then_first n (bare o) (map bare os)))

-- without the fourth and the fifth field each line is what it was
pub same_lines : SameLines
unfolding replay_text replay text_then
same_lines bs = written 1 (replay_from start (parse bs)) ∙ ap (λ os. map (split 9) (lines_in (write_then 1 os))) (sym (replayed start (parse bs)))
