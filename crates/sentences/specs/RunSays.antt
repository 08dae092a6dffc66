-- "Numbers seen" and "Steps and faults", straight from the steps: a commit answers as the first row of the table says that applies, with the stores
-- that the row makes, in their order. (What these stores add up to is proved in the crate `number_laws`.)
use Rattle.std.specs.Prelude.{◌≡◌, Bool, not, cond, ◌&&◌, ◌||◌, ℕ, suc, ◌+◌, take}
use Rattle.std.proofs.Math.Path.{refl, sym, ap}
use Rattle.std.proofs.Common.{subst, ◌∙◌, add-suc, suc-add, arith, length-take-le}
use Rattle.std.proofs.Math.Bool.{true, false}
use mathlib.Core.List.{List, [], ◌∷◌, ◌++◌, map, reverse, append_assoc, append-nil}
use Rattle.std.proofs.Math.Nat.{add-zero, zero-add}
use Rattle.std.proofs.Math.ListN.{length}
use Rattle.std.proofs.Math.Dec.{eqb, ltb}
use borrow.Author.Tests.{eqb-true, ltb-true}
use Rattle.basic_laws.specs.Cases.{by, and_false, or_right}
use Rattle.basic_laws.specs.Rearranged.{or_none, or_comm, and_comm}
use Rattle.rules.specs.Lists.{memb}
use Rattle.rules.specs.Types.{Store, Tx, Schedule, Events, Answer, Cut, Uncut, After, Fate, Open, Undone, Refusal, StepFailed, PrepareFailed, PreparePanicked}
use Rattle.rules.specs.Types.{BusyGuard, Conflict, BoundDurably, FoundPoisoned, CallbackFailed, CallbackPanicked, CleanupFailed}
use Rattle.rules.specs.Store.{active_txids}
use Rattle.rules.specs.Transaction.{finals}
use Rattle.rules.specs.Admitted.{resting}
use Rattle.rules.specs.Fit.{fit}
use Rattle.rules.specs.Faults.{F, B, P, X, Q, faults_of, fault_at, schedule_fit}
use Rattle.rules.specs.Numbers.{fate}
use Rattle.rules.specs.Puts.{Put, put_remove, put_poison, apply_all, abort_puts}
use Rattle.rules.specs.Changes.{changes, destinations, release, insertions}
use Rattle.rules.specs.Tests.{index_read_conflict, row_lock_conflict, serialization_conflict, write_base_conflict}
use Rattle.rules.specs.Commit.{End, ending, Step, goes, ends, stop_if, Clean, poison, strikes, fails}
use Rattle.rules.specs.Commit.{count, abort_or_poison, rollback, run, committed, steps, run_of}
use Rattle.rules.specs.Commit.{index_changes_made, index_lock_keys, prepare_commit_record, run_prepare, acquire_index_locks, acquire_partition_locks}
use Rattle.rules.specs.Commit.{ensure_unlogged_write_allowed, check_not_poisoned, prepare_index_destinations, invoke_before_publish, remove_index_sources}
use Rattle.rules.specs.Commit.{publish_write_set, recycle_non_final_writes, finish_transaction, publish_index_stamps}
use Rattle.rules.specs.Answer.{events_of, no_events, uncut, cut_off, answer, commit}
use Rattle.statements.specs.Table.{◌⨾◌, Row, row, first_row, Says}
use Rattle.statements.specs.NumbersSeen.{takes, lets_go, poisons, poisons_unless, takes_out, frees, first_of, some, whole, gone, flags, called, takes_index}
use Rattle.statements.specs.NumbersSeen.{lets_index_go, unlogged, stays, aborts, unaborted, rows15, step_rows, done_row, uncut_row, cut_row, commit_rows}

module _ (S : Store) (x : Tx) (logged : Bool) (plan : Schedule) where
  abbrev t : ℕ
  t = x.txid.0

  -- a run that ends so, beside a row
  pub record Agrees (n : ℕ) (ps : List Put) (e : End) (w : Row) : Type 0 where
    pub says : e.refusal ≡ w.says
    pub makes : ps ≡ w.makes
    pub tx : e.tx ≡ w.tx
    pub events : events_of logged S.bound (ltb 0 (length (finals x))) n e ≡ w.events

  -- .. and beside the first row that applies
  record Ends (n : ℕ) (ps : List Put) (e : End) (ws : List Row) (d : Row) : Type 0 where
    are : Agrees n ps e (first_row ws d)

  -- after n steps and the stores `made`, the steps beside rows
  record Beside (n : ℕ) (made : List Put) (ss : List Step) (ws : List Row) (d : Row) : Type 0 where
    are : let r = run (committed x) ss in Agrees (n + r.passed) (made ++ r.puts) r.end (first_row ws d)

  over : {n : ℕ} {made : List Put} {d : Row} → Agrees n made (committed x) d → Beside n made [] [] d
  over {n} {made} h = record { are = rw (add-zero n, append-nil made) h }

  skip : {n : ℕ} {made : List Put} {ss : List Step} {ws : List Row} {d : Row} → Beside (suc n) made ss ws d → Beside n made (goes [] ∷ ss) ws d
  skip {n} {ss = ss} h = record { are = rw (add-suc n (run (committed x) ss).passed, ← suc-add n (run (committed x) ss).passed) h.are }

  go : {n : ℕ} {made : List Put} (ps : List Put) {ss : List Step} {ws : List Row} {d : Row} → Beside (suc n) (made ++ ps) ss ws d
      → Beside n made (goes ps ∷ ss) ws d
  go {n} {made} ps {ss} h =
      let r = run (committed x) ss in
      record { are = rw (add-suc n r.passed, ← suc-add n r.passed, ← append_assoc made ps r.puts) h.are }

  -- a step that stops where one row says so; where two rows do, the first for a failure in cleaning up
  one : (b : Bool) {n : ℕ} {made : List Put} (ps : List Put) (e : End) {s : Step} {ss : List Step} {k : ℕ} {why : Refusal} {qs : List Put} {T : Store} {y : Tx}
      {v : Events} {ws : List Row} {d : Row}
      → Agrees n (made ++ ps) e (row k b why qs T y v) → Beside n made (s ∷ ss) ws d
      → Beside n made (stop_if b (ends ps e) s ∷ ss) (row k b why qs T y v ∷ ws) d
  unfolding stop_if
  one true {n} ps e a m = record { are = rw (add-zero n) a }
  one false ps e a m = record { are = m.are }

  two : (b f : Bool) {n : ℕ} {made : List Put} (ps : List Put) (e : End) {s : Step} {ss : List Step} {k j : ℕ} {why only : Refusal} {qs rs : List Put}
      {T U : Store} {y z : Tx} {v w : Events} {ws : List Row} {d : Row}
      → (f ≡ true → Agrees n (made ++ ps) e (row k (b && f) why qs T y v)) → (f ≡ false → Agrees n (made ++ ps) e (row j b only rs U z w))
      → Beside n made (s ∷ ss) ws d
      → Beside n made (stop_if b (ends ps e) s ∷ ss) (row k (b && f) why qs T y v ∷ row j b only rs U z w ∷ ws) d
  unfolding stop_if
  two true true {n} ps e a c m = record { are = rw (add-zero n) (a refl) }
  two true false {n} ps e a c m = record { are = rw (add-zero n) (c refl) }
  two false f ps e a c m = record { are = m.are }

  -- a step that stops, and one that doesn't; a row that applies, and one that doesn't
  shut : (b : Bool) {n : ℕ} {made : List Put} (ps : List Put) (e : End) (s : Step) {ss : List Step} {ws : List Row} {d : Row} → b ≡ true
      → Ends n (made ++ ps) e ws d
      → Beside n made (stop_if b (ends ps e) s ∷ ss) ws d
  unfolding stop_if
  shut b {n} ps d s e m = record { are = rw (e, add-zero n) m.are }

  through : (b : Bool) {n : ℕ} {made : List Put} (ps : List Put) (e : End) {s : Step} {ss : List Step} {ws : List Row} {d : Row} → b ≡ false
      → Beside n made (s ∷ ss) ws d
      → Beside n made (stop_if b (ends ps e) s ∷ ss) ws d
  unfolding stop_if
  through b ps d e m = record { are = rw e m.are }

  pick : {n : ℕ} {ps : List Put} {e : End} {w : Row} {ws : List Row} {d : Row} → w.when ≡ true → Agrees n ps e w → Ends n ps e (w ∷ ws) d
  pick {n} {ps} {e} {w} {ws} {d} h a = record { are = subst (λ (b : Bool). Agrees n ps e (cond b w (first_row ws d))) (sym h) a }

  pass : {n : ℕ} {ps : List Put} {e : End} {w : Row} {ws : List Row} {d : Row} → w.when ≡ false → Ends n ps e ws d → Ends n ps e (w ∷ ws) d
  pass h m = record { are = rw h m.are }

  passes : {n : ℕ} {made : List Put} {ss : List Step} {w : Row} {ws : List Row} {d : Row} → w.when ≡ false → Beside n made ss ws d
      → Beside n made ss (w ∷ ws) d
  passes h m = record { are = rw h m.are }

  -- abort and rollback, done or failed
  pub abort_failed : (b : Bool) → fails S x logged plan 23 ≡ true → abort_or_poison S x logged plan b ≡ record { puts = poison b; tx = x; failed = true }
  unfolding abort_or_poison
  abort_failed b e = rw e

  pub abort_done : (b : Bool) → fails S x logged plan 23 ≡ false
      → abort_or_poison S x logged plan b ≡ record { puts = abort_puts S t; tx = gone S x logged plan; failed = false }
  unfolding abort_or_poison
  abort_done b e = rw e

  pub rollback_failed : (b : Bool) (made : List ℕ) → fails S x logged plan 24 ≡ true
      → rollback S x logged plan b made ≡ record { puts = take (count S x logged plan 24) (map put_remove (reverse made)) ++ poison b; tx = x; failed = true }
  unfolding rollback
  rollback_failed b made e = rw e

  pub rollback_done : (b : Bool) (made : List ℕ) → fails S x logged plan 24 ≡ false
      → rollback S x logged plan b made ≡ record { puts = map put_remove (reverse made); tx = x; failed = false }
  unfolding rollback
  rollback_done b made e = rw e

  -- 4 and 8; 5, 6, 7 and 9: `taken` was made, `back` is made, and then the abort, or not
  abbrev stay_end : (Fate → Refusal) → End
  stay_end kind = ending (kind Open) x false

  abbrev abort_end : (Fate → Refusal) → (Fate → Refusal) → Bool → Bool → End
  abort_end kind failed found preparing =
      let a = abort_or_poison S x logged plan S.poisoned in
      record {
        refusal = cond a.failed failed kind (fate a.failed true);
        tx = a.tx;
        poisoned = found || a.failed;
        cleanup = preparing && a.failed;
        undone = false;
        dropped = false;
      }

  stay : (b : Bool) (kind : Fate → Refusal) {n k : ℕ} (taken back : List Put) {s : Step} {ss : List Step} {ws : List Row} {d : Row}
      → Beside n taken (s ∷ ss) ws d
      → Beside n taken (stop_if b (ends back (stay_end kind)) s ∷ ss) (stays S x logged plan n taken back k kind b ∷ ws) d
  unfolding events_of
  stay b kind taken back m = one b back (stay_end kind) (record { says = refl; makes = refl; tx = refl; events = refl }) m

  die : (b : Bool) (kind other : Fate → Refusal) (found preparing : Bool) {n k j : ℕ} (taken back : List Put) {s : Step} {ss : List Step}
      {ws : List Row} {d : Row}
      → Beside n taken (s ∷ ss) ws d
      → Beside n taken (stop_if b (ends (back ++ (abort_or_poison S x logged plan S.poisoned).puts) (abort_end kind other found preparing)) s ∷ ss)
      (unaborted S x logged plan n taken back preparing k other b ∷ aborts S x logged plan n taken back found j kind b ∷ ws) d
  unfolding events_of
  die b kind other found preparing taken back m =
      two b (fails S x logged plan 23) (back ++ (abort_or_poison S x logged plan S.poisoned).puts) (abort_end kind other found preparing)
      (λ e. let a = abort_failed S.poisoned e in
      record {
        says = rw a;
        makes = ap (λ (c : Clean). taken ++ (back ++ c.puts)) a;
        tx = rw a;
        events = rw (a, or_comm found true, and_comm preparing true);
      })
      (λ e. let a = abort_done S.poisoned e in
      record {
        says = rw a;
        makes = ap (λ (c : Clean). taken ++ (back ++ c.puts)) a;
        tx = rw a;
        events = rw (a, or_none found, and_false preparing);
      })
      m

  -- 16: the poison of X and Q, the rollback, the abort
  abbrev at16 : ℕ → Bool
  at16 c = strikes S x logged plan 16 c

  abbrev worst : Bool
  worst = at16 X || at16 Q

  abbrev panics : Bool
  panics = at16 P || at16 Q

  abbrev undoing : Bool → Clean
  undoing w = rollback S x logged plan w (destinations (changes S x))

  abbrev ending16 : Bool → Clean → List Put
  ending16 w u = cond w (put_poison ∷ []) [] ++ (u.puts ++ ((abort_or_poison S x logged plan (w || u.failed)).puts ++ release S x))

  abbrev late : Clean
  late = abort_or_poison S x logged plan (worst || (undoing worst).failed)

  abbrev bad : Bool
  bad = (undoing worst).failed || late.failed

  abbrev call_end : End
  call_end = record {
    refusal = cond panics CallbackPanicked (cond bad CleanupFailed CallbackFailed) (fate (worst || bad) (not late.failed));
    tx = late.tx;
    poisoned = worst || bad;
    cleanup = false;
    undone = not (undoing worst).failed;
    dropped = false;
  }

  -- its stores, by what failed
  abbrev before16 : List Put
  before16 = takes S x logged plan ++ insertions S x

  abbrev makes16 : (w k j : Bool) → List Put
  makes16 w true true =
      takes S x logged plan ⨾ insertions S x ⨾ cond w (poisons S x logged plan) [] ⨾ first_of S x logged plan 24
      (takes_out S x logged plan (whole S x logged plan))
      ⨾ poisons_unless S x logged plan w ⨾ lets_go S x logged plan
  makes16 w true false =
      takes S x logged plan ⨾ insertions S x ⨾ cond w (poisons S x logged plan) [] ⨾ first_of S x logged plan 24
      (takes_out S x logged plan (whole S x logged plan))
      ⨾ poisons_unless S x logged plan w ⨾ frees S x logged plan ⨾ lets_go S x logged plan
  makes16 w false true =
      takes S x logged plan ⨾ insertions S x ⨾ cond w (poisons S x logged plan) [] ⨾ takes_out S x logged plan (whole S x logged plan)
      ⨾ poisons_unless S x logged plan w ⨾ lets_go S x logged plan
  makes16 true false false =
      takes S x logged plan ⨾ insertions S x ⨾ poisons S x logged plan ⨾ takes_out S x logged plan (whole S x logged plan) ⨾ frees S x logged plan
      ⨾ lets_go S x logged plan
  makes16 false false false =
      takes S x logged plan ⨾ insertions S x ⨾ takes_out S x logged plan (whole S x logged plan) ⨾ frees S x logged plan ⨾ lets_go S x logged plan

  abbrev around16 : Bool → List Put → Clean → List Put
  around16 w back a = before16 ++ (cond w (put_poison ∷ []) [] ++ (back ++ (a.puts ++ release S x)))

  made16 : (w k j : Bool) → fails S x logged plan 24 ≡ k → fails S x logged plan 23 ≡ j → before16 ++ ending16 w (undoing w) ≡ makes16 w k j
  unfolding release
  made16 w true true ek ej =
      ap (λ (u : Clean). before16 ++ ending16 w u) (rollback_failed w (whole S x logged plan) ek)
      ∙ ap (around16 w (first_of S x logged plan 24 (takes_out S x logged plan (whole S x logged plan)) ++ poison w)) (abort_failed (w || true) ej)
      ∙ by w (λ e. rw e (simp append_assoc)) (λ e. rw e (simp append_assoc))
  made16 w true false ek ej =
      ap (λ (u : Clean). before16 ++ ending16 w u) (rollback_failed w (whole S x logged plan) ek)
      ∙ ap (around16 w (first_of S x logged plan 24 (takes_out S x logged plan (whole S x logged plan)) ++ poison w)) (abort_done (w || true) ej)
      ∙ by w (λ e. rw e (simp append_assoc)) (λ e. rw e (simp append_assoc))
  made16 w false true ek ej =
      ap (λ (u : Clean). before16 ++ ending16 w u) (rollback_done w (whole S x logged plan) ek)
      ∙ ap (around16 w (takes_out S x logged plan (whole S x logged plan))) (abort_failed (w || false) ej)
      ∙ by w (λ e. rw e (simp append_assoc)) (λ e. rw e (simp append_assoc))
  made16 true false false ek ej =
      ap (λ (u : Clean). before16 ++ ending16 true u) (rollback_done true (whole S x logged plan) ek)
      ∙ ap (around16 true (takes_out S x logged plan (whole S x logged plan))) (abort_done true ej)
      ∙ simp append_assoc
  made16 false false false ek ej =
      ap (λ (u : Clean). before16 ++ ending16 false u) (rollback_done false (whole S x logged plan) ek)
      ∙ ap (around16 false (takes_out S x logged plan (whole S x logged plan))) (abort_done false ej)
      ∙ simp append_assoc

  all16 : (w k j : Bool) → worst ≡ w → fails S x logged plan 24 ≡ k → fails S x logged plan 23 ≡ j
      → before16 ++ ending16 worst (undoing worst) ≡ makes16 w k j
  all16 w k j ew ek ej = ap (λ (v : Bool). before16 ++ ending16 v (undoing v)) ew ∙ made16 w k j ek ej

  -- its number and fate, its transaction, its events
  rolled_failed : (undoing worst).failed ≡ fails S x logged plan 24
  unfolding rollback
  rolled_failed = by (fails S x logged plan 24) (λ e. rw e) (λ e. rw e)

  late_failed : late.failed ≡ fails S x logged plan 23
  unfolding abort_or_poison
  late_failed = by (fails S x logged plan 23) (λ e. rw e) (λ e. rw e)

  late_tx : late.tx ≡ cond (fails S x logged plan 23) x (gone S x logged plan)
  unfolding abort_or_poison
  late_tx = by (fails S x logged plan 23) (λ e. rw e) (λ e. rw e)

  says16 : (p w k j : Bool) → panics ≡ p → worst ≡ w → fails S x logged plan 24 ≡ k → fails S x logged plan 23 ≡ j
      → call_end.refusal ≡ cond p CallbackPanicked (cond (k || j) CleanupFailed CallbackFailed) (fate (w || (k || j)) (not j))
  says16 p w k j ep ew ek ej = rw (late_failed, rolled_failed, ek, ej, ep, ew)

  abbrev tell : End → Events
  tell e = events_of logged S.bound (ltb 0 (length (finals x))) 15 e

  events16 : (w k j : Bool) → worst ≡ w → fails S x logged plan 24 ≡ k → fails S x logged plan 23 ≡ j
      → tell call_end ≡ flags S x logged plan 15 (w || (k || j)) false (not k) false
  unfolding events_of
  events16 w k j ew ek ej = rw (late_failed, rolled_failed, ek, ej, ew)

  told16 : (w k j : Bool) → worst ≡ w → fails S x logged plan 24 ≡ k → fails S x logged plan 23 ≡ j → (k || j) ≡ true
      → tell call_end ≡ flags S x logged plan 15 true false (not k) false
  told16 w k j ew ek ej o = events16 w k j ew ek ej ∙ ap (λ (b : Bool). flags S x logged plan 15 b false (not k) false) (or_right w (k || j) o)

  undone : (w : Bool) (kind : Fate → Refusal) (b : Bool) → kind (fate (w || true) b) ≡ kind Undone
  undone true kind b = refl
  undone false kind b = refl

  -- the five rows of one kind of failure, where it is of that kind
  taken16 : (n m : ℕ) (kind bad : Fate → Refusal) (w q : Bool) {ws : List Row} {d : Row} (k j : Bool)
      → worst ≡ w → (logged && (w || q)) ≡ true → (logged && w) ≡ w → fails S x logged plan 24 ≡ k → fails S x logged plan 23 ≡ j
      → call_end.refusal ≡ cond (k || j) bad kind (fate (w || (k || j)) (not j))
      → Ends 15 (before16 ++ ending16 worst (undoing worst)) call_end (called S x logged plan n m kind bad w q ws) d
  taken16 n m kind bad w q true true ew o ow ek ej why =
      pick (rw (o, ek, ej))
      (record { says = why ∙ undone w bad false; makes = all16 w true true ew ek ej; tx = late_tx ∙ rw ej; events = told16 w true true ew ek ej refl })
  taken16 n m kind bad w q true false ew o ow ek ej why =
      pass (rw (o, ek, ej)) (pick (rw (o, ek))
      (record { says = why ∙ undone w bad true; makes = all16 w true false ew ek ej; tx = late_tx ∙ rw ej; events = told16 w true false ew ek ej refl }))
  taken16 n m kind bad w q false true ew o ow ek ej why =
      pass (rw (o, ek)) (pass (rw (o, ek)) (pick (rw (o, ej))
      (record { says = why ∙ undone w bad false; makes = all16 w false true ew ek ej; tx = late_tx ∙ rw ej; events = told16 w false true ew ek ej refl })))
  taken16 n m kind bad true q false false ew o ow ek ej why =
      pass (rw (o, ek)) (pass (rw (o, ek)) (pass (rw (o, ej)) (pick ow
      (record { says = why; makes = all16 true false false ew ek ej; tx = late_tx ∙ rw ej; events = events16 true false false ew ek ej }))))
  taken16 n m kind bad false q false false ew o ow ek ej why =
      pass (rw (o, ek)) (pass (rw (o, ek)) (pass (rw (o, ej)) (pass ow (pick o
      (record { says = why; makes = all16 false false false ew ek ej; tx = late_tx ∙ rw ej; events = events16 false false false ew ek ej })))))

  -- .. and where it is not
  passed16 : (n m : ℕ) (kind bad : Fate → Refusal) (w q : Bool) {i : ℕ} {made : List Put} {ss : List Step} {ws : List Row} {d : Row}
      → (logged && (w || q)) ≡ false → (logged && w) ≡ false → (logged && q) ≡ false
      → Beside i made ss ws d → Beside i made ss (called S x logged plan n m kind bad w q ws) d
  passed16 n m kind bad w q o ow oq rest = passes (rw o) (passes (rw o) (passes (rw o) (passes ow (passes oq rest))))

  missed16 : (n m : ℕ) (kind bad : Fate → Refusal) (w q : Bool) {i : ℕ} {ps : List Put} {e : End} {ws : List Row} {d : Row}
      → (logged && (w || q)) ≡ false → (logged && w) ≡ false → (logged && q) ≡ false
      → Ends i ps e ws d → Ends i ps e (called S x logged plan n m kind bad w q ws) d
  missed16 n m kind bad w q o ow oq rest = pass (rw o) (pass (rw o) (pass (rw o) (pass ow (pass oq rest))))

  -- an and whose left side holds
  and_left : (b : Bool) → logged ≡ true → (logged && b) ≡ b
  and_left b l = rw l

  -- one letter at most strikes at 16
  apart : (c e : ℕ) → eqb c e ≡ false → at16 c ≡ true → at16 e ≡ false
  unfolding strikes
  apart c e n h = ap (λ (l : ℕ). eqb l e) (eqb-true (fault_at 16 (faults_of plan)).letter c h) ∙ n

  either : (b : Bool) (kind : Fate → Refusal) (f : Fate) → kind f ≡ cond b kind kind f
  either true kind f = refl
  either false kind f = refl

  abbrev gate16 : Bool
  gate16 = logged && (at16 F || (worst || panics))

  module _ (s : Step) (ss : List Step) (ws : List Row) (d : Row) where
    abbrev rows16 : List Row
    rows16 =
        called S x logged plan 12 12 CallbackPanicked CallbackPanicked (at16 Q) (at16 P)
        (called S x logged plan 11 19 CallbackFailed CleanupFailed (at16 X) (at16 F) ws)

    abbrev At16 : Type 0
    At16 = Beside 15 before16 (stop_if gate16 (ends (ending16 worst (undoing worst)) call_end) s ∷ ss) rows16 d

    panicked : logged ≡ true → gate16 ≡ true → at16 X ≡ false → (at16 Q || at16 P) ≡ true → At16
    panicked l g nx h =
        let k = fails S x logged plan 24 in
        let j = fails S x logged plan 23 in
        let ew : worst ≡ at16 Q = rw nx in
        let ep : panics ≡ true = or_comm (at16 P) (at16 Q) ∙ h in
        shut gate16 (ending16 worst (undoing worst)) call_end s g
        (taken16 12 12 CallbackPanicked CallbackPanicked (at16 Q) (at16 P) k j ew (rw h (and_left true l)) (and_left (at16 Q) l) refl refl
        (says16 true (at16 Q) k j ep ew refl refl ∙ either (k || j) CallbackPanicked _))

    failed16 : logged ≡ true → gate16 ≡ true → at16 Q ≡ false → at16 P ≡ false → (at16 X || at16 F) ≡ true → At16
    failed16 l g nq np h =
        let k = fails S x logged plan 24 in
        let j = fails S x logged plan 23 in
        let ew : worst ≡ at16 X = rw nq (or_none (at16 X)) in
        let ep : panics ≡ false = rw (np, nq) in
        shut gate16 (ending16 worst (undoing worst)) call_end s g
        (missed16 12 12 CallbackPanicked CallbackPanicked (at16 Q) (at16 P) (rw (nq, np) (and_false logged)) (rw nq (and_false logged))
        (rw np (and_false logged))
        (taken16 11 19 CallbackFailed CleanupFailed (at16 X) (at16 F) k j ew (rw h (and_left true l)) (and_left (at16 X) l) refl refl
        (says16 false (at16 X) k j ep ew refl refl)))

    open16 : gate16 ≡ false → (logged && (at16 Q || at16 P)) ≡ false → (logged && at16 Q) ≡ false → (logged && at16 P) ≡ false
        → (logged && (at16 X || at16 F)) ≡ false → (logged && at16 X) ≡ false → (logged && at16 F) ≡ false → Beside 15 before16 (s ∷ ss) ws d → At16
    open16 g a1 a2 a3 b1 b2 b3 m =
        through gate16 (ending16 worst (undoing worst)) call_end g
        (passed16 12 12 CallbackPanicked CallbackPanicked (at16 Q) (at16 P) a1 a2 a3 (passed16 11 19 CallbackFailed CleanupFailed (at16 X) (at16 F) b1 b2 b3 m))

    sixteen : Beside 15 before16 (s ∷ ss) ws d → At16
    sixteen m =
        by logged
        (λ l. by (at16 Q)
        (λ q. panicked l (rw (apart Q F refl q, apart Q X refl q, q) (and_left true l)) (apart Q X refl q) (rw q))
        (λ nq. by (at16 P)
        (λ p. panicked l (rw (apart P F refl p, apart P X refl p, nq, p) (and_left true l)) (apart P X refl p) (rw (nq, p)))
        (λ np. by (at16 X)
        (λ h. failed16 l (rw (apart X F refl h, h) (and_left true l)) nq np (rw h))
        (λ nx. by (at16 F)
        (λ h. failed16 l (rw h (and_left true l)) nq np (rw (nx, h)))
        (λ nf. let g : gate16 ≡ false = rw (nf, nx, nq, np) (and_false logged) in
        open16 g (rw (nq, np) (and_false logged)) (rw nq (and_false logged)) (rw np (and_false logged)) (rw (nx, nf) (and_false logged))
        (rw nx (and_false logged)) (rw nf (and_false logged)) m)))))
        (λ l. let g : gate16 ≡ false = rw l in open16 g (rw l) (rw l) (rw l) (rw l) (rw l) (rw l) m)

  -- the steps, one after the other
  abbrev hit : ℕ → Bool
  hit n = fails S x logged plan n

  from_15 : Beside 14 (takes S x logged plan)
      (prepare_index_destinations S x logged plan ∷ invoke_before_publish S x logged plan ∷ remove_index_sources S x logged plan
      ∷ publish_write_set S x logged plan
      ∷ recycle_non_final_writes S x logged plan ∷ goes [] ∷ finish_transaction S x logged plan ∷ publish_index_stamps S x logged plan
      ∷ goes (release S x) ∷ [])
      (rows15 S x logged plan) (done_row S x logged plan)
  unfolding prepare_index_destinations invoke_before_publish remove_index_sources publish_write_set recycle_non_final_writes finish_transaction
      publish_index_stamps
      release events_of
  from_15 =
      let tens : Clean → List Put = λ c.
      takes S x logged plan ++ (first_of S x logged plan 15 (insertions S x) ++ (c.puts ++ lets_go S x logged plan)) in
      two (hit 15) (hit 24) _ _
      (λ e. let b = rollback_failed false (some S x logged plan) e in
      record { says = rw b; makes = ap tens b ∙ simp append_assoc; tx = refl; events = rw b })
      (λ e. let b = rollback_done false (some S x logged plan) e in
      record { says = rw b; makes = ap tens b ∙ simp append_assoc; tx = refl; events = rw b })
      (go _ (sixteen _ _ _ _ (skip (
      one (hit 17) _ _ (record { says = refl; makes = simp append_assoc; tx = refl; events = refl }) (go _ (
      one (hit 18) _ _ (record { says = refl; makes = simp append_assoc; tx = refl; events = refl }) (go _ (
      one (hit 19) _ _ (record { says = refl; makes = simp append_assoc; tx = refl; events = refl }) (go _ (skip (
      one (hit 21) _ _ (record { says = refl; makes = simp append_assoc; tx = refl; events = refl }) (go _ (
      one (hit 22) _ _ (record { says = refl; makes = simp append_assoc; tx = refl; events = refl }) (go _ (go _ (
      over (record { says = refl; makes = simp append_assoc; tx = refl; events = refl })))))))))))))))))

  all_steps : Beside 0 [] (steps S x logged plan) (step_rows S x logged plan) (done_row S x logged plan)
  unfolding steps index_changes_made index_lock_keys prepare_commit_record run_prepare acquire_index_locks acquire_partition_locks
      ensure_unlogged_write_allowed check_not_poisoned step_rows release
  all_steps =
      let I = takes_index S x logged plan in
      let I0 = lets_index_go S x logged plan in
      let A = takes S x logged plan in
      let A0 = lets_go S x logged plan in
      skip (skip (
      stay (hit 3) StepFailed [] [] (skip (
      stay (hit 4) StepFailed [] [] (skip (
      die (logged && hit 5) PrepareFailed CleanupFailed false true [] [] (skip (
      die (logged && hit 6) PrepareFailed CleanupFailed false true [] [] (
      die (logged && strikes S x logged plan 6 P) PreparePanicked PreparePanicked false true [] [] (skip (
      stay (hit 7) StepFailed [] [] (
      die (strikes S x logged plan 7 B) (Conflict BusyGuard) (Conflict BusyGuard) false false [] [] (go I (
      stay (hit 8) StepFailed I I0 (
      die (strikes S x logged plan 8 B) (Conflict BusyGuard) (Conflict BusyGuard) false false I I0 (go _ (
      stay (unlogged S x logged plan && hit 9) StepFailed A A0 (
      stay (unlogged S x logged plan && S.bound) BoundDurably A A0 (skip (
      die (hit 10 || S.poisoned) FoundPoisoned CleanupFailed (not (hit 10)) false A A0 (skip (
      stay (hit 11) StepFailed A A0 (die (index_read_conflict S x) (Conflict _) (Conflict _) false false A A0 (skip (
      stay (hit 12) StepFailed A A0 (die (row_lock_conflict S x) (Conflict _) (Conflict _) false false A A0 (skip (
      stay (hit 13) StepFailed A A0 (die (serialization_conflict S x) (Conflict _) (Conflict _) false false A A0 (skip (
      stay (hit 14) StepFailed A A0 (die (write_base_conflict S x) (Conflict _) (Conflict _) false false A A0 (skip
      from_15)))))))))))))))))))))))))))))))))

  -- a run of the steps, whatever arrives
  pub run_says : let r = run_of S x logged plan in Agrees r.passed r.puts r.end (uncut_row S x logged plan)
  unfolding run_of
  run_says = rw zero-add at all_steps.are

  record Told (a : Answer) (ws : List Row) : Type 0 where
    by_first : Says S a (first_row ws (done_row S x logged plan))

  -- .. uncut, and cut
  whole_says : Told (uncut S x logged (run_of S x logged plan)) (step_rows S x logged plan)
  unfolding uncut
  whole_says =
      let m = run_says in
      record {
        by_first = record {
          refusal = m.says;
          made = ap (λ (ps : List Put). apply_all ps S) m.makes;
          stores = ap length m.makes;
          tx = m.tx;
          events = m.events;
        };
      }

  applies : {a : Answer} {w : Row} {ws : List Row} → w.when ≡ true → Says S a w → Told a (w ∷ ws)
  applies {a} {w} {ws} e l = record { by_first = subst (λ (b : Bool). Says S a (cond b w (first_row ws (done_row S x logged plan)))) (sym e) l }

  skips : {a : Answer} {w : Row} {ws : List Row} → w.when ≡ false → Told a ws → Told a (w ∷ ws)
  skips {a} {w} {ws} e l = record { by_first = subst (λ (b : Bool). Says S a (cond b w (first_row ws (done_row S x logged plan)))) (sym e) l.by_first }

  steps_say : (cut : Cut) → Told (answer S x logged (run_of S x logged plan) cut) (cut_row S x logged plan cut ∷ step_rows S x logged plan)
  unfolding cut_off no_events events_of
  steps_say Uncut = skips refl whole_says
  steps_say (After n) =
      let m = run_says.makes in
      let all = (uncut_row S x logged plan).makes in
      let same : ltb n (length (run_of S x logged plan).puts) ≡ ltb n (length all) = ap (λ (ps : List Put). ltb n (length ps)) m in
      by (ltb n (length (run_of S x logged plan).puts))
      (λ e. rw e (applies (sym same ∙ e) (record {
        refusal = refl;
        made = ap (λ (ps : List Put). apply_all (take n ps) S) m;
        stores = sym (length-take-le n all (omega (arith, ltb-true n (length all) (sym same ∙ e))));
        tx = refl;
        events = refl;
      })))
      (λ e. rw e (skips (sym same ∙ e) whole_says))

  -- every commit, whatever arrives
  pub commit_says : (cut : Cut) → Says S (commit S x logged plan cut) (first_row (commit_rows S x logged plan cut) (done_row S x logged plan))
  unfolding commit_rows commit no_events events_of
  commit_says cut =
      by (resting S)
      (λ r. by (fit S x && schedule_fit plan)
      (λ f. by (memb x.txid.0 (active_txids S.active))
      (λ m. rw (r, f, m) (steps_say cut).by_first)
      (λ m. rw (r, f, m) (record { refusal = refl; made = refl; stores = refl; tx = refl; events = refl })))
      (λ f. rw (r, f) (record { refusal = refl; made = refl; stores = refl; tx = refl; events = refl })))
      (λ r. rw r (record { refusal = refl; made = refl; stores = refl; tx = refl; events = refl }))
