-- "Numbers seen", rows 10, 11, 12 and 19 after 11: what is left where the rollback fails after k of its stores, or the abort, or both.
use Rattle.std.specs.Prelude.{◌≡◌, Bool, ◌&&◌, ◌||◌, ℕ, length}
use Rattle.std.proofs.Math.Path.{refl, sym, ap}
use Rattle.std.proofs.Common.{◌∙◌, eqb-true}
use Rattle.std.proofs.Math.Bool.{true, false, cond}
use mathlib.Core.List.{List, [], ◌∷◌, ◌++◌, map, reverse, append_assoc, append-nil}
use Rattle.std.proofs.Math.ListN.{take}
use Rattle.std.proofs.Math.Seq.{take-length}
use Rattle.std.proofs.Math.Dec.{eqb}
use Rattle.rules.specs.Types.{Store, Tx, Schedule, Fate, Refusal, CallbackFailed, CallbackPanicked, CleanupFailed}
use Rattle.basic_laws.specs.Cases.{by, clash, and_false}
use Rattle.rules.specs.Faults.{F, P, X, Q, faults_of, fault_at}
use Rattle.rules.specs.Puts.{Put, put_insert, put_remove, put_poison, apply_all}
use Rattle.rules.specs.Changes.{changes, destinations, release, insertions}
use Rattle.rules.specs.Commit.{Clean, Run, poison, fails, strikes, count, rollback, abort_or_poison}
use Rattle.run_laws.specs.OnlyKinds.{only, only_both, only_take, only_if}
use Rattle.run_laws.specs.GuardPuts.{apply_all_append}
use Rattle.run_laws.specs.Outcome.{guards_taken, after_insert, worse, panics, rolling_back, undoing}
use Rattle.run_laws.specs.Released.{unguarded}
use Rattle.run_laws.specs.Gates.{Gate, call_end, leaving, part}
use Rattle.statements.specs.Table.{Row}
use Rattle.statements.specs.NumbersSeen.{poisoned, aborted, with, left, some, whole, called}
use Rattle.statements.specs.Sized.{Sized}
use Rattle.basic_laws.specs.Rearranged.{or_none}
use Rattle.run_laws.specs.Kinds.{insert_kind, remove_kind, insertions_kind, cleaning_kinds, rollback_kinds}
use Rattle.posting_laws.specs.Undone.{Ready, take_map, undone_but}
use Rattle.posting_laws.specs.Aside.{posting_kinds, between_guards, poison_first}
use Rattle.posting_laws.specs.Rolled.{regroup, undone_around, back_and_forth}
use Rattle.sentences.specs.RunSays.{abort_failed, abort_done, rollback_failed, rollback_done}
use Rattle.number_laws.specs.Ended.{ran, Match, shut, through, pick, pass}

module _ (S : Store) (x : Tx) (logged : Bool) (plan : Schedule) (sized : Sized S) (ok : Ready S x) where
  -- put in, and all but some taken out, with the poison after that or before it
  undone_24 : (w : Bool) (n : ℕ) → let ds = take n (destinations (changes S x)) in
      apply_all (map put_insert ds ++ (cond w (put_poison ∷ []) [] ++ (take (count S x logged plan 24) (map put_remove (reverse ds)) ++ poison w))) S
      ≡ poisoned S x logged plan (with S x logged plan (left S x logged plan ds))
  undone_24 w n =
      let ds = take n (destinations (changes S x)) in
      let I = map put_insert ds in
      let k = count S x logged plan 24 in
      let R = take k (map put_remove (reverse ds)) in
      let but = undone_but S x ok n k in
      by w
      (λ e. rw (
        e,
        append-nil R,
        apply_all_append I (put_poison ∷ R) S,
        ← poison_first R (apply_all I S) (only_take posting_kinds k (map put_remove (reverse ds)) (remove_kind posting_kinds refl (reverse ds))),
        but,
      ))
      (λ e. rw (e, apply_all_append I (R ++ put_poison ∷ []) S, apply_all_append R (put_poison ∷ []) (apply_all I S), but))

  -- 15 failed: guards around it
  pub ten : fails S x logged plan 24 ≡ true
      → apply_all (guards_taken S x logged plan
      ++ (part S x logged plan 15 (insertions S x) ++ ((rolling_back S x logged plan).puts ++ leaving S x logged plan))) S
      ≡ poisoned S x logged plan (with S x logged plan (left S x logged plan (some S x logged plan)))
  unfolding insertions
  ten e =
      let n = count S x logged plan 15 in
      let ds = take n (destinations (changes S x)) in
      let I = map put_insert ds in
      let U = (rolling_back S x logged plan).puts in
      rw (take_map put_insert n (destinations (changes S x)), sym (append_assoc I U (release S x)))
      (between_guards S x logged plan ok.rests (I ++ U)
      (only_both unguarded I U (insert_kind unguarded refl ds) (rollback_kinds unguarded S x logged plan refl refl false ds))
      ∙ ap (λ (c : Clean). apply_all (I ++ c.puts) S) (rollback_failed S x logged plan false ds e)
      ∙ undone_24 false n)

  pub ten_back : fails S x logged plan 24 ≡ false
      → apply_all (guards_taken S x logged plan
      ++ (part S x logged plan 15 (insertions S x) ++ ((rolling_back S x logged plan).puts ++ leaving S x logged plan))) S
      ≡ S
  unfolding insertions
  ten_back e =
      let n = count S x logged plan 15 in
      let ds = take n (destinations (changes S x)) in
      rw (take_map put_insert n (destinations (changes S x)))
      (ap (λ (c : Clean). apply_all (guards_taken S x logged plan ++ (map put_insert ds ++ (c.puts ++ release S x))) S)
      (rollback_done S x logged plan false ds e)
      ∙ back_and_forth S x logged plan sized ok n)

  -- 16 failed: insertions, the poison of X and Q, rollback, abort, guards around them; w and u are the poison and the rollback
  abbrev run16 : Bool → Clean → List Put
  run16 w u =
      after_insert S x logged plan
      ++ (cond w (put_poison ∷ []) [] ++ (u.puts ++ ((abort_or_poison S x logged plan (w || u.failed)).puts ++ leaving S x logged plan)))

  inside : Bool → Clean → Store
  inside w u = apply_all (abort_or_poison S x logged plan (w || u.failed)).puts (apply_all (insertions S x ++ (cond w (put_poison ∷ []) [] ++ u.puts)) S)

  run_inside : (w : Bool) (u : Clean) → only unguarded u.puts ≡ true → apply_all (run16 w u) S ≡ inside w u
  unfolding inside
  run_inside w u h =
      let I = insertions S x in
      let C = cond w (put_poison ∷ []) [] in
      let A = (abort_or_poison S x logged plan (w || u.failed)).puts in
      let first = only_both unguarded I (C ++ u.puts) (insertions_kind unguarded S x refl)
      (only_both unguarded C u.puts (only_if unguarded w (put_poison ∷ []) [] refl refl) h) in
      ap (λ (ps : List Put). apply_all ps S) (regroup (guards_taken S x logged plan) I C u.puts A (release S x))
      ∙ between_guards S x logged plan ok.rests ((I ++ (C ++ u.puts)) ++ A)
      (only_both unguarded (I ++ (C ++ u.puts)) A first (cleaning_kinds unguarded S x logged plan refl refl refl (w || u.failed)))
      ∙ apply_all_append (I ++ (C ++ u.puts)) A S

  -- by what failed: the rollback, or not
  all_but : (w : Bool)
      → apply_all (insertions S x
      ++ (cond w (put_poison ∷ []) [] ++ (take (count S x logged plan 24) (map put_remove (reverse (whole S x logged plan))) ++ poison w))) S
      ≡ poisoned S x logged plan (with S x logged plan (left S x logged plan (whole S x logged plan)))
  unfolding insertions
  all_but w = rw (take-length (destinations (changes S x))) at (undone_24 w (length (destinations (changes S x))))

  -- .. and the abort, or not
  abbrev after16 : (w k j : Bool) → Store
  after16 w true true = poisoned S x logged plan (with S x logged plan (left S x logged plan (whole S x logged plan)))
  after16 w true false = aborted S x logged plan (poisoned S x logged plan (with S x logged plan (left S x logged plan (whole S x logged plan))))
  after16 w false true = poisoned S x logged plan S
  after16 true false false = aborted S x logged plan (poisoned S x logged plan S)
  after16 false false false = aborted S x logged plan S

  then_abort : (b j : Bool) {T U : Store} → fails S x logged plan 23 ≡ j → T ≡ U
      → apply_all (abort_or_poison S x logged plan b).puts T ≡ cond j (apply_all (poison b) U) (aborted S x logged plan U)
  then_abort b true {T} {U} e h = ap (λ (a : Clean). apply_all a.puts T) (abort_failed S x logged plan b e) ∙ ap (apply_all (poison b)) h
  then_abort b false {T} {U} e h = ap (λ (a : Clean). apply_all a.puts T) (abort_done S x logged plan b e) ∙ ap (aborted S x logged plan) h

  rolled_but : (w : Bool) → fails S x logged plan 24 ≡ true
      → inside w (rollback S x logged plan w (whole S x logged plan))
      ≡ inside w (record { puts = take (count S x logged plan 24) (map put_remove (reverse (whole S x logged plan))) ++ poison w; tx = x; failed = true })
  rolled_but w e = ap (inside w) (rollback_failed S x logged plan w (whole S x logged plan) e)

  rolled : (w : Bool) → fails S x logged plan 24 ≡ false
      → inside w (rollback S x logged plan w (whole S x logged plan))
      ≡ inside w (record { puts = map put_remove (reverse (whole S x logged plan)); tx = x; failed = false })
  rolled w e = ap (inside w) (rollback_done S x logged plan w (whole S x logged plan) e)

  cleaned : (w k j : Bool) → fails S x logged plan 24 ≡ k → fails S x logged plan 23 ≡ j
      → inside w (rollback S x logged plan w (whole S x logged plan)) ≡ after16 w k j
  unfolding inside insertions
  cleaned true true true ek ej = rolled_but true ek ∙ then_abort true true ej (all_but true)
  cleaned false true true ek ej = rolled_but false ek ∙ then_abort true true ej (all_but false)
  cleaned true true false ek ej = rolled_but true ek ∙ then_abort true false ej (all_but true)
  cleaned false true false ek ej = rolled_but false ek ∙ then_abort true false ej (all_but false)
  cleaned true false true ek ej = rolled true ek ∙ then_abort true true ej (undone_around S x logged plan sized ok true)
  cleaned false false true ek ej = rolled false ek ∙ then_abort false true ej (undone_around S x logged plan sized ok false)
  cleaned true false false ek ej = rolled true ek ∙ then_abort true false ej (undone_around S x logged plan sized ok true)
  cleaned false false false ek ej = rolled false ek ∙ then_abort false false ej (undone_around S x logged plan sized ok false)

  -- so the run's store
  abbrev worst : Bool
  worst = worse S x logged plan

  store16 : (w k j : Bool) → worst ≡ w → fails S x logged plan 24 ≡ k → fails S x logged plan 23 ≡ j
      → apply_all (run16 worst (undoing S x logged plan)) S ≡ after16 w k j
  store16 w k j ew ek ej =
      run_inside worst (undoing S x logged plan) (rollback_kinds unguarded S x logged plan refl refl worst (whole S x logged plan))
      ∙ ap (λ (v : Bool). inside v (rollback S x logged plan v (whole S x logged plan))) ew
      ∙ cleaned w k j ek ej

  -- the run of a commit that fails at 16
  abbrev called16 : Run
  called16 = ran S x logged plan 15 (run16 worst (undoing S x logged plan)) (call_end S x logged plan)

  -- the five rows of one kind of failure, where it is of that kind
  taken16 : (n m : ℕ) (kind bad : Fate → Refusal) (w q : Bool) {ws : List Row} {d : Row} (k j : Bool)
      → worst ≡ w → (logged && (w || q)) ≡ true → (logged && w) ≡ w → fails S x logged plan 24 ≡ k → fails S x logged plan 23 ≡ j
      → Match S x logged plan [] called16 (called S x logged plan n m kind bad w q ws) d
  taken16 n m kind bad w q true true ew o ow ek ej = pick S x logged plan (rw (o, ek, ej)) (record { store = store16 w true true ew ek ej })
  taken16 n m kind bad w q true false ew o ow ek ej =
      pass S x logged plan (rw (o, ek, ej)) (pick S x logged plan (rw (o, ek)) (record { store = store16 w true false ew ek ej }))
  taken16 n m kind bad w q false true ew o ow ek ej =
      pass S x logged plan (rw (o, ek)) (pass S x logged plan (rw (o, ek))
      (pick S x logged plan (rw (o, ej)) (record { store = store16 w false true ew ek ej })))
  taken16 n m kind bad true q false false ew o ow ek ej =
      pass S x logged plan (rw (o, ek)) (pass S x logged plan (rw (o, ek)) (pass S x logged plan (rw (o, ej))
      (pick S x logged plan ow (record { store = store16 true false false ew ek ej }))))
  taken16 n m kind bad false q false false ew o ow ek ej =
      pass S x logged plan (rw (o, ek)) (pass S x logged plan (rw (o, ek)) (pass S x logged plan (rw (o, ej)) (pass S x logged plan ow
      (pick S x logged plan o (record { store = store16 false false false ew ek ej })))))

  -- .. and where it is not
  passed16 : (n m : ℕ) (kind bad : Fate → Refusal) (w q : Bool) {gs : List Gate} {c : Run} {ws : List Row} {d : Row}
      → (logged && (w || q)) ≡ false → (logged && w) ≡ false → (logged && q) ≡ false
      → Match S x logged plan gs c ws d → Match S x logged plan gs c (called S x logged plan n m kind bad w q ws) d
  passed16 n m kind bad w q o ow oq rest =
      pass S x logged plan (rw o) (pass S x logged plan (rw o) (pass S x logged plan (rw o) (pass S x logged plan ow (pass S x logged plan oq rest))))

  -- an and whose left side holds
  and_left : (b : Bool) → logged ≡ true → (logged && b) ≡ b
  and_left b l = go logged l
    where
      go : (c : Bool) → c ≡ true → (c && b) ≡ b
      go true e = refl
      go false e = clash {b = false} e refl

  -- one letter at most strikes at 16
  abbrev at16 : ℕ → Bool
  at16 c = strikes S x logged plan 16 c

  apart : (c e : ℕ) → eqb c e ≡ false → at16 c ≡ true → at16 e ≡ false
  unfolding strikes
  apart c e n h = ap (λ (l : ℕ). eqb l e) (eqb-true (fault_at 16 (faults_of plan)).letter c h) ∙ n

  abbrev gate16 : Bool
  gate16 = logged && (at16 F || (worst || panics S x logged plan))

  module _ (gs : List Gate) (c : Run) (ws : List Row) (d : Row) where
    abbrev rows16 : List Row
    rows16 =
        called S x logged plan 12 12 CallbackPanicked CallbackPanicked (at16 Q) (at16 P)
        (called S x logged plan 11 19 CallbackFailed CleanupFailed (at16 X) (at16 F) ws)

    abbrev Beside : Type 0
    Beside = Match S x logged plan (record { when = gate16; then = called16 } ∷ gs) c rows16 d

    panicked : logged ≡ true → gate16 ≡ true → at16 X ≡ false → (at16 Q || at16 P) ≡ true → Beside
    panicked l g nx h =
        let k = fails S x logged plan 24 in
        let j = fails S x logged plan 23 in
        let ew : worst ≡ at16 Q = rw nx in
        shut S x logged plan g
        (taken16 12 12 CallbackPanicked CallbackPanicked (at16 Q) (at16 P) k j ew (rw h (and_left true l)) (and_left (at16 Q) l) refl refl)

    failed : logged ≡ true → gate16 ≡ true → at16 Q ≡ false → at16 P ≡ false → (at16 X || at16 F) ≡ true → Beside
    failed l g nq np h =
        let k = fails S x logged plan 24 in
        let j = fails S x logged plan 23 in
        let ew : worst ≡ at16 X = rw nq (or_none (at16 X)) in
        shut S x logged plan g
        (passed16 12 12 CallbackPanicked CallbackPanicked (at16 Q) (at16 P) (rw (nq, np) (and_false logged)) (rw nq (and_false logged))
        (rw np (and_false logged))
        (taken16 11 19 CallbackFailed CleanupFailed (at16 X) (at16 F) k j ew (rw h (and_left true l)) (and_left (at16 X) l) refl refl))

    open16 : gate16 ≡ false → (logged && (at16 Q || at16 P)) ≡ false → (logged && at16 Q) ≡ false → (logged && at16 P) ≡ false
        → (logged && (at16 X || at16 F)) ≡ false → (logged && at16 X) ≡ false → (logged && at16 F) ≡ false → Match S x logged plan gs c ws d → Beside
    open16 g a1 a2 a3 b1 b2 b3 m =
        through S x logged plan g
        (passed16 12 12 CallbackPanicked CallbackPanicked (at16 Q) (at16 P) a1 a2 a3 (passed16 11 19 CallbackFailed CleanupFailed (at16 X) (at16 F) b1 b2 b3 m))

    pub sixteen : (gate16 ≡ false → Match S x logged plan gs c ws d) → Beside
    sixteen m =
        by logged
        (λ l. by (at16 Q)
        (λ q. panicked l (rw (apart Q F refl q, apart Q X refl q, q) (and_left true l)) (apart Q X refl q) (rw q))
        (λ nq. by (at16 P)
        (λ p. panicked l (rw (apart P F refl p, apart P X refl p, nq, p) (and_left true l)) (apart P X refl p) (rw (nq, p)))
        (λ np. by (at16 X)
        (λ h. failed l (rw (apart X F refl h, h) (and_left true l)) nq np (rw h))
        (λ nx. by (at16 F)
        (λ h. failed l (rw h (and_left true l)) nq np (rw (nx, h)))
        (λ nf. let g : gate16 ≡ false = rw (nf, nx, nq, np) (and_false logged) in
        open16 g (rw (nq, np) (and_false logged)) (rw nq (and_false logged)) (rw np (and_false logged)) (rw (nx, nf) (and_false logged))
        (rw nx (and_false logged)) (rw nf (and_false logged)) (m g))))))
        (λ l. let g : gate16 ≡ false = rw l in open16 g (rw l) (rw l) (rw l) (rw l) (rw l) (rw l) (m g))
