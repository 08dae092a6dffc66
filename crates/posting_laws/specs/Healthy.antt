-- A commit that leaves its store unpoisoned leaves the postings exactly the heads', whatever it answers.
use Rattle.std.specs.Prelude.{◌≡◌, Bool, false, ◌&&◌, ◌||◌, ℕ}
use Rattle.std.proofs.Math.Path.{refl}
use Rattle.std.proofs.Common.{sym, ◌∙◌}
use Rattle.std.proofs.Math.Bool.{true, cond}
use mathlib.Core.List.{List, [], ◌∷◌, ◌++◌, map, reverse, append_assoc}
use Rattle.std.proofs.Math.ListN.{take}
use Rattle.rules.specs.Types.{Store, Tx, Schedule, Cut, Fate, Refusal}
use Rattle.basic_laws.specs.Cases.{by, clash, and_true, or_true, or_left, or_right, or_false}
use Rattle.rules.specs.Lists.{any, memb, is_zero}
use Rattle.rules.specs.Store.{active_txids}
use Rattle.rules.specs.Admitted.{resting}
use Rattle.rules.specs.Fit.{fit}
use Rattle.rules.specs.Faults.{schedule_fit}
use Rattle.rules.specs.Numbers.{number_of, is_done}
use Rattle.rules.specs.Puts.{Put, k_drop, k_poison, k_doom, is, put_insert, put_remove, put_free, put_drop, put_poison, apply, apply_all, own_slots, abort_puts}
use Rattle.rules.specs.Changes.{changes, destinations, insertions, stamping, release}
use Rattle.rules.specs.Commit.{run_of, End, poison, fails, count, rollback, abort_or_poison}
use Rattle.rules.specs.Answer.{uncut, commit}
use Rattle.run_laws.specs.GuardPuts.{apply_all_append}
use Rattle.run_laws.specs.Outcome.{guards_taken, after_insert, after_finish, aborting, rolling_back}
use Rattle.run_laws.specs.Outcome.{worse, undoing, aborting_late, Taken, Passed, Spoil, unremoved}
use Rattle.run_laws.specs.Outcome.{unpublished, unrecycled, unfinished, Outcome, done, stays, aborts, uninserted, uncalled, spoils, unstamped, outcome}
use Rattle.statements.specs.Words.{Admitted}
use Rattle.run_laws.specs.FirstRows.{row_2, row_3, whole, given_back, stay_not, abort_not, called_not, spoil_not}
use Rattle.statements.specs.Sized.{Sized}
use Rattle.basic_laws.specs.Rearranged.{or_assoc, or_swap}
use Rattle.posting_laws.specs.RestingPostings.{Exact, Settled, exact, undoomed, settled}
use Rattle.posting_laws.specs.KeepsExact.{exact_kept, exact_freed}
use Rattle.posting_laws.specs.Spared.{head_not_own}
use Rattle.posting_laws.specs.Undone.{take_map}
use Rattle.posting_laws.specs.Rolled.{ready, back_and_forth, called_run}
use Rattle.posting_laws.specs.Clean.{postings_exact}

-- a poison among the puts, doom included
abbrev pub poisons : List Put → Bool
poisons ps = any (λ p. is p k_poison || is p k_doom) ps

-- the same tests, regrouped
or_four : (a b c d : Bool) → (c || (a || (b || d))) ≡ (((a || b) || c) || d)
or_four a b c d = rw (or_assoc (a || b) c d, or_assoc a b (c || d), or_swap b c d) (or_swap c a (b || d))

-- a store is poisoned after them if it was, or if one of them poisons
pub poisoned_after : (ps : List Put) (S : Store) → (apply_all ps S).poisoned ≡ (poisons ps || S.poisoned)
poisoned_after [] S = refl
poisoned_after (p ∷ ps) S = poisoned_after ps (apply p S) ∙ or_four (is p k_poison) (is p k_doom) (poisons ps) S.poisoned

-- a poison in either of two lists
pub poisons_later : (ps qs : List Put) → poisons qs ≡ true → poisons (ps ++ qs) ≡ true
poisons_later [] qs h = h
poisons_later (p ∷ ps) qs h = or_right (is p k_poison || is p k_doom) (poisons (ps ++ qs)) (poisons_later ps qs h)

poisons_first : (ps qs : List Put) → poisons ps ≡ true → poisons (ps ++ qs) ≡ true
poisons_first [] qs h = clash {b = false} h refl
poisons_first (p ∷ ps) qs h =
    or_true (is p k_poison || is p k_doom) (poisons ps) h
    (λ e. or_left (is p k_poison || is p k_doom) (poisons (ps ++ qs)) e)
    (λ e. or_right (is p k_poison || is p k_doom) (poisons (ps ++ qs)) (poisons_first ps qs e))

-- so a store that isn't poisoned afterwards met none
met_none : {A : Type 0} (ps : List Put) (S : Store) → (apply_all ps S).poisoned ≡ false → poisons ps ≡ true → A
met_none ps S h p = clash p (or_false (poisons ps) S.poisoned (sym (poisoned_after ps S) ∙ h)).0

-- .. and its doom is the one it had
undoomed_after : (ps : List Put) (S : Store) → poisons ps ≡ false → (apply_all ps S).doomed ≡ S.doomed
undoomed_after [] S h = refl
undoomed_after (p ∷ ps) S h =
    let o = or_false (is p k_poison || is p k_doom) (poisons ps) h in
    undoomed_after ps (apply p S) o.1 ∙ rw (or_false (is p k_poison) (is p k_doom) o.0).1

-- what abort leaves
pub aborted_exact : (S : Store) (t : ℕ) → Sized S → resting S ≡ true → (apply_all (abort_puts S t) S).poisoned ≡ false → Exact (apply_all (abort_puts S t) S)
unfolding abort_puts
aborted_exact S t sized rests h =
    let own = own_slots S.heads S.next S.xmin t in
    let healthy = (or_false (poisons (map put_free own ++ put_drop t ∷ [])) S.poisoned (sym (poisoned_after (map put_free own ++ put_drop t ∷ []) S) ∙ h)).1 in
    rw (apply_all_append (map put_free own) (put_drop t ∷ []) S)
    (exact_kept (k_drop ∷ []) refl refl refl refl refl (put_drop t ∷ []) (apply_all (map put_free own) S) refl
    (exact_freed own S (head_not_own S t sized rests) (exact S rests healthy)))

-- poisoned, now or before
poison_poisons : (S : Store) → (apply_all (poison S.poisoned) S).poisoned ≡ true
poison_poisons S = go S.poisoned refl
  where
    go : (b : Bool) → S.poisoned ≡ b → (apply_all (poison b) S).poisoned ≡ true
    go true e = e
    go false e = refl

module _ (S : Store) (x : Tx) (logged : Bool) (plan : Schedule) (sized : Sized S) where
  -- puts that leave exact postings where they leave no poison
  abbrev Fine : List Put → Type 0
  Fine ps = (apply_all ps S).poisoned ≡ false → Exact (apply_all ps S)

  -- 5, 6, 7 and 9: guards given back, then aborted or poisoned
  cleaned : resting S ≡ true → Fine (aborting S x logged plan).puts
  unfolding abort_or_poison
  cleaned rests = by (fails S x logged plan 23)
      (λ e. rw e (λ h. clash (poison_poisons S) h))
      (λ e. rw e (aborted_exact S x.txid.0 sized rests))

  given_back_then : {taken back : List Put} → resting S ≡ true → Taken S x logged plan taken back → (ps : List Put) → Fine ps → Fine (taken ++ (back ++ ps))
  given_back_then {taken} {back} rests t ps f h =
      let e : apply_all (taken ++ (back ++ ps)) S ≡ apply_all ps S
      = rw (sym (append_assoc taken back ps), apply_all_append (taken ++ back) ps S, given_back S x logged plan rests t) in
      rw e (f (rw e at h))

  -- 10: undone, or poisoned
  uninserted_fine : Admitted S x plan → Passed S x logged plan
      → Fine (guards_taken S x logged plan ++ (take (count S x logged plan 15) (insertions S x) ++ ((rolling_back S x logged plan).puts ++ release S x)))
  unfolding rollback insertions
  uninserted_fine ok p h =
      let G = guards_taken S x logged plan in
      let n = count S x logged plan 15 in
      let ds = destinations (changes S x) in
      let I = take n (map put_insert ds) in
      let R = map put_remove (reverse (take n ds)) in
      by (fails S x logged plan 24)
      (λ e. let some = take (count S x logged plan 24) R ++ put_poison ∷ [] in
      met_none (G ++ (I ++ (some ++ release S x))) S (rw e at h)
      (poisons_later G (I ++ (some ++ release S x))
      (poisons_later I (some ++ release S x) (poisons_first some (release S x) (poisons_later (take (count S x logged plan 24) R) (put_poison ∷ []) refl)))))
      (λ e. let same : apply_all (G ++ (I ++ (R ++ release S x))) S ≡ S
      = rw (take_map put_insert n ds) (back_and_forth S x logged plan sized (ready S x logged plan sized ok p) n) in
      rw (e, same) (exact S ok.rests p.healthy))

  -- 11 and 12: rolled back and aborted, or poisoned
  uncalled_fine : Admitted S x plan → Passed S x logged plan
      → Fine (after_insert S x logged plan
      ++ (cond (worse S x logged plan) (put_poison ∷ []) [] ++ ((undoing S x logged plan).puts ++ ((aborting_late S x logged plan).puts ++ release S x))))
  unfolding rollback abort_or_poison insertions
  uncalled_fine ok p h =
      let G = after_insert S x logged plan in
      let C = cond (worse S x logged plan) (put_poison ∷ []) [] in
      let U = (undoing S x logged plan).puts in
      let A = (aborting_late S x logged plan).puts in
      let Z = release S x in
      let R = map put_remove (reverse (destinations (changes S x))) in
      let behind : poisons (C ++ (U ++ (A ++ Z))) ≡ true → Exact (apply_all (G ++ (C ++ (U ++ (A ++ Z)))) S)
      = λ q. met_none (G ++ (C ++ (U ++ (A ++ Z)))) S h (poisons_later G (C ++ (U ++ (A ++ Z))) q) in
      by (worse S x logged plan)
      (λ w. behind (poisons_first C (U ++ (A ++ Z)) (rw w)))
      (λ w. by (fails S x logged plan 24)
      (λ e. behind (poisons_later C (U ++ (A ++ Z))
      (poisons_first U (A ++ Z) (rw (w, e) (poisons_later (take (count S x logged plan 24) R) (put_poison ∷ []) refl)))))
      (λ e. by (fails S x logged plan 23)
      (λ a. behind (poisons_later C (U ++ (A ++ Z)) (poisons_later U (A ++ Z) (poisons_first A Z (rw (w, e, a))))))
      (λ a. let same = rw w at (called_run S x logged plan sized (ready S x logged plan sized ok p)) in
      rw (w, e, a, same) (aborted_exact S x.txid.0 sized ok.rests (rw (w, e, a, same) at h)))))

  -- 13 to 16 poison
  spoiled : {n : ℕ} {made some finishing : List Put} {poisoning : Put} {kind : Fate → Refusal} {y : Tx} {drops : Bool}
      → Spoil S x logged plan n made some poisoning finishing kind y drops
      → poisons (poisoning ∷ finishing) ≡ true
  spoiled (unremoved k) = refl
  spoiled (unpublished k) = refl
  spoiled (unrecycled k) = refl
  spoiled (unfinished k) = refl

  -- every run is so
  fine : (n : ℕ) (ps : List Put) (d : End) → Admitted S x plan → Outcome S x logged plan n ps d → Fine ps
  fine _ _ _ ok (done p) h = postings_exact S x logged plan (ready S x logged plan sized ok p)
  fine _ _ _ ok (stays l t k) h = let e = given_back S x logged plan ok.rests t in rw e (exact S ok.rests (rw e at h))
  fine _ _ _ ok (aborts l t k) h = given_back_then ok.rests t (aborting S x logged plan).puts (cleaned ok.rests) h
  fine _ _ _ ok (uninserted p k) h = uninserted_fine ok p h
  fine _ _ _ ok (uncalled p l k) h = uncalled_fine ok p h
  fine _ _ _ ok (spoils {made = made} {some = some} {finishing = finishing} {poisoning = poisoning} p k) h =
      let Z = some ++ poisoning ∷ finishing in
      met_none (made ++ (Z ++ release S x)) S h
      (poisons_later made (Z ++ release S x) (poisons_first Z (release S x) (poisons_later some (poisoning ∷ finishing) (spoiled k))))
  fine _ _ _ ok (unstamped p k) h =
      let some = take (count S x logged plan 22) (stamping S x) in
      let Z = put_poison ∷ release S x in
      met_none (after_finish S x logged plan ++ (some ++ Z)) S h (poisons_later (after_finish S x logged plan) (some ++ Z) (poisons_later some Z refl))

  -- what a resting store has of its index: "if not poisoned, doomed is 0 and the postings are exactly (key, row) of each head with a value"
  ran : Admitted S x plan → let T = apply_all (run_of S x logged plan).puts S in Settled T
  ran ok h =
      let ps = (run_of S x logged plan).puts in
      let o = or_false (poisons ps) S.poisoned (sym (poisoned_after ps S) ∙ h) in
      (undoomed_after ps S o.0 ∙ undoomed S ok.rests o.1, fine _ _ _ ok (outcome S x logged plan) h)

  -- so it is after every commit that isn't cut: T is a test of numbers that 18 fails
  pub commit_settled : resting S ≡ true → (cut : Cut) (T : ℕ → Bool) → T 18 ≡ false → let a = commit S x logged plan cut in
      T (number_of a.refusal) ≡ true → Settled a.store
  unfolding uncut
  commit_settled r cut T z h =
      by (fit S x && schedule_fit plan)
      (λ f. by (memb x.txid.0 (active_txids S.active))
      (λ m. let c = and_true (fit S x) (schedule_fit plan) f in
      let ok : Admitted S x plan = record { rests = r; fits = c.0; planned = c.1; active = m } in
      rw (whole S x logged plan cut ok T z h) (ran ok))
      (λ m. rw (row_3 S x logged plan cut r f m) (settled S r)))
      (λ f. rw (row_2 S x logged plan cut r f) (settled S r))

  -- an answer 0 doesn't poison, so its postings are exact
  only_zero : (n : ℕ) (ps : List Put) (d : End) → Admitted S x plan → Outcome S x logged plan n ps d → is_zero (number_of d.refusal) ≡ true
      → Exact (apply_all ps S)
  only_zero _ _ _ ok (done p) h = postings_exact S x logged plan (ready S x logged plan sized ok p)
  only_zero _ _ _ ok (stays l t k) h = clash h (stay_not is_zero refl refl k _)
  only_zero _ _ _ ok (aborts l t k) h = clash h (abort_not is_zero refl refl refl refl refl k)
  only_zero _ _ _ ok (uninserted p k) h = clash h refl
  only_zero _ _ _ ok (uncalled p l k) h = clash h (called_not S x logged plan is_zero refl refl refl)
  only_zero _ _ _ ok (spoils p k) h = clash h (spoil_not is_zero refl refl refl refl k _)
  only_zero _ _ _ ok (unstamped p k) h = clash h refl

  -- row 0
  pub row_0_exact : (cut : Cut) → Admitted S x plan → let a = commit S x logged plan cut in is_done a.refusal ≡ true → Exact a.store
  unfolding uncut
  row_0_exact cut ok h =
      let u = whole S x logged plan cut ok is_zero refl h in
      rw u (only_zero _ _ _ ok (outcome S x logged plan) (rw u at h))
