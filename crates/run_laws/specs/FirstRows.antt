-- First theorems on the call: rows 1, 2, 3, 4 and 8 of "Numbers seen", when a commit succeeds, and how many stores a clean one makes.
use Rattle.std.specs.Prelude.{◌≡◌, Bool, false, not, cond, ◌&&◌, ◌||◌, List, [], ◌∷◌, ◌++◌, ℕ, ◌+◌, ◌*◌, length, eqb, ltb}
use Rattle.std.proofs.Math.Path.{refl}
use Rattle.std.proofs.Common.{◌∙◌, arith, length-append}
use Rattle.std.proofs.Math.Bool.{true}
use Rattle.std.proofs.lemmas.List.{length-map}
use Rattle.basic_laws.specs.Cases.{clash, by, and_true}
use Rattle.rules.specs.Lists.{those, flat, memb, is_zero}
use Rattle.rules.specs.Types.{Store, Tx, Write, Schedule, Answer, Cut, Uncut, After, Fate, Open, Closed, Refusal}
use Rattle.rules.specs.Types.{NotResting, Unfit, NotActive, Cause, Conflict, CleanupFailed, CallbackFailed, CallbackPanicked}
use Rattle.rules.specs.Store.{active_txids}
use Rattle.rules.specs.Transaction.{finals}
use Rattle.rules.specs.Admitted.{resting}
use Rattle.rules.specs.Fit.{fit}
use Rattle.rules.specs.Faults.{F, schedule_fit}
use Rattle.rules.specs.Numbers.{number_of, fate_in, fate, is_done}
use Rattle.rules.specs.Puts.{Put, apply_all}
use Rattle.rules.specs.Changes.{changes, destinations, sources, changed_stripes, guarded_stripes, guarded_partitions, index_guards}
use Rattle.rules.specs.Changes.{partition_guards, release, publish_one, publication, insertions, removals, recycled, recycling, stamping}
use Rattle.rules.specs.Tests.{conflicting}
use Rattle.rules.specs.Commit.{End, run_of, strikes, fails, unlogged_writes}
use Rattle.rules.specs.Answer.{uncut, cut_off, answer, unchanged, commit}
use Rattle.run_laws.specs.GuardPuts.{guards_zero, index_back, both_back}
use Rattle.run_laws.specs.Outcome.{Struck, struck, Taken, neither, index, both, Stay, faulted, durable, Abort, unprepared, panicked, busy}
use Rattle.run_laws.specs.Outcome.{conflict, unhealthy, Passed, Spoil, unremoved, unpublished, unrecycled, unfinished, after_stamp, aborting, worse}
use Rattle.run_laws.specs.Outcome.{yes_conflicts}
use Rattle.run_laws.specs.Outcome.{panics, aborting_late, bad, Outcome, done, stays, aborts, uninserted, uncalled, spoils, unstamped, outcome}
use Rattle.statements.specs.Words.{Admitted}

module _ (S : Store) (x : Tx) (logged : Bool) (plan : Schedule) where
  -- rows 1, 2, 3: "all unchanged"
  pub row_1 : (cut : Cut) → resting S ≡ false → commit S x logged plan cut ≡ unchanged S x (NotResting Open)
  unfolding commit
  row_1 cut h = rw h

  pub row_2 : (cut : Cut) → resting S ≡ true → (fit S x && schedule_fit plan) ≡ false → commit S x logged plan cut ≡ unchanged S x (Unfit Open)
  unfolding commit
  row_2 cut h k = rw (h, k)

  pub row_3 : (cut : Cut) → resting S ≡ true → (fit S x && schedule_fit plan) ≡ true → memb x.txid.0 (active_txids S.active) ≡ false
      → commit S x logged plan cut ≡ unchanged S x (NotActive Closed)
  unfolding commit
  row_3 cut h k l = rw (h, k, l)

  -- "then the steps"
  pub admitted : (cut : Cut) → Admitted S x plan → commit S x logged plan cut ≡ answer S x logged (run_of S x logged plan) cut
  unfolding commit
  admitted cut a = rw (a.rests, a.fits, a.planned, a.active)

  -- what holds of the three refusals and of the steps holds of every commit
  pub every_commit : (Q : Answer → Type 0) (cut : Cut)
      → Q (unchanged S x (NotResting Open)) → Q (unchanged S x (Unfit Open)) → Q (unchanged S x (NotActive Closed))
      → (Admitted S x plan → Q (answer S x logged (run_of S x logged plan) cut))
      → Q (commit S x logged plan cut)
  every_commit Q cut one two three steps =
      by (resting S)
      (λ h. by (fit S x && schedule_fit plan)
      (λ k. by (memb x.txid.0 (active_txids S.active))
      (λ l. let f = and_true (fit S x) (schedule_fit plan) k in
      let ok : Admitted S x plan = record { rests = h; fits = f.0; planned = f.1; active = l } in
      rw (admitted cut ok) (steps ok))
      (λ l. rw (row_3 cut h k l) three))
      (λ k. rw (row_2 cut h k) two))
      (λ h. rw (row_1 cut h) one)

  -- an answer whose number isn't 18 is that of the whole run: T is a test of numbers that 18 fails
  pub whole : (cut : Cut) → Admitted S x plan → (T : ℕ → Bool) → T 18 ≡ false → T (number_of (commit S x logged plan cut).refusal) ≡ true
      → commit S x logged plan cut ≡ uncut S x logged (run_of S x logged plan)
  unfolding cut_off
  whole cut ok T z h = rw (admitted cut ok) (go cut (rw (admitted cut ok) at h))
    where
      go : (c : Cut) → T (number_of (answer S x logged (run_of S x logged plan) c).refusal) ≡ true
          → answer S x logged (run_of S x logged plan) c ≡ uncut S x logged (run_of S x logged plan)
      go Uncut k = refl
      go (After n) k = by (ltb n (length (run_of S x logged plan).puts)) (λ e. clash (rw e at k) z) (λ e. rw e)

  -- so a commit that answers 0 leaves the store of the whole run
  pub done_store : (cut : Cut) → Admitted S x plan → is_done (commit S x logged plan cut).refusal ≡ true
      → (commit S x logged plan cut).store ≡ apply_all (run_of S x logged plan).puts S
  unfolding uncut
  done_store cut ok d = rw (whole cut ok is_zero refl d)

-- which numbers each family can't give: a test of numbers that is false at a family's own numbers is false there
module _ {S : Store} {x : Tx} {logged : Bool} {plan : Schedule} (T : ℕ → Bool) where
  pub stay_not : {kind : Fate → Refusal} → T 4 ≡ false → T 8 ≡ false → Stay S x logged plan kind → (f : Fate) → T (number_of (kind f)) ≡ false
  stay_not a b (faulted h) f = a
  stay_not a b (durable h) f = b

  abort_either : {kind failed : Fate → Refusal} {found preparing : Bool} → T 5 ≡ false → T 6 ≡ false → T 7 ≡ false → T 9 ≡ false → T 19 ≡ false
      → Abort S x logged plan kind failed found preparing → (b : Bool) (f : Fate) → T (number_of (cond b failed kind f)) ≡ false
  abort_either a b c d e (unprepared h) true f = e
  abort_either a b c d e (unprepared h) false f = a
  abort_either a b c d e (panicked h) true f = b
  abort_either a b c d e (panicked h) false f = b
  abort_either a b c d e (busy z h) true f = c
  abort_either a b c d e (busy z h) false f = c
  abort_either a b c d e (conflict z h) true f = c
  abort_either a b c d e (conflict z h) false f = c
  abort_either a b c d e (unhealthy h) true f = e
  abort_either a b c d e (unhealthy h) false f = d

  pub abort_not : {kind failed : Fate → Refusal} {found preparing : Bool} → T 5 ≡ false → T 6 ≡ false → T 7 ≡ false → T 9 ≡ false → T 19 ≡ false
      → Abort S x logged plan kind failed found preparing
      → T (number_of (cond (aborting S x logged plan).failed failed kind (fate (aborting S x logged plan).failed true))) ≡ false
  abort_not a b c d e k = abort_either a b c d e k (aborting S x logged plan).failed (fate (aborting S x logged plan).failed true)

  pub spoil_not : {n : ℕ} {made some finishing : List Put} {poisoning : Put} {kind : Fate → Refusal} {y : Tx} {drops : Bool}
      → T 13 ≡ false → T 14 ≡ false → T 15 ≡ false → T 16 ≡ false → Spoil S x logged plan n made some poisoning finishing kind y drops → (f : Fate)
      → T (number_of (kind f)) ≡ false
  spoil_not a b c d (unremoved h) f = a
  spoil_not a b c d (unpublished h) f = b
  spoil_not a b c d (unrecycled h) f = c
  spoil_not a b c d (unfinished h) f = d

called_any : (T : ℕ → Bool) → T 11 ≡ false → T 12 ≡ false → T 19 ≡ false → (p b : Bool) (f : Fate)
    → T (number_of (cond p CallbackPanicked (cond b CleanupFailed CallbackFailed) f)) ≡ false
called_any T a b c true y f = b
called_any T a b c false true f = c
called_any T a b c false false f = a

module _ (S : Store) (x : Tx) (logged : Bool) (plan : Schedule) where
  pub called_not : (T : ℕ → Bool) → T 11 ≡ false → T 12 ≡ false → T 19 ≡ false
      → T (number_of (cond (panics S x logged plan) CallbackPanicked (cond (bad S x logged plan) CleanupFailed CallbackFailed)
      (fate (worse S x logged plan || bad S x logged plan) (not (aborting_late S x logged plan).failed))))
      ≡ false
  called_not T a b c = called_any T a b c (panics S x logged plan) (bad S x logged plan) _

  -- the end of a run that answers 0
  pub only_done : (n : ℕ) (ps : List Put) (d : End) → Outcome S x logged plan n ps d → is_done d.refusal ≡ true
      → (ps ≡ after_stamp S x logged plan ++ release S x) × Passed S x logged plan
  only_done _ _ _ (done p) h = (refl, p)
  only_done _ _ _ (stays l t k) h = clash h (stay_not is_zero refl refl k _)
  only_done _ _ _ (aborts l t k) h = clash h (abort_not is_zero refl refl refl refl refl k)
  only_done _ _ _ (uninserted p k) h = clash h refl
  only_done _ _ _ (uncalled p l k) h = clash h (called_not is_zero refl refl refl)
  only_done _ _ _ (spoils p k) h = clash h (spoil_not is_zero refl refl refl refl k _)
  only_done _ _ _ (unstamped p k) h = clash h refl

  -- the end of a run that answers 4 or 8
  abbrev pub four : ℕ → Bool
  four n = eqb n 4 || eqb n 8

  pub given_back : {taken back : List Put} → resting S ≡ true → Taken S x logged plan taken back → apply_all (taken ++ back) S ≡ S
  given_back h neither = refl
  given_back h index = index_back S x (guards_zero S h).0
  given_back h both = both_back S x (guards_zero S h).0 (guards_zero S h).1

  open_kind : {kind : Fate → Refusal} → Stay S x logged plan kind → fate_in (kind Open) ≡ Open
  open_kind (faulted h) = refl
  open_kind (durable h) = refl

  only_stays : (n : ℕ) (ps : List Put) (d : End) → resting S ≡ true → Outcome S x logged plan n ps d → four (number_of d.refusal) ≡ true
      → (apply_all ps S ≡ S) × (d.tx ≡ x) × (fate_in d.refusal ≡ Open)
  only_stays _ _ _ r (done p) h = clash h refl
  only_stays _ _ _ r (stays l t k) h = (given_back r t, refl, open_kind k)
  only_stays _ _ _ r (aborts l t k) h = clash h (abort_not four refl refl refl refl refl k)
  only_stays _ _ _ r (uninserted p k) h = clash h refl
  only_stays _ _ _ r (uncalled p l k) h = clash h (called_not four refl refl refl)
  only_stays _ _ _ r (spoils p k) h = clash h (spoil_not four refl refl refl refl k _)
  only_stays _ _ _ r (unstamped p k) h = clash h refl

  -- rows 4 and 8: "unchanged, open", whatever the cut
  pub row_4_8 : (cut : Cut) → Admitted S x plan → let a = commit S x logged plan cut in
      four (number_of a.refusal) ≡ true → (a.store ≡ S) × (a.tx ≡ x) × (fate_in a.refusal ≡ Open)
  unfolding uncut
  row_4_8 cut ok h =
      let u = whole S x logged plan cut ok four refl h in
      rw u (only_stays _ _ _ ok.rests (outcome S x logged plan) (rw u at h))

  -- a schedule without a fault strikes nowhere
  pub no_fault_law : plan.count ≡ 0 → Struck S x logged plan → ⊥
  unfolding strikes
  no_fault_law q h = clash (rw q at h.is) h.true_letter

  pub pick_7 : (c : Cause) (b : Bool) (f : Fate) → number_of (cond b (Conflict c) (Conflict c) f) ≡ 7
  pick_7 c true f = refl
  pick_7 c false f = refl

  quiet : (n : ℕ) (ps : List Put) (d : End) → plan.count ≡ 0 → S.poisoned ≡ false → (unlogged_writes S x logged plan && S.bound) ≡ false
      → Outcome S x logged plan n ps d → number_of d.refusal ≡ cond (conflicting S x) 7 0
  quiet _ _ _ q s f (done p) = rw p.agreed
  quiet _ _ _ q s f (stays l t (faulted k)) = absurd (no_fault_law q k)
  quiet _ _ _ q s f (stays l t (durable k)) = clash k f
  quiet _ _ _ q s f (aborts l t (unprepared k)) = absurd (no_fault_law q k)
  quiet _ _ _ q s f (aborts l t (panicked k)) = absurd (no_fault_law q k)
  quiet _ _ _ q s f (aborts l t (busy b k)) = absurd (no_fault_law q k)
  quiet _ _ _ q s f (aborts l t (conflict b k)) = rw (yes_conflicts S x logged plan k) (pick_7 _ (aborting S x logged plan).failed _)
  quiet _ _ _ q s f (aborts l t (unhealthy k)) =
      by (fails S x logged plan 10) (λ e. absurd (no_fault_law q (struck S x logged plan 10 F refl e))) (λ e. clash (rw (e, s) at k) refl)
  quiet _ _ _ q s f (uninserted p k) = absurd (no_fault_law q k)
  quiet _ _ _ q s f (uncalled p l k) = absurd (no_fault_law q k)
  quiet _ _ _ q s f (spoils p (unremoved k)) = absurd (no_fault_law q k)
  quiet _ _ _ q s f (spoils p (unpublished k)) = absurd (no_fault_law q k)
  quiet _ _ _ q s f (spoils p (unrecycled k)) = absurd (no_fault_law q k)
  quiet _ _ _ q s f (spoils p (unfinished k)) = absurd (no_fault_law q k)
  quiet _ _ _ q s f (unstamped p k) = absurd (no_fault_law q k)

  -- Demand 2's number: with no fault and no cut, on a store that isn't poisoned, logged or not writing or not durably bound, the answer is
  -- 0 where the four tests say no, and else 7
  pub success : Admitted S x plan → plan.count ≡ 0 → S.poisoned ≡ false → (unlogged_writes S x logged plan && S.bound) ≡ false
      → number_of (commit S x logged plan Uncut).refusal ≡ cond (conflicting S x) 7 0
  unfolding uncut
  success ok q s f = rw (admitted S x logged plan Uncut ok) (quiet _ _ _ q s f (outcome S x logged plan))

-- the final writes with a base
abbrev pub based : List Write → List Write
based ws = those (λ w. not (eqb w.base.0 0)) ws

publish_one_law : (t : ℕ) (w : Write) (ws : List Write) → length (publish_one t w) + length (based ws) ≡ 1 + length (based (w ∷ ws))
unfolding publish_one
publish_one_law t w ws = by (eqb w.base.0 0) (λ e. rw e (omega arith)) (λ e. rw e (omega arith))

pub publish_length : (t : ℕ) (ws : List Write) → length (flat (publish_one t) ws) ≡ length ws + length (based ws)
publish_length t [] = refl
publish_length t (w ∷ ws) =
    length-append (publish_one t w) (flat (publish_one t) ws) ∙ omega (arith, publish_length t ws, publish_one_law t w ws)

module _ (S : Store) (x : Tx) (logged : Bool) (plan : Schedule) where
  -- "A clean commit makes 2g + 2q + i + r + f + b + n + 1 + s stores: stripes guarded, partitions, insertions, removals, final writes, those
  -- with a base, recycled slots, stamped stripes."
  pub clean_stores : (cut : Cut) → Admitted S x plan → let a = commit S x logged plan cut in
      is_done a.refusal ≡ true
      → let g = length (guarded_stripes (changes S x) x) in
      let q = length (guarded_partitions x) in
      let i = length (destinations (changes S x)) in
      let r = length (sources (changes S x)) in
      let f = length (finals x) in
      let b = length (based (finals x)) in
      let n = length (recycled S x) in
      let s = length (changed_stripes (changes S x)) in
      a.stores ≡ 2 * g + 2 * q + i + r + f + b + n + 1 + s
  unfolding uncut index_guards partition_guards release insertions removals publication recycling stamping
  clean_stores cut ok h =
      let u = whole S x logged plan cut ok is_zero refl h in
      rw (u, (only_done S x logged plan _ _ _ (outcome S x logged plan) (rw u at h)).0)
      (simp (length-append, length-map) (omega (arith, publish_length x.txid.0 (finals x))))
