-- Source 000's promises about its events: safe_release, completed, and poison after a failed publication.
use Rattle.std.specs.Prelude.{◌≡◌, Bool, ◌&&◌, ◌||◌, List, ℕ, ◌≤◌, length, eqb, ltb, leb}
use Rattle.std.proofs.Math.Path.{refl}
use Rattle.std.proofs.Math.Bool.{true, false, not, cond}
use Rattle.std.proofs.Common.{arith, leb-false}
use Rattle.std.proofs.lemmas.Bool.{lt-leb}
use Rattle.basic_laws.specs.Cases.{clash, by, and_false}
use Rattle.rules.specs.Lists.{is_zero}
use Rattle.rules.specs.Types.{Store, Tx, Schedule, Events, Answer, Cut, Uncut, After, Refusal, Fate, Undone}
use Rattle.rules.specs.Transaction.{finals}
use Rattle.rules.specs.Numbers.{number_of, is_done}
use Rattle.rules.specs.Puts.{Put}
use Rattle.rules.specs.Commit.{End, run_of}
use Rattle.rules.specs.Answer.{events_of, no_events, uncut, cut_off, answer, commit}
use Rattle.run_laws.specs.Outcome.{aborting, worse, undoing, Spoil, unremoved, unpublished, unrecycled, unfinished}
use Rattle.run_laws.specs.Outcome.{Outcome, done, stays, aborts, uninserted, uncalled, spoils, unstamped, outcome}
use Rattle.run_laws.specs.FirstRows.{every_commit, stay_not, abort_not, called_not, spoil_not}

-- 000's definitions, word for word
abbrev pub validated : Events → Bool
validated s =
    s.health_checked
    && (not s.health_cleanup_required && (s.index_validated && (s.row_lock_validated && (s.serial_validated && s.base_validated))))

abbrev pub safe_release : Events → Bool
safe_release s =
    ((not s.destinations_prepared && not s.prepared) || (s.poisoned || (s.rows_published && (s.deregistered && s.stamped))))
    && (not s.preparation_cleanup_required || s.poisoned)

abbrev pub completed : Events → Bool
completed s =
    (validated s && (s.prepared && (s.rows_published && (s.deregistered && s.stamped))))
    && ((not s.index_locked && (not s.partition_locked && not s.poisoned))
    && ((not s.write_ahead || (s.record_prepared && (s.payload_prepared && s.callback_complete)))
    && (not (not s.write_ahead && s.has_writes) || (s.unlogged_write_checked && not s.durably_bound))))

-- a run that ended before step 15
below : (n k : ℕ) → 14 ≤ k → leb 14 n ≡ false → leb k n ≡ false
below n k le h = lt-leb k n (omega (arith, leb-false 14 n h))

module _ (S : Store) (x : Tx) (logged : Bool) (plan : Schedule) where
  abbrev pub ev : ℕ → End → Events
  ev n d = events_of logged S.bound (ltb 0 (length (finals x))) n d

  spoiled : {n : ℕ} {made some finishing : List Put} {poisons : Put} {kind : Fate → Refusal} {y : Tx} {drops : Bool}
      → Spoil S x logged plan n made some poisons finishing kind y drops
      → safe_release (ev n (record { refusal = kind Undone; tx = y; poisoned = true; cleanup = false; undone = false; dropped = drops })) ≡ true
  unfolding events_of
  spoiled (unremoved k) = refl
  spoiled (unpublished k) = refl
  spoiled (unrecycled k) = refl
  spoiled (unfinished k) = refl

  safe : (n : ℕ) (ps : List Put) (d : End) → Outcome S x logged plan n ps d → safe_release (ev n d) ≡ true
  unfolding events_of
  safe _ _ _ (done p) = refl
  safe n _ _ (stays l t k) = rw (below n 15 (omega arith) l, below n 17 (omega arith) l)
  safe n _ _ (aborts {found = found} {preparing = preparing} l t k) =
      by (aborting S x logged plan).failed
      (λ e. rw (below n 15 (omega arith) l, below n 17 (omega arith) l, e) (both preparing found))
      (λ e. rw (below n 15 (omega arith) l, below n 17 (omega arith) l, e, and_false preparing))
    where
      both : (a b : Bool) → (not (a && true) || (b || true)) ≡ true
      both true true = refl
      both true false = refl
      both false b = refl
  safe _ _ _ (uninserted p k) = refl
  safe _ _ _ (uncalled p l k) = by (undoing S x logged plan).failed (λ e. rw e (either (worse S x logged plan))) (λ e. rw e)
    where
      either : (a : Bool) → (((not true && not false) || ((a || (true || false)) || false)) && (not false || (a || true))) ≡ true
      either true = refl
      either false = refl
  safe _ _ _ (spoils p k) = spoiled k
  safe _ _ _ (unstamped p k) = refl

  complete : (n : ℕ) (ps : List Put) (d : End) → Outcome S x logged plan n ps d → is_zero (number_of d.refusal) ≡ true → completed (ev n d) ≡ true
  unfolding events_of
  complete _ _ _ (done p) h = logs logged (ltb 0 (length (finals x))) S.bound p.allowed
    where
      logs : (l w b : Bool) → ((not l && w) && b) ≡ false
          → ((not l || ((l && true) && ((l && true) && (l && true)))) && (not (not l && w) || ((not l && (w && true)) && not b))) ≡ true
      logs true w b h = refl
      logs false true true h = clash refl h
      logs false true false h = refl
      logs false false b h = refl
  complete _ _ _ (stays l t k) h = clash h (stay_not is_zero refl refl k _)
  complete _ _ _ (aborts l t k) h = clash h (abort_not is_zero refl refl refl refl refl k)
  complete _ _ _ (uninserted p k) h = clash h refl
  complete _ _ _ (uncalled p l k) h = clash h (called_not S x logged plan is_zero refl refl refl)
  complete _ _ _ (spoils p k) h = clash h (spoil_not is_zero refl refl refl refl k _)
  complete _ _ _ (unstamped p k) h = clash h refl

  -- what 000 says of every commit's events; zero events say it too
  pub record Kept (s : Events) (ok : Bool) : Type 0 where
    pub released : safe_release s ≡ true
    pub cleaned : s.health_cleanup_required ≡ false
    pub success : ok ≡ true → completed s ≡ true
    pub failure : ok ≡ false → s.rows_published ≡ true → s.poisoned ≡ true

  published : (n : ℕ) (ps : List Put) (d : End) → Outcome S x logged plan n ps d → is_zero (number_of d.refusal) ≡ false
      → (ev n d).rows_published ≡ true → d.poisoned ≡ true
  unfolding events_of
  published _ _ _ (done p) h r = clash refl h
  published n _ _ (stays l t k) h r = clash r (below n 17 (omega arith) l)
  published n _ _ (aborts l t k) h r = clash r (below n 17 (omega arith) l)
  published _ _ _ (uninserted p k) h r = clash r refl
  published _ _ _ (uncalled p l k) h r = clash r refl
  published _ _ _ (spoils p k) h r = refl
  published _ _ _ (unstamped p k) h r = refl

  zero_kept : (ok : Bool) → ok ≡ false → Kept no_events ok
  unfolding no_events events_of
  zero_kept ok h = record { released = refl; cleaned = refl; success = λ k. clash k h; failure = λ k r. clash r refl }

  whole_kept : Kept (uncut S x logged (run_of S x logged plan)).events (is_done (uncut S x logged (run_of S x logged plan)).refusal)
  unfolding uncut events_of
  whole_kept =
      let o = outcome S x logged plan in
      record { released = safe _ _ _ o; cleaned = refl; success = λ h. complete _ _ _ o h; failure = λ h r. published _ _ _ o h r }

  answered : (cut : Cut) → let a = answer S x logged (run_of S x logged plan) cut in Kept a.events (is_done a.refusal)
  unfolding cut_off
  answered Uncut = whole_kept
  answered (After n) = go (ltb n (length (run_of S x logged plan).puts))
    where
      go : (b : Bool) → let a = cond b (cut_off S (run_of S x logged plan) n) (uncut S x logged (run_of S x logged plan)) in Kept a.events (is_done a.refusal)
      go true = zero_kept false refl
      go false = whole_kept

  pub events_kept : (cut : Cut) → let a = commit S x logged plan cut in Kept a.events (is_done a.refusal)
  events_kept cut =
      every_commit S x logged plan (λ a. Kept a.events (is_done a.refusal)) cut
      (zero_kept false refl) (zero_kept false refl) (zero_kept false refl) (λ ok. answered cut)

  -- 000's two promises by their names
  pub safe_release_law : (cut : Cut) → safe_release (commit S x logged plan cut).events ≡ true
  safe_release_law cut = (events_kept cut).released

  pub completes : (cut : Cut) → let a = commit S x logged plan cut in is_done a.refusal ≡ true → completed a.events ≡ true
  completes cut = (events_kept cut).success

  -- "zero on 1, 2, 3 and 18", and no other run of the steps answers these numbers
  abbrev pub silent : ℕ → Bool
  silent n = eqb n 1 || (eqb n 2 || (eqb n 3 || eqb n 18))

  never_silent : (n : ℕ) (ps : List Put) (d : End) → Outcome S x logged plan n ps d → silent (number_of d.refusal) ≡ false
  never_silent _ _ _ (done p) = refl
  never_silent _ _ _ (stays l t k) = stay_not silent refl refl k _
  never_silent _ _ _ (aborts l t k) = abort_not silent refl refl refl refl refl k
  never_silent _ _ _ (uninserted p k) = refl
  never_silent _ _ _ (uncalled p l k) = called_not S x logged plan silent refl refl refl
  never_silent _ _ _ (spoils p k) = spoil_not silent refl refl refl refl k _
  never_silent _ _ _ (unstamped p k) = refl

  abbrev Silent : Answer → Type 0
  Silent a = silent (number_of a.refusal) ≡ true → a.events ≡ no_events

  run_silent : (cut : Cut) → Silent (answer S x logged (run_of S x logged plan) cut)
  unfolding uncut cut_off
  run_silent Uncut = λ h. clash h (never_silent _ _ _ (outcome S x logged plan))
  run_silent (After n) =
      by (ltb n (length (run_of S x logged plan).puts)) (λ e. rw e (λ h. refl)) (λ e. rw e (λ h. clash h (never_silent _ _ _ (outcome S x logged plan))))

  pub events_zero : (cut : Cut) → let a = commit S x logged plan cut in silent (number_of a.refusal) ≡ true → a.events ≡ no_events
  events_zero cut = every_commit S x logged plan Silent cut (λ h. refl) (λ h. refl) (λ h. refl) (λ ok. run_silent cut)
