-- Whatever one of source 000's calls asks of the events holds where a run of commit reaches it, and the calls leave exactly the events
-- that commit answers.
use Rattle.std.specs.Prelude.{◌≡◌, Bool, not, cond, ◌&&◌, ◌||◌, List, [], ◌∷◌, ◌++◌, ℕ, suc, length, ltb}
use Rattle.std.proofs.Math.Path.{refl}
use Rattle.std.proofs.Math.Bool.{true, false}
use Rattle.std.proofs.lemmas.Bool.{not-true}
use Rattle.basic_laws.specs.Cases.{by, and_true}
use Rattle.rules.specs.Types.{Store, Tx, Schedule, Events, Cut, Done}
use Rattle.rules.specs.Transaction.{finals}
use Rattle.rules.specs.Numbers.{number_of}
use Rattle.rules.specs.Puts.{Put}
use Rattle.rules.specs.Commit.{End, unlogged_writes, Run, run_of}
use Rattle.run_laws.specs.Outcome.{aborting, rolling_back, worse, undoing, aborting_late}
use Rattle.run_laws.specs.Gates.{Gate, first, hit, gates, clean, run_gates}
use Rattle.rules.specs.Answer.{events_of, uncut, commit}
use Rattle.run_laws.specs.EventLaws.{ev}
use Rattle.statements.specs.Words.{Admitted}
use Rattle.run_laws.specs.FirstRows.{whole}
use Rattle.upstream.specs.Primitives.{initial, Call, met, play}
use Rattle.upstream.specs.Body.{ending_of, standing, stand, onward, said, up_to, callback_failed, endings, told}

met_append : (cs ds : List Call) (s : Events) → met (cs ++ ds) s ≡ (met cs s && met ds (play cs s))
met_append [] ds s = refl
met_append (c ∷ cs) ds s = by (c.asks s) (λ e. rw e (met_append cs ds (c.leaves s))) (λ e. rw e)

play_append : (cs ds : List Call) (s : Events) → play (cs ++ ds) s ≡ play ds (play cs s)
play_append [] ds s = refl
play_append (c ∷ cs) ds s = play_append cs ds (c.leaves s)

-- what step 15 asks of an unlogged write
checked : (l w b : Bool) → ((not l && w) && b) ≡ false → (not (not l && w) || ((not l && (w && true)) && not b)) ≡ true
checked true w b h = refl
checked false true b h = rw h
checked false false b h = refl

module _ (S : Store) (x : Tx) (logged : Bool) (plan : Schedule) where
  abbrev pub start : Events
  start = stand S x logged plan 0

  -- 000's `initial`
  pub starts : initial start ≡ true
  unfolding standing
  starts = by logged (λ e. rw e) (λ e. by (ltb 0 (length (finals x))) (λ w. rw (e, w)) (λ w. rw (e, w)))

  -- calls that each find what they ask, and lead to the events s
  pub record Leads (from : Events) (cs : List Call) (s : Events) : Type 0 where
    pub asked : met cs from ≡ true
    pub left : play cs from ≡ s

  further : {a b c : Events} {cs ds : List Call} → Leads a cs b → Leads b ds c → Leads a (cs ++ ds) c
  further {a} {b} {c} {cs} {ds} h k = record {
    asked = rw (met_append cs ds a, h.asked, h.left) k.asked;
    left = rw (play_append cs ds a, h.left) k.left;
  }

  -- the events when n steps are passed, each call having found what it asks
  abbrev pub Reached : ℕ → Type 0
  Reached n = Leads start (up_to S x logged plan n) (stand S x logged plan n)

  -- one step more
  next : (n : ℕ) → Reached n → met (said S x logged plan (suc n)) (stand S x logged plan n) ≡ true
      → play (said S x logged plan (suc n)) (stand S x logged plan n) ≡ stand S x logged plan (suc n) → Reached (suc n)
  next n h a l = further h (record { asked = a; left = l })

  to_0 : Reached 0
  to_0 = record { asked = refl; left = refl }

  to_1 : Reached 1
  unfolding standing onward
  to_1 = next 0 to_0 refl refl

  to_2 : Reached 2
  unfolding standing onward
  to_2 = by (ltb 0 (length (finals x))) (λ e. next 1 to_1 (rw e) refl) (λ e. next 1 to_1 (rw e) refl)

  to_3 : Reached 3
  unfolding standing onward
  to_3 = next 2 to_2 refl refl

  to_4 : Reached 4
  unfolding standing onward
  to_4 = next 3 to_3 refl refl

  to_5 : Reached 5
  unfolding standing onward
  to_5 = by logged (λ e. next 4 to_4 (rw e) (rw e)) (λ e. next 4 to_4 (rw e) (rw e))

  to_6 : Reached 6
  unfolding standing onward
  to_6 = by logged (λ e. next 5 to_5 (rw e) (rw e)) (λ e. next 5 to_5 (rw e) (rw e))

  to_7 : Reached 7
  unfolding standing onward
  to_7 = next 6 to_6 refl refl

  to_8 : Reached 8
  unfolding standing onward
  to_8 = next 7 to_7 refl refl

  -- from step 9 on: an unlogged write is allowed
  module _ (free : (unlogged_writes S x logged plan && S.bound) ≡ false) where
    to_9 : Reached 9
    unfolding standing onward
    to_9 = by logged
        (λ e. next 8 to_8 (rw e) (rw e))
        (λ e. by (ltb 0 (length (finals x)))
        (λ w. next 8 to_8 (rw (e, w, rw (e, w) at free)) (rw (e, w)))
        (λ w. next 8 to_8 (rw (e, w)) (rw (e, w))))

    to_10 : Reached 10
    unfolding standing onward
    to_10 = next 9 to_9 refl refl

    to_11 : Reached 11
    unfolding standing onward
    to_11 = next 10 to_10 refl refl

    to_12 : Reached 12
    unfolding standing onward
    to_12 = next 11 to_11 refl refl

    to_13 : Reached 13
    unfolding standing onward
    to_13 = next 12 to_12 refl refl

    to_14 : Reached 14
    unfolding standing onward
    to_14 = next 13 to_13 refl refl

    to_15 : Reached 15
    unfolding standing onward
    to_15 = next 14 to_14 (rw (checked logged (ltb 0 (length (finals x))) S.bound free)) refl

    to_16 : Reached 16
    unfolding standing onward
    to_16 = by logged (λ e. next 15 to_15 (rw e) (rw e)) (λ e. next 15 to_15 (rw e) (rw e))

    to_17 : Reached 17
    unfolding standing onward
    to_17 = by logged (λ e. next 16 to_16 (rw e) (rw e)) (λ e. next 16 to_16 (rw e) (rw e))

    to_18 : Reached 18
    unfolding standing onward
    to_18 = by logged (λ e. next 17 to_17 (rw e) (rw e)) (λ e. next 17 to_17 (rw e) (rw e))

    to_19 : Reached 19
    unfolding standing onward
    to_19 = next 18 to_18 refl refl

    to_20 : Reached 20
    unfolding standing onward
    to_20 = next 19 to_19 refl refl

    to_21 : Reached 21
    unfolding standing onward
    to_21 = next 20 to_20 refl refl

    to_22 : Reached 22
    unfolding standing onward
    to_22 = next 21 to_21 refl refl

    to_23 : Reached 23
    unfolding standing onward
    to_23 = next 22 to_22 refl refl

  -- a run and the calls that end it: each call finds what it asks, and they leave the events of the run
  pub record Told (r : Run) (ds : List Call) : Type 0 where
    pub leads : Leads start (up_to S x logged plan r.passed ++ ds) (ev S x logged plan r.passed r.end)

  -- gates and their endings side by side
  pub record Along (gs : List Gate) (r : Run) (es : List (List Call)) : Type 0 where
    pub are : Told (first gs r) (ending_of gs es)

  over : {r : Run} → Told r [] → Along [] r []
  over h = record { are = h }

  gate : {b : Bool} {r u : Run} {ds : List Call} {gs : List Gate} {es : List (List Call)} → (b ≡ true → Told r ds) → (b ≡ false → Along gs u es)
      → Along (record { when = b; then = r } ∷ gs) u (ds ∷ es)
  gate {b} {r} {u} {ds} {gs} {es} f g = record { are = go b f (λ e. (g e).are) }
    where
      go : (c : Bool) → (c ≡ true → Told r ds) → (c ≡ false → Told (first gs u) (ending_of gs es)) → Told (cond c r (first gs u)) (cond c ds (ending_of gs es))
      go true f g = f refl
      go false f g = g refl

  ends : (n : ℕ) {ps : List Put} {d : End} {cs : List Call} → Reached n → met cs (stand S x logged plan n) ≡ true
      → play cs (stand S x logged plan n) ≡ ev S x logged plan n d → Told (record { passed = n; puts = ps; end = d }) cs
  ends n h a l = record { leads = further h (record { asked = a; left = l }) }

  -- the abort fails
  abbrev f : Bool
  f = (aborting S x logged plan).failed

  -- 11 and 12: the callback poisons, the rollback fails, the abort fails
  uncalled : (w u a : Bool) → logged ≡ true → (met (callback_failed w u a) (stand S x logged plan 15) ≡ true)
      × (play (callback_failed w u a) (stand S x logged plan 15)
      ≡ ev S x logged plan 15 (record { refusal = Done; tx = x; poisoned = w || (u || a); cleanup = false; undone = not u; dropped = false }))
  unfolding events_of standing
  uncalled true true true l = (rw l, rw l)
  uncalled true true false l = (rw l, rw l)
  uncalled true false true l = (rw l, rw l)
  uncalled true false false l = (rw l, rw l)
  uncalled false true true l = (rw l, rw l)
  uncalled false true false l = (rw l, rw l)
  uncalled false false true l = (rw l, rw l)
  uncalled false false false l = (rw l, rw l)

  -- 9 and 10 of the gates: unlogged, with writes
  unlogged : unlogged_writes S x logged plan ≡ true → (logged ≡ false) × (ltb 0 (length (finals x)) ≡ true)
  unlogged h = let a = and_true (not logged) _ h in (not-true logged a.0, a.1)

  all_told : Along (gates S x logged plan) (clean S x logged plan) (endings S x logged plan)
  unfolding gates endings events_of standing
  all_told =
      gate (λ h. ends 2 to_2 refl refl) (λ _.
      gate (λ h. ends 3 to_3 refl refl) (λ _.
      gate (λ h. let l = (and_true logged _ h).0 in by f (λ e. ends 4 to_4 (rw (e, l)) (rw (e, l))) (λ e. ends 4 to_4 (rw (e, l)) (rw (e, l)))) (λ _.
      gate (λ h. let l = (and_true logged _ h).0 in by f (λ e. ends 5 to_5 (rw (e, l)) (rw (e, l))) (λ e. ends 5 to_5 (rw (e, l)) (rw (e, l)))) (λ _.
      gate (λ h. let l = (and_true logged _ h).0 in by f (λ e. ends 5 to_5 (rw (e, l)) (rw (e, l))) (λ e. ends 5 to_5 (rw (e, l)) (rw (e, l)))) (λ _.
      gate (λ h. ends 6 to_6 refl refl) (λ _.
      gate (λ h. by f (λ e. ends 6 to_6 (rw e) (rw e)) (λ e. ends 6 to_6 (rw e) (rw e))) (λ _.
      gate (λ h. ends 7 to_7 refl refl) (λ _.
      gate (λ h. by f (λ e. ends 7 to_7 (rw e) (rw e)) (λ e. ends 7 to_7 (rw e) (rw e))) (λ _.
      gate (λ h. let u = unlogged (and_true _ _ h).0 in ends 8 to_8 refl (rw (u.0, u.1))) (λ _.
      gate (λ h. let u = unlogged (and_true _ _ h).0 in ends 8 to_8 refl (rw (u.0, u.1))) (λ free.
      gate (λ h. by (hit S x logged plan 10)
      (λ k. by f (λ e. ends 9 (to_9 free) (rw e) (rw (e, k))) (λ e. ends 9 (to_9 free) (rw e) (rw (e, k))))
      (λ k. by f (λ e. ends 9 (to_9 free) (rw e) (rw (e, k))) (λ e. ends 9 (to_9 free) (rw e) (rw (e, k))))) (λ _.
      gate (λ h. ends 10 (to_10 free) refl refl) (λ _.
      gate (λ h. by f (λ e. ends 10 (to_10 free) (rw e) (rw e)) (λ e. ends 10 (to_10 free) (rw e) (rw e))) (λ _.
      gate (λ h. ends 11 (to_11 free) refl refl) (λ _.
      gate (λ h. by f (λ e. ends 11 (to_11 free) (rw e) (rw e)) (λ e. ends 11 (to_11 free) (rw e) (rw e))) (λ _.
      gate (λ h. ends 12 (to_12 free) refl refl) (λ _.
      gate (λ h. by f (λ e. ends 12 (to_12 free) (rw e) (rw e)) (λ e. ends 12 (to_12 free) (rw e) (rw e))) (λ _.
      gate (λ h. ends 13 (to_13 free) refl refl) (λ _.
      gate (λ h. by f (λ e. ends 13 (to_13 free) (rw e) (rw e)) (λ e. ends 13 (to_13 free) (rw e) (rw e))) (λ _.
      gate (λ h. by (rolling_back S x logged plan).failed (λ e. ends 14 (to_14 free) (rw (checked logged (ltb 0 (length (finals x))) S.bound free)) (rw e))
      (λ e. ends 14 (to_14 free) (rw (checked logged (ltb 0 (length (finals x))) S.bound free)) (rw e))) (λ _.
      gate (λ h. let c = uncalled (worse S x logged plan) (undoing S x logged plan).failed (aborting_late S x logged plan).failed (and_true logged _ h).0 in
      ends 15 (to_15 free) c.0 c.1) (λ _.
      gate (λ h. by logged (λ e. ends 16 (to_16 free) (rw e) (rw e)) (λ e. ends 16 (to_16 free) (rw e) (rw e))) (λ _.
      gate (λ h. by (hit S x logged plan 21)
      (λ k. by logged (λ l. ends 17 (to_17 free) (rw l) (rw (k, l))) (λ l. ends 17 (to_17 free) (rw l) (rw (k, l))))
      (λ k. by logged (λ l. ends 17 (to_17 free) (rw l) (rw (k, l))) (λ l. ends 17 (to_17 free) (rw l) (rw (k, l))))) (λ _.
      gate (λ h. by (hit S x logged plan 21) (λ e. ends 18 (to_18 free) refl (rw e)) (λ e. ends 18 (to_18 free) refl (rw e))) (λ _.
      gate (λ h. ends 20 (to_20 free) refl refl) (λ _.
      gate (λ h. ends 21 (to_21 free) refl refl) (λ _.
      over (ends 23 (to_23 free) refl refl))))))))))))))))))))))))))))

  run_told : Told (run_of S x logged plan) (ending_of (gates S x logged plan) (endings S x logged plan))
  run_told = rw (run_gates S x logged plan) all_told.are

  -- an admitted commit that isn't cut: T is a test of numbers that 18 fails
  pub events_told : (cut : Cut) → Admitted S x plan → (T : ℕ → Bool) → T 18 ≡ false → let a = commit S x logged plan cut in
      T (number_of a.refusal) ≡ true → Leads start (told S x logged plan) a.events
  unfolding uncut
  events_told cut ok T z h = rw (whole S x logged plan cut ok T z h) run_told.leads
