-- A test that each part of a run passes, every store of a commit passes. So each is one guard, posting, xmax, head, slot, active-list, stamp or
-- poison change, and no commit makes a new key.
use Rattle.std.specs.Prelude.{◌≡◌, Bool, true, false, cond, ◌||◌, List, [], ◌∷◌, ◌++◌, ℕ, ◌≤◌, get_or, set, take, eqb}
use Rattle.std.proofs.Math.Path.{refl}
use Rattle.std.proofs.Common.{arith, get_or-set_other, eqb-true}
use Rattle.std.proofs.lemmas.Bool.{eqb-false}
use Rattle.rules.specs.Lists.{all, memb}
use Rattle.rules.specs.Types.{Store, Tx, Schedule, Fate, Refusal}
use Rattle.rules.specs.Puts.{Put, k_stripe, k_partition, k_insert, k_remove, k_xmax, k_head, k_free, k_drop, k_stamp}
use Rattle.rules.specs.Puts.{k_poison, k_doom, k_key, is, put_drop, put_poison, put_doom, abort_puts, apply, apply_all}
use Rattle.rules.specs.Changes.{changes, destinations, release, insertions, removals, publication, recycling, stamping}
use Rattle.rules.specs.Commit.{End, poison, fails, count, finish, abort_or_poison, rollback, run_of}
use Rattle.basic_laws.specs.Cases.{by, and_true}
use Rattle.run_laws.specs.OnlyKinds.{only, only_take, only_if, is_not}
use Rattle.run_laws.specs.Outcome.{Passed, guards_taken, after_insert, after_remove, after_publish, after_recycle, after_finish, after_stamp}
use Rattle.run_laws.specs.Outcome.{aborting, rolling_back, worse, undoing, aborting_late, Spoil, unremoved, unpublished, unrecycled}
use Rattle.run_laws.specs.Outcome.{unfinished, Outcome, done, stays, aborts, uninserted, uncalled, spoils, unstamped, outcome}
use Rattle.basic_laws.specs.AllOf.{all_then, all_append, all_take}
use Rattle.run_laws.specs.Kinds.{taken_kinds, release_kinds, insertions_kind, removals_kind, publication_kinds}
use Rattle.run_laws.specs.Kinds.{recycling_kind, stamping_kind, poison_kind, abort_kinds, rollback_kinds}
use Rattle.basic_laws.specs.Members.{all_mem}
use Rattle.recovery_laws.specs.Calm.{calm}
use Rattle.recovery_laws.specs.PutBlocks.{guards_kinds, insert_kinds, remove_kinds}
use Rattle.run_laws.specs.GuardPuts.{set_blank}

abbrev pub counted : List ℕ
counted = k_stripe ∷ k_partition ∷ k_insert ∷ k_remove ∷ k_xmax ∷ k_head ∷ k_free ∷ k_drop ∷ k_stamp ∷ k_poison ∷ k_doom ∷ []

-- a test that each part of a run passes: guards, postings, stamps and poison; publication, past the tests; recycling; an abort's stores; the
-- drop and the doom
module _ (T : Put → Bool) (aside : (p : Put) → memb p.kind calm ≡ true → T p ≡ true) (S : Store) (x : Tx) (logged : Bool) (plan : Schedule)
    (published : Passed S x logged plan → all T (publication x) ≡ true) (recycles : all T (recycling S x) ≡ true)
    (aborted : all T (abort_puts S x.txid.0) ≡ true)
    (drops : T (put_drop x.txid.0) ≡ true) (dooms : T (put_doom x.txid.0) ≡ true) where
  abbrev t : ℕ
  t = x.txid.0

  abbrev Holds : List Put → Type 0
  Holds ps = all T ps ≡ true

  and_then : (ps qs : List Put) → Holds ps → Holds qs → Holds (ps ++ qs)
  and_then = all_append T

  calmly : (ps : List Put) → only calm ps ≡ true → Holds ps
  calmly = all_then (λ p. memb p.kind calm) T aside

  let_go : Holds (release S x)
  let_go = calmly (release S x) (release_kinds calm refl refl S x)

  guarded : Holds (guards_taken S x logged plan)
  guarded = calmly (guards_taken S x logged plan) (taken_kinds calm refl refl S x logged plan)

  -- the stores up to steps 15, 17, 18, 19 and 21
  to_15 : Holds (after_insert S x logged plan)
  to_15 = calmly (after_insert S x logged plan) (insert_kinds calm refl refl S x logged plan refl)

  to_17 : Holds (after_remove S x logged plan)
  to_17 = calmly (after_remove S x logged plan) (remove_kinds calm refl refl S x logged plan refl refl)

  to_18 : Passed S x logged plan → Holds (after_publish S x logged plan)
  to_18 p = and_then (after_remove S x logged plan) (publication x) to_17 (published p)

  to_19 : Passed S x logged plan → Holds (after_recycle S x logged plan)
  to_19 p = and_then (after_publish S x logged plan) (recycling S x) (to_18 p) recycles

  to_21 : Passed S x logged plan → Holds (after_finish S x logged plan)
  to_21 p = and_then (after_recycle S x logged plan) (put_drop t ∷ []) (to_19 p) (rw drops)

  -- the doom, and the finish that may follow it
  doomed : Holds (put_doom t ∷ finish S x logged plan)
  doomed = by (fails S x logged plan 21) (λ e. rw (e, dooms)) (λ e. rw (e, dooms, drops))

  -- abort, or the poison in its place; the rollback
  cleaning : (b : Bool) → Holds (abort_or_poison S x logged plan b).puts
  unfolding abort_or_poison
  cleaning b = by (fails S x logged plan 23) (λ e. rw e (calmly (poison b) (poison_kind calm refl b))) (λ e. rw e aborted)

  rolling : (b : Bool) (made : List ℕ) → Holds (rollback S x logged plan b made).puts
  rolling b made = calmly (rollback S x logged plan b made).puts (rollback_kinds calm S x logged plan refl refl b made)

  spoiling : (made some finishing : List Put) → Holds made → Holds some → Holds finishing → Holds (made ++ (some ++ finishing ++ release S x))
  spoiling made some finishing a b c =
      and_then made (some ++ finishing ++ release S x) a (and_then (some ++ finishing) (release S x) (and_then some finishing b c) let_go)

  spoiled : {n : ℕ} {made some ending : List Put} {poisons : Put} {kind : Fate → Refusal} {y : Tx} {drops : Bool} → Passed S x logged plan
      → Spoil S x logged plan n made some poisons ending kind y drops
      → Holds (made ++ (some ++ poisons ∷ ending ++ release S x))
  spoiled p (unremoved k) =
      let n = count S x logged plan 17 in
      spoiling (after_insert S x logged plan) (take n (removals S x)) (put_poison ∷ []) to_15
      (calmly (take n (removals S x)) (only_take calm n (removals S x) (removals_kind calm S x refl))) (calmly (put_poison ∷ []) refl)
  spoiled p (unpublished k) =
      let n = count S x logged plan 18 in
      spoiling (after_remove S x logged plan) (take n (publication x)) (put_doom t ∷ finish S x logged plan) to_17
      (all_take T n (publication x) (published p)) doomed
  spoiled p (unrecycled k) =
      let n = count S x logged plan 19 in
      spoiling (after_publish S x logged plan) (take n (recycling S x)) (put_doom t ∷ finish S x logged plan) (to_18 p)
      (all_take T n (recycling S x) recycles) doomed
  spoiled p (unfinished k) = spoiling (after_recycle S x logged plan) [] (put_doom t ∷ []) (to_19 p) refl (rw dooms)

  passes : {n : ℕ} {ps : List Put} {d : End} → Outcome S x logged plan n ps d → Holds ps
  passes (done p) =
      and_then (after_stamp S x logged plan) (release S x)
      (and_then (after_finish S x logged plan) (stamping S x) (to_21 p) (calmly (stamping S x) (stamping_kind calm S x refl))) let_go
  passes (stays {taken = taken} {back = back} l h k) =
      let c = guards_kinds calm refl refl S x logged plan h in
      and_then taken back (calmly taken c.0) (calmly back c.1)
  passes (aborts {taken = taken} {back = back} l h k) =
      let c = guards_kinds calm refl refl S x logged plan h in
      and_then taken (back ++ (aborting S x logged plan).puts) (calmly taken c.0)
      (and_then back (aborting S x logged plan).puts (calmly back c.1) (cleaning S.poisoned))
  passes (uninserted p k) =
      let n = count S x logged plan 15 in
      let some = take n (insertions S x) in
      let back = (rolling_back S x logged plan).puts in
      and_then (guards_taken S x logged plan) (some ++ (back ++ release S x)) guarded
      (and_then some (back ++ release S x) (calmly some (only_take calm n (insertions S x) (insertions_kind calm S x refl)))
      (and_then back (release S x) (rolling false (take n (destinations (changes S x)))) let_go))
  passes (uncalled p l k) =
      let worsens = cond (worse S x logged plan) (put_poison ∷ []) [] in
      let back = (undoing S x logged plan).puts in
      let late = (aborting_late S x logged plan).puts in
      and_then (after_insert S x logged plan) (worsens ++ (back ++ (late ++ release S x))) to_15
      (and_then worsens (back ++ (late ++ release S x)) (calmly worsens (only_if calm (worse S x logged plan) (put_poison ∷ []) [] refl refl))
      (and_then back (late ++ release S x) (rolling (worse S x logged plan) (destinations (changes S x)))
      (and_then late (release S x) (cleaning (worse S x logged plan || (undoing S x logged plan).failed)) let_go)))
  passes (spoils p k) = spoiled p k
  passes (unstamped p k) =
      let some = take (count S x logged plan 22) (stamping S x) in
      and_then (after_finish S x logged plan) (some ++ put_poison ∷ release S x) (to_21 p)
      (and_then some (put_poison ∷ release S x) (calmly some (only_take calm (count S x logged plan 22) (stamping S x) (stamping_kind calm S x refl)))
      (and_then (put_poison ∷ []) (release S x) (calmly (put_poison ∷ []) refl) let_go))

  -- every run passes it
  pub run_all : all T (run_of S x logged plan).puts ≡ true
  run_all = passes (outcome S x logged plan)

-- so every store of a run is of these kinds
pub run_counted : (S : Store) (x : Tx) (logged : Bool) (plan : Schedule) → only counted (run_of S x logged plan).puts ≡ true
run_counted S x logged plan = run_all (λ p. memb p.kind counted) (λ p m. all_mem (λ k. memb k counted) calm refl p.kind m) S x logged plan
    (λ _. publication_kinds counted S x refl refl) (recycling_kind counted S x refl) (abort_kinds counted refl refl S x.txid.0) refl refl

-- such stores set no key but to 0
pub keys_kept : (ps : List Put) (S : Store) → only counted ps ≡ true → (p : ℕ) → get_or (apply_all ps S).key p 0 ≤ get_or S.key p 0
keys_kept [] S o p = omega arith
keys_kept (q ∷ ps) S o p =
    let a = and_true (memb q.kind counted) (only counted ps) o in
    let rest = keys_kept ps (apply q S) a.1 p in
    let here : get_or (apply q S).key p 0 ≤ get_or S.key p 0 = rw (is_not counted k_key refl q a.0) (freed (is q k_free)) in
    omega arith
  where
    freed : (b : Bool) → get_or (cond b (set S.key q.at 0) S.key) p 0 ≤ get_or S.key p 0
    freed true = by (eqb p q.at)
        (λ e. rw (eqb-true p q.at e, set_blank S.key q.at 0) (omega arith))
        (λ e. rw (get_or-set_other S.key q.at p 0 0 (eqb-false p q.at e)) (omega arith))
    freed false = omega arith
