-- The puts that end a run, gate by gate: poison, rollback, abort, finish, guards let go.
use Rattle.std.proofs.Math.Path.{◌≡◌, sym, ap}
use Rattle.std.proofs.Common.{◌∙◌, arith}
use Rattle.std.specs.Prelude.{Bool, not, ◌||◌, ℕ, ◌≤◌, take}
use Rattle.std.proofs.Math.Bool.{true, false}
use mathlib.Core.List.{List, [], ◌∷◌, map, reverse}
use Rattle.std.proofs.Math.ListN.{length, length-map, length-reverse, length-take}
use Rattle.std.proofs.Math.Seq.{take_all}
use borrow.Author.Tests.{ne_eqb}
use Rattle.records.specs.Limits.{write_limit}
use Rattle.records.specs.Relations.{run_puts}
use Rattle.basic_laws.specs.Cases.{by}
use Rattle.rules.specs.Types.{Store, Tx, Schedule}
use Rattle.rules.specs.Fit.{fit}
use Rattle.rules.specs.Puts.{Put, put_remove, put_drop, abort_puts}
use Rattle.rules.specs.Changes.{changes, destinations}
use Rattle.rules.specs.Commit.{fails, count, poison, abort_or_poison, rollback, finish}
use Rattle.run_laws.specs.Outcome.{worse, undoing}
use Rattle.journal.specs.Journal.{put_limit}
use Rattle.journal.specs.Adds.{Adds, adds_then}
use Rattle.steps.specs.GateTable.{insert_failed, callback_ended, remove_failed, publish_failed, recycle_failed, finish_failed, stamp_failed}
use Rattle.commit.specs.declared.plan.run.Plan.{Plan}
use Rattle.commit.specs.declared.plan.run.Struck.{Struck}
use Rattle.commit.specs.Plan.Few.{destinations_fit}
use Rattle.commit.specs.Plan.Parts.{aborts_at, poisons_of, taken, passed, stored, poisons, undoes, drops, lets, dies, puts_at}
use Rattle.commit.specs.Plan.Planned.{struck_of, Planned, txid_is}

-- what strikes a run
module _ (S : Store) (x : Tx) (logged : Bool) (plan : Schedule) {s : Struck} (h : s ≡ struck_of S x logged plan) where
  inserted_is : s.inserted ≡ count S x logged plan 15
  unfolding struck_of
  inserted_is = ap (λ q. q.inserted) h

  rolled_is : s.rolled ≡ count S x logged plan 24
  unfolding struck_of
  rolled_is = ap (λ q. q.rolled) h

  finish_is : s.finish ≡ fails S x logged plan 21
  unfolding struck_of
  finish_is = ap (λ q. q.finish) h

  pub abort_is : s.abort ≡ fails S x logged plan 23
  unfolding struck_of
  abort_is = ap (λ q. q.abort) h

  rollback_is : s.rollback ≡ fails S x logged plan 24
  unfolding struck_of
  rollback_is = ap (λ q. q.rollback) h

  worse_is : s.worse ≡ worse S x logged plan
  unfolding struck_of
  worse_is = ap (λ q. q.worse) h

  poisoned_is : s.poisoned ≡ S.poisoned
  unfolding struck_of
  poisoned_is = ap (λ q. q.poisoned) h

-- the poison of a callback, and of no gate
module _ {j after : List Put} where
  pub poisons_called : (b : Bool) (t g : ℕ) → g ≡ callback_ended → Adds j (poison (not b)) after → Adds j (poisons_of b t g) after
  poisons_called true t g e a = rw e a
  poisons_called false t g e a = rw e a

pub poisons_none : (b : Bool) (t g : ℕ) → (g ≡ callback_ended → ⊥) → (g ≡ remove_failed → ⊥) → (g ≡ stamp_failed → ⊥) → (g ≡ publish_failed → ⊥)
    → (g ≡ recycle_failed → ⊥) → (g ≡ finish_failed → ⊥) → poisons_of b t g ≡ []
poisons_none b t g call remove stamp publish recycle finish =
    rw (
      ne_eqb g callback_ended call,
      ne_eqb g remove_failed remove,
      ne_eqb g stamp_failed stamp,
      ne_eqb g publish_failed publish,
      ne_eqb g recycle_failed recycle,
      ne_eqb g finish_failed finish,
    )

-- a rollback, failed after some removals or whole; an abort that fails at once, or whole
module _ (S : Store) (x : Tx) (logged : Bool) (plan : Schedule) (already : Bool) {j after : List Put} where
  module _ (s : Struck) (h : s ≡ struck_of S x logged plan) (ok : fit S x ≡ true) (made : ℕ) where
    pub rolled_part : {j' : List Put} → s.rollback ≡ true
        → Adds j (take s.rolled (map put_remove (reverse (take made (destinations (changes S x)))))) j'
        → Adds j' (poison already) after → Adds j (rollback S x logged plan already (take made (destinations (changes S x)))).puts after
    unfolding rollback
    rolled_part e a b = rw (sym (rollback_is S x logged plan h) ∙ e) (adds_then (rw (rolled_is S x logged plan h) at a) b)

    pub rolled_whole : s.rollback ≡ false → Adds j (take put_limit (map put_remove (reverse (take made (destinations (changes S x)))))) after
        → Adds j (rollback S x logged plan already (take made (destinations (changes S x)))).puts after
    unfolding rollback
    rolled_whole e a =
        let d = destinations (changes S x) in
        let back = map put_remove (reverse (take made d)) in
        let few = destinations_fit S x ok in
        let room : length back ≤ put_limit =
        omega (arith, length-map (reverse (take made d)) put_remove, length-reverse (take made d), length-take made d, run_puts) in
        rw (sym (rollback_is S x logged plan h) ∙ e) (rw (take_all put_limit back room) at a)

  pub aborted_not : fails S x logged plan 23 ≡ true → Adds j (poison already) after → Adds j (abort_or_poison S x logged plan already).puts after
  unfolding abort_or_poison
  aborted_not e a = rw e a

  pub aborted_whole : fails S x logged plan 23 ≡ false → Adds j (abort_puts S x.txid.0) after
      → Adds j (abort_or_poison S x logged plan already).puts after
  unfolding abort_or_poison
  aborted_whole e a = rw e a

-- a failed callback's abort knows of the rollback's failure
undoing_failed : (S : Store) (x : Tx) (logged : Bool) (plan : Schedule) → (undoing S x logged plan).failed ≡ fails S x logged plan 24
unfolding rollback
undoing_failed S x logged plan = by (fails S x logged plan 24) (λ e. rw e) (λ e. rw e)

module _ {S : Store} {x : Tx} {logged : Bool} {plan : Schedule} {p : Plan} {s : Struck} (h : Planned S x logged plan p s) (g : ℕ)
    {j after : List Put} where
  pub undoes_insert : g ≡ insert_failed → Adds j (rollback S x logged plan false (take s.inserted (destinations (changes S x)))).puts after
      → Adds j (undoes S x logged plan g) after
  unfolding undoes
  undoes_insert e a = rw e (rw (inserted_is S x logged plan h.strikes) at a)

  pub undoes_call : g ≡ callback_ended → Adds j (rollback S x logged plan s.worse (take write_limit (destinations (changes S x)))).puts after
      → Adds j (undoes S x logged plan g) after
  unfolding undoes
  undoes_call e a = rw e (rw (worse_is S x logged plan h.strikes, take_all write_limit (destinations (changes S x)) (destinations_fit S x h.fits)) at a)

  pub drops_call : {already : Bool} → already ≡ (s.worse || s.rollback) → g ≡ callback_ended
      → Adds j (abort_or_poison S x logged plan already).puts after → Adds j (drops S x logged plan g) after
  unfolding drops
  drops_call q e a = rw (e, undoing_failed S x logged plan) (rw (q, worse_is S x logged plan h.strikes, rollback_is S x logged plan h.strikes) at a)

  pub finish_done : s.finish ≡ false → Adds j (put_drop p.txid.0 ∷ []) after → Adds j (finish S x logged plan) after
  finish_done e a = rw (sym (finish_is S x logged plan h.strikes) ∙ e) (rw (txid_is h) at a)

  pub dies_here : aborts_at g ≡ true → Adds j (abort_or_poison S x logged plan s.poisoned).puts after → Adds j (dies S x logged plan g) after
  unfolding dies
  dies_here e a = rw e (rw (poisoned_is S x logged plan h.strikes) at a)

pub finish_not : {S : Store} {x : Tx} {logged : Bool} {plan : Schedule} {p : Plan} {s : Struck} → Planned S x logged plan p s → s.finish ≡ true
    → finish S x logged plan ≡ []
finish_not {S} {x} {logged} {plan} h e = rw (sym (finish_is S x logged plan h.strikes) ∙ e)

module _ (S : Store) (x : Tx) (logged : Bool) (plan : Schedule) (g : ℕ) where
  pub undoes_none : (g ≡ insert_failed → ⊥) → (g ≡ callback_ended → ⊥) → undoes S x logged plan g ≡ []
  unfolding undoes
  undoes_none a b = rw (ne_eqb g insert_failed a, ne_eqb g callback_ended b)

  pub drops_publish : g ≡ publish_failed → drops S x logged plan g ≡ finish S x logged plan
  unfolding drops
  drops_publish e = rw e

  pub drops_recycle : g ≡ recycle_failed → drops S x logged plan g ≡ finish S x logged plan
  unfolding drops
  drops_recycle e = rw e

  pub drops_none : (g ≡ callback_ended → ⊥) → (g ≡ publish_failed → ⊥) → (g ≡ recycle_failed → ⊥) → drops S x logged plan g ≡ []
  unfolding drops
  drops_none a b c = rw (ne_eqb g callback_ended a, ne_eqb g publish_failed b, ne_eqb g recycle_failed c)

  pub dies_not : aborts_at g ≡ false → dies S x logged plan g ≡ []
  unfolding dies
  dies_not e = rw e

-- all of them
module _ {S : Store} {x : Tx} {logged : Bool} {plan : Schedule} {p : Plan} {s : Struck} (h : Planned S x logged plan p s) (g : ℕ)
    {j₀ j₁ j₂ j₃ j₄ j₅ j₆ j₇ : List Put} where
  pub run_put : Adds j₀ (taken S x logged plan g) j₁ → Adds j₁ (passed S x logged plan g) j₂ → Adds j₂ (poisons_of s.worse p.txid.0 g) j₃
      → Adds j₃ (undoes S x logged plan g) j₄ → Adds j₄ (drops S x logged plan g) j₅ → Adds j₅ (lets S x logged plan g) j₆
      → Adds j₆ (dies S x logged plan g) j₇
      → Adds j₀ (puts_at S x logged plan g) j₇
  unfolding puts_at stored poisons
  run_put a b c d e f k =
      adds_then (adds_then a b) (adds_then (rw (worse_is S x logged plan h.strikes, txid_is h) at c) (adds_then d (adds_then e (adds_then f k))))
