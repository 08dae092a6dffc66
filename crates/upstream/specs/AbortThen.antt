-- Abort as it stands: wherever commit aborts, abort's stores are those at entry.
use Rattle.std.specs.Prelude.{◌≡◌, Bool, cond, ◌||◌, ℕ}
use Rattle.std.proofs.Math.Path.{refl}
use Rattle.std.proofs.Common.{◌∙◌}
use Rattle.std.proofs.Math.Bool.{true, false}
use mathlib.Core.List.{List, [], ◌∷◌, ◌++◌, map, reverse}
use Rattle.std.proofs.Math.ListN.{take}
use Rattle.rules.specs.Types.{Store, Tx, Schedule}
use Rattle.rules.specs.Lists.{memb}
use Rattle.rules.specs.Puts.{Put, k_head, k_free, k_xmin, k_next, k_poison, k_doom, put_remove, put_poison, apply, apply_all, abort_puts}
use Rattle.rules.specs.Changes.{index_guards, release}
use Rattle.rules.specs.Commit.{poison, rollback, fails, count}
use Rattle.basic_laws.specs.Cases.{by, and_true, and_both, mem_there}
use Rattle.run_laws.specs.GuardPuts.{apply_all_append}
use Rattle.run_laws.specs.OnlyKinds.{only, only_map, only_both, only_take, only_if, kept, is_not, heads_kept, xmin_kept, next_kept}
use Rattle.upstream.specs.Beside.{quiet}
use Rattle.upstream.specs.ReadsThen.{index_guards_quiet, release_quiet}

-- abort's stores are the same after puts that change no head, next or xmin: after guards, postings, poison
pub abort_as_it_stands : (ks : List ℕ) (ps : List Put) (S : Store) (t : ℕ) → only ks ps ≡ true
    → memb k_head ks ≡ false → memb k_free ks ≡ false → memb k_xmin ks ≡ false → memb k_next ks ≡ false
    → abort_puts (apply_all ps S) t ≡ abort_puts S t
unfolding abort_puts
abort_as_it_stands ks ps S t o h f m n = rw (heads_kept ks h ps S o, xmin_kept ks f m ps S o, next_kept ks f n ps S o)

-- one kind more
only_more : (k : ℕ) (ks : List ℕ) (ps : List Put) → only ks ps ≡ true → only (k ∷ ks) ps ≡ true
only_more k ks [] h = refl
only_more k ks (p ∷ ps) h =
    let a = and_true (memb p.kind ks) (only ks ps) h in
    and_both (memb p.kind (k ∷ ks)) (only (k ∷ ks) ps) (mem_there p.kind k ks a.0) (only_more k ks ps a.1)

-- what commit has put before it aborts: guards, postings and poison
abbrev pub calm : List ℕ
calm = k_poison ∷ quiet

pub abort_calm : (ps : List Put) (T : Store) (t : ℕ) → only calm ps ≡ true → abort_puts (apply_all ps T) t ≡ abort_puts T t
abort_calm ps T t o = abort_as_it_stands calm ps T t o refl refl refl refl

-- steps 10 to 14: after the guards are let go
pub abort_after_release : (S T : Store) (x : Tx) (t : ℕ) → abort_puts (apply_all (release S x) T) t ≡ abort_puts T t
abort_after_release S T x t = abort_calm (release S x) T t (only_more k_poison quiet (release S x) (release_quiet S x))

-- step 8: after the index guards are
pub abort_after_index_release : (S T : Store) (x : Tx) (t : ℕ) → abort_puts (apply_all (index_guards S x 0) T) t ≡ abort_puts T t
abort_after_index_release S T x t = abort_calm (index_guards S x 0) T t (only_more k_poison quiet (index_guards S x 0) (index_guards_quiet S x 0))

module _ (S : Store) (x : Tx) (logged : Bool) (plan : Schedule) where
  -- a rollback that goes on to the end, or stops after k removals
  back_quiet : (made : List ℕ) → only quiet (map put_remove (reverse made)) ≡ true
  back_quiet made = only_map quiet put_remove (reverse made) (λ c. refl)

  part_quiet : (made : List ℕ) → only quiet (take (count S x logged plan 24) (map put_remove (reverse made))) ≡ true
  part_quiet made = only_take quiet (count S x logged plan 24) (map put_remove (reverse made)) (back_quiet made)

  rollback_calm : (already : Bool) (made : List ℕ) → only calm (rollback S x logged plan already made).puts ≡ true
  unfolding rollback
  rollback_calm already made =
      let back = map put_remove (reverse made) in
      let part = take (count S x logged plan 24) back in
      by (fails S x logged plan 24)
      (λ e. rw e (only_both calm part (poison already) (only_more k_poison quiet part (part_quiet made)) (only_if calm already [] (put_poison ∷ []) refl refl)))
      (λ e. rw e (only_more k_poison quiet back (back_quiet made)))

  -- guards and postings leave the poison flag
  flag_quiet : (ps : List Put) (T : Store) → only quiet ps ≡ true → (apply_all ps T).poisoned ≡ T.poisoned
  flag_quiet = kept (λ T. T.poisoned) quiet (λ p T m. rw (is_not quiet k_poison refl p m, is_not quiet k_doom refl p m))

  -- a rollback poisons where it failed, and finds the store poisoned where it was
  pub rollback_flag : (already : Bool) (made : List ℕ) (T : Store) → T.poisoned ≡ already
      → let b = rollback S x logged plan already made in (apply_all b.puts T).poisoned ≡ (already || b.failed)
  unfolding rollback
  rollback_flag already made T f =
      let back = map put_remove (reverse made) in
      let part = take (count S x logged plan 24) back in
      by (fails S x logged plan 24)
      (λ e. rw (e, apply_all_append part (poison already) T) (poisons already (apply_all part T) (flag_quiet part T (part_quiet made) ∙ f)))
      (λ e. rw e (flag_quiet back T (back_quiet made) ∙ f ∙ same already))
    where
      poisons : (b : Bool) (U : Store) → U.poisoned ≡ b → (apply_all (poison b) U).poisoned ≡ (b || true)
      poisons true U f = f
      poisons false U f = refl

      same : (b : Bool) → b ≡ (b || false)
      same true = refl
      same false = refl

  -- step 16: the callback's poison and the rollback
  abbrev pub undo : Bool → List ℕ → List Put
  undo worse made = cond worse (put_poison ∷ []) [] ++ (rollback S x logged plan worse made).puts

  -- after them abort's stores are the same
  pub abort_after_rollback : (worse : Bool) (made : List ℕ) (T : Store) (t : ℕ) → abort_puts (apply_all (undo worse made) T) t ≡ abort_puts T t
  abort_after_rollback worse made T t =
      abort_calm (undo worse made) T t
      (only_both calm (cond worse (put_poison ∷ []) []) (rollback S x logged plan worse made).puts
      (only_if calm worse (put_poison ∷ []) [] refl refl) (rollback_calm worse made))

  -- and the store is poisoned where the abort that follows takes it to be
  pub flag_after_rollback : (worse : Bool) (made : List ℕ) (T : Store) → T.poisoned ≡ false
      → (apply_all (undo worse made) T).poisoned ≡ (worse || (rollback S x logged plan worse made).failed)
  flag_after_rollback true made T f = rollback_flag true made (apply put_poison T) refl
  flag_after_rollback false made T f = rollback_flag false made T f
