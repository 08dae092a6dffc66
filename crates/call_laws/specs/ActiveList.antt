-- The active list: its array and its txids, who is unfinished, and the list laid out anew.
use Rattle.std.specs.Prelude.{◌≡◌, Bool, ◌&&◌, ◌||◌, List, [], ◌∷◌, ℕ, ◌≤◌, ◌<◌, length, get_or, eqb}
use Rattle.std.proofs.Math.Path.{refl, sym}
use Rattle.std.proofs.Math.Bool.{true, false, not}
use Rattle.std.proofs.Common.{⊎_elim, arith, eqb-true}
use Rattle.std.proofs.lemmas.Bool.{eqb-false}
use Rattle.records.specs.Limits.{active_limit}
use Rattle.rules.specs.Lists.{memb, pad, is_zero}
use Rattle.rules.specs.Store.{active_txids}
use Rattle.rules.specs.Admitted.{finished}
use Rattle.basic_laws.specs.Cases.{clash, or_true, or_false}
use Rattle.basic_laws.specs.Check.{Tail, Good, plain, ahead}
use Rattle.basic_laws.specs.LaidOutActive.{active_of}
use Rattle.recovery_laws.specs.Unfinished.{in_array}
use Rattle.basic_laws.specs.Places.{Rising, is_rising, zero_from}
use Rattle.admitted_laws.specs.Repairable.{ActiveForm}
use Rattle.basic_laws.specs.Blanks.{drop_pad}

module _ (act : List ℕ) (clock : ℕ) (F : ActiveForm act clock) where
  pub mem_active : (t : ℕ) → (t ≡ 0 → ⊥) → memb t act ≡ memb t (active_txids act)
  mem_active t n = in_array t act n F.after

  -- what is not finished is active or doomed, and so below the clock
  pub unfinished_is : (d t : ℕ) → finished act d t ≡ false → (memb t (active_txids act) || eqb t d) ≡ true
  unfolding finished
  unfinished_is d t n =
      let o = or_false (eqb t 0) (not (memb t act) && not (eqb t d)) n in
      rw (sym (mem_active t (eqb-false t 0 o.0))) (go (memb t act) (eqb t d) o.1)
    where
      go : (a b : Bool) → (not a && not b) ≡ false → (a || b) ≡ true
      go true b e = refl
      go false true e = refl
      go false false e = sym e

  -- so it is below the clock
  pub unfinished_below : (d t : ℕ) → d < clock → finished act d t ≡ false → t < clock
  unfinished_below d t lt n = or_true (memb t (active_txids act)) (eqb t d) (unfinished_is d t n) (λ m. F.past t m) (λ e. omega (arith, eqb-true t d e))

-- an active list laid out anew
pub form_pad : (l : List ℕ) (clock : ℕ) → length l ≤ active_limit → Rising 1 l → ((t : ℕ) → memb t l ≡ true → t < clock)
    → ActiveForm (pad active_limit 0 l) clock
form_pad l clock le c p =
    let e = active_of l le (is_rising 1 l c) in
    record {
      climb = rw e c;
      past = λ t m. p t (rw e at m);
      after = zero_from (length (active_txids (pad active_limit 0 l))) (pad active_limit 0 l) (rw e (drop_pad 0 is_zero refl active_limit l));
    }

-- the xmax of a version on a chain is below the clock too
module _ (xmin xmax : List ℕ) (f : ℕ → Bool) (clock : ℕ) (below : (x : ℕ) → get_or xmin x 0 < clock)
    (unfinished : (v : ℕ) → f v ≡ false → v < clock) (some : 0 < clock) where
  tail_below : (v : ℕ) (l : List ℕ) → v < clock → Tail xmin xmax f v l → (x : ℕ) → memb x l ≡ true → get_or xmax x 0 < clock
  tail_below v [] lt t x m = clash {b = false} m refl
  tail_below v (y ∷ l) lt t x m = or_true (eqb x y) (memb x l) m
      (λ e. rw (eqb-true x y e, t.1) lt)
      (λ e. tail_below (get_or xmin y 0) l (below y) t.2 x e)

  -- of finished versions, and of a whole chain
  pub ended_below : (l : List ℕ) → Good xmin xmax f l → (x : ℕ) → memb x l ≡ true → get_or xmax x 0 < clock
  ended_below l (plain v o t) x m = tail_below v l (⊎_elim (λ z. omega (arith, z, some)) (λ n. unfinished v n) o) t x m
  ended_below _ (ahead {x = y} {l = l} v n z o t) x m = or_true (eqb x y) (memb x l) m
      (λ e. rw (eqb-true x y e, z) some)
      (λ e. tail_below v l (⊎_elim (λ k. omega (arith, k, some)) (λ k. rw k (below y)) o) t x e)
