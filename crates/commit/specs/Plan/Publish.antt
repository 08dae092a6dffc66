-- Publication as code pushes it, write by write.
use Rattle.std.specs.Prelude.{◌≡◌, length, drop, eqb}
use Rattle.std.proofs.Math.Path.{refl}
use mathlib.Core.List.{List, [], ◌∷◌, ◌++◌}
use Prim.Native.Nat.{ℕ, zero, suc, ◌+◌, ◌-◌, ◌<◌, ◌≤◌}
use Rattle.std.proofs.Common.{add-one, arith, drop_of_length-le, drop-cons, eq-eqb, ne_eqb}
use Rattle.std.proofs.Math.ListN.{get_or, take}
use Rattle.records.specs.Zero.{no_write}
use Rattle.rules.specs.Lists.{flat}
use Rattle.basic_laws.specs.Cases.{by}
use Rattle.rules.specs.Types.{Write}
use Rattle.rules.specs.Puts.{Put, put_xmax, put_head}
use Rattle.rules.specs.Changes.{publish_one}
use Rattle.journal.specs.Adds.{Adds}
use Rattle.journal.specs.Pushing.{Pushing, pushing_more}

-- the first `limit` puts of one write
module _ (t limit : ℕ) (w : Write) where
  pub write_none : limit ≡ 0 → take limit (publish_one t w) ≡ []
  write_none e = rw e

  pub write_new : 0 < limit → w.base.0 ≡ 0 → take limit (publish_one t w) ≡ put_head w.row.0 w.new.0 ∷ []
  unfolding publish_one
  write_new l e = rw (eq-eqb w.base.0 0 e) (go limit l)
    where
      go : (n : ℕ) → 0 < n → take n (put_head w.row.0 w.new.0 ∷ []) ≡ put_head w.row.0 w.new.0 ∷ []
      go zero l = absurd (omega arith)
      go (suc zero) l = refl
      go (suc (suc n)) l = refl

  pub write_mark : limit ≡ 1 → (w.base.0 ≡ 0 → ⊥) → take limit (publish_one t w) ≡ put_xmax w.base.0 t ∷ []
  unfolding publish_one
  write_mark l e = rw (ne_eqb w.base.0 0 e, l)

  pub write_both : 1 < limit → (w.base.0 ≡ 0 → ⊥) → take limit (publish_one t w) ≡ (put_xmax w.base.0 t ∷ []) ++ (put_head w.row.0 w.new.0 ∷ [])
  unfolding publish_one
  write_both l e = rw (ne_eqb w.base.0 0 e) (go limit l)
    where
      go : (n : ℕ) → 1 < n
          → take n (put_xmax w.base.0 t ∷ put_head w.row.0 w.new.0 ∷ []) ≡ put_xmax w.base.0 t ∷ put_head w.row.0 w.new.0 ∷ []
      go zero l = absurd (omega arith)
      go (suc zero) l = absurd (omega arith)
      go (suc (suc zero)) l = refl
      go (suc (suc (suc n))) l = refl

-- how many puts a write has
unfoldable pub size_of : Write → ℕ
size_of w = length (publish_one 0 w)

pub size_new : (w : Write) → w.base.0 ≡ 0 → 1 ≡ size_of w
unfolding size_of publish_one
size_new w e = rw (eq-eqb w.base.0 0 e)

pub size_over : (w : Write) → (w.base.0 ≡ 0 → ⊥) → 2 ≡ size_of w
unfolding size_of publish_one
size_over w e = rw (ne_eqb w.base.0 0 e)

size_same : (t : ℕ) (w : Write) → length (publish_one t w) ≡ size_of w
unfolding size_of publish_one
size_same t w = by (eqb w.base.0 0) (λ e. rw e) (λ e. rw e)

-- the puts of the writes from place i on, the first `limit`
unfoldable pub publishing : ℕ → ℕ → ℕ → List Write → List Put
publishing t limit i ws = take limit (flat (publish_one t) (drop i ws))

take_both : (n : ℕ) (ps qs : List Put) → take n (ps ++ qs) ≡ take n ps ++ take (n - length ps) qs
take_both zero ps qs = let z : 0 - length ps ≡ 0 = omega arith in rw z
take_both (suc n) [] qs = let z : suc n - 0 ≡ suc n = omega arith in rw z
take_both (suc n) (p ∷ ps) qs = let z : suc n - length (p ∷ ps) ≡ n - length ps = omega arith in rw (z, take_both n ps qs)

pub publishing_end : (t limit i : ℕ) (ws : List Write) → length ws ≤ i → publishing t limit i ws ≡ []
unfolding publishing
publishing_end t limit i ws h = rw (drop_of_length-le ws {i = i} h) (none limit)
  where
    none : (n : ℕ) → take n (flat (publish_one t) []) ≡ []
    none zero = refl
    none (suc n) = refl

-- one turn of the loop
module _ (t limit i : ℕ) (ws : List Write) (lt : i < length ws) {j₀ j after block : List Put} {left size : ℕ} where
  pub push_one : Pushing j₀ block (publishing t limit i ws) j → Adds j (take limit (publish_one t (get_or ws i no_write))) after
      → size ≡ size_of (get_or ws i no_write) → left ≡ limit - size
      → Pushing j₀ block (publishing t left (i + 1) ws) after
  unfolding publishing
  push_one h a s e =
      let w = get_or ws i no_write in
      rw (e, s, ← size_same t w, add-one)
      (pushing_more (take limit (publish_one t w))
      (rw (drop-cons ws i no_write lt, take_both limit (publish_one t w) (flat (publish_one t) (drop (suc i) ws))) at h) a)

-- from the first write on they are those of all
pub publishing_whole : (t limit : ℕ) (ws : List Write) → publishing t limit 0 ws ≡ take limit (flat (publish_one t) ws)
unfolding publishing
publishing_whole t limit ws = refl
