-- The first visible version along a chain, one version at a time.
use Rattle.std.specs.Prelude.{◌≡◌, true, false, List, get_or}
use Rattle.std.proofs.Math.Path.{refl}
use Prim.Native.Nat.{ℕ, zero, suc, ◌-◌, ◌<◌}
use native.Mathlib.Omega.{arith}
use Rattle.records.specs.Limits.{places}
use Rattle.rules.specs.Lists.{first_of}
use Rattle.rules.specs.Types.{Tx}
use Rattle.rules.specs.Transaction.{sees}
use Rattle.rules.specs.Chains.{chain_from}
use Rattle.rules.specs.Calls.{visible_version}

module _ (next xmin : List ℕ) (x : Tx) where
  -- the first visible version from p on, among `left` versions at most
  unfoldable pub visible_from : ℕ → ℕ → ℕ
  visible_from left p = first_of (λ q. sees x (get_or xmin q 0)) (chain_from left next p)

  -- no version is left: the chain ended, or it was too long
  pub visible_out : (p : ℕ) → visible_from 0 p ≡ 0
  unfolding visible_from chain_from
  visible_out p = refl

  pub visible_end : (left p : ℕ) → p ≡ 0 → visible_from left p ≡ 0
  unfolding visible_from chain_from
  visible_end zero p e = refl
  visible_end (suc left) zero e = refl
  visible_end (suc left) (suc p) e = absurd (omega arith)

-- the creator t of version p is visible: that is the one; else it is looked for from the next version q on
module _ (next xmin : List ℕ) (x : Tx) where
  pub visible_here : (left p t : ℕ) → 0 < left → (p ≡ 0 → ⊥) → t ≡ get_or xmin p 0 → sees x t ≡ true → visible_from next xmin x left p ≡ p
  unfolding visible_from chain_from
  visible_here zero p t h n e v = absurd (omega arith)
  visible_here (suc left) zero t h n e v = absurd (n refl)
  visible_here (suc left) (suc p) t h n e v = rw (← e, v)

  pub visible_next : (left p t q : ℕ) → 0 < left → (p ≡ 0 → ⊥) → t ≡ get_or xmin p 0 → sees x t ≡ false → q ≡ get_or next p 0
      → visible_from next xmin x left p ≡ visible_from next xmin x (left - 1) q
  unfolding visible_from chain_from
  visible_next zero p t q h n e v d = absurd (omega arith)
  visible_next (suc left) zero t q h n e v d = absurd (n refl)
  visible_next (suc left) (suc p) t q h n e v d = let k : suc left - 1 ≡ left = omega arith in rw (k, ← e, v, d)

-- from the row's head on
pub visible_whole : (heads next xmin : List ℕ) (x : Tx) (r p : ℕ) → p ≡ get_or heads r 0
    → visible_from next xmin x places p ≡ visible_version heads next xmin x r
unfolding visible_from visible_version
visible_whole heads next xmin x r p e = rw e
