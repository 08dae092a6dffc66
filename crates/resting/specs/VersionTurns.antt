-- The rules for a chain's versions, one turn along the chain at a time.
use Rattle.std.specs.Prelude.{◌≡◌, refl, Bool, true, false, not, ◌&&◌, ◌||◌, List, [], ◌∷◌, ℕ, zero, suc, ◌-◌, ◌<◌, ◌≤◌, get_or, eqb}
use Rattle.std.proofs.Math.Bool.{and-false}
use Rattle.std.proofs.Common.{arith, sub-one, sym, ◌∙◌}
use borrow.Author.Tests.{eq-eqb, ne_eqb}
use Rattle.records.specs.Limits.{slots, places}
use Rattle.rules.specs.Types.{Store}
use Rattle.rules.specs.Chains.{chain_from}
use Rattle.rules.specs.Admitted.{finished, tail_ok, next_ok, chain_ok}

-- a chain that ends, and one that goes on
pub chain_null : (n : ℕ) (next : List ℕ) (p : ℕ) → p ≡ 0 → chain_from n next p ≡ []
unfolding chain_from
chain_null zero next p e = refl
chain_null (suc n) next p e = rw e

pub chain_out : (n : ℕ) (next : List ℕ) (p : ℕ) → n ≤ 0 → chain_from n next p ≡ []
unfolding chain_from
chain_out zero next p e = refl
chain_out (suc n) next p e = absurd (omega arith)

pub chain_cons : (n : ℕ) (next : List ℕ) (p : ℕ) → 0 < n → (p ≡ 0 → ⊥) → chain_from n next p ≡ p ∷ chain_from (n - 1) next (get_or next p 0)
unfolding chain_from
chain_cons zero next p h k = absurd (omega arith)
chain_cons (suc n) next zero h k = absurd (k refl)
chain_cons (suc n) next (suc p) h k = rw sub-one

-- neither active nor doomed
abbrev pub fin : Store → ℕ → Bool
fin S = finished S.active S.doomed

-- the versions of at most n slots from p on, the first with xmax v
unfoldable pub tail_at : Store → ℕ → ℕ → ℕ → Bool
tail_at S v n p = tail_ok S.xmin S.xmax (fin S) v (chain_from n S.next p)

-- behind an unfinished version of t: the slots from p on
unfoldable pub behind_at : Store → ℕ → ℕ → Bool
behind_at S t p = next_ok S.xmin S.xmax (fin S) t (chain_from slots S.next p)

-- the chain of a head
unfoldable pub chain_at : Store → ℕ → Bool
chain_at S h = chain_ok S.xmin S.xmax (fin S) (chain_from places S.next h)

module _ (S : Store) where
  -- a turn along the tail
  module _ (v n p : ℕ) (w : Bool) (left : tail_at S v n p ≡ w) where
    pub tail_null : p ≡ 0 → true ≡ w
    unfolding tail_at
    tail_null e = rw (chain_null n S.next p e) at left

    pub tail_out : n ≤ 0 → true ≡ w
    unfolding tail_at
    tail_out e = rw (chain_out n S.next p e) at left

    module _ (h : 0 < n) (k : p ≡ 0 → ⊥) where
      -- the version is unfinished
      pub tail_unfinished : (t : ℕ) → t ≡ get_or S.xmin p 0 → fin S t ≡ false → false ≡ w
      unfolding tail_at
      tail_unfinished t d f = rw (chain_cons n S.next p h k, ← d, f) at left

      -- its xmax is not the xmin of the version before it
      pub tail_over : (u : ℕ) → u ≡ get_or S.xmax p 0 → (u ≡ v → ⊥) → false ≡ w
      unfolding tail_at
      tail_over u d f = rw (chain_cons n S.next p h k, ← d, ne_eqb u v f, and-false) at left

      -- both are right: the rest decides
      pub tail_step : (t u q : ℕ) → t ≡ get_or S.xmin p 0 → u ≡ get_or S.xmax p 0 → q ≡ get_or S.next p 0
          → fin S t ≡ true → u ≡ v → tail_at S t (n - 1) q ≡ w
      unfolding tail_at
      tail_step t u q d e g f s = rw (chain_cons n S.next p h k, ← d, ← e, ← g, f, eq-eqb u v s) at left

  -- behind an unfinished version: nothing, or a version whose xmax decides
  pub behind_none : (t p : ℕ) → p ≡ 0 → true ≡ behind_at S t p
  unfolding behind_at
  behind_none t p e = rw (chain_null slots S.next p e)

  behind_is : (t p u : ℕ) → (p ≡ 0 → ⊥) → u ≡ get_or S.xmax p 0 → behind_at S t p ≡ ((eqb u 0 || eqb u t) && tail_at S u slots p)
  unfolding behind_at tail_at
  behind_is t p u k d = rw (chain_cons slots S.next p (omega arith) k, ← d)

  pub behind_next : (t p u : ℕ) (w : Bool) → (p ≡ 0 → ⊥) → u ≡ get_or S.xmax p 0 → w ≡ ((eqb u 0 || eqb u t) && tail_at S u slots p) → w ≡ behind_at S t p
  behind_next t p u w k d e = e ∙ sym (behind_is t p u k d)

  -- a head's chain: none, or a first version that is finished, or one that isn't
  pub chain_none : (h : ℕ) → h ≡ 0 → true ≡ chain_at S h
  unfolding chain_at
  chain_none h e = rw (chain_null places S.next h e)

  module _ (h t over : ℕ) (k : h ≡ 0 → ⊥) (d : t ≡ get_or S.xmin h 0) (e : over ≡ get_or S.xmax h 0) where
    finished_is : fin S t ≡ true → chain_at S h ≡ ((eqb over 0 || not (fin S over)) && tail_at S over places h)
    unfolding chain_at tail_at
    finished_is f = rw (chain_cons places S.next h (omega arith) k, ← d, ← e, f)

    pub first_finished : (w : Bool) → fin S t ≡ true → w ≡ ((eqb over 0 || not (fin S over)) && tail_at S over places h) → w ≡ chain_at S h
    first_finished w f q = q ∙ sym (finished_is f)

    unfinished_is : (p : ℕ) → fin S t ≡ false → p ≡ get_or S.next h 0 → chain_at S h ≡ (eqb over 0 && behind_at S t p)
    unfolding chain_at behind_at
    unfinished_is p f g = rw (chain_cons places S.next h (omega arith) k, ← d, ← e, ← g, f)

    pub first_unfinished : (w : Bool) (p : ℕ) → fin S t ≡ false → p ≡ get_or S.next h 0 → w ≡ (eqb over 0 && behind_at S t p) → w ≡ chain_at S h
    first_unfinished w p f g q = q ∙ sym (unfinished_is p f g)
