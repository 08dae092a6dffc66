-- The postings of the heads: they rise, and there are no more of them than heads.
use Rattle.std.specs.Prelude.{◌≡◌, refl, Bool, true, false, List, [], ◌∷◌, ℕ, suc, ◌≤◌, length, get_or}
use Rattle.std.proofs.Common.{arith}
use Rattle.basic_laws.specs.Cases.{by}
use Rattle.rules.specs.Lists.{rising}
use Rattle.rules.specs.Store.{posting}
use Rattle.rules.specs.Admitted.{head_postings}
use Rattle.basic_laws.specs.Rising.{rising_into, into_length}

module _ (key : List ℕ) (has : List Bool) where
  -- "rising"
  pub heads_rising : (r : ℕ) (hs : List ℕ) → rising 0 (head_postings key has r hs) ≡ true
  heads_rising r [] = refl
  heads_rising r (h ∷ hs) = by (get_or has h false)
      (λ e. rw e (rising_into 0 (posting (get_or key h 0) r) (head_postings key has (suc r) hs) (omega arith) (heads_rising (suc r) hs)))
      (λ e. rw e (heads_rising (suc r) hs))

  -- the limit of postings has room: no more postings than heads
  pub heads_length : (r : ℕ) (hs : List ℕ) → length (head_postings key has r hs) ≤ length hs
  heads_length r [] = omega arith
  heads_length r (h ∷ hs) = by (get_or has h false)
      (λ e. rw e (omega (arith, into_length (posting (get_or key h 0) r) (head_postings key has (suc r) hs), heads_length (suc r) hs)))
      (λ e. rw e (omega (arith, heads_length (suc r) hs)))
