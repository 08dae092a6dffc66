-- What a resting store says of its postings, its walk and its place 0.
use Rattle.std.specs.Prelude.{◌≡◌, Bool, true, false, ◌&&◌, ◌||◌, eqb}
use Rattle.std.proofs.Common.{eqb-true, eq-eqb}
use Rattle.rules.specs.Types.{Store}
use Rattle.basic_laws.specs.Cases.{by, clash, and_true, and_both, or_true, or_left, or_right}
use Rattle.rules.specs.Lists.{same}
use Rattle.rules.specs.Store.{postings_of, postings_in_form}
use Rattle.rules.specs.Admitted.{head_postings, resting}
use Rattle.basic_laws.specs.TestParts.{Repairable, repairable_parts, resting_parts}
use Rattle.basic_laws.specs.Rising.{same_equal, equal_same}

-- "the postings are exactly (key, row) of each head with a value"
abbrev pub Exact : Store → Type 0
Exact S = postings_of S ≡ head_postings S.key S.has 0 S.heads

-- "if not poisoned, doomed is 0 and the postings are exactly .."
abbrev pub Settled : Store → Type 0
Settled S = S.poisoned ≡ false → (S.doomed ≡ 0) × Exact S

-- the same as `resting` tests it
abbrev pub settles : Store → Bool
settles S = S.poisoned || (eqb S.doomed 0 && same (postings_of S) (head_postings S.key S.has 0 S.heads))

-- there and back
pub settles_settled : (S : Store) → settles S ≡ true → Settled S
settles_settled S h healthy =
    let P = head_postings S.key S.has 0 S.heads in
    let a = and_true (eqb S.doomed 0) (same (postings_of S) P) (or_true S.poisoned _ h (λ e. clash e healthy) (λ e. e)) in
    (eqb-true S.doomed 0 a.0, same_equal (postings_of S) P a.1)

pub settled_settles : (S : Store) → Settled S → settles S ≡ true
settled_settles S h = by S.poisoned
    (λ e. or_left S.poisoned _ e)
    (λ e. or_right S.poisoned _ (and_both (eqb S.doomed 0) _ (eq-eqb S.doomed 0 (h e).0) (equal_same (postings_of S) _ (h e).1)))

module _ (S : Store) (rests : resting S ≡ true) where
  -- "postings in their form"
  pub in_form : postings_in_form S ≡ true
  in_form = (resting_parts S rests).posted

  -- its last test
  pub settled : Settled S
  settled = settles_settled S (resting_parts S rests).healthy

  pub exact : S.poisoned ≡ false → Exact S
  exact h = (settled h).1

  pub undoomed : S.poisoned ≡ false → S.doomed ≡ 0
  undoomed h = (settled h).0

  pub mendable : Repairable S
  mendable = repairable_parts S (resting_parts S rests).mendable

-- what a resting store has of its index
pub record Indexed (S : Store) : Type 0 where
  pub form : postings_in_form S ≡ true
  pub rest : Settled S

pub indexed : (S : Store) → resting S ≡ true → Indexed S
indexed S r = record { form = in_form S r; rest = settled S r }
