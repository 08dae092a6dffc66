-- "poisoned and standing", "poisoned and undone": a refusal with such a fate leaves the store poisoned, on every commit.
use Rattle.std.specs.Prelude.{◌≡◌, refl, Bool, true, false, List, [], ◌∷◌, ◌++◌, ℕ, take}
use Rattle.std.proofs.Common.{ap, ◌∙◌}
use Rattle.rules.specs.Types.{Store, Tx, Schedule, Cut, Fate, Open, Closed, Undone, Standing}
use Rattle.basic_laws.specs.Cases.{clash, or_left, or_right}
use Rattle.rules.specs.Numbers.{fate_in}
use Rattle.rules.specs.Puts.{Put, put_poison, put_doom, apply_all, abort_puts}
use Rattle.rules.specs.Changes.{insertions, removals, publication, recycling, stamping}
use Rattle.rules.specs.Commit.{count, finish}
use Rattle.rules.specs.Answer.{commit}
use Rattle.statements.specs.Sized.{Sized}
use Rattle.posting_laws.specs.Healthy.{poisons, poisoned_after, poisons_later}
use Rattle.statements.specs.Table.{Row}
use Rattle.number_laws.specs.TableLaws.{Each, end, ◌▸◌, each}
use Rattle.statements.specs.NumbersSeen.{poisoned, aborted, with, left, whole, step_rows, done_row, commit_rows}
use Rattle.number_laws.specs.Seen.{commit_told}

abbrev pub spoils : Fate → Bool
spoils Open = false
spoils Closed = false
spoils Undone = true
spoils Standing = true

module _ (S : Store) (x : Tx) (logged : Bool) (plan : Schedule) where
  abbrev Spoilt : Row → Type 0
  Spoilt w = spoils (fate_in w.says) ≡ true → w.store.poisoned ≡ true

  -- a fate that doesn't say so; a store just poisoned, and one aborted after that
  no : {A : Type 0} → false ≡ true → A
  no h = clash {b = false} h refl

  yes : {A : Type 0} → A → true ≡ true
  yes h = refl

  then_aborted : (T : Store) → true ≡ true → (aborted S x logged plan (poisoned S x logged plan T)).poisoned ≡ true
  then_aborted T h = poisoned_after (abort_puts S x.txid.0) (poisoned S x logged plan T) ∙ or_right (poisons (abort_puts S x.txid.0)) true refl

  -- a poison among the stores of a late failure
  among : (ps : List Put) → poisons ps ≡ true → true ≡ true → (apply_all (insertions S x ++ ps) S).poisoned ≡ true
  among ps h _ = poisoned_after (insertions S x ++ ps) S ∙ or_left (poisons (insertions S x ++ ps)) S.poisoned (poisons_later (insertions S x) ps h)

  abbrev part : ℕ → List Put → List Put
  part n ps = take (count S x logged plan n) ps

  published : (ps : List Put) → poisons ps ≡ true → poisons (removals S x ++ (publication x ++ ps)) ≡ true
  published ps h = poisons_later (removals S x) (publication x ++ ps) (poisons_later (publication x) ps h)

  -- row by row
  rows_spoilt : (cut : Cut) → Each Spoilt (commit_rows S x logged plan cut)
  unfolding commit_rows step_rows
  rows_spoilt cut =
      let remaining = with S x logged plan (left S x logged plan (whole S x logged plan)) in
      no ▸ no ▸ no ▸ no ▸ no ▸ no ▸ yes ▸ no ▸ yes ▸ no ▸ yes ▸ no ▸ no ▸ yes ▸ no ▸ no ▸ yes ▸ no ▸ no ▸ no ▸ yes ▸ no ▸ no ▸ yes ▸
      no ▸ no ▸ yes ▸ no ▸ no ▸ yes ▸ no ▸ no ▸ yes ▸ no ▸ yes ▸ no ▸ yes ▸ then_aborted remaining ▸ yes ▸ then_aborted S ▸ no ▸ yes ▸
      then_aborted remaining ▸ yes ▸ then_aborted S ▸ no ▸ among _ (poisons_later (part 17 (removals S x)) (put_poison ∷ []) refl) ▸
      among _ (poisons_later (removals S x) _ (poisons_later (part 18 (publication x)) (put_doom x.txid.0 ∷ finish S x logged plan) refl)) ▸
      among _ (published _ (poisons_later (part 19 (recycling S x)) (put_doom x.txid.0 ∷ finish S x logged plan) refl)) ▸
      among _ (published _ (poisons_later (recycling S x) (put_doom x.txid.0 ∷ []) refl)) ▸
      among _ (published _ (poisons_later (recycling S x) _ (poisons_later (part 22 (stamping S x)) (put_poison ∷ []) refl))) ▸ end

  -- every commit
  pub fate_poisons : Sized S → (cut : Cut) → let a = commit S x logged plan cut in spoils (fate_in a.refusal) ≡ true → a.store.poisoned ≡ true
  fate_poisons z cut h =
      let t = (commit_told S x logged plan z cut).by_first in
      ap (λ (T : Store). T.poisoned) t.store
      ∙ each Spoilt (commit_rows S x logged plan cut) (done_row S x logged plan) (rows_spoilt cut) no (rw t.refusal at h)
