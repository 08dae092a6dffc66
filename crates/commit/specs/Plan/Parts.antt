-- The puts of each gate as one row of blocks, most of them empty at most gates: the form in which code pushes them.
use Rattle.std.specs.Prelude.{◌≡◌, Bool, true, false, not, cond, ◌&&◌, ◌||◌, List, [], ◌∷◌, ◌++◌, map, ℕ, zero, suc, ◌+◌, ◌≤◌, ◌<◌, get_or, take, eqb, ltb}
use Rattle.std.proofs.Common.{sym, ap, ◌∙◌, append_assoc, append-nil, not-suc-le-zero, le_of_suc-le-suc, add-zero, zero-add, arith}
use Rattle.std.proofs.Math.ListN.{get_or-map}
use Rattle.rules.specs.Types.{Store, Tx, Schedule}
use Rattle.rules.specs.Puts.{Put, put_drop, put_poison, put_doom}
use Rattle.rules.specs.Changes.{index_guards, partition_guards, release, insertions, removals, publication, recycling, stamping}
use Rattle.rules.specs.Commit.{count, finish}
use Rattle.run_laws.specs.Outcome.{aborting, rolling_back, worse, undoing, aborting_late}
use Rattle.run_laws.specs.Gates.{gates, clean}
use Rattle.steps.specs.declared.gate.Left.{Left}
use Rattle.steps.specs.declared.gate.Left.TheVariants.{All, ByAbort, NoAccesses, NoWrites, Emptied}
use Rattle.steps.specs.GateTable.{partition_guards_failed, unlogged_check_failed, insert_failed, callback_ended, remove_failed, publish_failed, recycle_failed}
use Rattle.steps.specs.GateTable.{finish_failed, stamp_failed, is_by_abort, clean_gate, row_at, left_at}

-- a block that is stored from a gate on; and one whose first k puts are stored at a gate of its own, and all of it after
abbrev pub after : ℕ → ℕ → List Put → List Put
after own g ps = cond (ltb g own) [] ps

abbrev pub up_to : ℕ → ℕ → ℕ → List Put → List Put
up_to own g k ps = cond (ltb g own) [] (cond (eqb g own) (take k ps) ps)

-- n numbers from p on
abbrev count_from : ℕ → ℕ → List ℕ
count_from p zero = []
count_from p (suc n) = p ∷ count_from (suc p) n

count_at : (p n i d : ℕ) → i < n → get_or (count_from p n) i d ≡ p + i
count_at p zero i d h = absurd (not-suc-le-zero h)
count_at p (suc n) zero d h = sym (add-zero p)
count_at p (suc n) (suc i) d h = count_at (suc p) n i d (le_of_suc-le-suc h) ∙ omega arith

-- the gates that abort at once, and let go what they hold before; a callback's aborts later
unfoldable pub aborts_at : ℕ → Bool
aborts_at g = not (eqb g callback_ended) && is_by_abort (left_at g)

-- a test that tells what an abort leaves from the rest
pub by_abort_told : (f : Left → Bool) → f All ≡ false → f ByAbort ≡ true → f NoAccesses ≡ false → f NoWrites ≡ false → f Emptied ≡ false
    → (l : Left) → f l ≡ is_by_abort l
by_abort_told f a b n w e All = a
by_abort_told f a b n w e ByAbort = b
by_abort_told f a b n w e NoAccesses = n
by_abort_told f a b n w e NoWrites = w
by_abort_told f a b n w e Emptied = e

-- a callback's, by its letter; a failed removal's or stamp's; the doom of a failed publication, recycling or finish
abbrev pub poisons_of : Bool → ℕ → ℕ → List Put
poisons_of bad t g =
    cond (eqb g callback_ended) (cond bad (put_poison ∷ []) [])
    (cond (eqb g remove_failed || eqb g stamp_failed) (put_poison ∷ [])
    (cond (eqb g publish_failed || (eqb g recycle_failed || eqb g finish_failed)) (put_doom t ∷ []) []))

module _ (S : Store) (x : Tx) (logged : Bool) (plan : Schedule) where
  -- the stores of the steps up to the gate: guards and postings, then rows
  unfoldable pub taken : ℕ → List Put
  taken g =
      after partition_guards_failed g (index_guards S x x.txid.0)
      ++ (after unlogged_check_failed g (partition_guards x x.txid.0)
      ++ (up_to insert_failed g (count S x logged plan 15) (insertions S x)
      ++ up_to remove_failed g (count S x logged plan 17) (removals S x)))

  unfoldable pub passed : ℕ → List Put
  passed g =
      up_to publish_failed g (count S x logged plan 18) (publication x)
      ++ (up_to recycle_failed g (count S x logged plan 19) (recycling S x)
      ++ (after stamp_failed g (put_drop x.txid.0 ∷ [])
      ++ up_to stamp_failed g (count S x logged plan 22) (stamping S x)))

  unfoldable pub stored : ℕ → List Put
  stored g = taken g ++ passed g

  -- the poison at the gate
  unfoldable pub poisons : ℕ → List Put
  poisons g = poisons_of (worse S x logged plan) x.txid.0 g

  -- the insertions taken back
  unfoldable pub undoes : ℕ → List Put
  undoes g = cond (eqb g insert_failed) (rolling_back S x logged plan).puts (cond (eqb g callback_ended) (undoing S x logged plan).puts [])

  -- the abort of a failed callback, and the finish of a failed publication or recycling
  unfoldable pub drops : ℕ → List Put
  drops g = cond (eqb g callback_ended) (aborting_late S x logged plan).puts (cond (eqb g publish_failed || eqb g recycle_failed) (finish S x logged plan) [])

  -- the guards let go
  unfoldable pub lets : ℕ → List Put
  lets g = cond (ltb g partition_guards_failed) [] (cond (ltb g unlogged_check_failed) (index_guards S x 0) (release S x))

  -- the abort of the gates up to the tests
  unfoldable pub dies : ℕ → List Put
  dies g = cond (aborts_at g) (aborting S x logged plan).puts []

  unfoldable pub puts_at : ℕ → List Put
  puts_at g = stored g ++ (poisons g ++ (undoes g ++ (drops g ++ (lets g ++ dies g))))

  -- all the gates, and the clean run after them
  all_puts : map (λ g. g.then.puts) (gates S x logged plan) ++ (clean S x logged plan).puts ∷ [] ≡ map puts_at (count_from 0 (suc clean_gate))
  unfolding gates puts_at stored taken passed poisons undoes drops lets dies aborts_at row_at
  all_puts = simp (append_assoc, append-nil)

  last_puts : (clean S x logged plan).puts ≡ puts_at clean_gate
  unfolding puts_at stored taken passed poisons undoes drops lets dies aborts_at row_at
  last_puts = simp (append_assoc, append-nil)

  -- so they are the puts of commit's gates
  pub puts_at_law : (g : ℕ) → g ≤ clean_gate
      → get_or (map (λ g. g.then.puts) (gates S x logged plan) ++ (clean S x logged plan).puts ∷ []) g (clean S x logged plan).puts ≡ puts_at g
  puts_at_law g h =
      rw (all_puts, last_puts)
      (get_or-map puts_at (count_from 0 (suc clean_gate)) g clean_gate ∙ ap puts_at (count_at 0 (suc clean_gate) g clean_gate (omega arith) ∙ zero-add g))
