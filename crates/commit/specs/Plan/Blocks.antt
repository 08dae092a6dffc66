-- The blocks of a commit by their names: what the runs of puts add to a journal is what the definitions say.
use Rattle.std.specs.Prelude.{◌≡◌, Bool, true, List, map, ℕ, ◌≤◌, take}
use Rattle.std.proofs.Math.Path.{ap}
use Rattle.std.proofs.Common.{◌∙◌}
use Rattle.std.proofs.Math.ListN.{length}
use Rattle.std.proofs.lemmas.List.{take-map}
use Rattle.records.specs.Limits.{places}
use Rattle.rules.specs.Types.{Store, Tx}
use Rattle.rules.specs.Chains.{walk}
use Rattle.rules.specs.Fit.{fit}
use Rattle.rules.specs.Puts.{Put, put_stripe, put_partition, put_insert, put_remove, put_stamp}
use Rattle.rules.specs.Changes.{changes, destinations, sources, index_guards, partition_guards, release, insertions, removals, recycling, stamping}
use Rattle.journal.specs.AtMarks.{placed, frees_at}
use Rattle.journal.specs.Adds.{Adds, adds_then}
use Rattle.commit.specs.Plan.Moves.{changed_marks}
use Rattle.commit.specs.Plan.Guards.{guarded_marks, partition_marks}
use Rattle.commit.specs.Plan.Own.{recycled_marks}
use Rattle.commit.specs.Plan.Few.{Marked, changed_are, guarded_are, partitions_are_law, recycled_are}

-- the puts of marked places are those of the numbers that are marked
placed_are : (f : ℕ → Put) {m k : List Bool} {l : List ℕ} {size : ℕ} → m ≡ k → Marked k l size → placed f m ≡ map f l
placed_are f e h = ap (placed f) e ∙ ap (map f) h.are

module _ {j after : List Put} where
  pub index_guards_law : (S : Store) (x : Tx) (t : ℕ) {m : List Bool} → m ≡ guarded_marks (changes S x) x → fit S x ≡ true
      → Adds j (placed (λ i. put_stripe i t) m) after → Adds j (index_guards S x t) after
  unfolding index_guards
  index_guards_law S x t e ok a = rw (placed_are (λ i. put_stripe i t) e (guarded_are S x ok)) at a

  pub partition_guards_law : (x : Tx) (t : ℕ) {m : List Bool} → m ≡ partition_marks x → Adds j (placed (λ i. put_partition i t) m) after
      → Adds j (partition_guards x t) after
  unfolding partition_guards
  partition_guards_law x t e a = rw (placed_are (λ i. put_partition i t) e (partitions_are_law x)) at a

  pub stamps : (S : Store) (x : Tx) (t limit : ℕ) {m : List Bool} → m ≡ changed_marks (changes S x) → t ≡ x.txid.0
      → Adds j (take limit (placed (λ i. put_stamp i t) m)) after → Adds j (take limit (stamping S x)) after
  unfolding stamping
  stamps S x t limit e f a = rw (placed_are (λ i. put_stamp i t) e (changed_are (changes S x)), f) at a

  pub recycles : (S : Store) (x : Tx) (limit : ℕ) {m : List Bool} → m ≡ recycled_marks S.xmin (walk S.heads S.next).seen x → length S.xmin ≤ places
      → Adds j (take limit (frees_at m)) after → Adds j (take limit (recycling S x)) after
  unfolding recycling
  recycles S x limit e h a = rw (placed_are _ e (recycled_are S h x)) at a

  pub inserts : (S : Store) (x : Tx) (limit : ℕ) {l : List ℕ} → l ≡ destinations (changes S x)
      → Adds j (map put_insert (take limit l)) after → Adds j (take limit (insertions S x)) after
  unfolding insertions
  inserts S x limit {l} e a = rw (← take-map put_insert limit l, e) at a

  pub removes : (S : Store) (x : Tx) (limit : ℕ) {l : List ℕ} → l ≡ sources (changes S x)
      → Adds j (map put_remove (take limit l)) after → Adds j (take limit (removals S x)) after
  unfolding removals
  removes S x limit {l} e a = rw (← take-map put_remove limit l, e) at a

-- two blocks one after the other
pub releases : {j j' after : List Put} (S : Store) (x : Tx) → Adds j (partition_guards x 0) j' → Adds j' (index_guards S x 0) after
    → Adds j (release S x) after
unfolding release
releases S x a b = adds_then a b
