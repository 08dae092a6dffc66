-- How many puts a block has, and a run.
use Rattle.std.specs.Prelude.{◌≡◌, Bool, true, List, [], ◌∷◌, ℕ, ◌+◌, ◌≤◌, length, eqb}
use Rattle.std.proofs.Common.{ap, arith}
use Rattle.std.proofs.Math.ListN.{length-append, length-map, length-take}
use borrow.Author.Tests.{leb-true}
use Rattle.records.specs.Limits.{stripes, partitions, places, write_limit}
use Rattle.rules.specs.Lists.{flat}
use Rattle.basic_laws.specs.Cases.{by, every_cons}
use Rattle.rules.specs.Types.{Store, Tx, Write}
use Rattle.rules.specs.Transaction.{writes_of, finals}
use Rattle.rules.specs.Chains.{walk}
use Rattle.rules.specs.Fit.{counts_fit, fit}
use Rattle.rules.specs.Changes.{Change, changes, destinations, sources, changed_stripes, guarded_stripes, guarded_partitions, index_guards}
use Rattle.rules.specs.Changes.{partition_guards, release, publish_one, insertions, removals, publication, recycled, recycling, stamping}
use Rattle.run_laws.specs.FinalWrites.{finals_few}
use Rattle.basic_laws.specs.TestParts.{fit_parts}
use Rattle.fields.specs.Marks.{marked_from, marked_few}
use Rattle.commit.specs.Plan.Moves.{changed_marks, destinations_few, sources_few, changes_few}
use Rattle.commit.specs.Plan.Guards.{guarded_marks, partition_marks, fit_reads, changed_marked, guarded_marked}
use Rattle.commit.specs.Plan.Guards.{partitions_marked, changed_long, guarded_long, partitions_long}
use Rattle.commit.specs.Plan.Own.{recycled_marks, recycled_marked, recycled_long}

-- n flags, which mark the numbers of l, rising
pub record Marked (m : List Bool) (l : List ℕ) (n : ℕ) : Type 0 where
  pub are : marked_from 0 m ≡ l
  pub long : length m ≡ n

-- so there are at most n
marked_most : {m : List Bool} {l : List ℕ} {n : ℕ} → Marked m l n → length l ≤ n
marked_most {m} h = omega (arith, marked_few 0 m, ap length h.are)

pub changed_are : (cs : List Change) → Marked (changed_marks cs) (changed_stripes cs) stripes
changed_are cs = record { are = changed_marked cs; long = changed_long cs }

pub guarded_are : (S : Store) (x : Tx) → fit S x ≡ true → Marked (guarded_marks (changes S x) x) (guarded_stripes (changes S x) x) stripes
guarded_are S x ok = record { are = guarded_marked (changes S x) x (fit_reads S x ok); long = guarded_long (changes S x) x }

pub partitions_are_law : (x : Tx) → Marked (partition_marks x) (guarded_partitions x) partitions
partitions_are_law x = record { are = partitions_marked x; long = partitions_long x }

pub recycled_are : (S : Store) → length S.xmin ≤ places → (x : Tx)
    → Marked (recycled_marks S.xmin (walk S.heads S.next).seen x) (recycled S x) places
recycled_are S long x = record { are = recycled_marked S x long; long = recycled_long S.xmin (walk S.heads S.next).seen x }

pub partition_guards_few : (x : Tx) (t : ℕ) → length (partition_guards x t) ≤ partitions
unfolding partition_guards
partition_guards_few x t = simp length-map (marked_most (partitions_are_law x))

module _ (S : Store) (x : Tx) where
  pub stamping_few : length (stamping S x) ≤ stripes
  unfolding stamping
  stamping_few = simp length-map (marked_most (changed_are (changes S x)))

  module _ (ok : fit S x ≡ true) where
    pub index_guards_few : (t : ℕ) → length (index_guards S x t) ≤ stripes
    unfolding index_guards
    index_guards_few t = simp length-map (marked_most (guarded_are S x ok))

    pub release_few : length (release S x) ≤ stripes + partitions
    unfolding release
    release_few = omega (arith, length-append (partition_guards x 0) (index_guards S x 0), partition_guards_few x 0, index_guards_few 0)

    pub finals_fit : length (finals x) ≤ write_limit
    unfolding finals counts_fit
    finals_fit =
        let c = leb-true x.write_count write_limit (every_cons _ _ (fit_parts S x ok).counts).0 in
        omega (arith, finals_few (writes_of x), length-take x.write_count x.writes)

    changes_fit : length (changes S x) ≤ write_limit
    unfolding changes
    changes_fit = let f = finals_fit in omega (arith, changes_few S.key S.has (finals x))

    pub destinations_fit : length (destinations (changes S x)) ≤ write_limit
    destinations_fit = let c = changes_fit in omega (arith, destinations_few (changes S x))

    pub sources_fit : length (sources (changes S x)) ≤ write_limit
    sources_fit = let c = changes_fit in omega (arith, sources_few (changes S x))

    pub insertions_few : length (insertions S x) ≤ write_limit
    unfolding insertions
    insertions_few = simp length-map destinations_fit

    pub removals_few : length (removals S x) ≤ write_limit
    unfolding removals
    removals_few = simp length-map sources_fit

    publish_two : (t : ℕ) (w : Write) → length (publish_one t w) ≤ 2
    unfolding publish_one
    publish_two t w = by (eqb w.base.0 0) (λ e. rw e (omega arith)) (λ e. rw e (omega arith))

    publish_few : (t : ℕ) (ws : List Write) → length (flat (publish_one t) ws) ≤ length ws + length ws
    publish_few t [] = omega arith
    publish_few t (w ∷ ws) = omega (arith, length-append (publish_one t w) (flat (publish_one t) ws), publish_two t w, publish_few t ws)

    pub publication_few : length (publication x) ≤ write_limit + write_limit
    unfolding publication
    publication_few = let f = finals_fit in omega (arith, publish_few x.txid.0 (finals x))

  pub recycling_few : length S.xmin ≤ places → length (recycling S x) ≤ places
  unfolding recycling
  recycling_few long = simp length-map (marked_most (recycled_are S long x))
