-- The fit transaction and the fit schedule as the rows of tests that the code makes.
use Rattle.std.specs.Prelude.{◌≡◌, Bool, ◌&&◌, List, [], ◌∷◌, ◌++◌, ℕ, leb, min, length}
use Rattle.std.proofs.Common.{ap, ◌∙◌}
use Rattle.std.proofs.Math.Bool.{and_assoc}
use Rattle.std.proofs.Math.ListN.{take}
use Rattle.std.specs.List.{list_all}
use Rattle.records.specs.Limits.{rows, places, fault_limit}
use Rattle.rules.specs.Faults.{allowed, schedule_fit}
use Rattle.fields.specs.Pad.{take_clip}
use Rattle.rules.specs.Types.{Store, Tx, Schedule}
use Rattle.rules.specs.Lists.{all, every, non_falling}
use Rattle.rules.specs.Transaction.{writes_of, reads_of, index_reads_of, savepoints_of}
use Rattle.rules.specs.Chains.{walk}
use Rattle.rules.specs.Fit.{read_fit, write_fit, writes_apart, stripes_apart, counts_fit, fit}
use Rattle.basic_laws.specs.Chains.{all_of_list}
use Rattle.basic_laws.specs.Members.{pairs}
use Rattle.statements.specs.Sized.{Sized}
use Rattle.fields.specs.Lent.{array_same, at_rows, at_places}
use Rattle.fields.specs.Climb.{climb, non_falling_climb}
use Rattle.fitting.specs.Apart.{writes_differ, writes_apart_law, stripe_fit, stripes_differ, stripes_apart_law, steps_differ, steps_apart_law}
use Rattle.fitting.specs.Fitting.{joined_every, counts_by, counts_law, write_at, write_at_law}

-- fit under the marks of a walk
unfoldable pub fit_by : List ℕ → List ℕ → ℕ → List ℕ → Tx → Bool
fit_by xmin next clock seen x =
    counts_by x
    && list_all read_fit (reads_of x)
    && list_all (write_at xmin next seen x.txid.0) (writes_of x)
    && pairs writes_differ (writes_of x)
    && (list_all stripe_fit (index_reads_of x) && pairs stripes_differ (index_reads_of x))
    && climb (λ p. p) (λ p. leb p x.write_count) 0 (savepoints_of x)
    && leb x.snapshot_xmin.0 x.snapshot_xmax.0
    && leb x.snapshot_xmax.0 clock

-- two tests in a row are one
every_join : (p : List Bool) (a b : Bool) (l : List Bool) → every (p ++ ((a && b) ∷ l)) ≡ every (p ++ (a ∷ b ∷ l))
unfolding every
every_join [] a b l = and_assoc a b (every l)
every_join (c ∷ p) a b l = ap (λ r. c && r) (every_join p a b l)

-- those of a store of its type's lengths: fit for it
pub fit_by_law : (S : Store) (x : Tx) (seen : List ℕ) → Sized S → seen ≡ (walk (at_rows S.heads) (at_places S.next)).seen
    → fit_by S.xmin S.next S.clock seen x ≡ fit S x
unfolding fit_by fit
fit_by_law S x seen z e =
    let marks : seen ≡ (walk S.heads S.next).seen = rw (array_same rows 0 S.heads z.heads, array_same places 0 S.next z.next) at e in
    let points = savepoints_of x in
    let within = all (λ p. leb p x.write_count) points in
    let same : write_at S.xmin S.next seen x.txid.0 ≡ write_fit S.xmin S.next seen x.txid.0 =
    (λ i w. write_at_law S.xmin S.next seen x.txid.0 w i) in
    rw (
      counts_law x,
      all_of_list read_fit (reads_of x),
      all_of_list (write_at S.xmin S.next seen x.txid.0) (writes_of x),
      same,
      writes_apart_law (writes_of x),
      stripes_apart_law (index_reads_of x),
      ← non_falling_climb (λ p. leb p x.write_count) 0 points,
      marks,
    )
    (joined_every _ _
    ∙ every_join
    (counts_fit x
    ∷ all read_fit (reads_of x)
    ∷ all (write_fit S.xmin S.next (walk S.heads S.next).seen x.txid.0) (writes_of x)
    ∷ writes_apart (writes_of x)
    ∷ stripes_apart (index_reads_of x)
    ∷ [])
    (non_falling 0 points) within _)

-- a schedule by its first faults
pub schedule_law : (c : Schedule) → length c.faults ≡ fault_limit
    → (list_all allowed (take (min c.count fault_limit) c.faults) && pairs steps_differ (take (min c.count fault_limit) c.faults)) ≡ schedule_fit c
unfolding schedule_fit
schedule_law c long =
    rw (
      take_clip c.count fault_limit c.faults long,
      all_of_list allowed (take c.count c.faults),
      steps_apart_law (take c.count c.faults),
    )
