-- The guards of a commit as marks: stripes of changed keys and of index reads, partitions of written and read rows.
use Rattle.std.specs.Prelude.{◌≡◌, refl, Bool, true, false, not, ◌&&◌, List, [], ◌∷◌, ◌++◌, map, ℕ, length, replicate, eqb, ltb}
use Rattle.std.proofs.Common.{sym, ap, ◌∙◌, arith, lt-ltb}
use Rattle.std.proofs.lemmas.List.{length-replicate}
use Rattle.records.specs.Limits.{stripes, partitions}
use Rattle.rules.specs.Lists.{all, flat, in_order}
use Rattle.basic_laws.specs.Cases.{and_true, and_both}
use Rattle.rules.specs.Types.{Store, Tx, Write, ReadRecord, IndexRead, Value, Absent, Key}
use Rattle.rules.specs.Store.{stripe_of, partition_of}
use Rattle.rules.specs.Transaction.{writes_of, reads_of, index_reads_of}
use Rattle.rules.specs.Fit.{fit, stripes_apart}
use Rattle.rules.specs.Changes.{Change, stripes_in, changed_stripes, guarded_stripes, guarded_partitions}
use Rattle.basic_laws.specs.TestParts.{fit_parts}
use Rattle.basic_laws.specs.AllOf.{all_append}
use Rattle.fields.specs.Marks.{mark_all, marked_from, mark_length, mark_append, marks_in_order, order_marks, order_all}
use Rattle.commit.specs.Plan.Moves.{no_stripes, stripes_of, changed_marks}

-- the place of a guard
abbrev pub stripe_read : IndexRead → ℕ
stripe_read e = e.stripe

abbrev pub partition_written : Write → ℕ
partition_written w = partition_of w.row.0

abbrev pub partition_read : ReadRecord → ℕ
partition_read e = partition_of e.row.0

-- the stripes of index reads marked besides those of changed keys
unfoldable pub guarded_marks : List Change → Tx → List Bool
guarded_marks cs x = mark_all (map stripe_read (index_reads_of x)) (changed_marks cs)

-- the partitions of written rows, and those of read rows besides
unfoldable pub no_partitions : List Bool
no_partitions = replicate partitions false

unfoldable pub written_marks : Tx → List Bool
written_marks x = mark_all (map partition_written (writes_of x)) no_partitions

unfoldable pub partition_marks : Tx → List Bool
partition_marks x = mark_all (map partition_read (reads_of x)) (written_marks x)

-- a stripe or a partition that is computed has a place
low_stripes : (v : Value) → all (λ r. ltb r stripes) (stripes_in v) ≡ true
low_stripes Absent = refl
low_stripes (Key k) = rw (lt-ltb (stripe_of k) stripes (omega arith))

low_changed : (cs : List Change) → all (λ r. ltb r stripes) (flat stripes_of cs) ≡ true
low_changed [] = refl
low_changed (c ∷ cs) =
    all_append _ (stripes_of c) (flat stripes_of cs)
    (all_append _ (stripes_in c.before) (stripes_in c.after) (low_stripes c.before) (low_stripes c.after)) (low_changed cs)

low_partitions {ℓ} : {A : Type ℓ} (f : A → ℕ) (l : List A) → all (λ r. ltb r partitions) (map (λ a. partition_of (f a)) l) ≡ true
low_partitions f [] = refl
low_partitions f (a ∷ l) = rw (lt-ltb (partition_of (f a)) partitions (omega arith)) (low_partitions f l)

-- the stripe of an index read has one in a fit transaction
abbrev pub reads_low : Tx → Bool
reads_low x = all (λ r. ltb r stripes) (map stripe_read (index_reads_of x))

pub fit_reads : (S : Store) (x : Tx) → fit S x ≡ true → reads_low x ≡ true
fit_reads S x h = go (index_reads_of x) (fit_parts S x h).stripes
  where
    go : (l : List IndexRead) → stripes_apart l ≡ true → all (λ r. ltb r stripes) (map stripe_read l) ≡ true
    go [] e = refl
    go (r ∷ l) e =
        let others = all (λ q. not (eqb q.stripe r.stripe)) l in
        let a = and_true (ltb r.stripe stripes) (others && stripes_apart l) e in
        and_both (ltb r.stripe stripes) (all (λ q. ltb q stripes) (map stripe_read l)) a.0 (go l (and_true others (stripes_apart l) a.1).1)

-- the marks, read rising, are the definition's lists
pub changed_marked : (cs : List Change) → marked_from 0 (changed_marks cs) ≡ changed_stripes cs
unfolding changed_marks changed_stripes no_stripes
changed_marked cs = marks_in_order stripes (flat stripes_of cs) (low_changed cs)

pub guarded_marked : (cs : List Change) (x : Tx) → reads_low x ≡ true → marked_from 0 (guarded_marks cs x) ≡ guarded_stripes cs x
unfolding guarded_marks changed_marks changed_stripes guarded_stripes no_stripes
guarded_marked cs x h =
    let l = flat stripes_of cs in
    let r = map stripe_read (index_reads_of x) in
    let e : mark_all (in_order l ++ r) (replicate stripes false) ≡ mark_all r (mark_all l (replicate stripes false)) =
    mark_append (in_order l) r (replicate stripes false) ∙ ap (mark_all r) (order_marks l (replicate stripes false)) in
    ap (marked_from 0) (sym e) ∙ marks_in_order stripes (in_order l ++ r) (all_append _ (in_order l) r (order_all _ l (low_changed cs)) h)

pub partitions_marked : (x : Tx) → marked_from 0 (partition_marks x) ≡ guarded_partitions x
unfolding partition_marks written_marks guarded_partitions no_partitions
partitions_marked x =
    let w = map partition_written (writes_of x) in
    let r = map partition_read (reads_of x) in
    ap (marked_from 0) (sym (mark_append w r (replicate partitions false)))
    ∙ marks_in_order partitions (w ++ r) (all_append _ w r (low_partitions (λ a. a.row.0) (writes_of x)) (low_partitions (λ a. a.row.0) (reads_of x)))

-- there are as many flags as places
pub changed_long : (cs : List Change) → length (changed_marks cs) ≡ stripes
unfolding changed_marks no_stripes
changed_long cs = mark_length (flat stripes_of cs) (replicate stripes false) ∙ length-replicate stripes false

pub guarded_long : (cs : List Change) (x : Tx) → length (guarded_marks cs x) ≡ stripes
unfolding guarded_marks
guarded_long cs x = mark_length (map stripe_read (index_reads_of x)) (changed_marks cs) ∙ changed_long cs

pub partitions_long : (x : Tx) → length (partition_marks x) ≡ partitions
unfolding partition_marks written_marks no_partitions
partitions_long x =
    mark_length (map partition_read (reads_of x)) (mark_all (map partition_written (writes_of x)) (replicate partitions false))
    ∙ mark_length (map partition_written (writes_of x)) (replicate partitions false)
    ∙ length-replicate partitions false
