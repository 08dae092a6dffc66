-- "Steps and faults": what a commit is about to change. All of it is read off the store at entry.
use Rattle.std.specs.Prelude.{Bool, not, cond, List, [], ◌∷◌, ◌++◌, map, ℕ, eqb}
use Rattle.rules.specs.Lists.{those, flat, memb, in_order}
use Rattle.rules.specs.Types.{Store, Tx, Write, Value, Absent, Key}
use Rattle.rules.specs.Store.{posting, value_at, same_value, stripe_of, partition_of}
use Rattle.rules.specs.Transaction.{writes_of, reads_of, index_reads_of, finals}
use Rattle.rules.specs.Puts.{Put, put_stripe, put_partition, put_insert, put_remove, put_xmax, put_head, put_free, put_stamp, own_slots}

-- "A change exists where the base's value (none for 0 or a free slot) differs from the new one."
pub record Change : Type 0 where
  pub row : ℕ
  pub before : Value
  pub after : Value

abbrev pub change_of : List ℕ → List Bool → Write → Change
change_of key has w = record { row = w.row.0; before = value_at key has w.base.0; after = value_at key has w.new.0 }

unfoldable pub index_changes : List ℕ → List Bool → List Write → List Change
index_changes key has ws = those (λ c. not (same_value c.before c.after)) (map (change_of key has) ws)

unfoldable pub changes : Store → Tx → List Change
changes S x = index_changes S.key S.has (finals x)

-- the postings that changes put in and take out, "in final-write order"
abbrev pub posting_in : ℕ → Value → List ℕ
posting_in r Absent = []
posting_in r (Key k) = posting k r ∷ []

unfoldable pub destinations : List Change → List ℕ
destinations cs = flat (λ c. posting_in c.row c.after) cs

unfoldable pub sources : List Change → List ℕ
sources cs = flat (λ c. posting_in c.row c.before) cs

-- "stripes of changed keys, both sides", rising
abbrev pub stripes_in : Value → List ℕ
stripes_in Absent = []
stripes_in (Key k) = stripe_of k ∷ []

unfoldable pub changed_stripes : List Change → List ℕ
changed_stripes cs = in_order (flat (λ c. stripes_in c.before ++ stripes_in c.after) cs)

-- "Guards: stripes of changed keys, both sides, and of index reads; partitions of written and read rows; rising"
unfoldable pub guarded_stripes : List Change → Tx → List ℕ
guarded_stripes cs x = in_order (changed_stripes cs ++ map (λ e. e.stripe) (index_reads_of x))

unfoldable pub guarded_partitions : Tx → List ℕ
guarded_partitions x = in_order (map (λ w. partition_of w.row.0) (writes_of x) ++ map (λ e. partition_of e.row.0) (reads_of x))

-- the guards set to t: the txid to take them, 0 to let them go
unfoldable pub index_guards : Store → Tx → ℕ → List Put
index_guards S x t = map (λ i. put_stripe i t) (guarded_stripes (changes S x) x)

unfoldable pub partition_guards : Tx → ℕ → List Put
partition_guards x t = map (λ i. put_partition i t) (guarded_partitions x)

-- "taken index first, released partition first"
unfoldable pub release : Store → Tx → List Put
release S x = partition_guards x 0 ++ index_guards S x 0

-- "Publishing marks a nonzero base's xmax, then moves the head."
unfoldable pub publish_one : ℕ → Write → List Put
publish_one t w = cond (eqb w.base.0 0) (put_head w.row.0 w.new.0 ∷ []) (put_xmax w.base.0 t ∷ put_head w.row.0 w.new.0 ∷ [])

-- "Changes and publication go in final-write order, recycling and stamps rising"
unfoldable pub insertions : Store → Tx → List Put
insertions S x = map put_insert (destinations (changes S x))

unfoldable pub removals : Store → Tx → List Put
removals S x = map put_remove (sources (changes S x))

unfoldable pub publication : Tx → List Put
publication x = flat (publish_one x.txid.0) (finals x)

-- "Recycling frees the txid's other off-chain slots."
unfoldable pub recycled : Store → Tx → List ℕ
recycled S x =
    those (λ p. not (memb p (map (λ w. w.new.0) (finals x)))) (own_slots S.heads S.next S.xmin x.txid.0)

unfoldable pub recycling : Store → Tx → List Put
recycling S x = map put_free (recycled S x)

-- "Stamps are the txid, on changed stripes only."
unfoldable pub stamping : Store → Tx → List Put
stamping S x = map (λ i. put_stamp i x.txid.0) (changed_stripes (changes S x))
