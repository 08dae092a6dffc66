-- The tests on a transaction as the code makes them.
use Rattle.std.specs.Prelude.{◌≡◌, refl, Bool, true, false, not, ◌&&◌, List, [], ◌∷◌, ℕ, ◌<◌, ◌≤◌, get_or, drop, eqb, ltb, leb}
use Rattle.std.proofs.Common.{sym, ◌∙◌, arith, lt-ltb, le-ltb, le-leb, ne_eqb}
use Rattle.std.proofs.Math.Bool.{and-true, and_assoc, or-false}
use Rattle.std.specs.List.{list_all}
use Rattle.records.specs.Limits.{rows, slots, write_limit, read_limit, index_read_limit, savepoint_limit, active_limit}
use Rattle.rules.specs.Types.{Tx, Write, ReadRecord, IndexRead}
use Rattle.rules.specs.Lists.{every, is_zero}
use Rattle.rules.specs.Fit.{read_fit, write_fit, counts_fit}
use Rattle.basic_laws.specs.Chains.{all_of_list}

-- a row of tests, joined one by one
abbrev pub joined : Bool → List Bool → Bool
joined a [] = a
joined a (b ∷ l) = joined (a && b) l

pub joined_every : (a : Bool) (l : List Bool) → joined a l ≡ every (a ∷ l)
unfolding every
joined_every a [] = sym (and-true a)
joined_every a (b ∷ l) = joined_every (a && b) l ∙ and_assoc a b (every l)

-- unused places
abbrev pub zero_write : Write → Bool
zero_write w = eqb w.row.0 0 && (eqb w.base.0 0 && eqb w.new.0 0)

abbrev pub zero_read : ReadRecord → Bool
zero_read r = eqb r.row.0 0 && (eqb r.ptr.0 0 && eqb r.xmin.0 0)

abbrev pub zero_index_read : IndexRead → Bool
zero_index_read r = eqb r.stripe 0 && eqb r.stamp.0 0

unfoldable pub counts_by : Tx → Bool
counts_by x =
    leb x.write_count write_limit
    && leb x.read_count read_limit
    && leb x.index_read_count index_read_limit
    && leb x.snapshot_count active_limit
    && leb x.savepoint_count savepoint_limit
    && list_all zero_write (drop x.write_count x.writes)
    && list_all zero_read (drop x.read_count x.reads)
    && list_all zero_index_read (drop x.index_read_count x.index_reads)
    && list_all is_zero (drop x.snapshot_count x.snapshot)
    && list_all is_zero (drop x.savepoint_count x.savepoints)

pub counts_law : (x : Tx) → counts_by x ≡ counts_fit x
unfolding counts_by counts_fit
counts_law x =
    rw (
      all_of_list zero_write (drop x.write_count x.writes),
      all_of_list zero_read (drop x.read_count x.reads),
      all_of_list zero_index_read (drop x.index_read_count x.index_reads),
      all_of_list is_zero (drop x.snapshot_count x.snapshot),
      all_of_list is_zero (drop x.savepoint_count x.savepoints),
    )
    (joined_every _ _)

-- a read, by its row and whether its pointer p is 0
pub read_row : (r : ReadRecord) → rows ≤ r.row.0 → ltb r.row.0 rows ≡ read_fit r
unfolding every
read_row r h = rw (le-ltb r.row.0 rows h)

module _ (r : ReadRecord) (p : ℕ) (e : p ≡ r.ptr.0) (h : r.row.0 < rows) where
  pub read_absent : p ≡ 0 → eqb r.xmin.0 0 ≡ read_fit r
  unfolding every
  read_absent z = rw (lt-ltb r.row.0 rows h, ← e, z, and-true (eqb r.xmin.0 0))

  pub read_version : (p ≡ 0 → ⊥) → leb p slots ≡ read_fit r
  unfolding every
  read_version n = rw (lt-ltb r.row.0 rows h, ← e, le-leb 1 p (omega (arith, n)), ne_eqb p 0 n, or-false (leb p slots), and-true (leb p slots))

-- a write, by the store's arrays and the marks of the walk
unfoldable pub write_at : List ℕ → List ℕ → List ℕ → ℕ → Write → Bool
write_at xmin next seen t w =
    ltb w.row.0 rows
    && leb w.base.0 slots
    && leb w.new.0 slots
    && ltb 0 (get_or xmin w.new.0 0)
    && eqb (get_or seen w.new.0 0) 0
    && eqb (get_or xmin w.new.0 0) t
    && eqb (get_or next w.new.0 0) w.base.0

pub write_at_law : (xmin next seen : List ℕ) (t : ℕ) (w : Write) → write_at xmin next seen t w ≡ write_fit xmin next seen t w
unfolding write_at
write_at_law xmin next seen t w = rw (not_not (eqb (get_or seen w.new.0 0) 0)) (joined_every _ _)
  where
    not_not : (b : Bool) → not (not b) ≡ b
    not_not true = refl
    not_not false = refl
