-- The four tests of commit, each "to the first yes", whether one of them says yes, and the place of the entry that made it say so.
use Rattle.std.specs.Prelude.{Bool, not, cond, ◌&&◌, ◌||◌, List, [], ◌∷◌, map, ℕ, get_or, eqb, leb}
use Rattle.rules.specs.Lists.{any, memb, first_true}
use Rattle.rules.specs.Types.{Store, Tx, Write, ReadRecord, IndexRead}
use Rattle.rules.specs.Transaction.{writes_of, reads_of, index_reads_of, snapshot_of, final_writes}
use Rattle.rules.specs.Calls.{locked_by_another}

-- "11 index_conflict is set or a recorded stamp differs"
abbrev pub stamp_differs : Store → IndexRead → Bool
stamp_differs S e = not (eqb (get_or S.stamps e.stripe 0) e.stamp.0)

unfoldable pub index_read_conflict : Store → Tx → Bool
index_read_conflict S x = x.index_conflict || any (stamp_differs S) (index_reads_of x)

-- "12 a written row's head has a live lock of another"
abbrev pub head_locked : Store → Tx → Write → Bool
head_locked S x w = locked_by_another S x.txid.0 (get_or S.heads w.row.0 0)

unfoldable pub row_lock_conflict : Store → Tx → Bool
row_lock_conflict S x = any (head_locked S x) (writes_of x)

-- "13 per read, in order: changed xmin conflicts first; xmax 0 or own is none; xmax at or above snapshot_xmax, or in the snapshot, conflicts"
abbrev pub version_conflict : Store → Tx → ReadRecord → Bool
version_conflict S x e =
    let b = get_or S.xmax e.ptr.0 0 in
    not (eqb (get_or S.xmin e.ptr.0 0) e.xmin.0)
    || (not (eqb b 0 || eqb b x.txid.0) && (leb x.snapshot_xmax.0 b || memb b (snapshot_of x)))

-- document 02's wish 2: of a read of an absent row "test 13 says yes when that row's head is no longer 0" and "asks nothing else"; own staged writes
-- are aside, for they are off every chain until they are published
unfoldable pub read_conflict : Store → Tx → ReadRecord → Bool
read_conflict S x e = cond (eqb e.ptr.0 0) (not (eqb (get_or S.heads e.row.0 0) 0)) (version_conflict S x e)

unfoldable pub serialization_conflict : Store → Tx → Bool
serialization_conflict S x = any (read_conflict S x) (reads_of x)

-- "14 a final write's base is not the head"
abbrev pub base_moved : Store → Write → Bool
base_moved S w = not (eqb (get_or S.heads w.row.0 0) w.base.0)

unfoldable pub write_base_conflict : Store → Tx → Bool
write_base_conflict S x = any (base_moved S) (final_writes (writes_of x))

-- one of the four says yes
abbrev pub conflicting : Store → Tx → Bool
conflicting S x = index_read_conflict S x || (row_lock_conflict S x || (serialization_conflict S x || write_base_conflict S x))

-- document 02's wish 4: "Each conflict test should answer with the place of the first entry that conflicts (for 11, a set index_conflict is place 0
-- and the index reads follow from 1; for 12 and 14 the place in the write list, for 13 in the read list, from 0)"; one that says no, with their number
unfoldable pub index_read_place : Store → Tx → ℕ
index_read_place S x = first_true (x.index_conflict ∷ map (stamp_differs S) (index_reads_of x))

unfoldable pub row_lock_place : Store → Tx → ℕ
row_lock_place S x = first_true (map (head_locked S x) (writes_of x))

unfoldable pub serialization_place : Store → Tx → ℕ
serialization_place S x = first_true (map (read_conflict S x) (reads_of x))

-- of each write of the whole list: it is final, and passes
abbrev pub finals_that : (Write → Bool) → List Write → List Bool
finals_that f [] = []
finals_that f (w ∷ ws) = (not (any (λ v. eqb v.row.0 w.row.0) ws) && f w) ∷ finals_that f ws

unfoldable pub write_base_place : Store → Tx → ℕ
write_base_place S x = first_true (finals_that (base_moved S) (writes_of x))
