-- What a lookup records and finds, from the fields of the store that it reads, one candidate at a time.
use Rattle.std.specs.Prelude.{◌≡◌, refl, Bool, List, [], ◌∷◌, ℕ, ◌≤◌, length, take}
use Rattle.std.proofs.Common.{◌∙◌, arith}
use Rattle.records.specs.Limits.{read_limit}
use Rattle.rules.specs.Lists.{those}
use Rattle.rules.specs.Types.{Store, Tx, ReadRecord}
use Rattle.rules.specs.Store.{carries}
use Rattle.rules.specs.Calls.{record_reads, read_ptr, matching, candidates}
use Rattle.visibility.specs.Found.{read_ptr_of}
use Rattle.recording.specs.ReadList.{record_read_of, record_read_law}
use Rattle.recording.specs.Record.{record_longer, record_first}

module _ (heads next xmin : List ℕ) (x : Tx) where
  unfoldable pub record_reads_of : List ℕ → List ReadRecord → List ReadRecord
  record_reads_of [] l = l
  record_reads_of (r ∷ rs) l = record_reads_of rs (record_read_of heads next xmin x r l)

-- it is the definition's on the whole store
pub record_reads_law : (S : Store) (x : Tx) (rs : List ℕ) (l : List ReadRecord) → record_reads S x rs l ≡ record_reads_of S.heads S.next S.xmin x rs l
unfolding record_reads_of
record_reads_law S x [] l = refl
record_reads_law S x (r ∷ rs) l = rw (record_read_law S x r l) (record_reads_law S x rs (record_read_of S.heads S.next S.xmin x r l))

-- those of some rows whose read value is key k
unfoldable pub matching_of : List ℕ → List ℕ → List ℕ → List ℕ → List Bool → Tx → ℕ → List ℕ → List ℕ
matching_of heads next xmin key has x k rs = those (λ r. carries key has (read_ptr_of heads next xmin x r) k) rs

-- of the candidates they are the definition's on the whole store
pub matching_of_law : (S : Store) (x : Tx) (k : ℕ) → matching S x k ≡ matching_of S.heads S.next S.xmin S.key S.has x k (candidates S x k)
unfolding matching matching_of read_ptr read_ptr_of
matching_of_law S x k = refl

-- no read is taken out
pub records_longer : (heads next xmin : List ℕ) (x : Tx) (rs : List ℕ) (l : List ReadRecord) → length l ≤ length (record_reads_of heads next xmin x rs l)
unfolding record_reads_of
records_longer heads next xmin x [] l = omega arith
records_longer heads next xmin x (r ∷ rs) l =
    let m = record_read_of heads next xmin x r l in omega (arith, record_longer heads next xmin x r l, records_longer heads next xmin x rs m)

-- where every place is taken, the first reads stay
pub records_first : (heads next xmin : List ℕ) (x : Tx) (rs : List ℕ) (l : List ReadRecord) → read_limit ≤ length l
    → take read_limit (record_reads_of heads next xmin x rs l) ≡ take read_limit l
unfolding record_reads_of
records_first heads next xmin x [] l h = refl
records_first heads next xmin x (r ∷ rs) l h =
    let m = record_read_of heads next xmin x r l in
    records_first heads next xmin x rs m (omega (arith, h, record_longer heads next xmin x r l)) ∙ record_first heads next xmin x r l h

-- one row more recorded, or none left
module _ (heads next xmin : List ℕ) (x : Tx) (rs : List ℕ) (l : List ReadRecord) where
  pub records_none : rs ≡ [] → record_reads_of heads next xmin x rs l ≡ l
  unfolding record_reads_of
  records_none e = rw e

  pub records_next : (r : ℕ) (rest : List ℕ) → rs ≡ r ∷ rest
      → record_reads_of heads next xmin x rs l ≡ record_reads_of heads next xmin x rest (record_read_of heads next xmin x r l)
  unfolding record_reads_of
  records_next r rest e = rw e
