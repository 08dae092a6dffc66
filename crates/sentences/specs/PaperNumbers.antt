-- "Store and transaction", computed at the paper's stripes and partitions: the limits, and which stripes and partitions some keys and rows have.
use Rattle.std.specs.Prelude.{◌≡◌, refl, [], ◌∷◌, map}
use Rattle.rules.specs.Store.{stripe_of, partition_of}
use Rattle.statements.specs.StoreWords.{PaperNumbers}

-- rows, slots, postings, ..
pub paper_numbers : PaperNumbers
paper_numbers = record {
  row_ids = refl;
  last_slot = refl;
  slot_places = refl;
  postings = refl;
  stripes_are = refl;
  partitions_are = refl;
  actives = refl;
  writes = refl;
  reads = refl;
  index_reads = refl;
  savepoints = refl;
  steps = refl;
  keys = refl;
  largest = refl;
  places_of_replay = refl;
  minutes = refl;
}

-- "Key k has stripe k mod 16; row id r has partition r mod 16."
pub stripes_told : map stripe_of (0 ∷ 15 ∷ 16 ∷ 35 ∷ 51 ∷ 4294967295 ∷ []) ≡ 0 ∷ 15 ∷ 0 ∷ 3 ∷ 3 ∷ 15 ∷ []
stripes_told = refl

pub partitions_told : map partition_of (0 ∷ 15 ∷ 16 ∷ 35 ∷ 63 ∷ []) ≡ 0 ∷ 15 ∷ 0 ∷ 3 ∷ 15 ∷ []
partitions_told = refl
