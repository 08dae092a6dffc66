-- The index reads of a transaction as code holds them, and what recording a stamp does.
use Rattle.std.specs.Prelude.{◌≡◌, Bool, true, false, not, ◌&&◌, ◌||◌, List, [], ◌∷◌, ◌++◌, ℕ, eqb}
use Rattle.std.proofs.Math.Path.{ap}
use Rattle.records.specs.Limits.{index_read_limit}
use Rattle.records.specs.Setters.{with_index_read_array}
use Rattle.records.specs.Zero.{no_index_read}
use Rattle.rules.specs.Lists.{any}
use Rattle.rules.specs.Types.{Tx, IndexRead}
use Rattle.rules.specs.Transaction.{sees, with_index_reads}
use Rattle.rules.specs.Calls.{record_stamp}
use Rattle.recording.specs.declared.laid.Laid.{Laid}
use Rattle.recording.specs.Laid.{laid}

abbrev pub IndexReadList : Type 0
IndexReadList = Laid IndexRead index_read_limit

abbrev pub index_read_list : List IndexRead → IndexReadList
index_read_list l = laid index_read_limit no_index_read l

-- an index read of the stripe i
abbrev pub of_stripe : ℕ → IndexRead → Bool
of_stripe i e = eqb e.stripe i

-- "raises index_conflict if the present stamp is nonzero and not visible"
unfoldable pub index_conflict : Tx → ℕ → Bool
index_conflict x t = x.index_conflict || (not (eqb t 0) && not (sees x t))

-- a stripe read before, and a new one
module _ (i t : ℕ) (m : List IndexRead) (b : Bool) (test : b ≡ any (of_stripe i) m) where
  pub stamp_before : b ≡ true → record_stamp i t m ≡ m
  stamp_before e = rw (← test, e)

  pub stamp_new : b ≡ false → record_stamp i t m ≡ m ++ record { stripe = i; stamp = record { 0 = t } } ∷ []
  stamp_new e = rw (← test, e)

-- a transaction with its index reads as a list has them, its index_conflict as given
unfoldable pub index_reads_from : IndexReadList → Bool → Tx → Tx
index_reads_from l conflict x = with_index_read_array l.at l.count conflict x

pub index_reads_from_law : (l : IndexReadList) (m : List IndexRead) (conflict : Bool) (x : Tx) → l ≡ index_read_list m
    → index_reads_from l conflict x ≡ with_index_reads m conflict x
unfolding index_reads_from laid
index_reads_from_law l m conflict x holds = ap (λ (q : IndexReadList). with_index_read_array q.at q.count conflict x) holds
