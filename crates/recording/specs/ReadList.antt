-- The reads of a transaction as code holds them, and what recording one more does.
use Rattle.std.specs.Prelude.{◌≡◌, refl, not, cond, ◌||◌, List, [], ◌∷◌, ◌++◌, ℕ, ◌<◌, ◌≤◌, length, take, get_or, eqb, leb}
use Rattle.std.specs.Prelude.{Option, Some, Result, Ok, Err}
use Rattle.std.specs.Result.{result_ok}
use Rattle.std.proofs.Common.{ap, ◌∙◌, take_all, le-leb, leb-true}
use Rattle.std.proofs.lemmas.Bool.{lt-leb}
use Rattle.basic_laws.specs.Cases.{by}
use Rattle.records.specs.Limits.{read_limit}
use Rattle.records.specs.Setters.{with_read_array}
use Rattle.records.specs.Zero.{no_read}
use Rattle.rules.specs.Lists.{any}
use Rattle.rules.specs.Types.{Store, Tx, ReadRecord}
use Rattle.rules.specs.Transaction.{last_own, writes_of, with_reads}
use Rattle.rules.specs.Calls.{same_read, record_read, read_ptr}
use Rattle.visibility.specs.Found.{read_ptr_of}
use Rattle.recording.specs.declared.laid.Laid.{Laid}
use Rattle.recording.specs.Laid.{laid, within, yes_within, no_within}

abbrev pub ReadList : Type 0
ReadList = Laid ReadRecord read_limit

-- a list of reads laid out; none where it is longer than a transaction has places for reads
abbrev pub reads_within : List ReadRecord → Option ReadList
reads_within l = within read_limit no_read l

-- the first of the reads, as many as a transaction has places for
abbrev pub first_reads : List ReadRecord → ReadList
first_reads l = laid read_limit no_read (take read_limit l)

-- all the reads, or, where they are more than there are places, the first of them
unfoldable pub reads_split : List ReadRecord → Result ReadList ReadList
reads_split l = cond (leb (length l) read_limit) (Ok (laid read_limit no_read l)) (Err (first_reads l))

-- the list, all of them or the first
abbrev pub held_reads : Result ReadList ReadList → ReadList
held_reads (Ok l) = l
held_reads (Err l) = l

-- without the first of too many it is `reads_within`
pub split_within : (l : List ReadRecord) → result_ok (reads_split l) ≡ reads_within l
unfolding reads_split within
split_within l = by (leb (length l) read_limit) (λ t. rw t) (λ t. rw t)

-- either way it holds the first of them
pub split_first : (m : List ReadRecord) → held_reads (reads_split m) ≡ first_reads m
unfolding reads_split
split_first m = by (leb (length m) read_limit)
    (λ t. rw (t, take_all read_limit m (leb-true (length m) read_limit t)))
    (λ t. rw t)

module _ (l : ReadList) (m : List ReadRecord) where
  pub all_split : l ≡ laid read_limit no_read m → length m ≤ read_limit → Ok l ≡ reads_split m
  unfolding reads_split
  all_split e h = rw (e, le-leb (length m) read_limit h)

  pub over_split : l ≡ first_reads m → read_limit < length m → Err l ≡ reads_split m
  unfolding reads_split
  over_split e h = rw (e, lt-leb (length m) read_limit h)

  -- and back
  pub yes_split : Ok l ≡ reads_split m → (l ≡ laid read_limit no_read m) × (length m ≤ read_limit)
  yes_split e = yes_within read_limit no_read m l (ap result_ok e ∙ split_within m)

  pub no_split : Err l ≡ reads_split m → (l ≡ first_reads m) × (read_limit < length m)
  no_split e = (ap held_reads e ∙ split_first m, no_within read_limit no_read m (ap result_ok e ∙ split_within m))

unfoldable pub record_read_of : List ℕ → List ℕ → List ℕ → Tx → ℕ → List ReadRecord → List ReadRecord
record_read_of heads next xmin x r l =
    let p = read_ptr_of heads next xmin x r in
    cond (not (eqb (last_own r (writes_of x)).new.0 0) || any (same_read r p) l)
    l
    (l ++ record { row = record { 0 = r }; ptr = record { 0 = p }; xmin = record { 0 = get_or xmin p 0 } } ∷ [])

-- it is the definition's on the whole store
pub record_read_law : (S : Store) (x : Tx) (r : ℕ) (l : List ReadRecord) → record_read S x r l ≡ record_read_of S.heads S.next S.xmin x r l
unfolding record_read record_read_of read_ptr read_ptr_of
record_read_law S x r l = refl

-- a transaction with its reads as a list has them
unfoldable pub reads_from : ReadList → Tx → Tx
reads_from l x = with_read_array l.at l.count x

pub reads_from_law : (l : ReadList) (m : List ReadRecord) (x : Tx) → Some l ≡ reads_within m → reads_from l x ≡ with_reads m x
unfolding reads_from laid
reads_from_law l m x holds = ap (λ (q : ReadList). with_read_array q.at q.count x) (yes_within read_limit no_read m l holds).0
