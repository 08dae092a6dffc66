-- "records candidates as Read does": the reads of a lookup are those of reading its candidates one after the other.
use Rattle.std.specs.Prelude.{◌≡◌, refl, Bool, true, false, not, cond, ◌&&◌, ◌||◌, List, [], ◌∷◌, ◌++◌, ℕ, ◌≤◌, ◌<◌, length, get_or, eqb}
use Rattle.std.proofs.Common.{ap, ◌∙◌, arith, length-append, length-take-le, eqb-true, le-ltb, leb-true}
use Rattle.std.proofs.lemmas.Bool.{lt-leb}
use Rattle.records.specs.Limits.{rows, read_limit}
use Rattle.records.specs.Zero.{no_read}
use Rattle.rules.specs.Lists.{any, memb}
use Rattle.rules.specs.Types.{Store, Tx, ReadRecord, Seen}
use Rattle.rules.specs.Transaction.{writes_of, reads_of, sees, last_own, with_reads}
use Rattle.rules.specs.Fit.{fit}
use Rattle.rules.specs.Numbers.{number_of}
use Rattle.rules.specs.Calls.{visible_version, read_ptr, same_read, record_read, record_reads, read}
use Rattle.basic_laws.specs.Cases.{and_true, mem_here, mem_there}
use Rattle.statements.specs.Sized.{Sized}
use Rattle.basic_laws.specs.TestParts.{fit_parts}
use Rattle.basic_laws.specs.LaidOut.{take_pad, pad_take}
use Rattle.sentences.specs.FirstLine.{applies_none}
use Rattle.statements.specs.OtherNumbers.{read_lines}
use Rattle.statements.specs.ReadWords.{read_all, AllRead}
use Rattle.sentences.specs.Refusals.{read_told, read_accepted}
use Rattle.call_laws.specs.Passed.{Admitted}
use Rattle.call_laws.specs.Counts.{SizedTx, blank_read, counts_parts}
use Rattle.call_laws.specs.Keeps.{Keeps}
use Rattle.call_laws.specs.KeepsReads.{read_keeps}

-- a read leaves at least the reads there are
longer : (S : Store) (x : Tx) (r : ℕ) (l : List ReadRecord) → length l ≤ length (record_read S x r l)
unfolding record_read
longer S x r l =
    go (not (eqb (last_own r (writes_of x)).new.0 0) || any (same_read r (read_ptr S x r)) l)
    (record { row = record { 0 = r }; ptr = record { 0 = read_ptr S x r }; xmin = record { 0 = get_or S.xmin (read_ptr S x r) 0 } })
  where
    go : (b : Bool) (e : ReadRecord) → length l ≤ length (cond b l (l ++ e ∷ []))
    go true e = omega arith
    go false e = omega (arith, length-append l (e ∷ []))

-- (one after the other)
longer_all : (S : Store) (x : Tx) (rs : List ℕ) (l : List ReadRecord) → length l ≤ length (record_reads S x rs l)
longer_all S x [] l = omega arith
longer_all S x (r ∷ rs) l = omega (arith, longer S x r l, longer_all S x rs (record_read S x r l))

-- what is recorded doesn't hang on the reads that the transaction has
same_reads : (S : Store) (x : Tx) (m : List ReadRecord) (rs : List ℕ) (l : List ReadRecord) → record_reads S (with_reads m x) rs l ≡ record_reads S x rs l
unfolding record_read read_ptr visible_version sees
same_reads S x m [] l = refl
same_reads S x m (r ∷ rs) l = same_reads S x m rs (record_read S x r l)

-- a fit transaction's array of reads is its reads laid out
blank_read_law : (e : ReadRecord) → blank_read e ≡ true → e ≡ no_read
blank_read_law e h =
    let a = and_true (eqb e.row.0 0) (eqb e.ptr.0 0 && eqb e.xmin.0 0) h in
    let b = and_true (eqb e.ptr.0 0) (eqb e.xmin.0 0) a.1 in
    let p = eqb-true e.row.0 0 a.0 in
    let q = eqb-true e.ptr.0 0 b.0 in
    let s = eqb-true e.xmin.0 0 b.1 in
    λ i. record { row = record { 0 = p i }; ptr = record { 0 = q i }; xmin = record { 0 = s i } }

-- so it is itself with its reads laid out
as_laid_out : (S : Store) (x : Tx) → SizedTx x → fit S x ≡ true → x ≡ with_reads (reads_of x) x
as_laid_out S x y f =
    let K = counts_parts x (fit_parts S x f).counts in
    let a = pad_take no_read blank_read blank_read_law read_limit x.read_count x.reads y.reads K.no_reads in
    let n = length-take-le x.read_count x.reads (omega (arith, y.reads, leb-true x.read_count read_limit K.reads)) in
    rw (a, n)

-- reads that fit in all are accepted each, and leave what lookup records
module _ (S : Store) (z : Sized S) (healthy : S.poisoned ≡ false) where
  pub one_by_one : (x : Tx) (rs : List ℕ) → SizedTx x → Admitted S x → ((r : ℕ) → memb r rs ≡ true → r < rows)
      → length (record_reads S x rs (reads_of x)) ≤ read_limit
      → AllRead S x rs × (read_all S x rs ≡ with_reads (record_reads S x rs (reads_of x)) x) × Keeps S (read_all S x rs)
  one_by_one x [] y k b le = (tt, as_laid_out S x y k.fits, record { sized = z; shaped = y; rests = k.rests; fits = k.fits; active = k.active })
  one_by_one x (r ∷ rs) y k b le =
      let l = record_read S x r (reads_of x) in
      let short : length l ≤ read_limit = omega (arith, longer_all S x rs l) in
      let h : number_of (read S x r).refusal ≡ 0 = applies_none (read S x r).refusal (read_lines S x r) (read_told S x r)
      (rw k.rests, (rw k.fits, (rw k.active, (healthy, (lt-leb rows r (b r (mem_here r rs)), (le-ltb read_limit (length l) short, tt)))))) in
      let K = read_keeps S x r z y h in
      let w = (read S x r).tx in
      let q : w ≡ with_reads l x = ap (λ (s : Seen). s.tx) (read_accepted S x r h) in
      let same : record_reads S w rs (reads_of w) ≡ record_reads S x rs l = rw (q, take_pad read_limit no_read l short) (same_reads S x l rs l) in
      let i = one_by_one w rs K.shaped (record { rests = K.rests; fits = K.fits; active = K.active }) (λ s m. b s (mem_there s r rs m)) (rw same le) in
      ((h, i.0), i.1 ∙ rw (same, q), i.2)
