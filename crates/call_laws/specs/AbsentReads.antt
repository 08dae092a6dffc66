-- Document 02, wish 2: the read of an absent row is recorded with pointer 0 and xmin 0, once per row.
use Rattle.std.specs.Prelude.{◌≡◌, refl, Bool, true, false, not, cond, ◌||◌, List, [], ◌∷◌, ◌++◌, ℕ, eqb}
use Rattle.std.proofs.Common.{sym, ap, ◌∙◌, eq-eqb}
use Rattle.records.specs.Limits.{read_limit}
use Rattle.records.specs.Zero.{no_read}
use Rattle.rules.specs.Lists.{any}
use Rattle.rules.specs.Types.{Store, Tx, ReadRecord, Absent, Seen, Found}
use Rattle.rules.specs.Transaction.{writes_of, reads_of, last_own}
use Rattle.rules.specs.Numbers.{number_of}
use Rattle.rules.specs.Calls.{read_ptr, same_read, record_read, read, write, candidates, record_reads, lookup, row_lock}
use Rattle.basic_laws.specs.Cases.{by}
use Rattle.basic_laws.specs.AllOf.{any_append}
use Rattle.basic_laws.specs.LaidOut.{take_pad}
use Rattle.statements.specs.Sized.{Sized}
use Rattle.statements.specs.ReadWords.{its_reads, of_absent, read_of, absent, known_absent}
use Rattle.statements.specs.AbsentWords.{AbsentRow, RecordsAbsent, ReadsStay}
use Rattle.admitted_laws.specs.Resting.{Rests}
use Rattle.sentences.specs.FirstLine.{either}
use Rattle.sentences.specs.Refusals.{read_refused, read_accepted, write_refused, write_accepted, lookup_refused, lookup_accepted}
use Rattle.sentences.specs.Refusals.{row_lock_refused, row_lock_accepted}
use Rattle.call_laws.specs.Passed.{read_passed, lookup_passed}
use Rattle.call_laws.specs.ReadLaws.{reading_one}

-- the reads that an accepted read leaves, and a lookup
reads_left : (S : Store) (x : Tx) (r : ℕ) → number_of (read S x r).refusal ≡ 0 → its_reads (read S x r).tx ≡ record_read S x r (reads_of x)
reads_left S x r h =
    ap (λ (a : Seen). its_reads a.tx) (read_accepted S x r h) ∙ take_pad read_limit no_read (record_read S x r (reads_of x)) (read_passed S x r h).room

looks_left : (S : Store) (x : Tx) (k : ℕ) → number_of (lookup S x k).refusal ≡ 0
    → its_reads (lookup S x k).tx ≡ record_reads S x (candidates S x k) (reads_of x)
looks_left S x k h =
    let l = record_reads S x (candidates S x k) (reads_of x) in
    ap (λ (a : Found). its_reads a.tx) (lookup_accepted S x k h) ∙ take_pad read_limit no_read l (lookup_passed S x k h).room

module _ (S : Store) (x : Tx) (L : ℕ → List ℕ) (z : Sized S) (R : Rests S L) (r : ℕ) (h : number_of (read S x r).refusal ≡ 0)
    (A : AbsentRow S x r (L r)) where
  -- of an absent row
  pub records_absent : RecordsAbsent x r (read S x r).tx
  records_absent =
      let P = read_passed S x r h in
      let l = reads_of x in
      let new : any (of_absent r) l ≡ false → its_reads (read S x r).tx ≡ l ++ read_of r 0 0 ∷ [] = λ k. reads_left S x r h
      ∙ sym (reading_one S x L z R P.first.fits r l (l ++ read_of r 0 0 ∷ []) Absent P.row (absent A.unwritten A.unseen k refl)).1 in
      let old : any (of_absent r) l ≡ true → its_reads (read S x r).tx ≡ l = λ k. reads_left S x r h
      ∙ sym (reading_one S x L z R P.first.fits r l l Absent P.row (known_absent A.unwritten A.unseen k refl)).1 in
      record {
        first = new;
        again = old;
        recorded = by (any (of_absent r) l)
            (λ k. rw (old k) k)
            (λ k. rw (new k, any_append (of_absent r) l (read_of r 0 0 ∷ []), k, eq-eqb r r refl));
      }

-- "an absent row read twice is recorded once": the second read records nothing, in whatever store it is made
pub absent_twice : (S T : Store) (x : Tx) (L M : ℕ → List ℕ) → Sized S → Rests S L → Sized T → Rests T M → (r : ℕ)
    → let y = (read S x r).tx in
    number_of (read S x r).refusal ≡ 0 → AbsentRow S x r (L r) → number_of (read T y r).refusal ≡ 0 → AbsentRow T y r (M r)
    → its_reads (read T y r).tx ≡ its_reads y
absent_twice S T x L M z R w Q r h A k B =
    (records_absent T (read S x r).tx M w Q r k B).again (records_absent S x L z R r h A).recorded

-- WHAT IS RECORDED STAYS

-- a read puts one behind the others, or none
still_there : (f : ReadRecord → Bool) (S : Store) (x : Tx) (q : ℕ) (l : List ReadRecord) → any f l ≡ true → any f (record_read S x q l) ≡ true
unfolding record_read
still_there f S x q l h = go (not (eqb (last_own q (writes_of x)).new.0 0) || any (same_read q (read_ptr S x q)) l) _
  where
    go : (b : Bool) (e : ReadRecord) → any f (cond b l (l ++ e ∷ [])) ≡ true
    go true e = h
    go false e = rw (any_append f l (e ∷ []), h)

-- so do several
all_there : (f : ReadRecord → Bool) (S : Store) (x : Tx) (qs : List ℕ) (l : List ReadRecord) → any f l ≡ true → any f (record_reads S x qs l) ≡ true
all_there f S x [] l h = h
all_there f S x (q ∷ qs) l h = all_there f S x qs (record_read S x q l) (still_there f S x q l h)

pub reads_stay : ReadsStay
reads_stay S x r h = record {
  reads = λ q. either (number_of (read S x q).refusal)
      (λ e. rw (reads_left S x q e) (still_there (of_absent r) S x q (reads_of x) h)) (λ n. rw (read_refused S x q n) h);
  writes = λ q v. either (number_of (write S x q v).refusal) (λ e. rw (write_accepted S x q v e) h) (λ n. rw (write_refused S x q v n) h);
  looks = λ k. either (number_of (lookup S x k).refusal)
      (λ e. rw (looks_left S x k e) (all_there (of_absent r) S x (candidates S x k) (reads_of x) h)) (λ n. rw (lookup_refused S x k n) h);
  locks = λ q. either (number_of (row_lock S x q).refusal) (λ e. rw (row_lock_accepted S x q e) h) (λ n. rw (row_lock_refused S x q n) h);
}
