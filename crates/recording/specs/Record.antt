-- Recording a read, by what is found for its row.
use Rattle.std.specs.Prelude.{◌≡◌, true, false, not, cond, ◌||◌, List, [], ◌∷◌, ◌++◌, ℕ, ◌≤◌, length, take, get_or, eqb, leb}
use Rattle.std.specs.Prelude.{Result, Ok}
use Rattle.std.proofs.Common.{sym, ap, ◌∙◌, arith, length-append, take_all, leb-true, leb-false}
use Rattle.std.proofs.lemmas.List.{take-append-le, length-take-le}
use borrow.Author.Tests.{ne_eqb}
use Rattle.rules.specs.Lists.{any}
use Rattle.records.specs.Limits.{read_limit}
use Rattle.records.specs.Zero.{no_read}
use Rattle.basic_laws.specs.Cases.{by}
use Rattle.rules.specs.Types.{Tx, Write, ReadRecord}
use Rattle.rules.specs.Transaction.{last_own, writes_of}
use Rattle.rules.specs.Calls.{visible_version, same_read}
use Rattle.visibility.specs.Found.{read_ptr_of}
use Rattle.recording.specs.Laid.{laid, counted}
use Rattle.recording.specs.ReadList.{ReadList, first_reads, reads_split, held_reads, split_first, all_split, record_read_of}

-- own writes are not recorded
module _ (heads next xmin : List ℕ) (x : Tx) (r : ℕ) (m : List ReadRecord) (own : Write) (last : own ≡ last_own r (writes_of x)) where
  pub record_none : (own.new.0 ≡ 0 → ⊥) → record_read_of heads next xmin x r m ≡ m
  unfolding record_read_of
  record_none n = rw (← last, ne_eqb own.new.0 0 n)

  -- what is found else is, once: p of t
  module _ (p t : ℕ) (none : own.new.0 ≡ 0) (e : p ≡ visible_version heads next xmin x r) (d : t ≡ get_or xmin p 0) where
    once : record_read_of heads next xmin x r m
        ≡ cond (any (same_read r p) m) m (m ++ record { row = record { 0 = r }; ptr = record { 0 = p }; xmin = record { 0 = t } } ∷ [])
    unfolding record_read_of read_ptr_of
    once = rw (← last, none, ← e, d)

    pub record_before : any (same_read r p) m ≡ true → record_read_of heads next xmin x r m ≡ m
    record_before h = rw h at once

    pub record_new : any (same_read r p) m ≡ false
        → record_read_of heads next xmin x r m ≡ m ++ record { row = record { 0 = r }; ptr = record { 0 = p }; xmin = record { 0 = t } } ∷ []
    record_new h = rw h at once

-- no read is taken out
pub record_longer : (heads next xmin : List ℕ) (x : Tx) (r : ℕ) (m : List ReadRecord) → length m ≤ length (record_read_of heads next xmin x r m)
unfolding record_read_of
record_longer heads next xmin x r m =
    let p = read_ptr_of heads next xmin x r in
    let e : ReadRecord = record { row = record { 0 = r }; ptr = record { 0 = p }; xmin = record { 0 = get_or xmin p 0 } } in
    by (not (eqb (last_own r (writes_of x)).new.0 0) || any (same_read r p) m)
    (λ t. rw t (omega arith))
    (λ t. rw t (omega (arith, length-append m (e ∷ []))))

-- where every place is taken, the first reads stay
pub record_first : (heads next xmin : List ℕ) (x : Tx) (r : ℕ) (m : List ReadRecord) → read_limit ≤ length m
    → take read_limit (record_read_of heads next xmin x r m) ≡ take read_limit m
unfolding record_read_of
record_first heads next xmin x r m h =
    let p = read_ptr_of heads next xmin x r in
    let e : ReadRecord = record { row = record { 0 = r }; ptr = record { 0 = p }; xmin = record { 0 = get_or xmin p 0 } } in
    by (not (eqb (last_own r (writes_of x)).new.0 0) || any (same_read r p) m)
    (λ t. rw t)
    (λ t. rw t (take-append-le read_limit m (e ∷ []) h))

-- so what is held are the first reads of any list, if it is so of one that fits and nothing is pushed on a full one
pub record_held : (heads next xmin : List ℕ) (x : Tx) (r : ℕ) (l : ReadList) (o : Result ReadList ReadList)
    → ((m : List ReadRecord) → Ok l ≡ reads_split m → o ≡ reads_split (record_read_of heads next xmin x r m))
    → (l.count ≡ read_limit → held_reads o ≡ l)
    → (m : List ReadRecord) → l ≡ first_reads m → held_reads o ≡ first_reads (record_read_of heads next xmin x r m)
record_held heads next xmin x r l o whole kept m e = by (leb (length m) read_limit)
    (λ t.
    let h = leb-true (length m) read_limit t in
    let all : l ≡ laid read_limit no_read m = rw (take_all read_limit m h) at e in
    ap held_reads (whole m (all_split l m all h)) ∙ split_first (record_read_of heads next xmin x r m))
    (λ t.
    let h = leb-false (length m) read_limit t in
    let full : l.count ≡ read_limit = counted read_limit l no_read (take read_limit m) e ∙ length-take-le read_limit m (omega arith) in
    kept full ∙ e ∙ ap (laid read_limit no_read) (sym (record_first heads next xmin x r m (omega arith))))
