-- What Lookup finds by the postings of a key: exactly the rows whose head has it.
use Rattle.std.specs.Prelude.{◌≡◌, refl, ◌&&◌, ◌||◌, List, [], ◌∷◌, ◌++◌, map, ℕ, ◌<◌, length, get_or, eqb}
use Rattle.std.proofs.Common.{sym, ◌∙◌, arith, eqb-true, eq-eqb, lt-ltb}
use Rattle.records.specs.Limits.{rows}
use Rattle.rules.specs.Types.{Store, Tx}
use Rattle.basic_laws.specs.Cases.{by, iff, and_true, and_both}
use Rattle.rules.specs.Lists.{memb, those}
use Rattle.rules.specs.Store.{posting, key_of, row_of, carries, postings_of}
use Rattle.rules.specs.Transaction.{writes_of}
use Rattle.rules.specs.Calls.{candidates}
use Rattle.basic_laws.specs.Rising.{mem_in_order}
use Rattle.posting_laws.specs.Pair.{key_of_posting, row_of_posting, posting_of}
use Rattle.posting_laws.specs.RestingPostings.{Exact}
use Rattle.posting_laws.specs.HeadsTold.{head_member}
use Rattle.posting_laws.specs.Posted.{mem_append}
use Rattle.posting_laws.specs.Written.{rows_of}

-- a posting is its key and its row
told_apart : (k r c : ℕ) → r < rows → eqb (posting k r) c ≡ (eqb (key_of c) k && eqb r (row_of c))
told_apart k r c lt = iff (eqb (posting k r) c) (eqb (key_of c) k && eqb r (row_of c))
    (λ e. let q = eqb-true (posting k r) c e in
    and_both (eqb (key_of c) k) (eqb r (row_of c)) (eq-eqb (key_of c) k (rw (sym q) (key_of_posting k r lt)))
    (eq-eqb r (row_of c) (rw (sym q) (sym (row_of_posting k r lt)))))
    (λ e. let a = and_true (eqb (key_of c) k) (eqb r (row_of c)) e in
    eq-eqb (posting k r) c (rw (sym (eqb-true (key_of c) k a.0), eqb-true r (row_of c) a.1) (posting_of c)))

-- the rows of the postings of a key
rows_of_key : (k r : ℕ) (l : List ℕ) → r < rows → memb r (map row_of (those (λ c. eqb (key_of c) k) l)) ≡ memb (posting k r) l
rows_of_key k r [] lt = refl
rows_of_key k r (c ∷ l) lt =
    rw (told_apart k r c lt)
    (by (eqb (key_of c) k) (λ e. rw (e, rows_of_key k r l lt)) (λ e. rw (e, rows_of_key k r l lt)))

-- "rows from postings of the key and own writes"
pub candidate_tells : (S : Store) (x : Tx) (k r : ℕ) → r < rows
    → memb r (candidates S x k) ≡ (memb (posting k r) (postings_of S) || memb r (rows_of (writes_of x)))
unfolding candidates
candidate_tells S x k r lt =
    let found = map row_of (those (λ c. eqb (key_of c) k) (postings_of S)) in
    mem_in_order (found ++ rows_of (writes_of x)) r ∙ mem_append found (rows_of (writes_of x)) r ∙ rw (rows_of_key k r (postings_of S) lt)

-- .. on a store whose postings are exactly the heads'
pub candidate_rows_law : (S : Store) (x : Tx) (k r : ℕ) → length S.heads ≡ rows → Exact S → r < rows
    → memb r (candidates S x k) ≡ (carries S.key S.has (get_or S.heads r 0) k || memb r (rows_of (writes_of x)))
candidate_rows_law S x k r heads exact lt =
    candidate_tells S x k r lt
    ∙ rw (exact, head_member S.key S.has S.heads (omega (arith, heads)) k r lt, lt-ltb r (length S.heads) (omega (arith, heads)))
