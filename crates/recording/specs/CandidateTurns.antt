-- The candidates of a lookup, from the fields of the store that it reads, one posting and one own write at a time.
use Rattle.std.specs.Prelude.{◌≡◌, refl, Bool, true, List, [], ◌∷◌, ◌++◌, map, ℕ, ◌*◌, ◌-◌, ◌≤◌, min, length, take, drop, set, ltb}
use Rattle.std.proofs.Common.{sym, ap, ◌∙◌, add-zero, arith, eq-eqb, ne_eqb, lt-ltb}
use Rattle.std.proofs.Math.Seq.{set_out}
use Rattle.records.specs.Limits.{rows, posting_limit}
use Rattle.rules.specs.Lists.{all, rising, in_order}
use Rattle.basic_laws.specs.Cases.{and_true, every_cons}
use Rattle.rules.specs.Types.{Store, Tx, Write}
use Rattle.rules.specs.Store.{key_of, row_of, postings_of}
use Rattle.rules.specs.Transaction.{writes_of}
use Rattle.rules.specs.Chains.{walk}
use Rattle.rules.specs.Fit.{fit, write_fit}
use Rattle.rules.specs.Calls.{candidates}
use Rattle.basic_laws.specs.AllOf.{all_append}
use Rattle.fields.specs.Lent.{at_postings, array_same}
use Rattle.std.proofs.lemmas.Slice.{between_is}
use Rattle.fields.specs.Marks.{mark_all, mark_append}
use Rattle.packed.specs.Packed.{take_within}
use Rattle.packed.specs.Halving.{place_found}
use Rattle.recording.specs.MarkedRows.{no_rows, marked_rows, rows_in_order}
use Rattle.recording.specs.KeyWalk.{of_key, leading, key_walk}
use Rattle.recording.specs.KeyWalkLaws.{walk_rising}

-- the rows of the postings in front that are of key k
abbrev pub rows_in_front : ℕ → List ℕ → List ℕ
rows_in_front k l = map row_of (leading (of_key k) l)

-- the rows of the walk along key k
abbrev pub posted_rows : List ℕ → ℕ → ℕ → List ℕ
posted_rows postings count k = map row_of (key_walk k (take count postings))

abbrev pub own_rows : List Write → List ℕ
own_rows l = map (λ w. w.row.0) l

abbrev pub candidate_rows : List ℕ → ℕ → Tx → ℕ → List ℕ
candidate_rows postings count x k = posted_rows postings count k ++ own_rows (writes_of x)

-- marked by row; shut, so that a goal shows its name
unfoldable pub candidate_marks : List ℕ → ℕ → Tx → ℕ → List Bool
candidate_marks postings count x k = mark_all (candidate_rows postings count x k) no_rows

-- in order they are the definition's on the whole store, where the postings rise
pub candidates_of : (S : Store) (x : Tx) (k : ℕ) → rising 0 (postings_of S) ≡ true
    → candidates S x k ≡ in_order (candidate_rows S.postings S.posting_count x k)
unfolding candidates postings_of
candidates_of S x k r = rw (walk_rising k 0 (take S.posting_count S.postings) r)

-- the walk starts at the place of the key, found among the first n
pub walk_starts : (postings : List ℕ) (count n k i : ℕ) → length postings ≡ posting_limit → n ≡ min count posting_limit
    → i ≡ (place_found (k * rows) (take n postings)).at
    → rows_in_front k (take (n - i) (drop i postings)) ≡ posted_rows (at_postings postings) count k
unfolding key_walk
walk_starts postings count n k i long e f =
    rw (between_is postings i n, f, take_within count n postings (omega arith), add-zero (k * rows), array_same posting_limit 0 postings long)

-- one posting more: marked if it is of the key, and else the end
module _ (k c : ℕ) (l rest : List ℕ) (m : List Bool) (next : l ≡ c ∷ rest) where
  pub posting_of : key_of c ≡ k → mark_all (rows_in_front k l) m ≡ mark_all (rows_in_front k rest) (set m (row_of c) true)
  posting_of e = rw (next, eq-eqb (key_of c) k e)

  pub posting_not : (key_of c ≡ k → ⊥) → mark_all (rows_in_front k l) m ≡ m
  posting_not n = rw (next, ne_eqb (key_of c) k n)

-- one own write more: marked if its row has a place
module _ (w : Write) (l rest : List Write) (m : List Bool) (next : l ≡ w ∷ rest) where
  pub own_row : mark_all (own_rows l) m ≡ mark_all (own_rows rest) (set m w.row.0 true)
  own_row = rw next

  pub own_high : length m ≤ w.row.0 → mark_all (own_rows l) m ≡ mark_all (own_rows rest) m
  own_high h = own_row ∙ ap (mark_all (own_rows rest)) (set_out m w.row.0 true h)

-- marked in two goes
pub candidate_marks_law : (postings : List ℕ) (count : ℕ) (x : Tx) (k : ℕ) (m q : List Bool)
    → m ≡ mark_all (posted_rows postings count k) no_rows → q ≡ mark_all (own_rows (writes_of x)) m → q ≡ candidate_marks postings count x k
unfolding candidate_marks
candidate_marks_law postings count x k m q e f = f ∙ rw e (sym (mark_append (posted_rows postings count k) (own_rows (writes_of x)) no_rows))

-- a row that a posting names has a place
posted_low : (l : List ℕ) → all (λ r. ltb r rows) (map row_of l) ≡ true
posted_low [] = refl
posted_low (c ∷ l) = rw (lt-ltb (row_of c) rows (omega arith)) (posted_low l)

-- where the postings rise and every own row has a place, the marks read rising are the definition's candidates
pub candidates_marked : (S : Store) (x : Tx) (k : ℕ) → rising 0 (postings_of S) ≡ true → all (λ r. ltb r rows) (own_rows (writes_of x)) ≡ true
    → marked_rows (candidate_marks S.postings S.posting_count x k) ≡ candidates S x k
unfolding candidate_marks
candidates_marked S x k r h =
    let l = posted_rows S.postings S.posting_count k in
    rows_in_order (l ++ own_rows (writes_of x))
    (all_append (λ r. ltb r rows) l (own_rows (writes_of x)) (posted_low (key_walk k (take S.posting_count S.postings))) h)
    ∙ sym (candidates_of S x k r)

-- in a fit transaction it has
pub fit_rows : (S : Store) (x : Tx) → fit S x ≡ true → all (λ r. ltb r rows) (own_rows (writes_of x)) ≡ true
unfolding fit
fit_rows S x h = each (writes_of x) (every_cons _ _ (every_cons _ _ (every_cons _ _ h).1).1).0
  where
    each : (l : List Write) → all (write_fit S.xmin S.next (walk S.heads S.next).seen x.txid.0) l ≡ true
        → all (λ r. ltb r rows) (own_rows l) ≡ true
    each [] e = refl
    each (w ∷ l) e = let b = and_true _ _ e in rw (every_cons _ _ b.0).0 (each l b.1)
