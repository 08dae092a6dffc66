-- Lookup: why it refuses, and its answer.
use Rattle.std.specs.Prelude.{◌≡◌, Bool, true, false, List, [], ◌∷◌, map, ℕ, length, get_or, replicate, ltb, Option, Some, None, is_none}
use Rattle.std.proofs.Math.Path.{refl, ap}
use Rattle.std.proofs.Common.{sym, ◌∙◌}
use Rattle.std.proofs.lemmas.List.{length-map, length-replicate}
use Rattle.records.specs.Limits.{rows, read_limit}
use Rattle.records.specs.Zero.{no_read}
use Rattle.basic_laws.specs.Cases.{by}
use Rattle.rules.specs.Lists.{pad}
use Rattle.rules.specs.Types.{Store, Tx, Found, ReadRecord, Key, Refusal, Done, ReadsFull, ImpossibleMinute, Open}
use Rattle.rules.specs.Store.{impossible, stripe_of}
use Rattle.rules.specs.Transaction.{reads_of, index_reads_of, with_reads, with_index_reads}
use Rattle.rules.specs.Admitted.{resting}
use Rattle.rules.specs.Fit.{fit}
use Rattle.rules.specs.Numbers.{Try, refuse, tries, is_done}
use Rattle.rules.specs.Calls.{admits_healthy, record_reads, record_stamp, candidates, matching, as_row, lookup}
use Rattle.statements.specs.Sized.{Sized}
use Rattle.basic_laws.specs.TestParts.{postings_parts, resting_parts}
use Rattle.fields.specs.Lent.{at_rows, at_places, flags_at_places, flags_at_rows, at_postings, at_stripes, array_same}
use Rattle.fields.specs.Marks.{mark_length}
use Rattle.recording.specs.MarkedRows.{marked_rows, no_rows}
use Rattle.recording.specs.CandidateTurns.{candidate_marks, candidate_rows, candidates_marked, fit_rows}
use Rattle.recording.specs.Laid.{laid, within_none}
use Rattle.recording.specs.ReadList.{ReadList, reads_within, reads_from, reads_from_law}
use Rattle.recording.specs.LookupTurns.{record_reads_of, record_reads_law, matching_of, matching_of_law}
use Rattle.recording.specs.FoundRows.{RowList, row_list}
use Rattle.recording.specs.StampList.{IndexReadList, index_read_list, index_conflict, index_reads_from, index_reads_from_law}
use Rattle.admit.specs.Admission.{admitted, admitted_call}
use Rattle.calls.specs.Refused.{unless, poisoned_tries, unless_kept, unless_more, found_healthy}
use Rattle.calls.specs.Refused.{both_done, admitted_both, choose, choose_done, choose_refused}
use Rattle.calls.specs.LentWhole.{heads_whole, next_whole, xmin_whole, key_whole, has_whole, postings_whole, stamps_whole}

abbrev pub lookup_tests : ℕ → Bool → List Try
lookup_tests k over = refuse (impossible (Key k)) (ImpossibleMinute Open) ∷ refuse over (ReadsFull Open) ∷ []

-- number 31, before the postings are searched
unfoldable pub minute_tries : ℕ → Refusal
minute_tries k = tries (refuse (impossible (Key k)) (ImpossibleMinute Open) ∷ [])

-- and 24 after it
minute_first : (first : Refusal) (k : ℕ) (over : Bool)
    → unless first (tries (lookup_tests k over)) ≡ unless (unless first (minute_tries k)) (tries (refuse over (ReadsFull Open) ∷ []))
unfolding unless minute_tries
minute_first first k over = by (is_done first)
    (λ y. rw y (by (impossible (Key k)) (λ e. rw e) (λ e. rw e)))
    (λ n. rw (n, n))

-- refused: nothing is found, and nothing recorded
unfoldable pub none_found : Tx → Refusal → Found
none_found x w = record { refusal = w; rows = replicate rows (as_row 0); count = 0; tx = x }

-- the transaction afterwards, from the stamps of the store
unfoldable pub looked : List ℕ → Tx → List ReadRecord → ℕ → Tx
looked stamps x reads k =
    let t = get_or stamps (stripe_of k) 0 in
    with_index_reads (record_stamp (stripe_of k) t (index_reads_of x)) (index_conflict x t) (with_reads reads x)

-- as code makes it: the stamp, the index reads with it, the conflict, the reads
pub looked_is : {t : ℕ} {b : Bool} {q : IndexReadList} {l : ReadList} {w y : Tx} (stamps : List ℕ) (x : Tx) (k : ℕ)
    → t ≡ get_or stamps (stripe_of k) 0
    → q ≡ index_read_list (record_stamp (stripe_of k) t (index_reads_of x))
    → b ≡ index_conflict x t
    → w ≡ reads_from l x
    → y ≡ index_reads_from q b w
    → (m : List ReadRecord) → Some l ≡ reads_within m → y ≡ looked stamps x m k
unfolding looked
looked_is {t} {b} {q} {l} {w} {y} stamps x k e f g r i m h =
    i ∙ index_reads_from_law q (record_stamp (stripe_of k) t (index_reads_of x)) b w f ∙ rw (g, r ∙ reads_from_law l m x h, e)

-- the marked rows of a fit transaction are the candidates
marks_long : (postings : List ℕ) (count : ℕ) (x : Tx) (k : ℕ) → length (candidate_marks postings count x k) ≡ rows
unfolding candidate_marks no_rows
marks_long postings count x k = mark_length (candidate_rows postings count x k) no_rows ∙ length-replicate rows false

rows_marked : (S : Store) (x : Tx) (k : ℕ) (marks : List Bool) → Sized S → resting S ≡ true → fit S x ≡ true
    → marks ≡ candidate_marks (at_postings S.postings) S.posting_count x k
    → marked_rows (flags_at_rows marks) ≡ candidates S x k
rows_marked S x k marks z rests ok e =
    let rise = (postings_parts S (resting_parts S rests).posted).rise in
    let whole : marks ≡ candidate_marks S.postings S.posting_count x k = rw (postings_whole S z) at e in
    rw (whole, array_same rows false (candidate_marks S.postings S.posting_count x k) (marks_long S.postings S.posting_count x k))
    (candidates_marked S x k rise (fit_rows S x ok))

-- a row list is its rows and their number
row_list_law : (q : RowList) (l : List ℕ) → q ≡ row_list l → (q.at ≡ pad rows (as_row 0) (map as_row l)) × (q.count ≡ length l)
unfolding row_list laid
row_list_law q l e = (ap (λ (p : RowList). p.at) e, ap (λ (p : RowList). p.count) e ∙ length-map l as_row)

module _ (S : Store) (x : Tx) (k : ℕ) where
  abbrev reads_after : List ReadRecord
  reads_after = record_reads S x (candidates S x k) (reads_of x)

  abbrev lookup_why : Refusal
  lookup_why = admits_healthy S x (lookup_tests k (ltb read_limit (length reads_after)))

  abbrev done : Refusal → Found
  done w =
      record { refusal = w; rows = pad rows (as_row 0) (map as_row (matching S x k)); count = length (matching S x k); tx = looked S.stamps x reads_after k }

  answer : choose done (none_found x) lookup_why ≡ lookup S x k
  unfolding lookup choose looked index_conflict none_found
  answer = refl

  -- as code finds it: 1, 2, 3, 9 and 31
  module _ (z : Sized S) {tried first early : Refusal}
      (a : tried ≡ admitted S x true)
      (e : first ≡ unless tried (poisoned_tries S.poisoned))
      (f : early ≡ unless first (minute_tries k)) where
    why_is : unless early (tries (refuse (ltb read_limit (length reads_after)) (ReadsFull Open) ∷ [])) ≡ lookup_why
    why_is =
        let over = ltb read_limit (length reads_after) in
        rw f (sym (minute_first first k over) ∙ found_healthy S x (lookup_tests k over) tried first _ (tries (lookup_tests k over)) a e refl (λ _. refl))

    pub lookup_refused : is_done early ≡ false → none_found x early ≡ lookup S x k
    lookup_refused d = choose_refused done (none_found x) early _ (unless_kept early _ d ∙ why_is) d ∙ answer

    -- nothing is refused so far: the store rests and the transaction is fit, so the marks and the list are the definition's
    module _ (d : is_done early ≡ true) {marks : List Bool} {o : Option ReadList}
        (c : marks ≡ candidate_marks (at_postings S.postings) S.posting_count x k)
        (h : o ≡ reads_within (record_reads_of (at_rows S.heads) (at_places S.next) (at_places S.xmin) x (marked_rows (flags_at_rows marks))
        (reads_of x))) where
      both : (resting S ≡ true) × (fit S x ≡ true)
      both =
          let b = both_done first tried (poisoned_tries S.poisoned) e (both_done early first (minute_tries k) f d).0 in
          admitted_both S x [] (sym (ap is_done (a ∙ admitted_call S x)) ∙ b.0)

      marked : marked_rows (flags_at_rows marks) ≡ candidates S x k
      marked = rows_marked S x k marks z both.0 both.1 c

      list_is : o ≡ reads_within reads_after
      list_is =
          (rw (heads_whole S z, next_whole S z, xmin_whole S z, marked) at h)
          ∙ ap reads_within (sym (record_reads_law S x (candidates S x k) (reads_of x)))

      over_is : is_none o ≡ ltb read_limit (length reads_after)
      over_is = rw list_is (within_none read_limit no_read reads_after)

      then : {why : Refusal} → why ≡ tries (refuse (is_none o) (ReadsFull Open) ∷ []) → why ≡ lookup_why
      then q = unless_more early _ _ d (rw over_is at q) ∙ why_is

      pub lookup_full : o ≡ None → none_found x (ReadsFull Open) ≡ lookup S x k
      lookup_full none = choose_refused done (none_found x) (ReadsFull Open) _ (then (rw none)) refl ∙ answer

      pub lookup_done : {l : ReadList} {q : RowList} {y : Tx} → o ≡ Some l
          → q ≡ row_list (matching_of (at_rows S.heads) (at_places S.next) (at_places S.xmin) (at_places S.key) (flags_at_places S.has) x k
          (marked_rows (flags_at_rows marks)))
          → ((m : List ReadRecord) → Some l ≡ reads_within m → y ≡ looked (at_stripes S.stamps) x m k)
          → record { refusal = Done; rows = q.at; count = q.count; tx = y } ≡ lookup S x k
      lookup_done {l} {q} {y} some u w =
          let found : q ≡ row_list (matching S x k) =
          (rw (heads_whole S z, next_whole S z, xmin_whole S z, key_whole S z, has_whole S z, marked) at u)
          ∙ ap row_list (sym (matching_of_law S x k)) in
          let parts = row_list_law q (matching S x k) found in
          let tx_is : y ≡ looked S.stamps x reads_after k = rw (stamps_whole S z) at (w reads_after (sym some ∙ list_is)) in
          (λ i. record { refusal = Done; rows = parts.0 i; count = parts.1 i; tx = tx_is i })
          ∙ choose_done done (none_found x) Done _ (then (rw some)) refl
          ∙ answer
