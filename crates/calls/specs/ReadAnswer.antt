-- Read: why it refuses, and its answer.
use Rattle.std.specs.Prelude.{◌≡◌, Bool, true, false, not, cond, List, [], ◌∷◌, ℕ, length, ltb, leb, Option, Some, None, is_some, is_none}
use Rattle.std.proofs.Math.Path.{refl}
use Rattle.std.proofs.Common.{sym, ap, ◌∙◌}
use Rattle.records.specs.Limits.{rows, read_limit}
use Rattle.records.specs.Zero.{no_read}
use Rattle.basic_laws.specs.Cases.{clash}
use Rattle.rules.specs.Types.{Store, Tx, Value, Absent, Seen, ReadRecord, Refusal, Done, RowTooHigh, ReadsFull, Open}
use Rattle.rules.specs.Store.{value_at}
use Rattle.rules.specs.Transaction.{reads_of, with_reads}
use Rattle.rules.specs.Numbers.{Try, refuse, tries, is_done}
use Rattle.rules.specs.Calls.{admits_healthy, record_read, read_ptr, read}
use Rattle.statements.specs.Sized.{Sized}
use Rattle.fields.specs.Lent.{at_rows, at_places, flags_at_places}
use Rattle.visibility.specs.Found.{read_ptr_of, read_ptr_law}
use Rattle.recording.specs.Laid.{within_none}
use Rattle.recording.specs.ReadList.{ReadList, reads_within, record_read_of, record_read_law, reads_from, reads_from_law}
use Rattle.admit.specs.Admission.{admitted}
use Rattle.calls.specs.Refused.{unless, poisoned_tries, found_healthy, both_done, choose, choose_done, choose_refused}
use Rattle.calls.specs.LentWhole.{heads_whole, next_whole, xmin_whole, key_whole, has_whole}

abbrev pub read_tests : ℕ → Bool → List Try
read_tests r over = refuse (leb rows r) (RowTooHigh Open) ∷ refuse over (ReadsFull Open) ∷ []

unfoldable pub read_tries : ℕ → Bool → Refusal
read_tries r over = tries (read_tests r over)

-- as `is_none` answers it
none_by : (o : Option ReadList) (over : Bool) → is_some o ≡ not over → is_none o ≡ over
none_by None true e = refl
none_by None false e = absurd (cc)
none_by (Some l) true e = absurd (cc)
none_by (Some l) false e = refl

read_tries_law : (r : ℕ) (o : Option ReadList) (m : List ReadRecord) → o ≡ reads_within m
    → read_tries r (is_none o) ≡ tries (read_tests r (ltb read_limit (length m)))
unfolding read_tries
read_tries_law r o m e = rw (e, within_none read_limit no_read m)

-- where nothing is refused, the reads fit
reads_fit : (r : ℕ) (over : Bool) → is_done (read_tries r over) ≡ true → over ≡ false
unfolding read_tries
reads_fit r over d = go (leb rows r) over d
  where
    go : (a b : Bool) → is_done (cond a (RowTooHigh Open) (cond b (ReadsFull Open) Done)) ≡ true → b ≡ false
    go true b h = clash h refl
    go false true h = clash h refl
    go false false h = refl

module _ (S : Store) (x : Tx) (r : ℕ) where
  abbrev reads_after : List ReadRecord
  reads_after = record_read S x r (reads_of x)

  abbrev read_why : Refusal
  read_why = admits_healthy S x (read_tests r (ltb read_limit (length reads_after)))

  abbrev done : Refusal → Seen
  done w = record { refusal = w; value = value_at S.key S.has (read_ptr S x r); tx = with_reads reads_after x }

  abbrev refused : Refusal → Seen
  refused w = record { refusal = w; value = Absent; tx = x }

  answer : choose done refused read_why ≡ read S x r
  unfolding read choose
  answer = refl

  -- as code finds it
  module _ (z : Sized S) (over : Bool) {o : Option ReadList} {tried first why : Refusal}
      (h : o ≡ reads_within (record_read_of (at_rows S.heads) (at_places S.next) (at_places S.xmin) x r (reads_of x)))
      (a : tried ≡ admitted S x true)
      (e : first ≡ unless tried (poisoned_tries S.poisoned))
      (n : is_some o ≡ not over)
      (f : why ≡ unless first (read_tries r over)) where
    over_is : over ≡ is_none o
    over_is = sym (none_by o over n)

    list_is : o ≡ reads_within reads_after
    list_is = (rw (heads_whole S z, next_whole S z, xmin_whole S z) at h) ∙ ap reads_within (sym (record_read_law S x r (reads_of x)))

    why_is : why ≡ read_why
    why_is =
        found_healthy S x (read_tests r (ltb read_limit (length reads_after))) tried first why (read_tries r over) a e f
        (λ _. rw over_is (read_tries_law r o reads_after list_is))

    pub read_refused : is_done why ≡ false → record { refusal = why; value = Absent; tx = x } ≡ read S x r
    read_refused d = choose_refused done refused why _ why_is d ∙ answer

    -- so there is a list of reads where nothing is refused
    pub read_never : is_done why ≡ true → o ≡ None → ⊥
    read_never d none = clash (over_is ∙ rw none) (reads_fit r over (both_done why first (read_tries r over) f d).1)

    pub read_done : {l : ReadList} {p : ℕ} {v : Value} {y : Tx} → o ≡ Some l → is_done why ≡ true
        → p ≡ read_ptr_of (at_rows S.heads) (at_places S.next) (at_places S.xmin) x r
        → v ≡ value_at (at_places S.key) (flags_at_places S.has) p
        → y ≡ reads_from l x
        → record { refusal = why; value = v; tx = y } ≡ read S x r
    read_done {l} {p} {v} {y} some d q u w =
        let ptr_is : p ≡ read_ptr S x r = (rw (heads_whole S z, next_whole S z, xmin_whole S z) at q) ∙ sym (read_ptr_law S x r) in
        let value_is : v ≡ value_at S.key S.has (read_ptr S x r) = (rw (key_whole S z, has_whole S z) at u) ∙ ap (value_at S.key S.has) ptr_is in
        let tx_is : y ≡ with_reads reads_after x =
        w ∙ reads_from_law l reads_after x (sym some ∙ list_is) in
        (λ i. record { refusal = why; value = value_is i; tx = tx_is i })
        ∙ choose_done done refused why _ why_is d
        ∙ answer
