-- Write: why it refuses, and its answer.
use Rattle.std.specs.Prelude.{◌≡◌, Bool, true, false, List, [], ◌∷◌, ◌++◌, ℕ, ◌≤◌, length, eqb, leb}
use Rattle.std.proofs.Math.Path.{refl}
use Rattle.std.proofs.Common.{sym, ap, ◌∙◌, arith}
use Rattle.records.specs.Limits.{rows, write_limit}
use Rattle.records.specs.Relations.{call_puts}
use Rattle.rules.specs.Types.{Store, Tx, Value, Absent, Key, Written, Refusal, RowTooHigh, WritesFull, ImpossibleMinute, SlotsFull, Open}
use Rattle.rules.specs.Store.{impossible}
use Rattle.rules.specs.Transaction.{writes_of, with_writes}
use Rattle.rules.specs.Numbers.{Try, refuse, tries, is_done}
use Rattle.rules.specs.Puts.{take_slot, apply_all}
use Rattle.rules.specs.Calls.{admits_healthy, lowest_free, base_of, write}
use Rattle.statements.specs.Sized.{Sized}
use Rattle.journal.specs.Journal.{put_limit}
use Rattle.fields.specs.Lent.{at_rows, at_places}
use Rattle.visibility.specs.Found.{base_of_row, base_of_law}
use Rattle.admit.specs.Admission.{admitted}
use Rattle.calls.specs.Refused.{unless, poisoned_tries, found_healthy, choose, choose_done, choose_refused}
use Rattle.calls.specs.LentWhole.{heads_whole, next_whole, xmin_whole}

abbrev pub write_tests : ℕ → ℕ → Bool → Bool → List Try
write_tests r writes beyond full =
    refuse (leb rows r) (RowTooHigh Open)
    ∷ refuse (leb write_limit writes) (WritesFull Open)
    ∷ refuse beyond (ImpossibleMinute Open)
    ∷ refuse full (SlotsFull Open)
    ∷ []

unfoldable pub write_tries : ℕ → ℕ → Bool → Bool → Refusal
write_tries r writes beyond full = tries (write_tests r writes beyond full)

write_tries_law : (r writes : ℕ) {beyond full b c : Bool} → beyond ≡ b → full ≡ c → write_tries r writes beyond full ≡ tries (write_tests r writes b c)
unfolding write_tries
write_tries_law r writes e f = rw (e, f)

-- two puts or three
pub takes_few : (p t q : ℕ) (v : Value) → length (take_slot p t q v) ≤ put_limit
takes_few p t q Absent = omega (arith, call_puts)
takes_few p t q (Key k) = call_puts

module _ (S : Store) (x : Tx) (r : ℕ) (v : Value) where
  abbrev free_at : ℕ
  free_at = lowest_free S.xmin

  abbrev base_at : ℕ
  base_at = base_of S x r

  abbrev write_why : Refusal
  write_why = admits_healthy S x (write_tests r x.write_count (impossible v) (eqb free_at 0))

  abbrev made : Refusal → ℕ → ℕ → Written
  made w p q = record {
    refusal = w;
    slot = record { 0 = p };
    store = apply_all (take_slot p x.txid.0 q v) S;
    tx = with_writes (writes_of x ++ record { row = record { 0 = r }; base = record { 0 = q }; new = record { 0 = p } } ∷ []) x;
  }

  abbrev done : Refusal → Written
  done w = made w free_at base_at

  abbrev refused : Refusal → Written
  refused w = record { refusal = w; slot = record { 0 = 0 }; store = S; tx = x }

  answer : choose done refused write_why ≡ write S x r v
  unfolding write choose
  answer = refl

  -- as code finds it
  module _ (z : Sized S) {free : ℕ} {beyond full : Bool} {tried first why : Refusal}
      (h : free ≡ lowest_free (at_places S.xmin))
      (a : tried ≡ admitted S x true)
      (e : first ≡ unless tried (poisoned_tries S.poisoned))
      (o : beyond ≡ impossible v)
      (g : full ≡ eqb free 0)
      (f : why ≡ unless first (write_tries r x.write_count beyond full)) where
    free_is : free ≡ free_at
    free_is = rw (xmin_whole S z) at h

    why_is : why ≡ write_why
    why_is =
        found_healthy S x (write_tests r x.write_count (impossible v) (eqb free_at 0)) tried first why (write_tries r x.write_count beyond full) a e f
        (λ _. write_tries_law r x.write_count o (g ∙ ap (λ p. eqb p 0) free_is))

    pub write_refused : is_done why ≡ false → record { refusal = why; slot = record { 0 = 0 }; store = S; tx = x } ≡ write S x r v
    write_refused d = choose_refused done refused why _ why_is d ∙ answer

    pub write_done : {base : ℕ} {T : Store} {y : Tx} → is_done why ≡ true
        → base ≡ base_of_row (at_rows S.heads) (at_places S.next) (at_places S.xmin) x r
        → T ≡ apply_all (take_slot free x.txid.0 base v) S
        → y ≡ with_writes (writes_of x ++ record { row = record { 0 = r }; base = record { 0 = base }; new = record { 0 = free } } ∷ []) x
        → record { refusal = why; slot = record { 0 = free }; store = T; tx = y } ≡ write S x r v
    write_done {base} d b t y =
        let base_is : base ≡ base_at = (rw (heads_whole S z, next_whole S z, xmin_whole S z) at b) ∙ sym (base_of_law S x r) in
        (λ i. record { refusal = why; slot = record { 0 = free }; store = t i; tx = y i })
        ∙ (λ i. made why (free_is i) (base_is i))
        ∙ choose_done done refused why _ why_is d
        ∙ answer
