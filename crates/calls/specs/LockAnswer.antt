-- Row lock: why it refuses, and its answer.
use Rattle.std.specs.Prelude.{◌≡◌, Bool, List, [], ◌∷◌, ℕ, get_or, eqb, leb}
use Rattle.std.proofs.Math.Path.{refl}
use Rattle.std.proofs.Common.{sym, ap, ◌∙◌}
use Rattle.std.proofs.Math.Bool.{true, false, cond}
use Rattle.records.specs.Limits.{rows}
use Rattle.rules.specs.Types.{Store, Tx, Reply, Refusal, RowTooHigh, LockedByAnother, NoHead, Open}
use Rattle.rules.specs.Numbers.{Try, refuse, tries, is_done}
use Rattle.rules.specs.Puts.{put_lock, apply_all}
use Rattle.rules.specs.Calls.{admits_healthy, locked_by_another, row_lock}
use Rattle.statements.specs.Sized.{Sized}
use Rattle.fields.specs.Lent.{at_rows, at_places, flags_at_places, at_active}
use Rattle.fields.specs.Locks.{locked_of, locked_of_law}
use Rattle.admit.specs.Admission.{admitted}
use Rattle.calls.specs.Refused.{unless, poisoned_tries, found_healthy, choose, choose_done, choose_refused}
use Rattle.calls.specs.LentWhole.{heads_whole, locked_whole, owner_whole, active_whole}

-- "23 .. for a row lock only: locked by another, no head"
abbrev pub lock_tests : ℕ → Bool → ℕ → List Try
lock_tests r locked head = refuse (leb rows r) (RowTooHigh Open) ∷ refuse locked (LockedByAnother Open) ∷ refuse (eqb head 0) (NoHead Open) ∷ []

unfoldable pub lock_tries : ℕ → Bool → ℕ → Refusal
lock_tries r locked head = tries (lock_tests r locked head)

lock_tries_law : (r head h : ℕ) (locked l : Bool) → head ≡ h → locked ≡ l → lock_tries r locked head ≡ tries (lock_tests r l h)
unfolding lock_tries
lock_tries_law r head h locked l e f = rw (e, f)

module _ (S : Store) (x : Tx) (r : ℕ) where
  abbrev head_at : ℕ
  head_at = get_or S.heads r 0

  abbrev is_locked : Bool
  is_locked = locked_by_another S x.txid.0 head_at

  abbrev lock_why : Refusal
  lock_why = admits_healthy S x (lock_tests r is_locked head_at)

  abbrev done : Refusal → Reply
  done w = record { refusal = w; store = apply_all (put_lock head_at x.txid.0 ∷ []) S; tx = x }

  abbrev refused : Refusal → Reply
  refused w = record { refusal = w; store = S; tx = x }

  answer : choose done refused lock_why ≡ row_lock S x r
  unfolding row_lock choose
  answer = either (is_done lock_why) lock_why
    where
      either : (b : Bool) (w : Refusal)
          → cond b (done w) (refused w) ≡ record { refusal = w; store = cond b (apply_all (put_lock head_at x.txid.0 ∷ []) S) S; tx = x }
      either true w = refl
      either false w = refl

  -- as code finds it
  module _ (z : Sized S) {head : ℕ} {locked : Bool} {tried first why : Refusal}
      (h : head ≡ get_or (at_rows S.heads) r 0)
      (l : locked ≡ locked_of (flags_at_places S.locked) (at_places S.owner) (at_active S.active) x.txid.0 head)
      (a : tried ≡ admitted S x true)
      (e : first ≡ unless tried (poisoned_tries S.poisoned))
      (f : why ≡ unless first (lock_tries r locked head)) where
    head_is : head ≡ head_at
    head_is = rw (heads_whole S z) at h

    locked_is : locked ≡ is_locked
    locked_is = (rw (locked_whole S z, owner_whole S z, active_whole S z) at l) ∙ rw head_is (sym (locked_of_law S x.txid.0 head_at))

    why_is : why ≡ lock_why
    why_is =
        found_healthy S x (lock_tests r is_locked head_at) tried first why (lock_tries r locked head) a e f
        (λ _. lock_tries_law r head head_at locked is_locked head_is locked_is)

    pub lock_refused : is_done why ≡ false → record { refusal = why; store = S; tx = x } ≡ row_lock S x r
    lock_refused d = choose_refused done refused why _ why_is d ∙ answer

    pub lock_done : {T : Store} → is_done why ≡ true → T ≡ apply_all (put_lock head x.txid.0 ∷ []) S
        → record { refusal = why; store = T; tx = x } ≡ row_lock S x r
    lock_done d t =
        (λ i. record { refusal = why; store = (t ∙ ap (λ (p : ℕ). apply_all (put_lock p x.txid.0 ∷ []) S) head_is) i; tx = x })
        ∙ choose_done done refused why _ why_is d
        ∙ answer
