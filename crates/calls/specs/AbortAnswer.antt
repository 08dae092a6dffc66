-- Abort: its answer.
use Rattle.std.specs.Prelude.{◌≡◌, true, false, []}
use Rattle.std.proofs.Math.Path.{refl}
use Rattle.std.proofs.Common.{sym, ap, ◌∙◌}
use Rattle.records.specs.Zero.{only_txid}
use Rattle.rules.specs.Types.{Store, Tx, Reply, Refusal}
use Rattle.rules.specs.Numbers.{is_done}
use Rattle.rules.specs.Puts.{abort_puts, apply_all}
use Rattle.rules.specs.Calls.{admits, abort}
use Rattle.fields.specs.Lent.{at_rows, at_places}
use Rattle.visibility.specs.OwnMarks.{abort_puts_of, abort_puts_law}
use Rattle.admit.specs.Admission.{admitted, admitted_call}
use Rattle.calls.specs.LentWhole.{heads_whole, next_whole, xmin_whole}
use Rattle.statements.specs.Sized.{Sized}
use Rattle.calls.specs.Refused.{choose, choose_done, choose_refused}

-- the answer, by what is refused
module _ (S : Store) (x : Tx) where
  abbrev done : Refusal → Reply
  done w = record { refusal = w; store = apply_all (abort_puts S x.txid.0) S; tx = only_txid x.txid.0 }

  abbrev refused : Refusal → Reply
  refused w = record { refusal = w; store = S; tx = x }

  answer : choose done refused (admits S x []) ≡ abort S x
  unfolding abort choose
  answer = refl

  module _ {why : Refusal} (e : why ≡ admitted S x true) where
    pub abort_refused : is_done why ≡ false → record { refusal = why; store = S; tx = x } ≡ abort S x
    abort_refused d = choose_refused done refused why _ (e ∙ admitted_call S x) d ∙ answer

    pub abort_done : {T : Store} {y : Tx} → Sized S → is_done why ≡ true
        → T ≡ apply_all (abort_puts_of (at_rows S.heads) (at_places S.next) (at_places S.xmin) x.txid.0) S → y ≡ only_txid x.txid.0
        → record { refusal = why; store = T; tx = y } ≡ abort S x
    abort_done {T} z d t y =
        let store_is : T ≡ apply_all (abort_puts S x.txid.0) S =
        (rw (heads_whole S z, next_whole S z, xmin_whole S z) at t) ∙ ap (λ ps. apply_all ps S) (sym (abort_puts_law S x.txid.0)) in
        (λ i. record { refusal = why; store = store_is i; tx = y i })
        ∙ choose_done done refused why _ (e ∙ admitted_call S x) d
        ∙ answer
