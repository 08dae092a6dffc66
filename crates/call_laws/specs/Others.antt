-- A call of one transaction keeps every other one fit and active.
use Rattle.std.specs.Prelude.{◌≡◌, refl, true, false, List, [], ◌∷◌, ℕ, suc, ◌≤◌, ◌<◌, get_or, eqb}
use Rattle.std.proofs.Common.{sym, ap, ◌∙◌, arith, ne_eqb}
use Rattle.rules.specs.Lists.{memb}
use Rattle.rules.specs.Types.{Store, Tx, Value, Reply}
use Rattle.rules.specs.Store.{active_txids}
use Rattle.rules.specs.Numbers.{number_of}
use Rattle.rules.specs.Puts.{put_enter, put_clock, put_lock, apply_all}
use Rattle.rules.specs.Calls.{begin, write, row_lock, abort}
use Rattle.basic_laws.specs.Cases.{or_left}
use Rattle.statements.specs.Sized.{Sized}
use Rattle.basic_laws.specs.Rising.{mem_without}
use Rattle.admitted_laws.specs.Resting.{Rests, rests, rested}
use Rattle.sentences.specs.Refusals.{begin_accepted, row_lock_accepted}
use Rattle.call_laws.specs.StaysFit.{on_same, stays_fit}
use Rattle.call_laws.specs.Counts.{SizedTx}
use Rattle.call_laws.specs.Keeps.{Keeps}
use Rattle.call_laws.specs.BeginLaws.{mem_more, begin_begins, begin_chains, begin_keeps}
use Rattle.call_laws.specs.RowLockLaws.{row_lock_chains, row_lock_keeps}
use Rattle.call_laws.specs.WriteLaws.{write_writes, write_chains, write_keeps}
use Rattle.statements.specs.StoreWords.{SameSlot, Part, Heads, Xmin, Next, Values, Clock, Active, Kept}
use Rattle.sentences.specs.StoreSays.{number, differ}
use Rattle.call_laws.specs.AbortLaws.{abort_aborts, abort_chains, abort_keeps}

-- a transaction y of u, and a store T that has the chains of S, a clock that is not lower, and u's slots as they were
other_keeps : (S T : Store) (y : Tx) (L : ℕ → List ℕ) → Rests S L → Sized S → Rests T L → Sized T → T.heads ≡ S.heads → S.clock ≤ T.clock
    → ((n : ℕ) → 0 < get_or S.xmin n 0 → get_or S.xmin n 0 ≡ y.txid.0
    → (get_or T.xmin n 0 ≡ get_or S.xmin n 0) × (get_or T.next n 0 ≡ get_or S.next n 0))
    → memb y.txid.0 (active_txids T.active) ≡ true → Keeps S y → Keeps T y
other_keeps S T y L R z Q w heads le same a K = record {
  sized = w;
  shaped = K.shaped;
  rests = rested T L w Q;
  fits = stays_fit S T y le same (λ n u q e. on_same S T L R z Q w heads n ∙ e) K.fits;
  active = a;
}

-- begin
pub begin_others : (S : Store) (y : Tx) → number_of (begin S).refusal ≡ 0 → Keeps S y → Keeps (begin S).store y
begin_others S y h K =
    let z = K.sized in
    let R = rests S z K.rests in
    let acts = active_txids S.active in
    let e : (begin S).store ≡ apply_all (put_enter S.clock ∷ put_clock (suc S.clock) ∷ []) S = ap (λ (a : Reply). a.store) (begin_accepted S h) in
    other_keeps S (begin S).store y R.0 R.1 z (begin_chains S z h R.0 R.1) (begin_keeps S z h).sized (rw e) (rw e (omega arith))
    (λ n u q. rw e (refl, refl))
    (rw ((begin_begins S z h).active, mem_more acts S.clock y.txid.0) (or_left (memb y.txid.0 acts) (eqb y.txid.0 S.clock) K.active)) K

module _ (S : Store) (x y : Tx) where
  -- row lock
  pub row_lock_others : (r : ℕ) → number_of (row_lock S x r).refusal ≡ 0 → SizedTx x → Keeps S y → Keeps (row_lock S x r).store y
  row_lock_others r h s K =
      let z = K.sized in
      let R = rests S z K.rests in
      let e : (row_lock S x r).store ≡ apply_all (put_lock (get_or S.heads r 0) x.txid.0 ∷ []) S = ap (λ (a : Reply). a.store) (row_lock_accepted S x r h) in
      other_keeps S (row_lock S x r).store y R.0 R.1 z (row_lock_chains S x r z h R.0 R.1) (row_lock_keeps S x r z h s).sized (rw e)
      (rw e (omega arith)) (λ n u q. rw e (refl, refl)) (rw e K.active) K

  -- write
  pub write_others : (r : ℕ) (v : Value) → number_of (write S x r v).refusal ≡ 0 → SizedTx x → Keeps S y → Keeps (write S x r v).store y
  write_others r v h s K =
      let z = K.sized in
      let R = rests S z K.rests in
      let W = write_writes S x r v z h s R.0 R.1 in
      let p = (write S x r v).slot.0 in
      let ne : (n : ℕ) → 0 < get_or S.xmin n 0 → n ≡ p → ⊥ = λ n u k. omega (arith, rw k at u, W.slot.free) in
      let kept : (a : Part) → eqb (number a) (number Xmin) ≡ false → eqb (number a) (number Next) ≡ false → eqb (number a) (number Values) ≡ false
      → Kept S (write S x r v).store a = λ a i j k. W.store.else a (differ a Xmin i) (differ a Next j) (differ a Values k) in
      other_keeps S (write S x r v).store y R.0 R.1 z (write_chains S x r v z h s R.0 R.1) (write_keeps S x r v z h s).sized
      (kept Heads refl refl refl)
      (rw (kept Clock refl refl refl) (omega arith))
      (λ n u q. (W.store.xmin.other 0 n (ne n u), W.store.next.other 0 n (ne n u))) (rw (kept Active refl refl refl) K.active) K

  -- abort, of another txid
  pub abort_others : number_of (abort S x).refusal ≡ 0 → (y.txid.0 ≡ x.txid.0 → ⊥) → Keeps S y → Keeps (abort S x).store y
  abort_others h d K =
      let z = K.sized in
      let R = rests S z K.rests in
      let A = abort_aborts S x R.0 z R.1 h in
      let slot : (n : ℕ) → get_or S.xmin n 0 ≡ y.txid.0 → SameSlot S (abort S x).store n = λ n q. A.others n (λ k. d (sym q ∙ k)) in
      other_keeps S (abort S x).store y R.0 R.1 z (abort_chains S x R.0 z h R.1) (abort_keeps S x z h).0 A.heads (rw A.clock (omega arith))
      (λ n u q. ((slot n q).xmin, (slot n q).next))
      (rw (A.listed, mem_without x.txid.0 (active_txids S.active) y.txid.0, ne_eqb y.txid.0 x.txid.0 d) K.active) K
