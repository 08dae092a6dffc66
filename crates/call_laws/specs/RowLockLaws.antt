-- Row lock: when a lock is in the way, what an accepted one changes, and that the store still rests.
use Rattle.std.specs.Prelude.{◌≡◌, refl, true, false, not, ◌&&◌, List, ◌≢◌, ◌↔◌, ℕ, ◌<◌, get_or, length, eqb}
use Rattle.std.proofs.Common.{◌∙◌, arith, get_or-set_same, get_or-set_other, ne_eqb}
use Rattle.std.proofs.lemmas.Bool.{eqb-false, not-true}
use Rattle.rules.specs.Lists.{memb}
use Rattle.rules.specs.Types.{Store, Tx}
use Rattle.rules.specs.Store.{active_txids}
use Rattle.rules.specs.Fit.{fit}
use Rattle.rules.specs.Numbers.{number_of}
use Rattle.rules.specs.Puts.{put_lock, apply}
use Rattle.rules.specs.Calls.{locked_by_another, row_lock}
use Rattle.basic_laws.specs.Cases.{and_true}
use Rattle.basic_laws.specs.Chain.{chain_head, chain_below}
use Rattle.statements.specs.Sized.{Sized}
use Rattle.statements.specs.StoreWords.{Part, Heads, Xmin, Xmax, Next, Values, RowLocks, Postings, StripeGuards, PartitionGuards, Stamps, Active, Clock}
use Rattle.statements.specs.StoreWords.{Poisoned, Doomed, Bound, Kept}
use Rattle.statements.specs.CallWords.{Locks}
use Rattle.admitted_laws.specs.Resting.{Rests, rests, rested}
use Rattle.admitted_laws.specs.Repairable.{SlotForm}
use Rattle.recovery_laws.specs.Sizes.{sized_apply}
use Rattle.sentences.specs.Refusals.{row_lock_accepted}
use Rattle.call_laws.specs.Passed.{row_lock_passed}
use Rattle.call_laws.specs.Counts.{SizedTx}
use Rattle.recovery_laws.specs.Carried.{slots_rest}
use Rattle.call_laws.specs.Keeps.{Keeps}

-- "a lock whose owner isn't active is void": 27 is for a live lock of another
pub live_lock : (S : Store) (t p : ℕ) → (locked_by_another S t p ≡ true)
    ↔ ((get_or S.locked p false ≡ true) × ((get_or S.owner p 0 ≡ t → ⊥) × (memb (get_or S.owner p 0) (active_txids S.active) ≡ true)))
unfolding locked_by_another
live_lock S t p =
    let o = get_or S.owner p 0 in
    let live = memb o (active_txids S.active) in (
      λ h. let a = and_true (get_or S.locked p false) (not (eqb o t) && live) h in
          let b = and_true (not (eqb o t)) live a.1 in
          (a.0, (eqb-false o t (not-true (eqb o t) b.0), b.1)),
      λ h. rw (h.0, ne_eqb o t h.1.0) h.1.1,
    )

module _ (S : Store) (p t : ℕ) where
  abbrev locked : Store
  locked = apply (put_lock p t) S

  -- a free slot is not the locked one, and stays all zero
  lock_slots : 0 < get_or S.xmin p 0 → SlotForm S.xmin S.xmax S.next S.key S.has S.locked S.owner
      → SlotForm S.xmin S.xmax S.next S.key S.has locked.locked locked.owner
  lock_slots u F = record {
    first = F.first;
    free = λ q e. let f = F.free q e in
        let ne : q ≡ p → ⊥ = λ k. omega (arith, rw k at e, u) in
        record {
          unmarked = f.unmarked;
          unlinked = f.unlinked;
          empty = f.empty;
          unlocked = get_or-set_other S.locked p q true false ne ∙ f.unlocked;
          unowned = get_or-set_other S.owner p q t 0 ne ∙ f.unowned;
        };
    absent = F.absent;
    minute = F.minute;
  }

  -- the store rests with the same chains
  lock_rests : (L : ℕ → List ℕ) → 0 < get_or S.xmin p 0 → Rests S L → Rests locked L
  lock_rests L u R = slots_rest S L S.xmin S.xmax S.next S.key S.has locked.locked locked.owner (record {
    kept = λ r x lt m. record { xmin = refl; xmax = refl; next = refl; key = refl; has = refl };
    long = refl;
    form = lock_slots u R.mends.slots;
    below = R.mends.below;
    off = R.mends.stands.off;
  }) R

  -- nothing but the lock changes
  lock_else : (part : Part) → part ≢ RowLocks → Kept S locked part
  lock_else Heads n = refl
  lock_else Xmin n = refl
  lock_else Xmax n = refl
  lock_else Next n = refl
  lock_else Values n = (refl, refl)
  lock_else RowLocks n = absurd (n refl)
  lock_else Postings n = (refl, refl)
  lock_else StripeGuards n = refl
  lock_else PartitionGuards n = refl
  lock_else Stamps n = refl
  lock_else Active n = refl
  lock_else Clock n = refl
  lock_else Poisoned n = refl
  lock_else Doomed n = refl
  lock_else Bound n = refl

-- an accepted row lock
module _ (S : Store) (x : Tx) (r : ℕ) (z : Sized S) (h : number_of (row_lock S x r).refusal ≡ 0) where
  abbrev head : ℕ
  head = get_or S.heads r 0

  -- the head is on its row's chain, and so a used slot
  head_on : (L : ℕ → List ℕ) → Rests S L → (r < length S.heads) × (memb head (L r) ≡ true)
  head_on L R =
      let P = row_lock_passed S x r h in
      let lt : r < length S.heads = omega (arith, P.row, z.heads) in
      (lt, chain_head S.next head (L r) (R.mends.stands.chains.chain r lt) P.some)

  -- (used)
  head_used : (L : ℕ → List ℕ) → Rests S L → 0 < get_or S.xmin head 0
  head_used L R = let o = head_on L R in R.mends.stands.led r head o.0 o.1

  -- it changes that
  pub row_lock_locks : (L : ℕ → List ℕ) → Rests S L → Locks S x r (row_lock S x r)
  row_lock_locks L R =
      let o = head_on L R in
      let b = chain_below S.next head (L r) head (R.mends.stands.chains.chain r o.0) o.1 in
      rw (row_lock_accepted S x r h) (record {
        locked = get_or-set_same S.locked head true false (omega (arith, b.1, z.next, z.locked));
        owner = get_or-set_same S.owner head x.txid.0 0 (omega (arith, b.1, z.next, z.owner));
        other_locks = λ q ne. get_or-set_other S.locked head q true false ne;
        other_owners = λ q ne. get_or-set_other S.owner head q x.txid.0 0 ne;
        else = λ part n. lock_else S head x.txid.0 part n;
        tx = refl;
      })

  -- the store rests with the chains it has, and the transaction is as fit as it was
  pub row_lock_chains : (L : ℕ → List ℕ) → Rests S L → Rests (row_lock S x r).store L
  row_lock_chains L R = rw (row_lock_accepted S x r h) (lock_rests S head x.txid.0 L (head_used L R) R)

  -- so the transaction can go on
  pub row_lock_keeps : SizedTx x → Keeps (row_lock S x r).store (row_lock S x r).tx
  unfolding fit
  row_lock_keeps y =
      let l = (row_lock_passed S x r h).first in
      let R = rests S z l.rests in
      let t = x.txid.0 in
      let Z = sized_apply (put_lock head t) S z in
      rw (row_lock_accepted S x r h) (record {
        sized = Z;
        shaped = y;
        rests = rested (locked S head t) R.0 Z (lock_rests S head t R.0 (head_used R.0 R.1) R.1);
        fits = l.fits;
        active = l.active;
      })
