-- A free slot taken for a version: the store still rests.
use Rattle.std.specs.Prelude.{◌≡◌, refl, Bool, true, false, List, ℕ, ◌≤◌, ◌<◌, length, get_or, set, eqb}
use Rattle.std.proofs.Common.{sym, ◌∙◌, arith, length-set, get_or-set_same, get_or-set_other, eqb-true}
use Rattle.std.proofs.lemmas.Bool.{eqb-false}
use Rattle.records.specs.Limits.{slots, last_minute}
use Rattle.records.specs.Setters.{slotted}
use Rattle.rules.specs.Lists.{memb}
use Rattle.rules.specs.Types.{Store, Value, Absent, Key}
use Rattle.rules.specs.Store.{active_txids}
use Rattle.rules.specs.Admitted.{finished}
use Rattle.rules.specs.Puts.{take_slot, apply_all}
use Rattle.basic_laws.specs.Cases.{by, clash}
use Rattle.statements.specs.Sized.{Sized}
use Rattle.statements.specs.StoreWords.{Lowest, stored_key}
use Rattle.admitted_laws.specs.Repairable.{SlotForm, Off, OffForm}
use Rattle.recovery_laws.specs.Start.{txid_positive, txid_unfinished}
use Rattle.recovery_laws.specs.Sizes.{sized_all}
use Rattle.admitted_laws.specs.Resting.{Rests}
use Rattle.recovery_laws.specs.Carried.{slots_rest}

-- the store with slot p taken for a version of t over the base q
abbrev pub key_at : ℕ → Value → List ℕ → List ℕ
key_at p Absent l = l
key_at p (Key k) l = set l p k

abbrev pub has_at : ℕ → Value → List Bool → List Bool
has_at p Absent l = l
has_at p (Key k) l = set l p true

-- (the whole store)
abbrev pub took : ℕ → ℕ → ℕ → Value → Store → Store
took p t q v S =
    slotted (set S.xmin p t) S.xmax (set S.next p q) (key_at p v S.key) (has_at p v S.has) S.locked S.owner S

-- the puts of a write leave that store
pub took_is : (p t q : ℕ) (v : Value) (S : Store) → apply_all (take_slot p t q v) S ≡ took p t q v S
took_is p t q Absent S = refl
took_is p t q (Key k) S = refl

-- other slots keep their values
key_other : (p : ℕ) (v : Value) (l : List ℕ) (x : ℕ) → (x ≡ p → ⊥) → get_or (key_at p v l) x 0 ≡ get_or l x 0
key_other p Absent l x n = refl
key_other p (Key k) l x n = get_or-set_other l p x k 0 n

has_other : (p : ℕ) (v : Value) (l : List Bool) (x : ℕ) → (x ≡ p → ⊥) → get_or (has_at p v l) x false ≡ get_or l x false
has_other p Absent l x n = refl
has_other p (Key k) l x n = get_or-set_other l p x true false n

-- the taken slot's absent key is 0 where it was
absent_at : (p : ℕ) (v : Value) (key : List ℕ) (has : List Bool) → p < length has → get_or key p 0 ≡ 0 → get_or (has_at p v has) p false ≡ false
    → get_or (key_at p v key) p 0 ≡ 0
absent_at p Absent key has lt e n = e
absent_at p (Key k) key has lt e n = clash (get_or-set_same has p true false lt) n

-- the taken slot's key is the value's, a minute where that is one
minute_at : (p : ℕ) (v : Value) (key : List ℕ) → p < length key → get_or key p 0 ≡ 0 → stored_key v ≤ last_minute → get_or (key_at p v key) p 0 ≤ last_minute
minute_at p Absent key lt e le = rw e (omega arith)
minute_at p (Key k) key lt e le = rw (get_or-set_same key p k 0 lt) le

module _ (S : Store) (L : ℕ → List ℕ) (z : Sized S) (R : Rests S L) (p t q : ℕ) (v : Value) (W : Lowest S.xmin p)
    (a : memb t (active_txids S.active) ≡ true) (le : q ≤ slots) (minute : stored_key v ≤ last_minute) where
  abbrev T : Store
  T = took p t q v S

  abbrev f : ℕ → Bool
  f = finished S.active S.doomed

  -- a used slot is another one
  other : (x : ℕ) → 0 < get_or S.xmin x 0 → x ≡ p → ⊥
  other x u e = omega (arith, rw e at u, W.free)

  -- and so is one on a chain
  away : (r x : ℕ) → r < length S.heads → memb x (L r) ≡ true → x ≡ p → ⊥
  away r x lt m = other x (R.mends.stands.led r x lt m)

  -- the sizes are the same
  pub took_sized : Sized T
  took_sized = rw (sym (took_is p t q v S)) (sized_all (take_slot p t q v) S z)

  -- at slot p, and elsewhere
  xmin_here : get_or T.xmin p 0 ≡ t
  xmin_here = get_or-set_same S.xmin p t 0 W.within

  xmin_other : (x : ℕ) → (x ≡ p → ⊥) → get_or T.xmin x 0 ≡ get_or S.xmin x 0
  xmin_other x n = get_or-set_other S.xmin p x t 0 n

  next_other : (x : ℕ) → (x ≡ p → ⊥) → get_or T.next x 0 ≡ get_or S.next x 0
  next_other x n = get_or-set_other S.next p x q 0 n

  -- slots are in their form
  took_slots : SlotForm T.xmin T.xmax T.next T.key T.has T.locked T.owner
  took_slots =
      let F = R.mends.slots in
      record {
        first = xmin_other 0 (λ e. omega (arith, e, W.some)) ∙ F.first;
        free = λ x e. let n : x ≡ p → ⊥ = λ k. omega (arith, rw (k, xmin_here) at e, txid_positive S L z R t a) in
            let o = F.free x (sym (xmin_other x n) ∙ e) in
            record {
              unmarked = o.unmarked;
              unlinked = next_other x n ∙ o.unlinked;
              empty = has_other p v S.has x n ∙ o.empty;
              unlocked = o.unlocked;
              unowned = o.unowned;
            };
        absent = λ x e. by (eqb x p)
            (λ k. let xp = eqb-true x p k in
            rw xp (absent_at p v S.key S.has (omega (arith, W.within, z.xmin, z.has)) (F.absent p (F.free p W.free).empty) (rw xp at e)))
            (λ k. let n = eqb-false x p k in key_other p v S.key x n ∙ F.absent x (sym (has_other p v S.has x n) ∙ e));
        minute = λ x u. by (eqb x p)
            (λ k. rw (eqb-true x p k)
            (minute_at p v S.key (omega (arith, W.within, z.xmin, z.key)) (F.absent p (F.free p W.free).empty) minute))
            (λ k. let n = eqb-false x p k in rw (key_other p v S.key x n) (F.minute x (rw (xmin_other x n) at u)));
      }

  -- a slot off every chain is of an unfinished txid, the new one too
  took_off : (x : ℕ) → 0 < get_or T.xmin x 0 → Off S.heads L x → OffForm T.xmin T.xmax T.next f x
  took_off x u o = by (eqb x p)
      (λ k. rw (eqb-true x p k) (record {
        unfinished = rw xmin_here (txid_unfinished S L z R t a);
        unmarked = (R.mends.slots.free p W.free).unmarked;
        within = rw (get_or-set_same S.next p q 0 (omega (arith, W.within, z.xmin, z.next))) le;
      }))
      (λ k. let n = eqb-false x p k in
      let s = R.mends.stands.off x (rw (xmin_other x n) at u) o in
      record { unfinished = rw (xmin_other x n) s.unfinished; unmarked = s.unmarked; within = rw (next_other x n) s.within })

  -- the store rests with the same chains
  pub took_rests : Rests T L
  took_rests = slots_rest S L T.xmin T.xmax T.next T.key T.has T.locked T.owner (record {
    kept = λ r x lt m. let n = away r x lt m in record {
      xmin = xmin_other x n;
      xmax = refl;
      next = next_other x n;
      key = key_other p v S.key x n;
      has = has_other p v S.has x n;
    };
    long = length-set S.next p q;
    form = took_slots;
    below = λ x. by (eqb x p)
        (λ k. rw (eqb-true x p k, xmin_here) (R.mends.listed.past t a))
        (λ k. rw (xmin_other x (eqb-false x p k)) (R.mends.below x));
    off = took_off;
  }) R
