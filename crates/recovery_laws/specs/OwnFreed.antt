-- Slots freed: a slot off every chain, and the slots of a txid one after the other.
use Rattle.std.specs.Prelude.{◌≡◌, Bool, true, false, List, [], ◌∷◌, map, ℕ, ◌<◌, length, get_or, set, eqb}
use Rattle.std.proofs.Common.{sym, ap, ◌∙◌, ⊎_elim, arith, length-set, get_or-set_other, eqb-true}
use Rattle.std.proofs.lemmas.Bool.{eqb-false}
use Rattle.rules.specs.Lists.{memb, first_of}
use Rattle.rules.specs.Types.{Store, Value}
use Rattle.rules.specs.Admitted.{finished}
use Rattle.rules.specs.Puts.{put_free, apply, apply_all}
use Rattle.run_laws.specs.GuardPuts.{set_blank}
use Rattle.basic_laws.specs.Cases.{by, clash, or_true, mem_here, mem_there, mem_ne}
use Rattle.basic_laws.specs.Check.{Good}
use Rattle.admitted_laws.specs.Repairable.{Mends, Off}
use Rattle.admitted_laws.specs.Resting.{Rests, Sole}
use Rattle.recovery_laws.specs.Carried.{SlotsAside, slots_mend, slots_rest}
use Rattle.statements.specs.Words.{shown_in}
use Rattle.recovery_laws.specs.Versions.{good_cong, first_same, first_in}
use Rattle.recovery_laws.specs.Unfinished.{dropped}
use Rattle.recovery_laws.specs.ArraysKept.{set_zero}
use Rattle.recovery_laws.specs.Along.{To}
use Rattle.recovery_laws.specs.Live.{Live, Lives, Due}

module _ (X : Store) (L : ℕ → List ℕ) (s : ℕ) (off : Off X.heads L s) where
  -- what stands on chains stays
  kept {ℓ} : {A : Type ℓ} (l : List A) (a z : A) (r x : ℕ) → r < length X.heads → memb x (L r) ≡ true → get_or (set l s a) x z ≡ get_or l x z
  kept l a z r x lt m = get_or-set_other l s x a z (mem_ne x s (L r) m (off r lt))

  good_freed : (f : ℕ → Bool) (r : ℕ) → r < length X.heads → Good X.xmin X.xmax f (L r) → Good (set X.xmin s 0) (set X.xmax s 0) f (L r)
  good_freed f r lt =
      good_cong X.xmin X.xmax (set X.xmin s 0) (set X.xmax s 0) f (L r) (λ x m. kept X.xmin 0 0 r x lt m) (λ x m. kept X.xmax 0 0 r x lt m)

  -- a row shows what it showed
  shown_freed : (s ≡ 0 → ⊥) → (f : ℕ → Bool) (r : ℕ) → r < length X.heads
      → shown_in (set X.xmin s 0) (set X.key s 0) (set X.has s false) f (L r) ≡ shown_in X.xmin X.key X.has f (L r)
  shown_freed nz f r lt =
      let g : ℕ → Bool = λ p. f (get_or X.xmin p 0) in
      let p = first_of g (L r) in
      let ne : p ≡ s → ⊥ = λ e. ⊎_elim (λ k. nz (sym e ∙ k)) (λ k. mem_ne p s (L r) k (off r lt) e) (first_in g (L r)) in
      rw (
        first_same (λ p. f (get_or (set X.xmin s 0) p 0)) g (L r) (λ x m. ap f (kept X.xmin 0 0 r x lt m)),
        get_or-set_other X.key s p 0 0 ne,
        get_or-set_other X.has s p false false ne,
      )

  -- the slots are what a repairable store's are
  freed_aside : Mends X L
      → SlotsAside X L (set X.xmin s 0) (set X.xmax s 0) (set X.next s 0) (set X.key s 0) (set X.has s false)
      (set X.locked s false) (set X.owner s 0)
  freed_aside M = record {
    kept = λ r x lt m. record {
      xmin = kept X.xmin 0 0 r x lt m;
      xmax = kept X.xmax 0 0 r x lt m;
      next = kept X.next 0 0 r x lt m;
      key = kept X.key 0 0 r x lt m;
      has = kept X.has false false r x lt m;
    };
    long = length-set X.next s 0;
    form = record {
      first = set_zero X.xmin s 0 M.slots.first;
      free = λ p e. by (eqb p s)
          (λ k. rw (eqb-true p s k) (record {
            unmarked = set_blank X.xmax s 0;
            unlinked = set_blank X.next s 0;
            empty = set_blank X.has s false;
            unlocked = set_blank X.locked s false;
            unowned = set_blank X.owner s 0;
          }))
          (λ k. let n = eqb-false p s k in
          let F = M.slots.free p (sym (get_or-set_other X.xmin s p 0 0 n) ∙ e) in
          record {
            unmarked = get_or-set_other X.xmax s p 0 0 n ∙ F.unmarked;
            unlinked = get_or-set_other X.next s p 0 0 n ∙ F.unlinked;
            empty = get_or-set_other X.has s p false false n ∙ F.empty;
            unlocked = get_or-set_other X.locked s p false false n ∙ F.unlocked;
            unowned = get_or-set_other X.owner s p 0 0 n ∙ F.unowned;
          });
      absent = λ p e. by (eqb p s)
          (λ k. rw (eqb-true p s k) (set_blank X.key s 0))
          (λ k. let n = eqb-false p s k in
          get_or-set_other X.key s p 0 0 n ∙ M.slots.absent p (sym (get_or-set_other X.has s p false false n) ∙ e));
      minute = λ p u. by (eqb p s)
          (λ k. rw (eqb-true p s k, set_blank X.key s 0) (omega arith))
          (λ k. let n = eqb-false p s k in
          rw (get_or-set_other X.key s p 0 0 n) (M.slots.minute p (rw (get_or-set_other X.xmin s p 0 0 n) at u)));
    };
    below = λ p. by (eqb p s)
        (λ k. rw (eqb-true p s k, set_blank X.xmin s 0) (omega (arith, M.started)))
        (λ k. rw (get_or-set_other X.xmin s p 0 0 (eqb-false p s k)) (M.below p));
    off = λ p u o. by (eqb p s)
        (λ k. absurd (omega (arith, rw (eqb-true p s k) at u, set_blank X.xmin s 0)))
        (λ k. let n = eqb-false p s k in
        let e = get_or-set_other X.xmin s p 0 0 n in
        let O = M.stands.off p (rw e at u) o in
        record {
          unfinished = rw e O.unfinished;
          unmarked = get_or-set_other X.xmax s p 0 0 n ∙ O.unmarked;
          within = rw (get_or-set_other X.next s p 0 0 n) O.within;
        });
  }

  -- so the store stays repairable, and at rest
  mends_freed : Mends X L → Mends (apply (put_free s) X) L
  mends_freed M = slots_mend X L _ _ _ _ _ _ _ (freed_aside M) M

  rests_freed : Rests X L → Rests (apply (put_free s) X) L
  rests_freed R = slots_rest X L _ _ _ _ _ _ _ (freed_aside R.mends) R

  sole_freed : (f : ℕ → Bool) (who : ℕ) → Sole X.heads X.xmin X.xmax f L who → Sole X.heads (set X.xmin s 0) (set X.xmax s 0) f L who
  sole_freed f who N = record {
    created = λ r x lt m. rw (kept X.xmin 0 0 r x lt m) (N.created r x lt m);
    ended = λ r x lt m. rw (kept X.xmax 0 0 r x lt m) (N.ended r x lt m);
  }

  live_freed : (old : ℕ → Value) (act : List ℕ) (doom who : ℕ) → (s ≡ 0 → ⊥) → Live old act doom who X L → Live old act doom who (apply (put_free s) X) L
  live_freed old act doom who nz K = record {
    long = record {
      heads = K.long.heads;
      xmax = length-set X.xmax s 0 ∙ K.long.xmax;
      next = length-set X.next s 0 ∙ K.long.next;
      active = K.long.active;
    };
    mends = mends_freed K.mends;
    act_is = K.act_is;
    doom_is = K.doom_is;
    sole = sole_freed (finished act doom) who K.sole;
    shows = λ r lt. shown_freed nz (finished act doom) r (omega (arith, K.long.heads)) ∙ K.shows r lt;
  }

-- slots off every chain freed, one after the other: the store stays at rest
pub frees_rest : (ps : List ℕ) (X : Store) (L : ℕ → List ℕ) → ((p : ℕ) → memb p ps ≡ true → Off X.heads L p)
    → Rests X L → Rests (apply_all (map put_free ps) X) L
frees_rest [] X L o R = R
frees_rest (s ∷ ps) X L o R = frees_rest ps (apply (put_free s) X) L (λ p m. o p (mem_there p s ps m)) (rests_freed X L s (o s (mem_here s ps)) R)

-- a txid's slots freed, one after the other
module _ (t : ℕ) (pos : 0 < t) (old new : ℕ → Value) (act : List ℕ) (doom who : ℕ) where
  due_freed : (s : ℕ) (own : List ℕ) (X : Store) → Due t old new act doom who (s ∷ own) X → Due t old new act doom who own (apply (put_free s) X)
  due_freed s own X D =
      let o = D.idle s (mem_here s own) in
      let f = finished (dropped act t) doom in
      record {
        L = D.L;
        live = live_freed X D.L s o.0 old act doom who o.1 D.live;
        good = λ r lt. good_freed X D.L s o.0 f r lt (D.good r lt);
        sole = sole_freed X D.L s o.0 f doom D.sole;
        shows = λ r lt. shown_freed X D.L s o.0 o.1 f r (omega (arith, D.live.long.heads)) ∙ D.shows r lt;
        idle = λ p m. D.idle p (mem_there p s own m);
        mine = λ p off e. by (eqb p s)
            (λ k. absurd (omega (arith, rw (eqb-true p s k) at e, set_blank X.xmin s 0)))
            (λ k. or_true (eqb p s) (memb p own) (D.mine p off (sym (get_or-set_other X.xmin s p 0 0 (eqb-false p s k)) ∙ e)) (λ q. clash q k) (λ q. q));
      }

  -- after each of them the rows show what they showed
  pub frees : (own : List ℕ) (X : Store) → Due t old new act doom who own X → To (Lives old act doom who) (Due t old new act doom who []) (map put_free own) X
  frees [] X D = ((D.L, D.live), D)
  frees (s ∷ own) X D = ((D.L, D.live), frees own (apply (put_free s) X) (due_freed s own X D))
