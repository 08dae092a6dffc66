-- Begin: a new txid, its snapshot, and the store that it leaves.
use Rattle.std.specs.Prelude.{◌≡◌, true, false, ◌||◌, List, [], ◌∷◌, ◌++◌, ◌≢◌, ℕ, suc, ◌≤◌, ◌<◌, length, get_or, eqb}
use Rattle.std.proofs.Math.Path.{refl}
use Rattle.std.proofs.Common.{sym, ap, ◌∙◌, arith, length-append}
use borrow.Author.Tests.{eqb-true, eq-eqb, ne_eqb, le-leb}
use Rattle.records.specs.Limits.{active_limit, write_limit, read_limit, index_read_limit, savepoint_limit}
use Rattle.records.specs.Zero.{no_write, no_read, no_index_read, only_txid, zero_tx}
use Rattle.rules.specs.Lists.{memb}
use Rattle.rules.specs.Types.{Store}
use Rattle.rules.specs.Store.{active_txids}
use Rattle.rules.specs.Admitted.{finished}
use Rattle.rules.specs.Fit.{counts_fit, fit}
use Rattle.rules.specs.Numbers.{number_of}
use Rattle.rules.specs.Puts.{put_enter, put_clock, apply_all}
use Rattle.rules.specs.Calls.{begun, begin}
use Rattle.basic_laws.specs.Cases.{by, clash, or_true, or_right, mem_here, mem_there, cons_every, every_none}
use Rattle.statements.specs.Sized.{Sized}
use Rattle.basic_laws.specs.TestParts.{parts_fit}
use Rattle.basic_laws.specs.Rearranged.{or_none}
use Rattle.posting_laws.specs.Posted.{mem_append}
use Rattle.basic_laws.specs.Rising.{rising_from}
use Rattle.basic_laws.specs.LaidOutActive.{active_of}
use Rattle.basic_laws.specs.LaidOut.{before_take}
use Rattle.basic_laws.specs.Placed.{get_d_any}
use Rattle.statements.specs.StoreWords.{Part, Heads, Xmin, Xmax, Next, Values, RowLocks, Postings, StripeGuards, PartitionGuards, Stamps, Active, Clock}
use Rattle.statements.specs.StoreWords.{Poisoned, Doomed, Bound, Kept}
use Rattle.statements.specs.CallWords.{ZeroWrite, ZeroRead, ZeroIndexRead, Zero, Smallest, Begins}
use Rattle.sentences.specs.CallsSay.{zero_behind, none_at_all, zero_write_law, zero_read_law, zero_index_read_law}
use Rattle.basic_laws.specs.Places.{Rising, is_rising, from_zero}
use Rattle.admitted_laws.specs.Repairable.{ActiveForm}
use Rattle.recovery_laws.specs.Sizes.{sized_all}
use Rattle.admitted_laws.specs.Resting.{Rests, rests, rested}
use Rattle.sentences.specs.Refusals.{begin_accepted}
use Rattle.call_laws.specs.Passed.{begin_passed}
use Rattle.recovery_laws.specs.Carried.{listed_rest}
use Rattle.recovery_laws.specs.Unfinished.{finished_same}
use Rattle.call_laws.specs.ActiveList.{mem_active, unfinished_below, form_pad, ended_below}
use Rattle.call_laws.specs.Keeps.{Keeps}

-- a list with one number more
pub mem_more : (l : List ℕ) (c t : ℕ) → memb t (l ++ c ∷ []) ≡ (memb t l || eqb t c)
mem_more l c t = mem_append l (c ∷ []) t ∙ rw (or_none (eqb t c))

-- it rises still, if the number is the largest
rising_more : (lo : ℕ) (l : List ℕ) (c : ℕ) → lo ≤ c → Rising lo l → ((t : ℕ) → memb t l ≡ true → t < c) → Rising lo (l ++ c ∷ [])
rising_more lo [] c le r h = (le, tt)
rising_more lo (x ∷ l) c le r h = (r.0, rising_more (suc x) l c (h x (mem_here x l)) r.1 (λ t m. h t (mem_there t x l m)))

-- the first of a rising list is the smallest
smallest : (l : List ℕ) (t : ℕ) → Rising 1 l → ((u : ℕ) → memb u l ≡ true → u < t) → Smallest l t (get_or l 0 t)
smallest [] t r h = record { either = eq-eqb t t refl; least = λ u m. clash {b = false} m refl; within = omega arith }
smallest (x ∷ l) t r h = record {
  either = rw (mem_here x l);
  least =
      λ u m. or_true (eqb u x) (memb u l) m (λ e. omega (arith, eqb-true u x e)) (λ e. omega (arith, rising_from (suc x) l u (is_rising (suc x) l r.1) e));
  within = omega (arith, h x (mem_here x l));
}

-- the store with its clock entered and risen
abbrev entered : Store → Store
entered S = apply_all (put_enter S.clock ∷ put_clock (suc S.clock) ∷ []) S

-- what is known where begin is accepted
module _ (S : Store) (L : ℕ → List ℕ) (z : Sized S) (R : Rests S L) (few : length (active_txids S.active) < active_limit) where
  abbrev acts : List ℕ
  acts = active_txids S.active

  abbrev clock : ℕ
  clock = S.clock

  -- with the clock at its end the list still rises, and fits
  climbs : Rising 1 (acts ++ clock ∷ [])
  climbs = rising_more 1 acts clock R.mends.started R.mends.listed.climb R.mends.listed.past

  short : length (acts ++ clock ∷ []) ≤ active_limit
  short = rw (length-append acts (clock ∷ [])) (omega arith)

  -- the active txids are the earlier ones and the new one
  listed : active_txids (entered S).active ≡ acts ++ clock ∷ []
  listed = active_of (acts ++ clock ∷ []) short (is_rising 1 (acts ++ clock ∷ []) climbs)

  -- the active list is in its form
  form : ActiveForm (entered S).active (suc clock)
  form = form_pad (acts ++ clock ∷ []) (suc clock) short climbs
      (λ t m. or_true (memb t acts) (eqb t clock) (sym (mem_more acts clock t) ∙ m) (λ k. omega (arith, R.mends.listed.past t k))
      (λ k. omega (arith, eqb-true t clock k)))

  -- a txid below the clock is as finished as before
  finished_near : (t : ℕ) → t < clock → finished (entered S).active S.doomed t ≡ finished S.active S.doomed t
  finished_near t lt = finished_same (entered S).active S.active S.doomed t (λ n.
      mem_active (entered S).active (suc clock) form t n ∙ ap (memb t) listed ∙ mem_more acts clock t
      ∙ rw (ne_eqb t clock (λ e. omega (arith, e, lt))) (or_none (memb t acts) ∙ sym (mem_active S.active clock R.mends.listed t n)))

  -- the store rests with the same chains
  begin_rests : Rests (entered S) L
  begin_rests =
      let M = R.mends in
      let f = finished S.active S.doomed in
      let low : (v : ℕ) → f v ≡ false → v < clock = λ v n. unfinished_below S.active clock M.listed S.doomed v M.doom n in
      listed_rest S L (entered S).active (suc clock) (record {
        form = form;
        later = omega arith;
        creator = λ r x lt m. finished_near (get_or S.xmin x 0) (M.below x);
        ender = λ r x lt m. finished_near (get_or S.xmax x 0)
            (ended_below S.xmin S.xmax f clock M.below low M.started (L r) (M.stands.versions r lt) x m);
        off = λ p u o. finished_near (get_or S.xmin p 0) (M.below p);
      }) R

  -- the new transaction is fit: its lists are empty, its snapshot the earlier active list
  begin_fits : fit (entered S) (begun S) ≡ true
  unfolding begun zero_tx only_txid counts_fit
  begin_fits = parts_fit (entered S) (begun S) (record {
    counts =
        cons_every _ _ refl
        (cons_every _ _ refl
        (cons_every _ _ refl
        (cons_every _ _ (le-leb (length acts) active_limit (omega arith))
        (cons_every _ _ refl
        (cons_every _ _ refl
        (cons_every _ _ refl
        (cons_every _ _ refl (cons_every _ _ (from_zero (length acts) S.active R.mends.listed.after) (cons_every _ _ refl every_none)))))))));
    reads = refl;
    writes = refl;
    apart = refl;
    stripes = refl;
    savepoints = refl;
    within = refl;
    snapshot = le-leb (get_or acts 0 clock) clock (smallest acts clock R.mends.listed.climb R.mends.listed.past).within;
    present = le-leb clock (suc clock) (omega arith);
  })

-- an accepted begin does so
pub begin_begins : (S : Store) → Sized S → number_of (begin S).refusal ≡ 0 → Begins S (begin S)
unfolding begun zero_tx only_txid
begin_begins S z h =
    let P = begin_passed S h in
    let acts = active_txids S.active in
    let R = rests S z P.rests in
    let F = R.1.mends.listed in
    rw (begin_accepted S h) (record {
      txid = refl;
      fresh = by (memb S.clock acts) (λ m. absurd (omega (arith, F.past S.clock m))) (λ e. e);
      latest = refl;
      earliest = smallest acts S.clock F.climb F.past;
      snapshot = sym (before_take S.active);
      behind = record { long = z.active; zero = λ d i le lt. get_d_any S.active i d 0 (omega (arith, z.active)) ∙ F.after i le };
      writes = none_at_all no_write ZeroWrite zero_write_law write_limit;
      reads = none_at_all no_read ZeroRead zero_read_law read_limit;
      index_reads = none_at_all no_index_read ZeroIndexRead zero_index_read_law index_read_limit;
      savepoints = none_at_all 0 Zero refl savepoint_limit;
      index_conflict = refl;
      active = listed S R.0 z R.1 P.few;
      after = rw one_more at (zero_behind 0 Zero refl active_limit (acts ++ S.clock ∷ []));
      risen = refl;
      else = λ part a b. entered_else part a b;
    })
  where
    one_more : length (active_txids S.active ++ S.clock ∷ []) ≡ suc (length (active_txids S.active))
    one_more = omega (arith, length-append (active_txids S.active) (S.clock ∷ []))

    entered_else : (part : Part) → part ≢ Active → part ≢ Clock → Kept S (entered S) part
    entered_else Heads a b = refl
    entered_else Xmin a b = refl
    entered_else Xmax a b = refl
    entered_else Next a b = refl
    entered_else Values a b = (refl, refl)
    entered_else RowLocks a b = (refl, refl)
    entered_else Postings a b = (refl, refl)
    entered_else StripeGuards a b = refl
    entered_else PartitionGuards a b = refl
    entered_else Stamps a b = refl
    entered_else Active a b = absurd (a refl)
    entered_else Clock a b = absurd (b refl)
    entered_else Poisoned a b = refl
    entered_else Doomed a b = refl
    entered_else Bound a b = refl

-- the store rests with the chains it has, and the new transaction is fit and active
module _ (S : Store) (z : Sized S) (h : number_of (begin S).refusal ≡ 0) where
  pub begin_chains : (L : ℕ → List ℕ) → Rests S L → Rests (begin S).store L
  begin_chains L R = rw (begin_accepted S h) (begin_rests S L z R (begin_passed S h).few)

  -- the transaction that it returns can go on
  pub begin_keeps : Keeps (begin S).store (begin S).tx
  unfolding begun zero_tx only_txid
  begin_keeps =
      let few = (begin_passed S h).few in
      let R = rests S z (begin_passed S h).rests in
      let acts = active_txids S.active in
      let Z = sized_all (put_enter S.clock ∷ put_clock (suc S.clock) ∷ []) S z in
      rw (begin_accepted S h) (record {
        sized = Z;
        shaped = record { snapshot = z.active; writes = refl; reads = refl; index_reads = refl; savepoints = refl };
        rests = rested (entered S) R.0 Z (begin_rests S R.0 z R.1 few);
        fits = begin_fits S R.0 z R.1 few;
        active =
            rw (listed S R.0 z R.1 few, mem_more acts S.clock S.clock)
            (or_right (memb S.clock acts) (eqb S.clock S.clock) (eq-eqb S.clock S.clock refl));
      })

-- no txid is handed out twice: what a begin hands out is below what a later one does, with the clock not lowered in between
pub begin_later : (S T : Store) → Sized S → Sized T → number_of (begin S).refusal ≡ 0 → number_of (begin T).refusal ≡ 0
    → (begin S).store.clock ≤ T.clock → (begin S).tx.txid.0 < (begin T).tx.txid.0
begin_later S T z y h k le =
    let a = begin_begins S z h in
    let b = begin_begins T y k in
    omega (arith, a.txid, a.risen, b.txid)
