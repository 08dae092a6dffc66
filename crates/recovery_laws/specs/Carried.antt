-- Repairable and resting carried across a change of one part: of slots off the chains; of the active list and the clock. (Guards, postings, stamps and
-- poison count for nothing in repairable: Calm.)
use Rattle.std.specs.Prelude.{◌≡◌, Bool, true, false, List, [], ◌∷◌, ℕ, zero, suc, ◌≤◌, ◌<◌, length, get_or, eqb}
use Rattle.std.proofs.Math.Path.{refl, sym}
use Rattle.std.proofs.Common.{◌∙◌, arith, eqb-true}
use Rattle.std.proofs.lemmas.Bool.{eqb-false}
use Rattle.records.specs.Setters.{slotted, relisted}
use Rattle.rules.specs.Lists.{memb}
use Rattle.rules.specs.Types.{Store}
use Rattle.rules.specs.Store.{postings_of}
use Rattle.rules.specs.Admitted.{finished, head_postings}
use Rattle.basic_laws.specs.Cases.{by, clash, or_true}
use Rattle.basic_laws.specs.Chain.{chain_head, chain_near}
use Rattle.posting_laws.specs.KeepsExact.{heads_same}
use Rattle.admitted_laws.specs.Repairable.{SlotForm, ActiveForm, Off, OffForm, Mends}
use Rattle.admitted_laws.specs.Resting.{PostingForm, Rests}
use Rattle.recovery_laws.specs.Versions.{good_cong, good_fin}

-- a member of a list stands at a place
at_place : (p : ℕ) (l : List ℕ) → memb p l ≡ true → (r : ℕ) × (r < length l) × (get_or l r 0 ≡ p)
at_place p [] m = clash {b = false} m refl
at_place p (x ∷ l) m = or_true (eqb p x) (memb p l) m
    (λ e. (zero, omega arith, sym (eqb-true p x e)))
    (λ e. let w = at_place p l e in (suc w.0, omega (arith, w.1), w.2))

-- place 0 is no slot, and blank
first_blank : {xmin xmax next key : List ℕ} {has locked : List Bool} {owner : List ℕ} → SlotForm xmin xmax next key has locked owner
    → (get_or has 0 false ≡ false) × (get_or key 0 0 ≡ 0)
first_blank F = let e = (F.free 0 F.first).empty in (e, F.absent 0 e)

-- a version that is in T as in S
pub record SameVersion (S T : Store) (x : ℕ) : Type 0 where
  pub xmin : get_or T.xmin x 0 ≡ get_or S.xmin x 0
  pub xmax : get_or T.xmax x 0 ≡ get_or S.xmax x 0
  pub next : get_or T.next x 0 ≡ get_or S.next x 0
  pub key : get_or T.key x 0 ≡ get_or S.key x 0
  pub has : get_or T.has x false ≡ get_or S.has x false

-- every slot on a chain is such
abbrev pub OnChains : Store → (ℕ → List ℕ) → (ℕ → Type 0) → Type 0
OnChains S L P = (r x : ℕ) → r < length S.heads → memb x (L r) ≡ true → P x

-- postings stay in their form where they are the same
posted_same : (S T : Store) → T.postings ≡ S.postings → T.posting_count ≡ S.posting_count → PostingForm S → PostingForm T
unfolding postings_of
posted_same S T a n P = record {
  few = rw n P.few;
  climb = rw (a, n) P.climb;
  keys = λ c m. P.keys c (rw (a, n) at m);
  after = λ i le. rw a (P.after i (rw n at le));
}

-- slots changed off the chains
module _ (S : Store) (L : ℕ → List ℕ) (xmin xmax next key : List ℕ) (has locked : List Bool) (owner : List ℕ) where
  abbrev T : Store
  T = slotted xmin xmax next key has locked owner S

  -- versions on chains are kept, and the slots are what a repairable store's are
  pub record SlotsAside : Type 0 where
    pub kept : OnChains S L (SameVersion S T)
    pub long : length next ≡ length S.next
    pub form : SlotForm xmin xmax next key has locked owner
    pub below : (p : ℕ) → get_or xmin p 0 < S.clock
    pub off : (p : ℕ) → 0 < get_or xmin p 0 → Off S.heads L p → OffForm xmin xmax next (finished S.active S.doomed) p

  module _ (A : SlotsAside) where
    pub slots_mend : Mends S L → Mends T L
    slots_mend M =
        let C = M.stands.chains in
        record {
          started = M.started;
          slots = A.form;
          listed = M.listed;
          below = A.below;
          doom = M.doom;
          stands = record {
            chains = record {
              chain = λ r lt. chain_near S.next next (get_or S.heads r 0) (L r) A.long (λ x m. (A.kept r x lt m).next) (C.chain r lt);
              apart = C.apart;
            };
            led = λ r x lt m. rw (A.kept r x lt m).xmin (M.stands.led r x lt m);
            versions = λ r lt. good_cong S.xmin S.xmax xmin xmax (finished S.active S.doomed) (L r)
                (λ x m. (A.kept r x lt m).xmin) (λ x m. (A.kept r x lt m).xmax) (M.stands.versions r lt);
            off = A.off;
          };
        }

    -- a head is 0 or on its chain, so the heads' postings are the same
    found_same : Mends S L → head_postings key has 0 S.heads ≡ head_postings S.key S.has 0 S.heads
    found_same M = heads_same S.key key S.has has 0 S.heads (λ p m. by (eqb p 0)
        (λ e. let a = first_blank A.form in let b = first_blank M.slots in rw (eqb-true p 0 e) (a.0 ∙ sym b.0, a.1 ∙ sym b.1))
        (λ e. let w = at_place p S.heads m in
        let r = w.0 in
        let k = A.kept r p w.1 (chain_head S.next p (L r) (rw w.2 at (M.stands.chains.chain r w.1)) (eqb-false p 0 e)) in
        (k.has, k.key)))

    pub slots_rest : Rests S L → Rests T L
    unfolding postings_of
    slots_rest R = record {
      mends = slots_mend R.mends;
      stripes = R.stripes;
      partitions = R.partitions;
      posted = posted_same S T refl refl R.posted;
      created = λ r x lt m n. let e = (A.kept r x lt m).xmin in e ∙ R.created r x lt m (rw e at n);
      ended = λ r x lt m n. let e = (A.kept r x lt m).xmax in e ∙ R.ended r x lt m (rw e at n);
      undoomed = R.undoomed;
      exact = λ n. R.exact n ∙ sym (found_same R.mends);
    }

-- another active list, and a later clock
module _ (S : Store) (L : ℕ → List ℕ) (active : List ℕ) (clock : ℕ) where
  abbrev f : ℕ → Bool
  f = finished S.active S.doomed

  abbrev g : ℕ → Bool
  g = finished active S.doomed

  -- the list is in its form, and every txid of a slot is as finished as before
  pub record ListedAside : Type 0 where
    pub form : ActiveForm active clock
    pub later : S.clock ≤ clock
    pub creator : OnChains S L (λ x. g (get_or S.xmin x 0) ≡ f (get_or S.xmin x 0))
    pub ender : OnChains S L (λ x. g (get_or S.xmax x 0) ≡ f (get_or S.xmax x 0))
    pub off : (p : ℕ) → 0 < get_or S.xmin p 0 → Off S.heads L p → g (get_or S.xmin p 0) ≡ f (get_or S.xmin p 0)

  module _ (A : ListedAside) where
    listed_mend : Mends S L → Mends (relisted active clock S) L
    listed_mend M = record {
      started = omega (arith, M.started, A.later);
      slots = M.slots;
      listed = A.form;
      below = λ p. omega (arith, M.below p, A.later);
      doom = omega (arith, M.doom, A.later);
      stands = record {
        chains = M.stands.chains;
        led = M.stands.led;
        versions = λ r lt. good_fin S.xmin S.xmax f g (L r) (λ x m. A.creator r x lt m) (λ x m. A.ender r x lt m) (M.stands.versions r lt);
        off = λ p u o. let O = M.stands.off p u o in record { unfinished = A.off p u o ∙ O.unfinished; unmarked = O.unmarked; within = O.within };
      };
    }

    pub listed_rest : Rests S L → Rests (relisted active clock S) L
    unfolding postings_of
    listed_rest R = record {
      mends = listed_mend R.mends;
      stripes = R.stripes;
      partitions = R.partitions;
      posted = posted_same S (relisted active clock S) refl refl R.posted;
      created = λ r x lt m n. R.created r x lt m (sym (A.creator r x lt m) ∙ n);
      ended = λ r x lt m n. R.ended r x lt m (sym (A.ender r x lt m) ∙ n);
      undoomed = R.undoomed;
      exact = R.exact;
    }
