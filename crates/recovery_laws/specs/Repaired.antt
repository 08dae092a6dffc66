-- Recovery in words, row by row and slot by slot: what it removes, clears and frees, and that everything else stays.
use Rattle.std.specs.Prelude.{◌≡◌, refl, Bool, true, List, [], ◌∷◌, ◌≢◌, ◌↔◌, ℕ, zero, suc, ◌+◌, ◌<◌, length, get_or, set, eqb}
use Rattle.std.proofs.Common.{sym, subst, ◌∙◌, inr, arith, get_or-set_other, eqb-true, eq-eqb, ne_eqb}
use Rattle.std.proofs.Math.Bool.{false}
use Rattle.std.proofs.lemmas.List.{length-replicate}
use Rattle.std.proofs.Math.ListN.{get_or-map}
use Rattle.records.specs.Limits.{rows, places, posting_limit, stripes, partitions, active_limit}
use Rattle.records.specs.Relations.{rows_posted}
use Rattle.rules.specs.Lists.{memb, keep, pad}
use Rattle.rules.specs.Types.{Store, Done, NotRepairable, Open}
use Rattle.rules.specs.Store.{posting}
use Rattle.rules.specs.Chains.{on}
use Rattle.rules.specs.Admitted.{finished, head_postings, repairable}
use Rattle.rules.specs.Recovery.{trim_head, clear, recovered, recover}
use Rattle.basic_laws.specs.Cases.{by, clash, or_true, or_right, mem_there}
use Rattle.basic_laws.specs.Members.{at_mem, mem_at}
use Rattle.basic_laws.specs.Rising.{mem_into}
use Rattle.basic_laws.specs.HeadPostings.{heads_rising, heads_length}
use Rattle.basic_laws.specs.Chain.{IsChain, chain_head, chain_below}
use Rattle.basic_laws.specs.Placed.{packed_of}
use Rattle.statements.specs.Sized.{Sized}
use Rattle.statements.specs.StoreWords.{Packed}
use Rattle.statements.specs.CallWords.{UnfinishedIn, Reached, head, along, HeadPosting, Repaired}
use Rattle.sentences.specs.AdmittedSays.{finished_says}
use Rattle.admitted_laws.specs.Repairable.{Mends, mends}
use Rattle.recovery_laws.specs.ArraysKept.{keep_on, keep_off, blanks, clear_other, clear_here}
use Rattle.recovery_laws.specs.Recovering.{hs, N, seen, heads_long, chains, chained, found_same}

-- a txid that isn't unfinished is finished
else_finished : (S : Store) (t : ℕ) → (UnfinishedIn S t → ⊥) → finished S.active S.doomed t ≡ true
else_finished S t n = by (finished S.active S.doomed t) (λ e. e) (λ e. absurd (n ((finished_says S.active S.doomed t).0 e)))

-- a chain has the next of each of its slots
chain_next : (ns : List ℕ) (h : ℕ) (l : List ℕ) (p : ℕ) → IsChain ns h l → memb p l ≡ true → get_or ns p 0 ≢ 0 → memb (get_or ns p 0) l ≡ true
chain_next ns h [] p c m n = clash {b = false} m refl
chain_next ns h (x ∷ l) p c m n = or_true (eqb p x) (memb p l) m
    (λ e. let q = eqb-true p x e in
    subst (λ y. memb (get_or ns y 0) (x ∷ l) ≡ true) (sym q) (mem_there (get_or ns x 0) x l (chain_head ns (get_or ns x 0) l c.3 (λ k. n (rw q k)))))
    (λ e. mem_there (get_or ns p 0) x l (chain_next ns (get_or ns x 0) l p c.3 e n))

-- and each of its slots is reached, if its first is
chain_reached : (heads ns : List ℕ) (h : ℕ) (l : List ℕ) (p : ℕ) → IsChain ns h l → (h ≢ 0 → Reached heads ns h) → memb p l ≡ true → Reached heads ns p
chain_reached heads ns h [] p c r m = clash {b = false} m refl
chain_reached heads ns h (x ∷ l) p c r m =
    let here : Reached heads ns x = rw c.0 at (r (λ e. omega (arith, e, c.0, c.1))) in
    or_true (eqb p x) (memb p l) m
    (λ e. rw (eqb-true p x e) here)
    (λ e. chain_reached heads ns (get_or ns x 0) l p c.3 (λ n. along x here n) e)

-- a finished xmax is left alone
clear_kept : (f : ℕ → Bool) (hs xmax : List ℕ) (x : ℕ) → f (get_or xmax x 0) ≡ true → get_or (clear f hs xmax) x 0 ≡ get_or xmax x 0
clear_kept f [] xmax x e = refl
clear_kept f (h ∷ hs) xmax x e = by (f (get_or xmax h 0))
    (λ k. rw k (clear_kept f hs xmax x e))
    (λ k. let o : get_or (set xmax h 0) x 0 ≡ get_or xmax x 0 = get_or-set_other xmax h x 0 0 (λ q. clash e (rw q k)) in
    rw k (clear_kept f hs (set xmax h 0) x (rw o e) ∙ o))

-- the postings of the heads from row r on: those of the heads with a value
module _ (key : List ℕ) (has : List Bool) where
  abbrev At : ℕ → List ℕ → ℕ → Type 0
  At r hs c = (i : ℕ) × (i < length hs) × (get_or has (get_or hs i 0) false ≡ true) × (c ≡ posting (get_or key (get_or hs i 0) 0) (r + i))

  posted_at : (r : ℕ) (hs : List ℕ) (c : ℕ) → memb c (head_postings key has r hs) ≡ true → At r hs c
  posted_at r [] c m = clash {b = false} m refl
  posted_at r (h ∷ hs) c m = by (get_or has h false)
      (λ e. or_true (eqb c (posting (get_or key h 0) r)) (memb c (head_postings key has (suc r) hs))
      (sym (mem_into (posting (get_or key h 0) r) (head_postings key has (suc r) hs) c) ∙ (rw e at m))
      (λ k. (zero, omega arith, e, omega (arith, eqb-true c (posting (get_or key h 0) r) k)))
      (λ k. more (posted_at (suc r) hs c k)))
      (λ e. more (posted_at (suc r) hs c (rw e at m)))
    where
      more : At (suc r) hs c → At r (h ∷ hs) c
      more a = (suc a.0, omega (arith, a.1), a.2, omega (arith, a.3))

  at_posted : (r : ℕ) (hs : List ℕ) (c : ℕ) → At r hs c → memb c (head_postings key has r hs) ≡ true
  at_posted r [] c a = absurd (omega (arith, a.1))
  at_posted r (h ∷ hs) c (zero, lt, e, q) =
      let k : c ≡ posting (get_or key h 0) r = omega arith in
      rw (e, mem_into (posting (get_or key h 0) r) (head_postings key has (suc r) hs) c, eq-eqb c (posting (get_or key h 0) r) k)
  at_posted r (h ∷ hs) c (suc i, lt, e, q) =
      let m = at_posted (suc r) hs c (i, omega arith, e, omega arith) in
      by (get_or has h false)
      (λ k. rw (k, mem_into (posting (get_or key h 0) r) (head_postings key has (suc r) hs) c)
      (or_right (eqb c (posting (get_or key h 0) r)) (memb c (head_postings key has (suc r) hs)) m))
      (λ k. rw k m)

module _ (S : Store) (z : Sized S) (h : repairable S ≡ true) where
  -- the chains of the rows
  abbrev L : ℕ → List ℕ
  L = (mends S z h).0

  abbrev M : Mends S L
  M = (mends S z h).1

  abbrev fin : ℕ → Bool
  fin = finished S.active S.doomed

  -- heads and marks once unfinished first versions are gone
  abbrev heads : List ℕ
  heads = hs S L z M

  abbrev marks : List ℕ
  marks = seen S L z M

  long : length heads ≡ rows
  long = heads_long S L z M ∙ z.heads

  -- the marks are what is reached
  reached_on : (p : ℕ) → Reached heads S.next p → on marks p ≡ true
  reached_on _ (head r lt n) =
      (chained S L z M).marked r (get_or heads r 0) lt (chain_head S.next (get_or heads r 0) (N S L z M r) ((chains S L z M).chain r lt) n)
  reached_on _ (along p q n) =
      let g = (chained S L z M).found p (reached_on p q) in
      (chained S L z M).marked g.0 (get_or S.next p 0) g.1
      (chain_next S.next (get_or heads g.0 0) (N S L z M g.0) p ((chains S L z M).chain g.0 g.1) g.2 n)

  on_reached : (p : ℕ) → on marks p ≡ true → Reached heads S.next p
  on_reached p e =
      let g = (chained S L z M).found p e in
      chain_reached heads S.next (get_or heads g.0 0) (N S L z M g.0) p ((chains S L z M).chain g.0 g.1) (λ n. head g.0 g.1 n) g.2

  off : (p : ℕ) → (Reached heads S.next p → ⊥) → on marks p ≡ false
  off p n = by (on marks p) (λ e. absurd (n (on_reached p e))) (λ e. e)

  -- heads
  at : (r : ℕ) → get_or heads r 0 ≡ trim_head fin S.xmin S.next (get_or S.heads r 0)
  at r = get_or-map (trim_head fin S.xmin S.next) S.heads r 0

  first_removed : (r : ℕ) → get_or S.heads r 0 ≢ 0 → fin (get_or S.xmin (get_or S.heads r 0) 0) ≡ false
      → get_or heads r 0 ≡ get_or S.next (get_or S.heads r 0) 0
  first_removed r n e = at r ∙ rw (ne_eqb (get_or S.heads r 0) 0 n, e)

  head_stays : (r : ℕ) → fin (get_or S.xmin (get_or S.heads r 0) 0) ≡ true → get_or heads r 0 ≡ get_or S.heads r 0
  head_stays r e = at r ∙ by (eqb (get_or S.heads r 0) 0)
      (λ k. rw k (sym (eqb-true (get_or S.heads r 0) 0 k)))
      (λ k. rw (k, e))

  -- a head of a row is among the heads, and back
  is_head : (p r : ℕ) → r < rows → get_or heads r 0 ≡ p → memb p heads ≡ true
  is_head p r lt e = rw e at (at_mem heads r (omega (arith, long)))

  below : (p : ℕ) → on marks p ≡ true → p < length S.xmax
  below p e =
      let g = (chained S L z M).found p e in
      omega (arith, (chain_below S.next (get_or heads g.0 0) (N S L z M g.0) p ((chains S L z M).chain g.0 g.1) g.2).1, z.next, z.xmax)

  -- an xmax that is no head's, or finished, stays
  xmax_same : (p : ℕ) → (((r : ℕ) × (r < rows) × (get_or heads r 0 ≡ p)) → UnfinishedIn S (get_or S.xmax p 0) → ⊥)
      → get_or (clear fin heads S.xmax) p 0 ≡ get_or S.xmax p 0
  xmax_same p n = by (memb p heads)
      (λ m. let k = mem_at heads p m in
      clear_kept fin heads S.xmax p (else_finished S (get_or S.xmax p 0) (n (k.0, omega (arith, k.1, long), k.2))))
      (λ m. clear_other fin heads S.xmax p m)

  -- the postings, packed
  abbrev key' : List ℕ
  key' = keep 0 marks S.key

  abbrev has' : List Bool
  has' = keep false marks S.has

  found_packed : (In : ℕ → Type 0) → ((c : ℕ) → In c ↔ At key' has' 0 heads c)
      → Packed (pad posting_limit 0 (head_postings S.key S.has 0 heads)) (length (head_postings S.key S.has 0 heads)) In
  found_packed In h =
      let l = head_postings S.key S.has 0 heads in
      packed_of posting_limit 0 l In (omega (arith, heads_length S.key S.has 0 heads, long, rows_posted)) (heads_rising S.key S.has 0 heads) (λ c. (
        λ i. rw (found_same S L z M) at (at_posted key' has' 0 heads c ((h c).0 i)),
        λ m. (h c).1 (posted_at key' has' 0 heads c (rw (found_same S L z M) m)),
      ))

  -- "Recovery takes any repairable store: it removes an unfinished first version, .."
  pub recovery_repairs : Repaired S (recovered S)
  unfolding recovered
  recovery_repairs = record {
    removed = λ r lt n u. first_removed r n ((finished_says S.active S.doomed _).1 u);
    stays = λ r lt n. head_stays r (else_finished S _ n);
    xmin = λ p q. keep_on 0 marks S.xmin p (reached_on p q);
    next = λ p q. keep_on 0 marks S.next p (reached_on p q);
    key = λ p q. keep_on 0 marks S.key p (reached_on p q);
    has = λ p q. keep_on false marks S.has p (reached_on p q);
    cleared = λ p q h u.
        keep_on 0 marks (clear fin heads S.xmax) p (reached_on p q)
        ∙ clear_here fin heads S.xmax p (is_head p h.0 h.1 h.2) (below p (reached_on p q)) (inr ((finished_says S.active S.doomed _).1 u));
    marked = λ p q n. keep_on 0 marks (clear fin heads S.xmax) p (reached_on p q) ∙ xmax_same p n;
    freed = λ p n. let o = off p n in record {
      xmin = keep_off 0 marks S.xmin p o;
      xmax = keep_off 0 marks (clear fin heads S.xmax) p o;
      next = keep_off 0 marks S.next p o;
      key = keep_off 0 marks S.key p o;
      has = keep_off false marks S.has p o;
      locked = blanks false places p;
      owner = blanks 0 places p;
    };
    postings = found_packed (HeadPosting (recovered S)) (λ c. (
      λ h. (h.0, omega (arith, h.1, long), h.2, omega (arith, h.3)),
      λ h. (h.0, omega (arith, h.1, long), h.2, omega (arith, h.3)),
    ));
    stripe_guards = (length-replicate {A = ℕ} stripes 0, blanks 0 stripes);
    partition_guards = (length-replicate {A = ℕ} partitions 0, blanks 0 partitions);
    unlocked = blanks false places;
    unowned = blanks 0 places;
    active = (length-replicate {A = ℕ} active_limit 0, blanks 0 active_limit);
    healthy = refl;
    undoomed = refl;
    clock = refl;
    stamps = refl;
    bound = refl;
  }

-- the call: 20 where the store is not repairable, which then is as it was
pub recover_says : (S : Store) → Sized S
    → (repairable S ≡ true → ((recover S).refusal ≡ Done) × Repaired S (recover S).store)
    × (repairable S ≡ false → ((recover S).refusal ≡ NotRepairable Open) × ((recover S).store ≡ S))
unfolding recover
recover_says S z = (λ e. rw e (refl, recovery_repairs S z e), λ e. rw e (refl, refl))
