-- Theorem R: recovery of any repairable store.
use Rattle.std.specs.Prelude.{◌≡◌, refl, Bool, true, ℕ, ◌<◌, eqb}
use Rattle.std.proofs.Math.Path.{sym, ap}
use Rattle.std.proofs.Common.{◌∙◌, inl, arith, eqb-true}
use Rattle.std.proofs.Math.Bool.{false}
use mathlib.Core.List.{List, [], ◌∷◌, map}
use Rattle.std.proofs.Math.ListN.{length, get_or, replicate, length-replicate, get_or-map}
use Rattle.std.proofs.lemmas.List.{length-map}
use Rattle.std.proofs.lemmas.Bool.{eqb-false}
use Rattle.records.specs.Limits.{places, posting_limit, stripes, partitions, active_limit}
use Rattle.records.specs.Relations.{rows_posted}
use Rattle.rules.specs.Lists.{all, memb, keep, pad}
use Rattle.rules.specs.Types.{Store}
use Rattle.rules.specs.Store.{value_at, postings_of}
use Rattle.rules.specs.Chains.{walk, on}
use Rattle.rules.specs.Admitted.{finished, head_postings, repairable}
use Rattle.rules.specs.Recovery.{trim_head, clear, recovered}
use Rattle.basic_laws.specs.Cases.{by, clash, iff, mem_here, mem_there}
use Rattle.basic_laws.specs.LaidOut.{pad_length, take_pad}
use Rattle.basic_laws.specs.HeadPostings.{heads_length}
use Rattle.posting_laws.specs.KeepsExact.{heads_same}
use Rattle.posting_laws.specs.Rebuilt.{recovered_indexed}
use Rattle.basic_laws.specs.Members.{at_mem, mem_at}
use Rattle.basic_laws.specs.Chain.{IsChain, chain_below, chain_once, chain_head}
use Rattle.basic_laws.specs.Chained.{Chains, Chained, walk_complete}
use Rattle.basic_laws.specs.Check.{Tail, plain}
use Rattle.statements.specs.Sized.{Sized, Keyed}
use Rattle.admitted_laws.specs.Repairable.{Mends, Off, slots_form, mends, marks}
use Rattle.admitted_laws.specs.Resting.{Rests, form_postings, rested}
use Rattle.statements.specs.Words.{Recovered, shown}
use Rattle.recovery_laws.specs.Shown.{shown_is}
use Rattle.recovery_laws.specs.Versions.{tail_cong, trim, trim_tail, trim_mem, trim_chain, first_trim, chain_starts}
use Rattle.recovery_laws.specs.ArraysKept.{keep_on, keep_off, keep_length, keep_again, blanks}
use Rattle.recovery_laws.specs.ArraysKept.{chain_keep, clear_length, clear_other, clear_here, clear_none}

-- with no active txid and none doomed all are finished
all_finished : (u : ℕ) → finished (replicate active_limit 0) 0 u ≡ true
unfolding finished
all_finished u = by (eqb u 0) (λ e. rw e) (λ e. rw e)

module _ (S : Store) (L : ℕ → List ℕ) (z : Sized S) (M : Mends S L) where
  abbrev pub f : ℕ → Bool
  f = finished S.active S.doomed

  -- heads, chains and marks once unfinished first versions are gone
  abbrev pub hs : List ℕ
  hs = map (trim_head f S.xmin S.next) S.heads

  abbrev pub N : ℕ → List ℕ
  N r = trim f S.xmin (L r)

  abbrev pub seen : List ℕ
  seen = (walk hs S.next).seen

  pub heads_long : length hs ≡ length S.heads
  heads_long = length-map S.heads (trim_head f S.xmin S.next)

  pub chains : Chains hs S.next N
  chains = record {
    chain =
        λ r lt. rw (get_or-map (trim_head f S.xmin S.next) S.heads r 0)
        (trim_chain f S.xmin S.next (get_or S.heads r 0) (L r) (M.stands.chains.chain r (rw heads_long at lt)));
    apart =
        λ r q x lr lq mr mq.
        M.stands.chains.apart r q x (rw heads_long at lr) (rw heads_long at lq) (trim_mem f S.xmin (L r) x mr) (trim_mem f S.xmin (L q) x mq);
  }

  pub chained : Chained hs S.next seen N
  chained = (walk_complete hs S.next N z.next chains).1

  unmarked : (x : ℕ) → Off hs N x → on seen x ≡ false
  unmarked x o = by (on seen x) (λ e. let g = chained.found x e in clash g.2 (o g.0 g.1)) (λ e. e)

  -- a marked slot is used
  marked_used : (x : ℕ) → on seen x ≡ true → 0 < get_or S.xmin x 0
  marked_used x e = let g = chained.found x e in M.stands.led g.0 x (rw heads_long at g.1) (trim_mem f S.xmin (L g.0) x g.2)

  pub zero_off : on seen 0 ≡ false
  zero_off = by (on seen 0) (λ e. absurd (omega (arith, marked_used 0 e, M.slots.first))) (λ e. e)

  -- a slot past a chain's first is no head
  past : (r x y : ℕ) (l : List ℕ) → r < length hs → N r ≡ x ∷ l → memb y l ≡ true → memb y hs ≡ false
  past r x y l lt e m = by (memb y hs)
      (λ k.
      let a = mem_at hs y k in
      let c : IsChain S.next (get_or hs r 0) (x ∷ l) = rw e at (chains.chain r lt) in
      let here : memb y (N r) ≡ true = rw e (mem_there y x l m) in
      let pos = (chain_below S.next (get_or hs r 0) (N r) y (chains.chain r lt) here).0 in
      let there : memb y (N a.0) ≡ true = chain_head S.next y (N a.0) (rw a.2 at (chains.chain a.0 a.1)) (λ q. omega arith) in
      let row : r ≡ a.0 = chains.apart r a.0 y lt a.1 here there in
      let xy : x ≡ y = sym c.0 ∙ ap (λ (q : ℕ). get_or hs q 0) row ∙ a.2 in
      clash (rw (← xy) at m) (chain_once S.next (get_or hs r 0) x l c))
      (λ k. k)

  tail_of : (g : ℕ → Bool) → ((u : ℕ) → g u ≡ true) → (r : ℕ) → r < length hs → (m : List ℕ) → N r ≡ m
      → Tail (keep 0 seen S.xmin) (keep 0 seen (clear f hs S.xmax)) g 0 m
  tail_of g all r lt [] e = tt
  tail_of g all r lt (x ∷ l) e =
      let t = trim_tail S.xmin S.xmax f (L r) (M.stands.versions r (rw heads_long at lt)) in
      let T : Tail S.xmin S.xmax f t.0 (x ∷ l) = rw e at t.2 in
      let c : IsChain S.next (get_or hs r 0) (x ∷ l) = rw e at (chains.chain r lt) in
      let is_on : (y : ℕ) → memb y (x ∷ l) ≡ true → on seen y ≡ true = λ y m. chained.marked r y lt (rw e m) in
      let low : x < length S.xmax = omega (arith, c.2, z.next, z.xmax) in
      let head : memb x hs ≡ true = rw c.0 at (at_mem hs r lt) in (
        all _,
        keep_on 0 seen (clear f hs S.xmax) x (is_on x (mem_here x l)) ∙ clear_here f hs S.xmax x head low (rw T.1 t.1),
        rw (keep_on 0 seen S.xmin x (is_on x (mem_here x l)))
            (tail_cong S.xmin S.xmax (keep 0 seen S.xmin) (keep 0 seen (clear f hs S.xmax)) f g (get_or S.xmin x 0) l
            (λ y m. keep_on 0 seen S.xmin y (is_on y (mem_there y x l m)))
            (λ y m. keep_on 0 seen (clear f hs S.xmax) y (is_on y (mem_there y x l m)) ∙ clear_other f hs S.xmax y (past r x y l lt e m))
            (λ y m k. all _) T.2),
      )

  -- heads keep their values
  head_kept : (r : ℕ) → r < length hs
      → (get_or (keep 0 seen S.key) (get_or hs r 0) 0 ≡ get_or S.key (get_or hs r 0) 0)
      × (get_or (keep false seen S.has) (get_or hs r 0) false ≡ get_or S.has (get_or hs r 0) false)
  head_kept r lt = by (eqb (get_or hs r 0) 0)
      (λ e. let none = (M.slots.free 0 M.slots.first).empty in
      rw (eqb-true (get_or hs r 0) 0 e) (keep_off 0 seen S.key 0 zero_off ∙ sym (M.slots.absent 0 none), keep_off false seen S.has 0 zero_off ∙ sym none))
      (λ e. let o = chained.marked r (get_or hs r 0) lt (chain_head S.next (get_or hs r 0) (N r) (chains.chain r lt) (eqb-false (get_or hs r 0) 0 e)) in
      (keep_on 0 seen S.key (get_or hs r 0) o, keep_on false seen S.has (get_or hs r 0) o))

  pub sized : Sized (recovered S)
  unfolding recovered
  sized = record {
    heads = heads_long ∙ z.heads;
    xmin = keep_length 0 seen S.xmin ∙ z.xmin;
    xmax = keep_length 0 seen (clear f hs S.xmax) ∙ clear_length f hs S.xmax ∙ z.xmax;
    next = keep_length 0 seen S.next ∙ z.next;
    key = keep_length 0 seen S.key ∙ z.key;
    has = keep_length false seen S.has ∙ z.has;
    locked = length-replicate {A = Bool} places false;
    owner = length-replicate {A = ℕ} places 0;
    postings = pad_length posting_limit 0 (head_postings S.key S.has 0 hs);
    stripe_guards = length-replicate {A = ℕ} stripes 0;
    partition_guards = length-replicate {A = ℕ} partitions 0;
    stamps = z.stamps;
    active = length-replicate {A = ℕ} active_limit 0;
  }

  -- what recovery leaves is repairable
  pub recovered_mends : Mends (recovered S) N
  unfolding recovered
  recovered_mends = record {
    started = M.started;
    slots = record {
      first = keep_off 0 seen S.xmin 0 zero_off;
      free = λ p e. let o = free p e in record {
        unmarked = keep_off 0 seen (clear f hs S.xmax) p o;
        unlinked = keep_off 0 seen S.next p o;
        empty = keep_off false seen S.has p o;
        unlocked = blanks false places p;
        unowned = blanks 0 places p;
      };
      absent = λ p e. by (on seen p)
          (λ o. keep_on 0 seen S.key p o ∙ M.slots.absent p (sym (keep_on false seen S.has p o) ∙ e))
          (λ o. keep_off 0 seen S.key p o);
      minute = λ p u. by (on seen p)
          (λ o. rw (keep_on 0 seen S.key p o) (M.slots.minute p (rw (keep_on 0 seen S.xmin p o) at u)))
          (λ o. rw (keep_off 0 seen S.key p o) (omega arith));
    };
    listed = record { climb = tt; past = λ t m. clash {b = false} m refl; after = λ i le. blanks 0 active_limit i };
    below = λ p. by (on seen p)
        (λ o. rw (keep_on 0 seen S.xmin p o) (M.below p))
        (λ o. rw (keep_off 0 seen S.xmin p o) (omega (arith, M.started)));
    doom = omega (arith, M.started);
    stands = record {
      chains = record {
        chain = λ r lt. chain_keep seen S.next (get_or hs r 0) (N r) (λ x m. chained.marked r x lt m) (chains.chain r lt);
        apart = chains.apart;
      };
      led = λ r x lt m. rw (keep_on 0 seen S.xmin x (chained.marked r x lt m)) (marked_used x (chained.marked r x lt m));
      versions = λ r lt. plain 0 (inl refl) (tail_of (finished (replicate active_limit 0) 0) all_finished r lt (N r) refl);
      off = λ p u o. absurd (omega (arith, keep_off 0 seen S.xmin p (unmarked p o)));
    };
  }
    where
      free : (p : ℕ) → get_or (keep 0 seen S.xmin) p 0 ≡ 0 → on seen p ≡ false
      free p e = by (on seen p) (λ o. absurd (omega (arith, marked_used p o, keep_on 0 seen S.xmin p o))) (λ o. o)

  -- the postings found, taken back from their array
  pub found_back : postings_of (recovered S) ≡ head_postings S.key S.has 0 hs
  unfolding recovered postings_of
  found_back =
      take_pad posting_limit 0 (head_postings S.key S.has 0 hs) (omega (arith, heads_length S.key S.has 0 hs, heads_long, z.heads, rows_posted))

  -- they are the heads' of the new store
  pub found_same : head_postings (keep 0 seen S.key) (keep false seen S.has) 0 hs ≡ head_postings S.key S.has 0 hs
  found_same = heads_same S.key (keep 0 seen S.key) S.has (keep false seen S.has) 0 hs (λ h m.
      let q = mem_at hs h m in
      let k = head_kept q.0 q.1 in
      (rw q.2 at k.1, rw q.2 at k.0))

  recovered_rests : Keyed S → Rests (recovered S) N
  unfolding recovered
  recovered_rests k = record {
    mends = recovered_mends;
    stripes = blanks 0 stripes;
    partitions = blanks 0 partitions;
    posted = form_postings (recovered S) (recovered_indexed S (slots_form S z M.slots) (walk_complete hs S.next N z.next chains).0 z k).form;
    created = λ r x lt m n. clash (all_finished _) n;
    ended = λ r x lt m n. clash (all_finished _) n;
    undoomed = λ n. refl;
    exact = λ n. found_back ∙ sym found_same;
  }

  -- a row's head is its first finished version
  head_shown : (r : ℕ) → r < length hs → value_at (keep 0 seen S.key) (keep false seen S.has) (get_or hs r 0) ≡ shown S r
  head_shown r lt =
      let l = rw heads_long at lt in
      let v : value_at (keep 0 seen S.key) (keep false seen S.has) (get_or hs r 0) ≡ value_at S.key S.has (get_or hs r 0) =
      rw ((head_kept r lt).0, (head_kept r lt).1) in
      v ∙ ap (value_at S.key S.has)
      (chain_starts S.next (get_or hs r 0) (N r) (chains.chain r lt) ∙ sym (first_trim S.xmin S.xmax f (L r) (M.stands.versions r l)))
      ∙ sym (shown_is S L z M r l)

  recovers : Keyed S → Recovered S (recovered S)
  unfolding recovered
  recovers k = record {
    sized = sized;
    rests = rested (recovered S) N sized (recovered_rests k);
    healthy = refl;
    undoomed = refl;
    alone = refl;
    shows = λ r lt. head_shown r (omega (arith, heads_long, z.heads));
    exact = found_back ∙ sym found_same;
    packed = λ p u. by (on seen p)
        (λ e. let g = chained.found p e in (marks (recovered S) N sized recovered_mends).marked g.0 p g.1 g.2)
        (λ e. clash (rw (keep_off 0 seen S.xmin p e) at u) refl);
    unlocked = blanks false places;
    clock = refl;
    stamps = refl;
    bound = refl;
  }

  -- what recovery would do to its own result
  abbrev g : ℕ → Bool
  g = finished (replicate active_limit 0) 0

  abbrev hs' : List ℕ
  hs' = map (trim_head g (keep 0 seen S.xmin) (keep 0 seen S.next)) hs

  abbrev seen' : List ℕ
  seen' = (walk hs' (keep 0 seen S.next)).seen

  heads_stay : (l : List ℕ) → map (trim_head g (keep 0 seen S.xmin) (keep 0 seen S.next)) l ≡ l
  heads_stay [] = refl
  heads_stay (h ∷ l) = by (eqb h 0)
      (λ e. rw (e, heads_stay l, eqb-true h 0 e))
      (λ e. rw (e, all_finished (get_or (keep 0 seen S.xmin) h 0), heads_stay l))

  marks_stay : (p : ℕ) → on seen' p ≡ on seen p
  unfolding recovered
  marks_stay p =
      ap (λ (l : List ℕ). on (walk l (keep 0 seen S.next)).seen p) (heads_stay hs) ∙ iff (on (walk hs (keep 0 seen S.next)).seen p) (on seen p)
      (λ e. let a = marked.found p e in chained.marked a.0 p a.1 a.2)
      (λ e. let a = chained.found p e in marked.marked a.0 p a.1 a.2)
    where
      marked : Chained hs (keep 0 seen S.next) (walk hs (keep 0 seen S.next)).seen N
      marked = marks (recovered S) N sized recovered_mends

  stays : recovered (recovered S) ≡ recovered S
  unfolding recovered
  stays =
      let found : head_postings (keep 0 seen S.key) (keep false seen S.has) 0 hs' ≡ head_postings S.key S.has 0 hs =
      ap (head_postings (keep 0 seen S.key) (keep false seen S.has) 0) (heads_stay hs) ∙ found_same in
      let xmax : keep 0 seen' (clear g hs' (keep 0 seen (clear f hs S.xmax))) ≡ keep 0 seen (clear f hs S.xmax)
      = ap (keep 0 seen') (clear_none g all_finished hs' (keep 0 seen (clear f hs S.xmax))) ∙ keep_again 0 seen seen' (clear f hs S.xmax) marks_stay in
      λ i. record {
        heads = heads_stay hs i;
        xmin = keep_again 0 seen seen' S.xmin marks_stay i;
        xmax = xmax i;
        next = keep_again 0 seen seen' S.next marks_stay i;
        key = keep_again 0 seen seen' S.key marks_stay i;
        has = keep_again false seen seen' S.has marks_stay i;
        locked = replicate places false;
        owner = replicate places 0;
        postings = pad posting_limit 0 (found i);
        posting_count = length (found i);
        stripe_guards = replicate stripes 0;
        partition_guards = replicate partitions 0;
        stamps = S.stamps;
        active = replicate active_limit 0;
        clock = S.clock;
        poisoned = false;
        doomed = 0;
        bound = S.bound;
      }

-- theorem R
pub recovery : (S : Store) → Sized S → Keyed S → repairable S ≡ true → Recovered S (recovered S)
recovery S z k h = let M = mends S z h in recovers S M.0 z M.1 k

-- recovering again changes nothing
pub recovered_again : (S : Store) → Sized S → repairable S ≡ true → recovered (recovered S) ≡ recovered S
recovered_again S z h = let M = mends S z h in stays S M.0 z M.1
