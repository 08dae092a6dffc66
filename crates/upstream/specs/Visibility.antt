-- Source 002's visibility beside ours. Upstream tests a version by its creator, with a short cut below snapshot_xmin, and by its deleter; here its
-- creator alone counts. On a resting store that isn't poisoned, for a transaction whose snapshot holds no txid below snapshot_xmin (begin makes no
-- other), the first version of a chain that upstream sees is the first with a visible creator; outside that they differ, as a computed store shows.
use Rattle.std.specs.Prelude.{◌≡◌, refl, Bool, true, false, not, ◌&&◌, ◌||◌, List, [], ◌∷◌, ◌++◌, ◌↔◌, ◌⊎◌, ℕ, ◌≤◌, ◌<◌, length, get_or, set, eqb, ltb, leb}
use Rattle.std.proofs.Common.{sym, ap, ◌∙◌, append_assoc, append-nil, inl, inr, ⊎_elim, arith}
use Rattle.std.proofs.Common.{eqb-true, eq-eqb, ne_eqb, ltb-true, ltb-false, lt-ltb, leb-true, le-leb}
use Rattle.std.proofs.lemmas.Bool.{eqb-false, not-true}
use Rattle.records.specs.Limits.{rows, places}
use Rattle.records.specs.Zero.{fresh, no_faults}
use Rattle.rules.specs.Lists.{any, memb, first_of}
use Rattle.rules.specs.Types.{Store, Tx, Write, ReadRecord, Value, Absent, Key, Uncut, Done}
use Rattle.rules.specs.Store.{posting, value_at, active_txids}
use Rattle.rules.specs.Transaction.{snapshot_of, with_reads}
use Rattle.rules.specs.Chains.{chain_from, walk}
use Rattle.rules.specs.Admitted.{finished, resting}
use Rattle.rules.specs.Fit.{fit}
use Rattle.rules.specs.Numbers.{number_of}
use Rattle.rules.specs.Calls.{begun, begin, visible_version, read, write}
use Rattle.rules.specs.Answer.{commit}
use Rattle.rules.specs.Computing.{computing}
use Rattle.basic_laws.specs.Cases.{by, clash, and_true, and_both, or_true, or_left, or_right, mem_here, mem_there}
use Rattle.basic_laws.specs.Check.{Tail}
use Rattle.basic_laws.specs.Chained.{chained_from}
use Rattle.basic_laws.specs.LaidOut.{before_take}
use Rattle.basic_laws.specs.Members.{Each}
use Rattle.basic_laws.specs.Places.{Rising, is_rising}
use Rattle.basic_laws.specs.Rising.{rising_from}
use Rattle.basic_laws.specs.TestParts.{fit_parts}
use Rattle.statements.specs.Sized.{Sized}
use Rattle.statements.specs.ReadWords.{InSnapshot, Visible, VisibleAt, NoneIn, FirstIn, LastOf, of_row, its_writes, HasValue}
use Rattle.statements.specs.ReadWords.{read_of, Kept, Reading, own, found, known, absent, known_absent, InTurn, done, next}
use Rattle.sentences.specs.Forged.{forged}
use Rattle.sentences.specs.ReadsSay.{in_snapshot, meant_none, first_one}
use Rattle.admitted_laws.specs.Repairable.{marks}
use Rattle.admitted_laws.specs.Resting.{Rests, rests}
use Rattle.recovery_laws.specs.Start.{tails}
use Rattle.sentences.specs.Refusals.{begin_accepted, write_accepted}
use Rattle.call_laws.specs.Passed.{begin_passed}
use Rattle.call_laws.specs.ReadLaws.{visible_at, first_of_law, none_of, first_none, mem_mid}

-- UPSTREAM'S TEST

-- `creator_visible`
abbrev pub creator_visible : Tx → ℕ → Bool
creator_visible x t = eqb t x.txid.0 || (ltb t x.snapshot_xmin.0 || (ltb t x.snapshot_xmax.0 && not (memb t (snapshot_of x))))

-- `visible`, of the version in slot p
abbrev pub visible : Store → Tx → ℕ → Bool
visible S x p =
    let t = get_or S.xmin p 0 in
    let d = get_or S.xmax p 0 in
    eqb t x.txid.0
    || (creator_visible x t && (eqb d 0 || (not (eqb d x.txid.0) && (leb x.snapshot_xmax.0 d || memb d (snapshot_of x)))))

-- `first_visible` from a row's head, 0 for None
abbrev pub first_visible : Store → Tx → ℕ → ℕ
first_visible S x r = first_of (visible S x) (chain_from places S.next (get_or S.heads r 0))

-- the same in words
abbrev pub CreatorSeen : Tx → ℕ → Type 0
CreatorSeen x t = (t ≡ x.txid.0) ⊎ ((t < x.snapshot_xmin.0) ⊎ ((t < x.snapshot_xmax.0) × (InSnapshot x t → ⊥)))

abbrev pub Undeleted : Tx → ℕ → Type 0
Undeleted x d = (d ≡ 0) ⊎ ((d ≡ x.txid.0 → ⊥) × ((x.snapshot_xmax.0 ≤ d) ⊎ InSnapshot x d))

abbrev pub SeenUpstream : Store → Tx → ℕ → Type 0
SeenUpstream S x p = (get_or S.xmin p 0 ≡ x.txid.0) ⊎ (CreatorSeen x (get_or S.xmin p 0) × Undeleted x (get_or S.xmax p 0))

-- a member of the snapshot or not
listed_not : (x : Tx) (t : ℕ) → (not (memb t (snapshot_of x)) ≡ true) ↔ (InSnapshot x t → ⊥)
listed_not x t =
    let b = memb t (snapshot_of x) in (
      λ h s. clash ((in_snapshot x t).1 s) (not-true b h),
      λ n. by b (λ e. absurd (n ((in_snapshot x t).0 e))) (λ e. rw e),
    )

-- the tests say what the words do
pub creator_says : (x : Tx) (t : ℕ) → (creator_visible x t ≡ true) ↔ CreatorSeen x t
creator_says x t =
    let me = eqb t x.txid.0 in
    let low = ltb t x.snapshot_xmin.0 in
    let early = ltb t x.snapshot_xmax.0 in
    let out = not (memb t (snapshot_of x)) in (
      λ h. or_true me (low || (early && out)) h (λ e. inl (eqb-true t x.txid.0 e))
          (λ h. or_true low (early && out) h (λ e. inr (inl (ltb-true t x.snapshot_xmin.0 e)))
          (λ e. let a = and_true early out e in inr (inr (ltb-true t x.snapshot_xmax.0 a.0, (listed_not x t).0 a.1)))),
      λ o. ⊎_elim (λ e. or_left me (low || (early && out)) (eq-eqb t x.txid.0 e))
          (λ (o : (t < x.snapshot_xmin.0) ⊎ ((t < x.snapshot_xmax.0) × (InSnapshot x t → ⊥))). or_right me (low || (early && out))
          (⊎_elim (λ lt. or_left low (early && out) (lt-ltb t x.snapshot_xmin.0 lt))
          (λ (a : (t < x.snapshot_xmax.0) × (InSnapshot x t → ⊥)). or_right low (early && out)
          (and_both early out (lt-ltb t x.snapshot_xmax.0 a.0) ((listed_not x t).1 a.1))) o)) o,
    )

undeleted_says : (x : Tx) (d : ℕ)
    → ((eqb d 0 || (not (eqb d x.txid.0) && (leb x.snapshot_xmax.0 d || memb d (snapshot_of x)))) ≡ true) ↔ Undeleted x d
undeleted_says x d =
    let none = eqb d 0 in
    let other = not (eqb d x.txid.0) in
    let late = leb x.snapshot_xmax.0 d in
    let taken = memb d (snapshot_of x) in (
      λ h. or_true none (other && (late || taken)) h (λ e. inl (eqb-true d 0 e))
          (λ h. let a = and_true other (late || taken) h in
          inr (
            eqb-false d x.txid.0 (not-true (eqb d x.txid.0) a.0),
            or_true late taken a.1 (λ e. inl (leb-true x.snapshot_xmax.0 d e)) (λ e. inr ((in_snapshot x d).0 e)),
          )),
      λ o. ⊎_elim (λ e. or_left none (other && (late || taken)) (eq-eqb d 0 e))
          (λ (a : (d ≡ x.txid.0 → ⊥) × ((x.snapshot_xmax.0 ≤ d) ⊎ InSnapshot x d)). or_right none (other && (late || taken))
          (and_both other (late || taken) (rw (ne_eqb d x.txid.0 a.0))
          (⊎_elim (λ le. or_left late taken (le-leb x.snapshot_xmax.0 d le)) (λ s. or_right late taken ((in_snapshot x d).1 s)) a.1))) o,
    )

pub visible_says : (S : Store) (x : Tx) (p : ℕ) → (visible S x p ≡ true) ↔ SeenUpstream S x p
visible_says S x p =
    let t = get_or S.xmin p 0 in
    let d = get_or S.xmax p 0 in
    let me = eqb t x.txid.0 in
    let made = creator_visible x t in
    let stays = eqb d 0 || (not (eqb d x.txid.0) && (leb x.snapshot_xmax.0 d || memb d (snapshot_of x))) in (
      λ h. or_true me (made && stays) h (λ e. inl (eqb-true t x.txid.0 e))
          (λ e. let a = and_true made stays e in inr ((creator_says x t).0 a.0, (undeleted_says x d).0 a.1)),
      λ o. ⊎_elim (λ e. or_left me (made && stays) (eq-eqb t x.txid.0 e))
          (λ (a : CreatorSeen x t × Undeleted x d). or_right me (made && stays)
          (and_both made stays ((creator_says x t).1 a.0) ((undeleted_says x d).1 a.1))) o,
    )

-- THE BRIDGE

-- the first is a member
first_in : (has : ℕ → Type 0) (l : List ℕ) (p : ℕ) → FirstIn has l p → memb p l ≡ true
first_in has l p F = rw F.split (mem_mid p F.before F.after)

-- no txid of the snapshot is below snapshot_xmin
abbrev pub NoneBelow : Tx → Type 0
NoneBelow x = (t : ℕ) → InSnapshot x t → x.snapshot_xmin.0 ≤ t

module _ (S : Store) (x : Tx) (below : NoneBelow x) (f : fit S x ≡ true) where
  -- the short cut sees nothing more
  pub creator_visible_law : (t : ℕ) → CreatorSeen x t → Visible x t
  creator_visible_law t o = ⊎_elim (λ e. inl e)
      (λ (o : (t < x.snapshot_xmin.0) ⊎ ((t < x.snapshot_xmax.0) × (InSnapshot x t → ⊥))). ⊎_elim
      (λ lt. inr (omega (arith, lt, leb-true x.snapshot_xmin.0 x.snapshot_xmax.0 (fit_parts S x f).snapshot), λ s. omega (arith, lt, below t s)))
      (λ (a : (t < x.snapshot_xmax.0) × (InSnapshot x t → ⊥)). inr a) o) o

  -- a version that upstream sees has a visible creator
  pub upstream_visible : (p : ℕ) → SeenUpstream S x p → VisibleAt S x p
  upstream_visible p o = ⊎_elim (λ e. inl e)
      (λ (a : CreatorSeen x (get_or S.xmin p 0) × Undeleted x (get_or S.xmax p 0)). creator_visible_law (get_or S.xmin p 0) a.0) o

  -- and upstream sees one with a visible creator and no visible deleter
  visible_upstream : (p : ℕ) → VisibleAt S x p → (get_or S.xmax p 0 ≡ 0) ⊎ (Visible x (get_or S.xmax p 0) → ⊥) → SeenUpstream S x p
  visible_upstream p v o =
      let t = get_or S.xmin p 0 in
      let d = get_or S.xmax p 0 in
      let made : CreatorSeen x t = ⊎_elim (λ e. inl e) (λ (a : (t < x.snapshot_xmax.0) × (InSnapshot x t → ⊥)). inr (inr a)) v in
      inr (
        made,
        ⊎_elim (λ e. inl e) (λ (n : Visible x d → ⊥). inr (
          λ e. n (inl e),
          by (ltb d x.snapshot_xmax.0)
              (λ e. by (memb d (snapshot_of x))
              (λ m. inr ((in_snapshot x d).0 m))
              (λ m. absurd (n (inr (ltb-true d x.snapshot_xmax.0 e, λ s. clash ((in_snapshot x d).1 s) m)))))
              (λ e. inl (ltb-false d x.snapshot_xmax.0 e)),
        )) o,
      )

  -- along a chain the deleter of a version is the creator of the one before it
  deleter : (before : List ℕ) (p : ℕ) (after : List ℕ) (g : ℕ → Bool) (v : ℕ) → Tail S.xmin S.xmax g v (before ++ p ∷ after)
      → (v ≡ 0) ⊎ (Visible x v → ⊥) → NoneIn (VisibleAt S x) before → (get_or S.xmax p 0 ≡ 0) ⊎ (Visible x (get_or S.xmax p 0) → ⊥)
  deleter [] p after g v t o n = rw t.1 o
  deleter (q ∷ before) p after g v t o n =
      deleter before p after g (get_or S.xmin q 0) t.2 (inr (n q (mem_here q before))) (λ y m. n y (mem_there y q before m))

  module _ (L : ℕ → List ℕ) (R : Rests S L) (healthy : S.poisoned ≡ false) (r : ℕ) (lt : r < length S.heads) where
    -- the first version with a visible creator is the first that upstream sees
    pub first_then : (p : ℕ) → FirstIn (VisibleAt S x) (L r) p → FirstIn (SeenUpstream S x) (L r) p
    first_then p F = record {
      before = F.before;
      after = F.after;
      split = F.split;
      none = λ q m s. F.none q m (upstream_visible q s);
      passes = visible_upstream p F.passes (deleter F.before p F.after (finished S.active S.doomed) 0
          (rw F.split at (tails S L R healthy r lt)) (inl refl) F.none);
    }

    -- and where there is none upstream sees none
    pub none_then : NoneIn (VisibleAt S x) (L r) → NoneIn (SeenUpstream S x) (L r)
    none_then n q m s = n q m (upstream_visible q s)

    -- so they are the same: both none, or both this one
    pub same_first : first_of (visible S x) (L r) ≡ first_of (visible_at S x) (L r)
    same_first =
        let up = visible S x in
        let ours = visible_at S x in
        by (any ours (L r))
        (λ e. let G = first_then (first_of ours (L r)) (first_of_law S x (L r) e) in
        let w = first_one up (SeenUpstream S x) (visible_says S x) G.before (first_of ours (L r)) G.after G.none G.passes in
        ap (first_of up) G.split ∙ w)
        (λ e. first_none up (L r) (meant_none up (SeenUpstream S x) (visible_says S x) (L r) (none_then (none_of S x (L r) e)))
        ∙ sym (first_none ours (L r) e))

    pub first_same : (p : ℕ) → FirstIn (VisibleAt S x) (L r) p ↔ FirstIn (SeenUpstream S x) (L r) p
    first_same p = (
      first_then p,
      λ G.
          let w : first_of (visible S x) (L r) ≡ p
          = ap (first_of (visible S x)) G.split
          ∙ first_one (visible S x) (SeenUpstream S x) (visible_says S x) G.before p G.after G.none G.passes in
          by (any (visible_at S x) (L r))
          (λ e. rw (sym same_first ∙ w) at (first_of_law S x (L r) e))
          (λ e. absurd (none_then (none_of S x (L r) e) p (first_in (SeenUpstream S x) (L r) p G) G.passes)),
    )

    pub none_same : NoneIn (VisibleAt S x) (L r) ↔ NoneIn (SeenUpstream S x) (L r)
    none_same = (
      none_then,
      λ n. by (any (visible_at S x) (L r))
          (λ e. let p = first_of (visible_at S x) (L r) in
          let G = first_then p (first_of_law S x (L r) e) in
          absurd (n p (first_in (SeenUpstream S x) (L r) p G) G.passes))
          (λ e. none_of S x (L r) e),
    )

    -- `find_visible_row_ptr`: the version found here is upstream's
    pub version_same : Sized S → visible_version S.heads S.next S.xmin x r ≡ first_visible S x r
    unfolding visible_version
    version_same z =
        rw (chained_from S.heads S.next (walk S.heads S.next).seen L (marks S L z R.mends) r lt) (sym same_first)

-- WHAT IS READ AND RECORDED

-- `selected_value`: the value of the last own write, else of the first version that upstream sees, else none
pub data Selected (S : Store) (x : Tx) (c : List ℕ) (r : ℕ) (v : Value) : Type 0 where
  written : (w : Write) → LastOf r (its_writes x) w → HasValue S w.new.0 v → Selected S x c r v
  seen : (p : ℕ) → any (of_row r) (its_writes x) ≡ false → FirstIn (SeenUpstream S x) c p → HasValue S p v → Selected S x c r v
  neither : any (of_row r) (its_writes x) ≡ false → NoneIn (SeenUpstream S x) c → v ≡ Absent → Selected S x c r v

-- `observed_record`: the record of a version that upstream sees first in its row, with its xmin
pub record Observed (S : Store) (x : Tx) (L : ℕ → List ℕ) (e : ReadRecord) : Type 0 where
  pub row : e.row.0 < rows
  pub used : 0 < get_or S.xmin e.ptr.0 0
  pub first : FirstIn (SeenUpstream S x) (L e.row.0) e.ptr.0
  pub xmin : e.xmin.0 ≡ get_or S.xmin e.ptr.0 0

-- what upstream has no record of: a row in which it sees no version, with pointer 0 and xmin 0 (document 02's wish 2)
pub record Missed (S : Store) (x : Tx) (L : ℕ → List ℕ) (e : ReadRecord) : Type 0 where
  pub row : e.row.0 < rows
  pub ptr : e.ptr.0 ≡ 0
  pub xmin : e.xmin.0 ≡ 0
  pub none : NoneIn (SeenUpstream S x) (L e.row.0)

-- of two lists joined
each_append : {A : Type 0} (has : A → Type 0) (l m : List A) → Each has l → Each has m → Each has (l ++ m)
each_append has [] m a b = b
each_append has (y ∷ l) m a b = (a.0, each_append has l m a.1 b)

module _ (S : Store) (x : Tx) (L : ℕ → List ℕ) (z : Sized S) (R : Rests S L) (healthy : S.poisoned ≡ false) (f : fit S x ≡ true) (below : NoneBelow x) where
  -- `records_extend`, `records_have_provenance`: the reads before stay, and each new one was observed, or is of a row that upstream finds absent
  abbrev pub FromRow : ReadRecord → Type 0
  FromRow e = Observed S x L e ⊎ Missed S x L e

  abbrev pub Extends : List ReadRecord → List ReadRecord → Type 0
  Extends l m = (new : List ReadRecord) × (m ≡ l ++ new) × Each FromRow new

  -- a read gives the value that upstream selects
  pub reading_selected : {l m : List ReadRecord} {v : Value} (r : ℕ) → r < rows → Reading S x r (L r) l v m → Selected S x (L r) r v
  reading_selected r lt (own w o h) = written w o h
  reading_selected r lt (found p n F k h) = seen p n (first_then S x below f L R healthy r (omega (arith, z.heads)) p F) h
  reading_selected r lt (known p n F k h) = seen p n (first_then S x below f L R healthy r (omega (arith, z.heads)) p F) h
  reading_selected r lt (absent n k a h) = neither n (none_then S x below f L R healthy r (omega (arith, z.heads)) k) h
  reading_selected r lt (known_absent n k a h) = neither n (none_then S x below f L R healthy r (omega (arith, z.heads)) k) h

  -- one reading more
  pub reading_observed : {l m : List ReadRecord} {v : Value} (r : ℕ) → r < rows → Reading S x r (L r) l v m → Extends l m
  reading_observed {l} r lt (own w o h) = ([], sym (append-nil l), tt)
  reading_observed {l} r lt (known p n F k h) = ([], sym (append-nil l), tt)
  reading_observed {l} r lt (known_absent n k a h) = ([], sym (append-nil l), tt)
  reading_observed {l} r lt (absent n k a h) = (
    read_of r 0 0 ∷ [],
    refl,
    (inr (record { row = lt; ptr = refl; xmin = refl; none = none_then S x below f L R healthy r (omega (arith, z.heads)) k }), tt),
  )
  reading_observed {l} r lt (found p n F k h) =
      let in_rows : r < length S.heads = omega (arith, z.heads) in (
        read_of r p (get_or S.xmin p 0) ∷ [],
        refl,
        (
          inl (record {
            row = lt;
            used = R.mends.stands.led r p in_rows (first_in (VisibleAt S x) (L r) p F);
            first = first_then S x below f L R healthy r in_rows p F;
            xmin = refl;
          }),
          tt,
        ),
      )

  -- of a read (one row) and of a lookup (its candidates)
  pub observed : {rs : List ℕ} {l m : List ReadRecord} → InTurn S x L rs l m → ((r : ℕ) → memb r rs ≡ true → r < rows) → Extends l m
  observed {l = l} done b = ([], sym (append-nil l), tt)
  observed {l = l} {m = n} (next {r = r} {rs = rs} {m = m} w t) b =
      let a = reading_observed r (b r (mem_here r rs)) w in
      let c = observed t (λ s e. b s (mem_there s r rs e)) in (
        a.0 ++ c.0,
        c.1 ∙ ap (λ (q : List ReadRecord). q ++ c.0) a.1 ∙ append_assoc l a.0 c.0,
        each_append FromRow a.0 c.0 a.2 c.2,
      )

-- WHERE THE BRIDGE STANDS

-- begin makes no other transaction
pub begin_none_below : (S : Store) → Sized S → number_of (begin S).refusal ≡ 0 → NoneBelow (begin S).tx
unfolding begun
begin_none_below S z h =
    let F = (rests S z (begin_passed S h).rests).1.mends.listed in
    rw (begin_accepted S h) (λ t s. first_least (active_txids S.active) F.climb t
    (rw (sym (before_take S.active)) at ((in_snapshot (begun S) t).1 s)))
  where
    first_least : (l : List ℕ) → Rising 1 l → (t : ℕ) → memb t l ≡ true → get_or l 0 S.clock ≤ t
    first_least [] c t m = clash {b = false} m refl
    first_least (y ∷ l) c t m = rising_from y (y ∷ l) t (is_rising y (y ∷ l) (omega arith, c.1)) m

-- read and lookup leave it so (`Reads`, `Looks`), and write does
pub kept_none_below : {x y : Tx} → Kept x y → NoneBelow x → NoneBelow y
kept_none_below {x} {y} K n t s =
    rw K.snapshot_xmin (n t (s.0, rw K.snapshot_count at s.1, rw K.snapshot at s.2, rw K.snapshot at s.3))

pub write_none_below : (S : Store) (x : Tx) (r : ℕ) (v : Value) → number_of (write S x r v).refusal ≡ 0 → NoneBelow x → NoneBelow (write S x r v).tx
write_none_below S x r v h n = rw (write_accepted S x r v h) n

-- OUTSIDE IT

-- row 0: slot 2 with xmin 3 and key 20 over slot 1 with xmin 1, xmax 3 and key 10; clock 6, active 5
unfoldable pub moved : Store
moved = record {
  heads = set fresh.heads 0 2;
  xmin = set (set fresh.xmin 1 1) 2 3;
  xmax = set fresh.xmax 1 3;
  next = set fresh.next 2 1;
  key = set (set fresh.key 1 10) 2 20;
  has = set (set fresh.has 1 true) 2 true;
  locked = fresh.locked;
  owner = fresh.owner;
  postings = set fresh.postings 0 (posting 20 0);
  posting_count = 1;
  stripe_guards = fresh.stripe_guards;
  partition_guards = fresh.partition_guards;
  stamps = fresh.stamps;
  active = set fresh.active 0 5;
  clock = 6;
  poisoned = false;
  doomed = 0;
  bound = false;
}

-- txid 5, snapshot_xmin 4, snapshot_xmax 6; the snapshot holds 3, which is below snapshot_xmin
unfoldable pub odd : Tx
odd = forged 5 6 (3 ∷ [])

-- the store rests and the transaction is fit and active: read gives 10, upstream's rule 20
pub apart : (resting moved ≡ true)
    × (fit moved odd ≡ true)
    × ((read moved odd 0).refusal ≡ Done)
    × ((read moved odd 0).value ≡ Key 10)
    × (first_visible moved odd 0 ≡ 2)
    × (value_at moved.key moved.has 2 ≡ Key 20)
unfolding moved odd forged computing
apart = (refl, refl, refl, refl, refl, refl)

-- the same transaction with a read record that points at slot 7, which is free, and says xmin t
unfoldable pub pointing : ℕ → Tx
pointing t = with_reads (read_of 0 7 t ∷ []) odd

-- `has_serialization_conflict` asks for no such record; here it is fit, and commits where it says that the slot is free; else its xmin has changed
pub free_read : (fit moved (pointing 0) ≡ true)
    × ((commit moved (pointing 0) false no_faults Uncut).refusal ≡ Done)
    × (fit moved (pointing 3) ≡ true)
    × (number_of (commit moved (pointing 3) false no_faults Uncut).refusal ≡ 7)
unfolding moved odd forged pointing computing
free_read = (refl, refl, refl, refl)
