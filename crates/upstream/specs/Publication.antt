-- Source 002's clauses about publication and about the whole of steps 15, 17 and 18.
use Rattle.std.specs.Prelude.{◌≡◌, Bool, false, not, cond, ◌&&◌, ◌||◌, ◌⊎◌, length, get_or, set, take, eqb}
use Rattle.std.proofs.Math.Path.{refl, ap, subst}
use Rattle.std.proofs.Common.{sym, ◌∙◌, arith, eqb-true}
use Rattle.std.proofs.Math.Bool.{true}
use mathlib.Core.List.{List, [], ◌∷◌, ◌++◌}
use Rattle.std.proofs.Math.Logic.{inl, inr}
use Prim.Native.Nat.{ℕ, zero, suc, ◌<◌}
use Rattle.std.proofs.Math.Seq.{take_all}
use Rattle.records.specs.Limits.{rows}
use Rattle.rules.specs.Types.{Store, Tx, Write}
use Rattle.basic_laws.specs.Cases.{by, and_true}
use Rattle.rules.specs.Lists.{all, flat, memb}
use Rattle.rules.specs.Store.{postings_of}
use Rattle.rules.specs.Transaction.{writes_of, finals}
use Rattle.rules.specs.Chains.{walk}
use Rattle.rules.specs.Admitted.{finished, resting}
use Rattle.rules.specs.Fit.{write_fit, fit}
use Rattle.rules.specs.Puts.{Put, k_stripe, k_partition, k_xmax, k_head, k_poison, k_doom, put_xmax, put_next, put_head, apply, apply_all}
use Rattle.rules.specs.Changes.{publish_one, insertions, removals, publication}
use Rattle.run_laws.specs.OnlyKinds.{kept, is_not}
use Rattle.run_laws.specs.GuardPuts.{apply_all_append}
use Rattle.statements.specs.Sized.{Sized}
use Rattle.basic_laws.specs.Chain.{IsChain}
use Rattle.basic_laws.specs.Check.{Tail}
use Rattle.run_laws.specs.FinalWrites.{finals_all}
use Rattle.basic_laws.specs.TestParts.{write_parts, fit_parts}
use Rattle.run_laws.specs.PublishedChains.{publish_only}
use Rattle.basic_laws.specs.AllOf.{all_then}
use Rattle.posting_laws.specs.RestingPostings.{Exact}
use Rattle.posting_laws.specs.Undone.{Ready}
use Rattle.posting_laws.specs.Exact.{postings_kept, changed_exact}
use Rattle.admitted_laws.specs.Resting.{rests}
use Rattle.recovery_laws.specs.Start.{tails}
use Rattle.upstream.specs.Postings.{ds, ss, P, removes_all}

-- 002's `publication_prefix`, word for word: phase 0 is nothing, 1 the base marked, 2 the new version linked, 3 the head moved
abbrev pub marked : Store → Write → ℕ → Store
marked S w t = cond (eqb w.base.0 0) S (apply (put_xmax w.base.0 t) S)

abbrev pub linked : Store → Write → ℕ → Store
linked S w t = apply (put_next w.new.0 w.base.0) (marked S w t)

abbrev pub phase : Store → Write → ℕ → ℕ → Store
phase S w t zero = S
phase S w t (suc zero) = marked S w t
phase S w t (suc (suc zero)) = linked S w t
phase S w t (suc (suc (suc n))) = apply (put_head w.row.0 w.new.0) (linked S w t)

-- what stands at a place already may be put there
set_own : (l : List ℕ) (i : ℕ) → set l i (get_or l i 0) ≡ l
set_own [] i = refl
set_own (y ∷ l) zero = refl
set_own (y ∷ l) (suc i) = ap (λ (m : List ℕ). y ∷ m) (set_own l i)

module _ (S : Store) (w : Write) (t : ℕ) (over : get_or S.next w.new.0 0 ≡ w.base.0) where
  -- "next the base", from the write on: phase 2 is phase 1
  pub linked_already : phase S w t 2 ≡ phase S w t 1
  linked_already =
      let e : set S.next w.new.0 w.base.0 ≡ S.next = ap (λ (b : ℕ). set S.next w.new.0 b) (sym over) ∙ set_own S.next w.new.0 in
      by (eqb w.base.0 0) (λ k. rw (k, e)) (λ k. rw (k, e))

  -- all puts of a write's publication are phase 3
  moves : apply_all (publish_one t w) S ≡ apply (put_head w.row.0 w.new.0) (phase S w t 1)
  unfolding publish_one
  moves = by (eqb w.base.0 0) (λ k. rw k) (λ k. rw k)

  pub publishes_one : apply_all (publish_one t w) S ≡ phase S w t 3
  publishes_one = moves ∙ ap (apply (put_head w.row.0 w.new.0)) (sym linked_already)

  -- there are two at most
  both_puts : (n : ℕ) → take (suc (suc n)) (publish_one t w) ≡ publish_one t w
  unfolding publish_one
  both_puts n = take_all (suc (suc n)) (publish_one t w) (by (eqb w.base.0 0) (λ k. rw k (omega arith)) (λ k. rw k (omega arith)))

  -- its first n puts are phase 0, 1 or 3: `allowed_prefix`
  pub publishes_some : (n : ℕ) → let T = apply_all (take n (publish_one t w)) S in (T ≡ phase S w t 0) ⊎ ((T ≡ phase S w t 1) ⊎ (T ≡ phase S w t 3))
  unfolding publish_one
  publishes_some zero = inl refl
  publishes_some (suc zero) = by (eqb w.base.0 0)
      (λ k. inr (inr (rw k (rw k at publishes_one))))
      (λ k. inr (inl (rw k)))
  publishes_some (suc (suc n)) = inr (inr (rw (both_puts n) publishes_one))

-- compare_xmax finds what it expects: every head of a resting store that isn't poisoned has xmax 0
pub head_unmarked : (S : Store) → Sized S → resting S ≡ true → S.poisoned ≡ false → (r : ℕ) → r < rows → get_or S.xmax (get_or S.heads r 0) 0 ≡ 0
head_unmarked S z h healthy r lt =
    let R = rests S z h in
    let l : r < length S.heads = omega (arith, z.heads) in
    let M = R.1.mends in
    go (R.0 r) (M.stands.chains.chain r l) (tails S R.0 R.1 healthy r l) (M.slots.free 0 M.slots.first).unmarked
  where
    go : (c : List ℕ) → IsChain S.next (get_or S.heads r 0) c → Tail S.xmin S.xmax (finished S.active S.doomed) 0 c → get_or S.xmax 0 0 ≡ 0
        → get_or S.xmax (get_or S.heads r 0) 0 ≡ 0
    go [] c t none = rw c none
    go (p ∷ l) c t none = rw c.0 t.1

-- a write's new version has the base next to it
abbrev pub over_base : List ℕ → Write → Bool
over_base next w = eqb (get_or next w.new.0 0) w.base.0

-- writes published one after the other, each to phase 3
abbrev pub phases : ℕ → List Write → Store → Store
phases t [] T = T
phases t (w ∷ ws) T = phases t ws (phase T w t 3)

-- publication leaves every next
next_left : (t : ℕ) (w : Write) (T : Store) → (apply_all (publish_one t w) T).next ≡ T.next
unfolding publish_one
next_left t w T = by (eqb w.base.0 0) (λ k. rw k) (λ k. rw k)

-- so the puts of several writes are their phases 3
pub publishes_list : (t : ℕ) (ws : List Write) (T : Store) → all (over_base T.next) ws ≡ true → apply_all (flat (publish_one t) ws) T ≡ phases t ws T
publishes_list t [] T h = refl
publishes_list t (w ∷ ws) T h =
    let a = and_true (over_base T.next w) (all (over_base T.next) ws) h in
    apply_all_append (publish_one t w) (flat (publish_one t) ws) T
    ∙ publishes_list t ws (apply_all (publish_one t w) T) (subst (λ (l : List ℕ). all (over_base l) ws ≡ true) (sym (next_left t w T)) a.1)
    ∙ ap (phases t ws) (publishes_one T w t (eqb-true (get_or T.next w.new.0 0) w.base.0 a.0))

-- what the first puts of several writes leave of T: some writes at phase 3, and perhaps the next at phase 1
pub data Prefix (t : ℕ) (D : Store) : List Write → Store → Type 0 where
  here : {ws : List Write} {T : Store} → D ≡ T → Prefix t D ws T
  half : {w : Write} {ws : List Write} {T : Store} → D ≡ phase T w t 1 → Prefix t D (w ∷ ws) T
  more : {w : Write} {ws : List Write} {T : Store} → Prefix t D ws (phase T w t 3) → Prefix t D (w ∷ ws) T

-- the rest of the puts, as many as are left of n, on the store after a write
module _ (t : ℕ) (w : Write) (ws : List Write) (rest : List Put) (T : Store) where
  abbrev Rest : Store → Type 0
  Rest U = (m : ℕ) → Prefix t (apply_all (take m rest) U) ws U

  head_then : (U : Store) → U ≡ apply (put_head w.row.0 w.new.0) T → U ≡ phase T w t 3 → Rest U → (n : ℕ)
      → Prefix t (apply_all (take n (put_head w.row.0 w.new.0 ∷ rest)) T) (w ∷ ws) T
  head_then U e f ih zero = here refl
  head_then U e f ih (suc m) =
      more (subst (λ (X : Store). Prefix t (apply_all (take m rest) X) ws (phase T w t 3)) e
      (subst (λ (X : Store). Prefix t (apply_all (take m rest) U) ws X) f (ih m)))

  mark_then : (U : Store) → U ≡ apply (put_head w.row.0 w.new.0) (apply (put_xmax w.base.0 t) T) → U ≡ phase T w t 3
      → apply (put_xmax w.base.0 t) T ≡ phase T w t 1 → Rest U → (n : ℕ)
      → Prefix t (apply_all (take n (put_xmax w.base.0 t ∷ put_head w.row.0 w.new.0 ∷ rest)) T) (w ∷ ws) T
  mark_then U e f k ih zero = here refl
  mark_then U e f k ih (suc zero) = half k
  mark_then U e f k ih (suc (suc m)) =
      more (subst (λ (X : Store). Prefix t (apply_all (take m rest) X) ws (phase T w t 3)) e
      (subst (λ (X : Store). Prefix t (apply_all (take m rest) U) ws X) f (ih m)))

pub publishes_prefix : (t : ℕ) (ws : List Write) (T : Store) (n : ℕ) → all (over_base T.next) ws ≡ true
    → Prefix t (apply_all (take n (flat (publish_one t) ws)) T) ws T
unfolding publish_one
publishes_prefix t [] T n h = here (ap (λ (ps : List Put). apply_all ps T) (take_all n [] (omega arith)))
publishes_prefix t (w ∷ ws) T n h =
    let a = and_true (over_base T.next w) (all (over_base T.next) ws) h in
    let rest = flat (publish_one t) ws in
    let U = apply_all (publish_one t w) T in
    let one : U ≡ phase T w t 3 = publishes_one T w t (eqb-true (get_or T.next w.new.0 0) w.base.0 a.0) in
    let ih : (m : ℕ) → Prefix t (apply_all (take m rest) U) ws U
    = λ m. publishes_prefix t ws U m (subst (λ (l : List ℕ). all (over_base l) ws ≡ true) (sym (next_left t w T)) a.1) in
    by (eqb w.base.0 0)
    (λ k. rw k (head_then t w ws rest T U (rw k) one ih n))
    (λ k. rw k (mark_then t w ws rest T U (rw k) one (rw k) ih n))

-- a fit transaction's final writes are so
pub finals_over : (S : Store) (x : Tx) → fit S x ≡ true → all (over_base S.next) (finals x) ≡ true
unfolding finals
finals_over S x f =
    let seen = (walk S.heads S.next).seen in
    finals_all (over_base S.next) (writes_of x)
    (all_then (write_fit S.xmin S.next seen x.txid.0) (over_base S.next)
    (λ w h. (write_parts S.xmin S.next seen x.txid.0 w h).over) (writes_of x) (fit_parts S x f).writes)

module _ (S : Store) (x : Tx) (ok : Ready S x) where
  -- postings in and out: 002's `removed`
  abbrev pub moved : Store
  moved = apply_all (removals S x) (apply_all (insertions S x) S)

  -- 002's `committed`: each final write at phase 3, guards and poison as they were, destinations in and sources out, the postings exactly the heads'
  pub record Segment (T : Store) : Type 0 where
    pub rows : T ≡ phases x.txid.0 (finals x) moved
    pub postings : (p : ℕ) → memb p (postings_of T) ≡ (not (memb p (ss S x ok)) && (memb p (ds S x ok) || memb p (P S x ok)))
    pub guards : (T.stripe_guards ≡ S.stripe_guards) × (T.partition_guards ≡ S.partition_guards)
    pub poison : T.poisoned ≡ S.poisoned
    pub matches : Exact T

  -- steps 15, 17 and 18
  pub segment : Segment (apply_all (insertions S x ++ (removals S x ++ publication x)) S)
  unfolding publication
  segment =
      let t = x.txid.0 in
      let ps = flat (publish_one t) (finals x) in
      let ks = k_xmax ∷ k_head ∷ [] in
      let o = publish_only t (finals x) in
      let m = removes_all S x ok in
      let e : apply_all (insertions S x ++ (removals S x ++ ps)) S ≡ apply_all ps moved
      = apply_all_append (insertions S x) (removals S x ++ ps) S ∙ apply_all_append (removals S x) ps (apply_all (insertions S x) S) in
      let n : moved.next ≡ S.next = ap (λ (T : Store). T.next) m.rest in
      let over : all (over_base moved.next) (finals x) ≡ true =
      subst (λ (l : List ℕ). all (over_base l) (finals x) ≡ true) (sym n) (finals_over S x ok.fits) in
      record {
        rows = e ∙ publishes_list t (finals x) moved over;
        postings = λ p. rw (e, postings_kept ks refl refl ps moved o) (m.are p);
        guards = (
          ap (λ (T : Store). T.stripe_guards) e ∙ kept (λ T. T.stripe_guards) ks (λ p T k. rw (is_not ks k_stripe refl p k)) ps moved o
              ∙ ap (λ (T : Store). T.stripe_guards) m.rest,
          ap (λ (T : Store). T.partition_guards) e ∙ kept (λ T. T.partition_guards) ks (λ p T k. rw (is_not ks k_partition refl p k)) ps moved o
              ∙ ap (λ (T : Store). T.partition_guards) m.rest,
        );
        poison =
            ap (λ (T : Store). T.poisoned) e ∙ kept (λ T. T.poisoned) ks (λ p T k. rw (is_not ks k_poison refl p k, is_not ks k_doom refl p k)) ps moved o
            ∙ ap (λ (T : Store). T.poisoned) m.rest;
        matches = changed_exact S x ok;
      }
