-- What is recycled, and which keys change, is the same after publication as at entry.
use Rattle.std.specs.Prelude.{◌≡◌, Bool, true, false, ◌&&◌, List, [], ◌∷◌, map, ℕ, ◌<◌, length, get_or}
use Rattle.std.proofs.Common.{sym, ◌∙◌, arith, eqb-true, ltb-true, lt-ltb, leb-true}
use Rattle.std.proofs.Math.Path.{ap}
use Rattle.std.proofs.Math.Bool.{not}
use Rattle.std.proofs.Math.Dec.{eqb}
use Rattle.std.proofs.lemmas.Bool.{eqb-false, not-true, not-false}
use Rattle.records.specs.Limits.{rows, slots}
use Rattle.rules.specs.Types.{Store, Tx, Write}
use Rattle.rules.specs.Lists.{all, any, memb}
use Rattle.rules.specs.Store.{used, used_slots}
use Rattle.rules.specs.Transaction.{writes_of, finals}
use Rattle.rules.specs.Chains.{walk, on}
use Rattle.rules.specs.Admitted.{resting}
use Rattle.rules.specs.Fit.{fit, write_fit}
use Rattle.rules.specs.Puts.{put_free, apply_all, own_slots}
use Rattle.rules.specs.Tests.{write_base_conflict}
use Rattle.rules.specs.Changes.{changes, recycled}
use Rattle.basic_laws.specs.Cases.{by, clash, iff, and_true, or_false, mem_here, mem_there}
use Rattle.basic_laws.specs.Members.{Each, those_those}
use Rattle.basic_laws.specs.Chain.{chain_head}
use Rattle.basic_laws.specs.Chained.{Chained, walk_sound, walk_complete}
use Rattle.run_laws.specs.FreedSlots.{Spared, freed_changes}
use Rattle.run_laws.specs.OwnSlots.{recycled_parts}
use Rattle.statements.specs.Sized.{Sized}
use Rattle.basic_laws.specs.TestParts.{resting_parts, Repairable, repairable_parts, slots_parts, write_parts, Fit, fit_parts}
use Rattle.run_laws.specs.FinalWrites.{finals_all, finals_distinct, distinct}
use Rattle.run_laws.specs.PublishedChains.{Ready, new_heads, new_heads_long, new_chains, new_pointers, new_cases, publish_chains}

-- a write whose base is not the head of its row
abbrev conflicts : List ℕ → Write → Bool
conflicts heads w = not (eqb (get_or heads w.row.0 0) w.base.0)

-- what is known where a commit publishes
module _ (S : Store) (x : Tx) (z : Sized S) (h : resting S ≡ true) (k : fit S x ≡ true) (b : write_base_conflict S x ≡ false) where
  abbrev seen : List ℕ
  seen = (walk S.heads S.next).seen

  abbrev rep : Repairable S
  rep = repairable_parts S (resting_parts S h).mendable

  abbrev fits : Fit S x
  fits = fit_parts S x k

  abbrev chains : (L : ℕ → List ℕ) × Chained S.heads S.next seen L
  chains = walk_sound S.heads S.next z.next rep.walked

  abbrev fitting : Write → Bool
  fitting w = write_fit S.xmin S.next seen x.txid.0 w

  -- heads and marks after publication
  abbrev heads' : List ℕ
  heads' = new_heads (finals x) S.heads

  abbrev seen' : List ℕ
  seen' = (walk heads' S.next).seen

  -- place 0 is free
  zero_free : used S.xmin 0 ≡ false
  zero_free = not-true (used S.xmin 0) (slots_parts S rep.slots).first

  -- the final writes can be published
  ready_one : (w : Write) → fitting w ≡ true → conflicts S.heads w ≡ false → Ready S.heads S.next chains.0 w
  ready_one w f c =
      let p = write_parts S.xmin S.next seen x.txid.0 w f in
      let n = w.new.0 in
      record {
        row = omega (arith, ltb-true w.row.0 rows p.row, z.heads);
        pos = by (eqb n 0) (λ e. clash (rw (eqb-true n 0 e) at p.taken) zero_free) (λ e. omega (arith, eqb-false n 0 e));
        low = omega (arith, leb-true n slots p.new, z.next);
        over =
            eqb-true (get_or S.next n 0) w.base.0 p.over
            ∙ sym (eqb-true (get_or S.heads w.row.0 0) w.base.0 (not-false (eqb (get_or S.heads w.row.0 0) w.base.0) c));
        off = λ r lt. by (memb n (chains.0 r)) (λ m. clash (chains.1.marked r n lt m) (not-true (on seen n) p.off)) (λ e. e);
      }

  ready_all : (ws : List Write) → all fitting ws ≡ true → any (conflicts S.heads) ws ≡ false → Each (Ready S.heads S.next chains.0) ws
  ready_all [] f c = tt
  ready_all (w ∷ ws) f c =
      let a = and_true (fitting w) (all fitting ws) f in
      let o = or_false (conflicts S.heads w) (any (conflicts S.heads) ws) c in
      (ready_one w a.0 o.0, ready_all ws a.1 o.1)

  -- the final writes are fit, their bases are heads, and they are distinct
  finals_fit : all fitting (finals x) ≡ true
  unfolding finals
  finals_fit = finals_all fitting (writes_of x) fits.writes

  finals_based : any (conflicts S.heads) (finals x) ≡ false
  unfolding finals write_base_conflict
  finals_based = b

  finals_apart : distinct (finals x) ≡ true
  unfolding finals
  finals_apart = finals_distinct (writes_of x) fits.apart

  -- the chains that publication leaves
  published : ((walk heads' S.next).ok ≡ true) × Chained heads' S.next seen' (new_chains (finals x) chains.0)
  published = walk_complete heads' S.next (new_chains (finals x) chains.0) z.next
      (publish_chains S.next (finals x) S.heads chains.0 finals_apart (ready_all (finals x) finals_fit finals_based) chains.1.stand)

  -- a slot that is no final write's is on a chain after publication where it was before
  on_same : (p : ℕ) → memb p (new_pointers (finals x)) ≡ false → on seen' p ≡ on seen p
  on_same p n =
      let long = new_heads_long (finals x) S.heads in
      iff (on seen' p) (on seen p)
      (λ e. let f = published.1.found p e in
      chains.1.marked f.0 p (omega (arith, f.1, long)) (sym (new_cases (finals x) chains.0 f.0 p n) ∙ f.2))
      (λ e. let f = chains.1.found p e in
      published.1.marked f.0 p (omega (arith, f.1, long)) (new_cases (finals x) chains.0 f.0 p n ∙ f.2))

  -- so the same slots are recycled
  pub recycled_same : (T : Store) → T.heads ≡ heads' → T.next ≡ S.next → T.xmin ≡ S.xmin → recycled T x ≡ recycled S x
  unfolding recycled own_slots
  recycled_same T eh en ex =
      rw (eh, en, ex) (those_those
      (λ p. not (memb p (new_pointers (finals x))))
      (λ p. eqb (get_or S.xmin p 0) x.txid.0 && not (on seen' p))
      (λ p. eqb (get_or S.xmin p 0) x.txid.0 && not (on seen p))
      (used_slots S.xmin)
      (λ p e. ap (λ (c : Bool). eqb (get_or S.xmin p 0) x.txid.0 && not c) (on_same p (not-true (memb p (new_pointers (finals x))) e))))

  -- neither side of a final write is recycled
  base_kept : (w : Write) → conflicts S.heads w ≡ false → w.row.0 < length S.heads → memb w.base.0 (recycled S x) ≡ false
  base_kept w c lt =
      let q = w.base.0 in
      let e : get_or S.heads w.row.0 0 ≡ q = eqb-true (get_or S.heads w.row.0 0) q (not-false (eqb (get_or S.heads w.row.0 0) q) c) in
      by (memb q (recycled S x))
      (λ m. let r = (recycled_parts S x q m).0 in
      by (eqb q 0)
      (λ n. clash (rw (eqb-true q 0 n) at (lt-ltb 0 (get_or S.xmin q 0) r.some)) zero_free)
      (λ n. clash (chains.1.marked w.row.0 q lt
      (chain_head S.next q (chains.0 w.row.0) (rw e at (chains.1.stand.chain w.row.0 lt)) (eqb-false q 0 n))) r.off))
      (λ n. n)

  both_kept : (ws : List Write) → all fitting ws ≡ true → any (conflicts S.heads) ws ≡ false
      → ((p : ℕ) → memb p (new_pointers ws) ≡ true → memb p (recycled S x) ≡ false)
      → Each (Spared (recycled S x)) ws
  both_kept [] f c n = tt
  both_kept (w ∷ ws) f c n =
      let a = and_true (fitting w) (all fitting ws) f in
      let o = or_false (conflicts S.heads w) (any (conflicts S.heads) ws) c in (
        (base_kept w o.0 (ready_one w a.0 o.0).row, n w.new.0 (mem_here w.new.0 (new_pointers ws))),
        both_kept ws a.1 o.1 (λ p m. n p (mem_there p w.new.0 (new_pointers ws) m)),
      )

  -- so recycling changes no key that counts
  pub changes_recycled : (T : Store) → changes (apply_all (map put_free (recycled S x)) T) x ≡ changes T x
  unfolding changes
  changes_recycled T = freed_changes (recycled S x) T (finals x) (both_kept (finals x) finals_fit finals_based
      (λ p m. by (memb p (recycled S x)) (λ k. clash m (recycled_parts S x p k).1) (λ k. k)))
