-- "Other calls": what a transaction sees, reads and records.
use Rattle.std.specs.Prelude.{◌≡◌, refl, Bool, true, false, not, ◌&&◌, List, [], ◌∷◌, ◌++◌, ◌↔◌, ℕ, zero, suc, ◌≤◌, ◌<◌, length, get_or, eqb, ltb}
use Rattle.std.proofs.Common.{sym, ap, ◌∙◌, inl, inr, ⊎_elim, arith, length-take, get_or-take, eqb-true, eq-eqb, ltb-true, lt-ltb}
use Rattle.std.proofs.Math.ListN.{get_or-eq_default}
use Rattle.std.proofs.lemmas.Bool.{not-true}
use Rattle.records.specs.Limits.{read_limit, index_read_limit}
use Rattle.records.specs.Setters.{with_lists}
use Rattle.rules.specs.Lists.{any, memb, pad, first_of}
use Rattle.rules.specs.Types.{Store, Tx, ReadRecord, IndexRead, Value, Absent, Key}
use Rattle.rules.specs.Store.{value_at}
use Rattle.rules.specs.Transaction.{snapshot_of, sees, with_reads, with_index_reads}
use Rattle.rules.specs.Calls.{record_stamp}
use Rattle.basic_laws.specs.Cases.{by, clash, and_true, and_both, or_true, or_false, or_left, or_right, mem_here, mem_there}
use Rattle.basic_laws.specs.Members.{at_mem, mem_at}
use Rattle.basic_laws.specs.LaidOut.{pad_length}
use Rattle.statements.specs.ReadWords.{InSnapshot, Visible, NoneIn, FirstIn, HasValue, LaidOut, Kept, Stamping, added, there}
use Rattle.statements.specs.ReadWords.{read_of, index_read_of, of_stripe}

-- VISIBILITY

-- the snapshot's members are its txids
pub in_snapshot : (x : Tx) (t : ℕ) → (memb t (snapshot_of x) ≡ true) ↔ InSnapshot x t
in_snapshot x t =
    let n = x.snapshot_count in
    let long = length-take n x.snapshot in (
      λ m. let a = mem_at (snapshot_of x) t m in
          (a.0, omega (arith, a.1, long), omega (arith, a.1, long), sym (get_or-take n x.snapshot a.0 0 (omega (arith, a.1, long))) ∙ a.2),
      λ s. rw (get_or-take n x.snapshot s.0 0 s.1, s.3) at (at_mem (snapshot_of x) s.0 (omega (arith, s.1, s.2, long))),
    )

-- "A creator is visible if it is the reader, or below snapshot_xmax and not in the snapshot."
pub sees_says : (x : Tx) (t : ℕ) → (sees x t ≡ true) ↔ Visible x t
unfolding sees
sees_says x t =
    let me = eqb t x.txid.0 in
    let low = ltb t x.snapshot_xmax.0 in
    let out = memb t (snapshot_of x) in (
      λ h. or_true me (low && not out) h (λ e. inl (eqb-true t x.txid.0 e))
          (λ e. let a = and_true low (not out) e in
          inr (ltb-true t x.snapshot_xmax.0 a.0, λ s. clash ((in_snapshot x t).1 s) (not-true out a.1))),
      λ o. ⊎_elim (λ e. or_left me (low && not out) (eq-eqb t x.txid.0 e))
          (λ (a : (t < x.snapshot_xmax.0) × (InSnapshot x t → ⊥)). or_right me (low && not out)
          (and_both low (not out) (lt-ltb t x.snapshot_xmax.0 a.0)
          (by out (λ e. absurd (a.1 ((in_snapshot x t).0 e))) (λ e. rw e)))) o,
    )

-- and one that isn't seen isn't visible
pub not_seen : (x : Tx) (t : ℕ) → (sees x t ≡ false) ↔ (Visible x t → ⊥)
not_seen x t = (λ e s. clash ((sees_says x t).1 s) e, λ n. by (sees x t) (λ e. absurd (n ((sees_says x t).0 e))) (λ e. e))

-- "the first .. with a visible creator": a test that says what is meant finds the first that has it, or none has it
module _ (f : ℕ → Bool) (meant : ℕ → Type 0) (says : (q : ℕ) → (f q ≡ true) ↔ meant q) where
  pub none_meant : (l : List ℕ) → any f l ≡ false → NoneIn meant l
  none_meant [] h q m s = clash {b = false} m refl
  none_meant (p ∷ l) h q m s =
      let o = or_false (f p) (any f l) h in
      or_true (eqb q p) (memb q l) m (λ e. clash ((says q).1 s) (rw (eqb-true q p e) o.0)) (λ e. none_meant l o.1 q e s)

  -- and back
  pub meant_none : (l : List ℕ) → NoneIn meant l → any f l ≡ false
  meant_none [] n = refl
  meant_none (p ∷ l) n = rw (
    by (f p) (λ e. absurd (n p (mem_here p l) ((says p).0 e))) (λ e. e),
    meant_none l (λ q m. n q (mem_there q p l m)),
  )

  pub first_says : (l : List ℕ) → any f l ≡ true → FirstIn meant l (first_of f l)
  first_says [] h = clash {b = false} h refl
  first_says (p ∷ l) h = by (f p)
      (λ e. rw e (record { before = []; after = l; split = refl; none = λ q m. clash {b = false} m refl; passes = (says p).0 e }))
      (λ e. let i = first_says l (rw e at h) in
      rw e (record {
        before = p ∷ i.before;
        after = i.after;
        split = ap (λ (m : List ℕ). p ∷ m) i.split;
        none = λ q m s. or_true (eqb q p) (memb q i.before) m (λ k. clash ((says q).1 s) (rw (eqb-true q p k) e)) (λ k. i.none q k s);
        passes = i.passes;
      }))

  -- there is one first
  pub first_one : (before : List ℕ) (p : ℕ) (after : List ℕ) → NoneIn meant before → meant p → first_of f (before ++ p ∷ after) ≡ p
  first_one [] p after n s = rw ((says p).1 s)
  first_one (q ∷ before) p after n s =
      let not_this : f q ≡ false = by (f q) (λ e. absurd (n q (mem_here q before) ((says q).0 e))) (λ e. e) in
      rw not_this (first_one before p after (λ y m. n y (mem_there y q before m)) s)

-- VALUES AND RECORDS

-- "a value (a 32-bit key, or none)"
pub value_says : (S : Store) (p : ℕ) → HasValue S p (value_at S.key S.has p)
value_says S p = by (get_or S.has p false) (λ e. rw e (inl (refl, refl))) (λ e. rw e (inr (refl, refl)))

-- and no other value
pub value_one : (S : Store) (p : ℕ) (v : Value) → HasValue S p v → v ≡ value_at S.key S.has p
value_one S p v h = ⊎_elim (λ (a : (get_or S.has p false ≡ true) × (v ≡ Key (get_or S.key p 0))). rw a.0 a.1)
    (λ (a : (get_or S.has p false ≡ false) × (v ≡ Absent)). rw a.0 a.1) h

-- what is laid out stands in its places, and behind it there are blanks
pub laid_out : {A : Type 0} (n : ℕ) (z : A) (l : List A) → length l ≤ n → LaidOut n z l (pad n z l) (length l)
laid_out n z l h = record { long = pad_length n z l; counted = refl; holds = λ i lt. at n l i h; blank = λ i le. at n l i h ∙ get_or-eq_default l z le }
  where
    none : (n i : ℕ) → get_or (pad n z []) i z ≡ z
    none zero i = refl
    none (suc n) zero = refl
    none (suc n) (suc i) = none n i

    at : (n : ℕ) (l : List _) (i : ℕ) → length l ≤ n → get_or (pad n z l) i z ≡ get_or l i z
    at n [] i h = none n i
    at zero (y ∷ l) i h = absurd (omega arith)
    at (suc n) (y ∷ l) zero h = refl
    at (suc n) (y ∷ l) (suc i) h = at n l i (omega arith)

-- other reads and index reads leave all else
kept_beside : (x : Tx) (rs : List ReadRecord) (nr : ℕ) (is : List IndexRead) (ni : ℕ) (b : Bool)
    → Kept x (with_lists x.writes x.write_count rs nr is ni b x.savepoints x.savepoint_count x)
kept_beside x rs nr is ni b = record {
  txid = refl;
  snapshot_xmin = refl;
  snapshot_xmax = refl;
  snapshot = refl;
  snapshot_count = refl;
  writes = refl;
  write_count = refl;
  savepoints = refl;
  savepoint_count = refl;
}

-- other reads: nothing else changes
pub reads_alone : (x : Tx) (l : List ReadRecord) → length l ≤ read_limit
    → Kept x (with_reads l x)
    × LaidOut read_limit (read_of 0 0 0) l (with_reads l x).reads (with_reads l x).read_count
    × ((with_reads l x).index_reads ≡ x.index_reads)
    × ((with_reads l x).index_read_count ≡ x.index_read_count)
    × ((with_reads l x).index_conflict ≡ x.index_conflict)
reads_alone x l h = (kept_beside x _ _ _ _ _, laid_out read_limit (read_of 0 0 0) l h, refl, refl, refl)

-- other index reads and index_conflict: nothing else changes
pub index_reads_alone : (x : Tx) (l : List IndexRead) (b : Bool) → length l ≤ index_read_limit
    → Kept x (with_index_reads l b x)
    × LaidOut index_read_limit (index_read_of 0 0) l (with_index_reads l b x).index_reads (with_index_reads l b x).index_read_count
    × ((with_index_reads l b x).index_conflict ≡ b)
    × ((with_index_reads l b x).reads ≡ x.reads)
    × ((with_index_reads l b x).read_count ≡ x.read_count)
index_reads_alone x l b h = (kept_beside x _ _ _ _ _, laid_out index_read_limit (index_read_of 0 0) l h, refl, refl, refl)

-- the one after the other
pub kept_both : {x y z : Tx} → Kept x y → Kept y z → Kept x z
kept_both a b = record {
  txid = b.txid ∙ a.txid;
  snapshot_xmin = b.snapshot_xmin ∙ a.snapshot_xmin;
  snapshot_xmax = b.snapshot_xmax ∙ a.snapshot_xmax;
  snapshot = b.snapshot ∙ a.snapshot;
  snapshot_count = b.snapshot_count ∙ a.snapshot_count;
  writes = b.writes ∙ a.writes;
  write_count = b.write_count ∙ a.write_count;
  savepoints = b.savepoints ∙ a.savepoints;
  savepoint_count = b.savepoint_count ∙ a.savepoint_count;
}

-- "and the stripe's stamp once per stripe"
pub stamp_says : (i t : ℕ) (l : List IndexRead) → Stamping i t l (record_stamp i t l)
stamp_says i t l = by (any (of_stripe i) l) (λ e. rw e (there e)) (λ e. rw e (added e))
