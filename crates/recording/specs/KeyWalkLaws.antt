-- The walk along one key's postings: in a rising list it finds all of the key, in any list none of another.
use Rattle.std.specs.Prelude.{◌≡◌, false, ℕ, suc, ◌≤◌, take, drop, eqb}
use Rattle.std.proofs.Math.Path.{refl}
use Rattle.std.proofs.Common.{sym, ap, arith}
use Rattle.std.proofs.Math.Bool.{true}
use mathlib.Core.List.{List, [], ◌∷◌, ◌++◌}
use Rattle.std.proofs.Math.Dec.{ltb, leb}
use borrow.Author.Tests.{ltb-true, ltb-false, lt-ltb, leb-true, le-leb, eqb-false, ne_eqb}
use Rattle.records.specs.Limits.{rows}
use Rattle.rules.specs.Lists.{all, any, rising, those}
use Rattle.rules.specs.Store.{posting, key_of}
use Rattle.basic_laws.specs.Cases.{by, and_true}
use Rattle.packed.specs.Insert.{ahead}
use Rattle.packed.specs.Halving.{place_found}
use Rattle.packed.specs.HalvingLaws.{place_rising}
use Rattle.recording.specs.KeyWalk.{of_key, leading, first_posting, key_walk}

module _ (k : ℕ) where
  -- past the key's last posting there is none
  past : (lo : ℕ) (l : List ℕ) → posting k rows ≤ lo → rising lo l ≡ true → those (of_key k) l ≡ []
  past lo [] h r = refl
  past lo (c ∷ l) h r =
      let a = and_true (leb lo c) (rising (suc c) l) r in
      let le = leb-true lo c a.0 in
      rw (ne_eqb (key_of c) k (λ e. omega arith)) (past (suc c) l (omega arith) a.1)

  -- from its first place on they stand in front
  lead : (lo : ℕ) (l : List ℕ) → first_posting k ≤ lo → rising lo l ≡ true → leading (of_key k) l ≡ those (of_key k) l
  lead lo [] h r = refl
  lead lo (c ∷ l) h r =
      let a = and_true (leb lo c) (rising (suc c) l) r in
      let le = leb-true lo c a.0 in
      by (eqb (key_of c) k)
      (λ e. rw e (ap (λ (q : List ℕ). c ∷ q) (lead (suc c) l (omega arith) a.1)))
      (λ e. let ne = eqb-false (key_of c) k e in rw e (sym (past (suc c) l (omega (arith, ne)) a.1)))

  from_ahead : (lo : ℕ) (l : List ℕ) → rising lo l ≡ true → leading (of_key k) (drop (ahead (first_posting k) l) l) ≡ those (of_key k) l
  unfolding ahead
  from_ahead lo [] r = refl
  from_ahead lo (c ∷ l) r =
      let a = and_true (leb lo c) (rising (suc c) l) r in
      by (ltb c (first_posting k))
      (λ t. let lt = ltb-true c (first_posting k) t in rw (t, ne_eqb (key_of c) k (λ e. omega arith)) (from_ahead (suc c) l a.1))
      (λ t. let ge = ltb-false c (first_posting k) t in rw t (lead c (c ∷ l) ge (rw (le-leb c c (omega arith)) a.1)))

  -- in a rising list it finds the postings of the key, as going through the whole list would
  pub walk_rising : (lo : ℕ) (l : List ℕ) → rising lo l ≡ true → key_walk k l ≡ those (of_key k) l
  unfolding key_walk
  walk_rising lo l r = rw (place_rising (first_posting k) lo l r) (from_ahead lo l r)

  -- from a posting of the key on, no key is smaller
  high : (lo : ℕ) (l : List ℕ) → first_posting k ≤ lo → rising lo l ≡ true → all (λ c. leb k (key_of c)) l ≡ true
  high lo [] h r = refl
  high lo (c ∷ l) h r =
      let a = and_true (leb lo c) (rising (suc c) l) r in
      let le = leb-true lo c a.0 in
      rw (le-leb k (key_of c) (omega arith)) (high (suc c) l (omega arith) a.1)

  -- in a rising list the keys in front of the place are smaller and none behind it is: there the first posting of the key stands, or would stand
  pub place_of_key : (lo : ℕ) (l : List ℕ) → rising lo l ≡ true → let i = (place_found (first_posting k) l).at in
      (all (λ c. ltb (key_of c) k) (take i l) ≡ true) × (all (λ c. leb k (key_of c)) (drop i l) ≡ true)
  unfolding ahead
  place_of_key lo l r = rw (place_rising (first_posting k) lo l r) (parted lo l r)
    where
      parted : (lo : ℕ) (l : List ℕ) → rising lo l ≡ true → let i = ahead (first_posting k) l in
          (all (λ c. ltb (key_of c) k) (take i l) ≡ true) × (all (λ c. leb k (key_of c)) (drop i l) ≡ true)
      parted lo [] r = (refl, refl)
      parted lo (c ∷ l) r =
          let a = and_true (leb lo c) (rising (suc c) l) r in
          by (ltb c (first_posting k))
          (λ t. let lt = ltb-true c (first_posting k) t in let p = parted (suc c) l a.1 in rw (t, lt-ltb (key_of c) k (omega arith)) p)
          (λ t. let ge = ltb-false c (first_posting k) t in rw t (refl, high c (c ∷ l) ge (rw (le-leb c c (omega arith)) a.1)))

-- on any list: the postings of key k in front, all of them up to the end or to the first of another key
pub record KeyRun (k : ℕ) (l w : List ℕ) : Type 0 where
  pub rest : List ℕ
  pub stands : l ≡ w ++ rest
  pub keyed : all (of_key k) w ≡ true
  pub ends : any (of_key k) (take 1 rest) ≡ false

pub walk_run : (k : ℕ) (l : List ℕ) → KeyRun k (drop (place_found (first_posting k) l).at l) (key_walk k l)
unfolding key_walk
walk_run k l = front (drop (place_found (first_posting k) l).at l)
  where
    front : (l : List ℕ) → KeyRun k l (leading (of_key k) l)
    front [] = record { rest = []; stands = refl; keyed = refl; ends = refl }
    front (c ∷ l) =
        let r = front l in
        by (eqb (key_of c) k)
        (λ e. rw e (record { rest = r.rest; stands = ap (λ (q : List ℕ). c ∷ q) r.stands; keyed = rw e r.keyed; ends = r.ends }))
        (λ e. rw e (record { rest = c ∷ l; stands = refl; keyed = refl; ends = rw e }))
