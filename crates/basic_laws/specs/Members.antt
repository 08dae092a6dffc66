-- Tests over lists: what they say of each place and each member, and back.
use Rattle.std.specs.Prelude.{◌≡◌, refl, Bool, true, false, cond, ◌&&◌, ◌||◌, List, [], ◌∷◌, ℕ, zero, suc, ◌+◌, ◌≤◌, ◌<◌, length, get_or, eqb}
use Rattle.std.proofs.Common.{sym, ap, ◌∙◌, arith, eqb-true, ne_eqb, ltb-true, lt-ltb}
use Rattle.std.proofs.lemmas.Bool.{eqb-false}
use Rattle.rules.specs.Lists.{all, those, each_or, nonzero_from, memb, nonzero}
use Rattle.basic_laws.specs.Cases.{by, clash, iff, or_true, or_left, or_right, and_true, and_false, and_both, mem_here, mem_there}

module _ {ℓ} {A : Type ℓ} where
  -- a statement of each member
  abbrev pub Each : (A → Type 0) → List A → Type 0
  Each P [] = Unit {0}
  Each P (x ∷ l) = P x × Each P l

  -- a test that holds of all holds at each place, and back
  pub all_at : (f : A → Bool) (l : List A) → all f l ≡ true → (p : ℕ) (z : A) → p < length l → f (get_or l p z) ≡ true
  all_at f [] h p z lt = absurd (omega arith)
  all_at f (x ∷ l) h zero z lt = (and_true (f x) (all f l) h).0
  all_at f (x ∷ l) h (suc p) z lt = all_at f l (and_true (f x) (all f l) h).1 p z (omega arith)

  pub at_all : (f : A → Bool) (l : List A) (z : A) → ((p : ℕ) → p < length l → f (get_or l p z) ≡ true) → all f l ≡ true
  at_all f [] z h = refl
  at_all f (x ∷ l) z h = and_both (f x) (all f l) (h zero (omega arith)) (at_all f l z (λ p lt. h (suc p) (omega arith)))

  -- the test g of each element and each later one
  abbrev pub pairs : (A → A → Bool) → List A → Bool
  pairs g [] = true
  pairs g (a ∷ l) = all (g a) l && pairs g l

  -- two filters, of which the second matters only where the first passes
  pub those_those : (f g k : A → Bool) (l : List A) → ((x : A) → f x ≡ true → g x ≡ k x) → those f (those g l) ≡ those f (those k l)
  those_those f g k [] h = refl
  those_those f g k (x ∷ l) h =
      let r = those_those f g k l h in
      by (f x) (λ e. rw (h x e) (both (k x) r)) (λ e. out (g x) (those g l) e ∙ r ∙ sym (out (k x) (those k l) e))
    where
      both : (b : Bool) → those f (those g l) ≡ those f (those k l)
          → those f (cond b (x ∷ those g l) (those g l)) ≡ those f (cond b (x ∷ those k l) (those k l))
      both true r = ap (λ (m : List A). cond (f x) (x ∷ m) m) r
      both false r = r

      out : (b : Bool) (m : List A) → f x ≡ false → those f (cond b (x ∷ m) m) ≡ those f m
      out true m e = rw e
      out false m e = refl

-- a test of two lists: where the first fails at a place the second holds there, and back
pub each_or_law {ℓ κ} : {A : Type ℓ} {B : Type κ} (f : A → Bool) (g : B → Bool) (l : List A) (m : List B) (a : A) (b : B)
    → each_or f g l m ≡ true → (p : ℕ) → p < length m → f (get_or l p a) ≡ false → g (get_or m p b) ≡ true
each_or_law f g l [] a b h p lt n = absurd (omega arith)
each_or_law f g [] (y ∷ m) a b h zero lt n = (and_true (g y) (each_or f g [] m) h).0
each_or_law f g [] (y ∷ m) a b h (suc p) lt n = each_or_law f g [] m a b (and_true (g y) (each_or f g [] m) h).1 p (omega arith) n
each_or_law f g (x ∷ l) (y ∷ m) a b h zero lt n =
    or_true (f x) (g y) (and_true (f x || g y) (each_or f g l m) h).0 (λ e. clash e n) (λ e. e)
each_or_law f g (x ∷ l) (y ∷ m) a b h (suc p) lt n = each_or_law f g l m a b (and_true (f x || g y) (each_or f g l m) h).1 p (omega arith) n

pub or_each {ℓ κ} : {A : Type ℓ} {B : Type κ} (f : A → Bool) (g : B → Bool) (l : List A) (m : List B) (a : A) (b : B)
    → length m ≤ length l → ((p : ℕ) → p < length m → f (get_or l p a) ≡ false → g (get_or m p b) ≡ true) → each_or f g l m ≡ true
or_each f g l [] a b le h = refl
or_each f g [] (y ∷ m) a b le h = absurd (omega arith)
or_each f g (x ∷ l) (y ∷ m) a b le h = and_both (f x || g y) (each_or f g l m)
    (by (f x) (λ e. or_left (f x) (g y) e) (λ e. or_right (f x) (g y) (h zero (omega arith) e)))
    (or_each f g l m a b (omega arith) (λ p lt. h (suc p) (omega arith)))

-- a test of all holds of each member, and back
pub all_mem : (f : ℕ → Bool) (l : List ℕ) → all f l ≡ true → (p : ℕ) → memb p l ≡ true → f p ≡ true
all_mem f [] h p m = clash {b = false} m refl
all_mem f (x ∷ l) h p m =
    let a = and_true (f x) (all f l) h in
    or_true (eqb p x) (memb p l) m (λ e. rw (eqb-true p x e) a.0) (λ e. all_mem f l a.1 p e)

pub mem_all : (f : ℕ → Bool) (l : List ℕ) → ((p : ℕ) → memb p l ≡ true → f p ≡ true) → all f l ≡ true
mem_all f [] h = refl
mem_all f (x ∷ l) h = and_both (f x) (all f l) (h x (mem_here x l)) (mem_all f l (λ p m. h p (mem_there p x l m)))

-- what stands at a place is a member, and a member stands somewhere
pub at_mem : (l : List ℕ) (q : ℕ) → q < length l → memb (get_or l q 0) l ≡ true
at_mem [] q lt = absurd (omega arith)
at_mem (x ∷ l) zero lt = mem_here x l
at_mem (x ∷ l) (suc q) lt = mem_there (get_or l q 0) x l (at_mem l q (omega arith))

pub mem_at : (l : List ℕ) (y : ℕ) → memb y l ≡ true → (q : ℕ) × (q < length l) × (get_or l q 0 ≡ y)
mem_at [] y m = clash {b = false} m refl
mem_at (x ∷ l) y m = or_true (eqb y x) (memb y l) m
    (λ e. (zero, omega arith, sym (eqb-true y x e)))
    (λ e. let k = mem_at l y e in (suc k.0, omega (arith, k.1), k.2))

-- the members of a filtered list
pub mem_those : (f : ℕ → Bool) (l : List ℕ) (p : ℕ) → memb p (those f l) ≡ (memb p l && f p)
mem_those f [] p = refl
mem_those f (x ∷ l) p = let r = mem_those f l p in by (f x)
    (λ e. rw (e, r) (by (eqb p x) (λ q. rw (q, eqb-true p x q, e)) (λ q. rw q)))
    (λ e. rw (e, r) (by (eqb p x) (λ q. rw (q, eqb-true p x q, e) (and_false (memb x l))) (λ q. rw q)))

-- the places of the nonzero numbers: a test of all of them holds at each, and back
from_at : (f : ℕ → Bool) (k : ℕ) (l : List ℕ) → all f (nonzero_from k l) ≡ true → (p q : ℕ) → q ≡ k + p → 0 < get_or l p 0 → f q ≡ true
from_at f k [] h p q e lt = absurd (omega arith)
from_at f k (x ∷ l) h zero q e lt =
    let eq : q ≡ k = omega arith in
    rw eq (and_true (f k) (all f (nonzero_from (suc k) l)) (rw (ne_eqb x 0 (omega arith)) at h)).0
from_at f k (x ∷ l) h (suc p) q e lt = from_at f (suc k) l (rest (eqb x 0) h) p q (omega arith) lt
  where
    rest : (b : Bool) → all f (cond b (nonzero_from (suc k) l) (k ∷ nonzero_from (suc k) l)) ≡ true → all f (nonzero_from (suc k) l) ≡ true
    rest true h = h
    rest false h = (and_true (f k) (all f (nonzero_from (suc k) l)) h).1

at_from : (f : ℕ → Bool) (k : ℕ) (l : List ℕ) → ((p q : ℕ) → q ≡ k + p → 0 < get_or l p 0 → f q ≡ true) → all f (nonzero_from k l) ≡ true
at_from f k [] h = refl
at_from f k (x ∷ l) h =
    let r = at_from f (suc k) l (λ p q e lt. h (suc p) q (omega arith) lt) in
    by (eqb x 0)
    (λ e. rw e r)
    (λ e. rw e (and_both (f k) (all f (nonzero_from (suc k) l)) (h zero k (omega arith) (omega (arith, eqb-false x 0 e))) r))

pub all_nonzero : (f : ℕ → Bool) (l : List ℕ) → all f (nonzero_from 0 l) ≡ true → (p : ℕ) → 0 < get_or l p 0 → f p ≡ true
all_nonzero f l h p lt = from_at f 0 l h p p (omega arith) lt

pub nonzero_all : (f : ℕ → Bool) (l : List ℕ) → ((p : ℕ) → 0 < get_or l p 0 → f p ≡ true) → all f (nonzero_from 0 l) ≡ true
nonzero_all f l h = at_from f 0 l (λ p q e lt. let eq : p ≡ q = omega arith in rw eq at (h p lt))

-- they are the places of the nonzero numbers
pub mem_nonzero : (l : List ℕ) (p : ℕ) → memb p (nonzero_from 0 l) ≡ nonzero (get_or l p 0)
mem_nonzero l p = iff (memb p (nonzero_from 0 l)) (nonzero (get_or l p 0))
    (λ m. all_mem (λ q. nonzero (get_or l q 0)) (nonzero_from 0 l) (nonzero_all (λ q. nonzero (get_or l q 0)) l (λ q lt. lt-ltb 0 (get_or l q 0) lt)) p m)
    (λ n.
    all_nonzero (λ q. memb q (nonzero_from 0 l)) l (mem_all (λ q. memb q (nonzero_from 0 l)) (nonzero_from 0 l) (λ q m. m)) p (ltb-true 0 (get_or l p 0) n))
