-- Rising lists: what is put in and taken out, that each member stands once, and that a rising list is told by its members.
use Rattle.std.specs.Prelude.{◌≡◌, refl, Bool, true, false, not, ◌&&◌, ◌||◌, List, [], ◌∷◌, ℕ, suc, ◌+◌, ◌≤◌, length, eqb, ltb, leb}
use Rattle.std.proofs.Common.{sym, ◌∙◌, arith, eqb-true, eq-eqb, ltb-true, ltb-false, leb-true, le-leb}
use Rattle.std.proofs.lemmas.Bool.{eqb-false}
use Rattle.basic_laws.specs.Cases.{by, clash, iff, or_true, or_false, and_true, and_both, mem_here}
use Rattle.rules.specs.Lists.{all, memb, same, rising, those, into, without, in_order}
use Rattle.basic_laws.specs.Members.{mem_those}
use Rattle.basic_laws.specs.Rearranged.{or_same, or_swap, and_comm}

-- a rising list from a higher number on is one from a lower
pub rising_less : (a b : ℕ) (l : List ℕ) → a ≤ b → rising b l ≡ true → rising a l ≡ true
rising_less a b [] le h = refl
rising_less a b (x ∷ l) le h =
    let c = and_true (leb b x) (rising (suc x) l) h in
    and_both (leb a x) (rising (suc x) l) (le-leb a x (omega (arith, leb-true b x c.0))) c.1

-- its members are not below its start
pub rising_from : (lo : ℕ) (l : List ℕ) (x : ℕ) → rising lo l ≡ true → memb x l ≡ true → lo ≤ x
rising_from lo [] x h m = clash {b = false} m refl
rising_from lo (y ∷ l) x h m =
    let c = and_true (leb lo y) (rising (suc y) l) h in
    let le = leb-true lo y c.0 in
    or_true (eqb x y) (memb x l) m (λ e. omega (arith, eqb-true x y e)) (λ e. omega (arith, rising_from (suc y) l x c.1 e))

-- a list that rises past a number lacks it
pub rising_past : (c : ℕ) (l : List ℕ) → rising (suc c) l ≡ true → memb c l ≡ false
rising_past c l h = by (memb c l) (λ m. absurd (omega (arith, rising_from (suc c) l c h m))) (λ e. e)

-- "kept rising, packed, unique": no number stands twice
abbrev pub unique : List ℕ → Bool
unique [] = true
unique (x ∷ l) = not (memb x l) && unique l

-- the paper says it twice: what rises is unique
pub rising_unique : (lo : ℕ) (l : List ℕ) → rising lo l ≡ true → unique l ≡ true
rising_unique lo [] h = refl
rising_unique lo (x ∷ l) h =
    let c = and_true (leb lo x) (rising (suc x) l) h in
    rw (rising_past x l c.1) (rising_unique (suc x) l c.1)

-- a number put in: it is a member, and what was one still is
pub mem_into : (c : ℕ) (l : List ℕ) (p : ℕ) → memb p (into c l) ≡ (eqb p c || memb p l)
mem_into c [] p = refl
mem_into c (y ∷ l) p = by (ltb c y)
    (λ e. rw e)
    (λ e. by (eqb c y)
    (λ k. rw (e, k, eqb-true c y k) (or_same (eqb p y) (memb p l)))
    (λ k. rw (e, k, mem_into c l p) (or_swap (eqb p y) (eqb p c) (memb p l))))

-- .. and it still rises
pub rising_into : (lo c : ℕ) (l : List ℕ) → lo ≤ c → rising lo l ≡ true → rising lo (into c l) ≡ true
rising_into lo c [] le h = rw (le-leb lo c le)
rising_into lo c (y ∷ l) le h =
    let a = and_true (leb lo y) (rising (suc y) l) h in
    by (ltb c y)
    (λ e. rw (e, le-leb lo c le, le-leb (suc c) y (ltb-true c y e)) a.1)
    (λ e. by (eqb c y)
    (λ k. rw (e, k) h)
    (λ k. rw (e, k, a.0) (rising_into (suc y) c l (omega (arith, ltb-false c y e, eqb-false c y k)) a.1)))

-- either way round
pub eqb_sym : (a b : ℕ) → eqb a b ≡ eqb b a
eqb_sym a b = iff (eqb a b) (eqb b a) (λ e. eq-eqb b a (sym (eqb-true a b e))) (λ e. eq-eqb a b (sym (eqb-true b a e)))

-- a number taken out: it is no member, and what else was one still is
pub mem_without : (c : ℕ) (l : List ℕ) (p : ℕ) → memb p (without c l) ≡ (not (eqb p c) && memb p l)
mem_without c l p = rw (eqb_sym p c) (mem_those (λ y. not (eqb c y)) l p ∙ and_comm (memb p l) (not (eqb c p)))

-- some of a rising list rise, and so do all but one
pub rising_those : (lo : ℕ) (f : ℕ → Bool) (l : List ℕ) → rising lo l ≡ true → rising lo (those f l) ≡ true
rising_those lo f [] h = refl
rising_those lo f (x ∷ l) h =
    let a = and_true (leb lo x) (rising (suc x) l) h in
    let r = rising_those (suc x) f l a.1 in
    by (f x) (λ e. rw (e, a.0) r) (λ e. rw e (rising_less lo (suc x) (those f l) (omega (arith, leb-true lo x a.0)) r))

pub rising_without : (lo c : ℕ) (l : List ℕ) → rising lo l ≡ true → rising lo (without c l) ≡ true
rising_without lo c l h = rising_those lo (λ y. not (eqb c y)) l h

-- a rising list is told by its members
pub rising_ext : (lo mo : ℕ) (a b : List ℕ) → rising lo a ≡ true → rising mo b ≡ true → ((x : ℕ) → memb x a ≡ memb x b) → a ≡ b
rising_ext lo mo [] [] ra rb h = refl
rising_ext lo mo [] (y ∷ b) ra rb h = clash {b = false} (h y ∙ mem_here y b) refl
rising_ext lo mo (x ∷ a) [] ra rb h = clash {b = false} (sym (h x) ∙ mem_here x a) refl
rising_ext lo mo (x ∷ a) (y ∷ b) ra rb h =
    let up = (and_true (leb lo x) (rising (suc x) a) ra).1 in
    let vp = (and_true (leb mo y) (rising (suc y) b) rb).1 in
    let xb : memb x (y ∷ b) ≡ true = sym (h x) ∙ mem_here x a in
    let ya : memb y (x ∷ a) ≡ true = h y ∙ mem_here y b in
    let le : y ≤ x = or_true (eqb x y) (memb x b) xb (λ e. omega (arith, eqb-true x y e)) (λ e. omega (arith, rising_from (suc y) b x vp e)) in
    let ge : x ≤ y = or_true (eqb y x) (memb y a) ya (λ e. omega (arith, eqb-true y x e)) (λ e. omega (arith, rising_from (suc x) a y up e)) in
    let xy : x ≡ y = omega arith in
    let rest : a ≡ b = rising_ext (suc x) (suc y) a b up vp (λ z. by (eqb z x)
    (λ e. rw (eqb-true z x e) (rising_past x a up ∙ sym (rw xy (rising_past y b vp))))
    (λ e. let k = h z in rw (e, ← xy, e) at k)) in
    cc

-- `same` is equality
pub same_equal : (l m : List ℕ) → same l m ≡ true → l ≡ m
same_equal [] [] h = refl
same_equal [] (y ∷ m) h = clash {b = false} h refl
same_equal (x ∷ l) [] h = clash {b = false} h refl
same_equal (x ∷ l) (y ∷ m) h =
    let a = and_true (eqb x y) (same l m) h in
    rw (eqb-true x y a.0, same_equal l m a.1)

pub same_self : (l : List ℕ) → same l l ≡ true
same_self [] = refl
same_self (x ∷ l) = rw (eq-eqb x x refl) (same_self l)

pub equal_same : (l m : List ℕ) → l ≡ m → same l m ≡ true
equal_same l m e = rw e (same_self m)

-- as many numbers as there are below n, at most
pub rising_length : (lo n : ℕ) (l : List ℕ) → lo ≤ n → rising lo l ≡ true → all (λ x. ltb x n) l ≡ true → lo + length l ≤ n
rising_length lo n [] le h b = omega arith
rising_length lo n (x ∷ l) le h b =
    let a = and_true (leb lo x) (rising (suc x) l) h in
    let c = and_true (ltb x n) (all (λ x. ltb x n) l) b in
    omega (arith, leb-true lo x a.0, rising_length (suc x) n l (ltb-true x n c.0) a.1 c.1)

-- .. from 0 on
pub rising_short : (n : ℕ) (l : List ℕ) → rising 0 l ≡ true → all (λ x. ltb x n) l ≡ true → length l ≤ n
rising_short n l h b = omega (arith, rising_length 0 n l (omega arith) h b)

-- `in_order`: the same members, rising
pub mem_in_order : (l : List ℕ) (p : ℕ) → memb p (in_order l) ≡ memb p l
mem_in_order [] p = refl
mem_in_order (x ∷ l) p = rw (mem_into x (in_order l) p, mem_in_order l p)

pub rising_in_order : (l : List ℕ) → rising 0 (in_order l) ≡ true
rising_in_order [] = refl
rising_in_order (x ∷ l) = rising_into 0 x (in_order l) (omega arith) (rising_in_order l)

-- .. and makes it one longer, at most; a number taken out makes it no longer
pub into_length : (c : ℕ) (l : List ℕ) → length (into c l) ≤ suc (length l)
into_length c [] = omega arith
into_length c (y ∷ l) = by (ltb c y)
    (λ e. rw e (omega arith))
    (λ e. by (eqb c y) (λ k. rw (e, k) (omega arith)) (λ k. rw (e, k) (omega (arith, into_length c l))))

pub without_length : (c : ℕ) (l : List ℕ) → length (without c l) ≤ length l
without_length c [] = omega arith
without_length c (y ∷ l) = by (eqb c y)
    (λ e. rw e (omega (arith, without_length c l)))
    (λ e. rw e (omega (arith, without_length c l)))

-- a new one makes it longer by one
pub length_into : (c : ℕ) (l : List ℕ) → memb c l ≡ false → length (into c l) ≡ suc (length l)
length_into c [] n = refl
length_into c (y ∷ l) n =
    let o = or_false (eqb c y) (memb c l) n in
    by (ltb c y) (λ e. rw e) (λ e. rw (e, o.0, length_into c l o.1))

-- a test of all members, after one more and one less
pub all_into : (f : ℕ → Bool) (c : ℕ) (l : List ℕ) → f c ≡ true → all f l ≡ true → all f (into c l) ≡ true
all_into f c [] h k = rw h
all_into f c (y ∷ l) h k =
    let a = and_true (f y) (all f l) k in
    by (ltb c y)
    (λ e. rw (e, h) k)
    (λ e. by (eqb c y)
    (λ q. rw (e, q) k)
    (λ q. rw (e, q, a.0) (all_into f c l h a.1)))

pub all_without : (f : ℕ → Bool) (c : ℕ) (l : List ℕ) → all f l ≡ true → all f (without c l) ≡ true
all_without f c [] k = refl
all_without f c (y ∷ l) k =
    let a = and_true (f y) (all f l) k in
    by (eqb c y) (λ e. rw e (all_without f c l a.1)) (λ e. rw (e, a.0) (all_without f c l a.1))
