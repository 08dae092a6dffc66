-- A txid's own slots, marked by their places: read rising they are the definition's, and so an abort's block is that of the marks.
use Rattle.std.specs.Prelude.{◌≡◌, refl, Bool, true, false, List, [], ◌∷◌, ◌++◌, map, ℕ, suc, ◌+◌, ◌<◌, ◌≤◌, length, get_or, drop, replicate, eqb, ltb, leb}
use Rattle.std.proofs.Common.{sym, ap, ◌∙◌, add-one, arith, length-append}
use Rattle.std.proofs.lemmas.List.{length-replicate, length-map}
use borrow.Author.Tests.{ne_eqb, lt-ltb, le-leb, leb-true}
use Rattle.records.specs.Limits.{places}
use Rattle.rules.specs.Lists.{all, those, nonzero_from, rising, into, in_order}
use Rattle.basic_laws.specs.Cases.{by, and_true, and_both}
use Rattle.rules.specs.Types.{Store}
use Rattle.rules.specs.Chains.{walk}
use Rattle.rules.specs.Puts.{Put, put_free, put_drop, own_slots, abort_puts}
use Rattle.basic_laws.specs.Rising.{rising_less}
use Rattle.fields.specs.Lent.{at_places, array_cons, array_end}
use Rattle.fields.specs.Marks.{mark_all, marked_from, mark_length, marks_in_order, marked_few}
use Rattle.visibility.specs.Slots.{own_slot, own_slots_law}

-- no slot is marked; shut, since a goal would show all its flags
unfoldable pub no_slots : List Bool
no_slots = replicate places false

-- the own slots from place i on, and all of them marked
unfoldable pub own_from : List ℕ → List ℕ → ℕ → ℕ → List ℕ
own_from xmin seen t i = those (own_slot xmin seen t) (nonzero_from i (drop i xmin))

unfoldable pub own_marks : List ℕ → List ℕ → ℕ → List Bool
own_marks xmin seen t = mark_all (own_from xmin seen t 0) no_slots

-- the slot at place i of a lent array: free, or another's, or on a chain; or own
module _ (xmin seen : List ℕ) (t i : ℕ) where
  pub own_end : places ≤ i → own_from (at_places xmin) seen t i ≡ []
  unfolding own_from
  own_end h = rw (array_end places 0 xmin i h)

  module _ (lt : i < places) where
    pub own_free : get_or xmin i 0 ≡ 0 → own_from (at_places xmin) seen t i ≡ own_from (at_places xmin) seen t (i + 1)
    unfolding own_from
    own_free e = rw (array_cons places 0 xmin i lt, e, add-one)

    pub own_not : (get_or xmin i 0 ≡ 0 → ⊥) → {b : Bool} → b ≡ own_slot (at_places xmin) seen t i → b ≡ false
        → own_from (at_places xmin) seen t i ≡ own_from (at_places xmin) seen t (i + 1)
    unfolding own_from
    own_not n e f = rw (array_cons places 0 xmin i lt, ne_eqb (get_or xmin i 0) 0 n, ← e, f, add-one)

    pub own_here : (get_or xmin i 0 ≡ 0 → ⊥) → {b : Bool} → b ≡ own_slot (at_places xmin) seen t i → b ≡ true
        → own_from (at_places xmin) seen t i ≡ i ∷ own_from (at_places xmin) seen t (i + 1)
    unfolding own_from
    own_here n e f = rw (array_cons places 0 xmin i lt, ne_eqb (get_or xmin i 0) 0 n, ← e, f, add-one)

-- rising lists, filtered and in order
rising_those : (f : ℕ → Bool) (lo : ℕ) (l : List ℕ) → rising lo l ≡ true → rising lo (those f l) ≡ true
rising_those f lo [] r = refl
rising_those f lo (x ∷ l) r =
    let a = and_true (leb lo x) (rising (suc x) l) r in
    let h = rising_those f (suc x) l a.1 in
    by (f x)
    (λ e. rw e (and_both (leb lo x) (rising (suc x) (those f l)) a.0 h))
    (λ e. rw e (rising_less lo (suc x) (those f l) (omega (arith, leb-true lo x a.0)) h))

rising_nonzero : (p : ℕ) (l : List ℕ) → rising p (nonzero_from p l) ≡ true
rising_nonzero p [] = refl
rising_nonzero p (x ∷ l) =
    let h = rising_nonzero (suc p) l in
    by (eqb x 0)
    (λ e. rw e (rising_less p (suc p) (nonzero_from (suc p) l) (omega arith) h))
    (λ e. rw e (and_both (leb p p) (rising (suc p) (nonzero_from (suc p) l)) (le-leb p p (omega arith)) h))

rising_order : (lo : ℕ) (l : List ℕ) → rising lo l ≡ true → in_order l ≡ l
rising_order lo [] r = refl
rising_order lo (x ∷ l) r =
    let a = and_true (leb lo x) (rising (suc x) l) r in rw (rising_order (suc x) l a.1) (first l a.1)
  where
    first : (m : List ℕ) → rising (suc x) m ≡ true → into x m ≡ x ∷ m
    first [] h = refl
    first (y ∷ m) h = rw (lt-ltb x y (leb-true (suc x) y (and_true (leb (suc x) y) (rising (suc y) m) h).0))

-- the places of an array are below its length
below_nonzero : (n p : ℕ) (l : List ℕ) → p + length l ≤ n → all (λ r. ltb r n) (nonzero_from p l) ≡ true
below_nonzero n p [] h = refl
below_nonzero n p (x ∷ l) h =
    let r = below_nonzero n (suc p) l (omega arith) in by (eqb x 0) (λ e. rw e r) (λ e. rw (e, lt-ltb p n (omega arith)) r)

pub all_those {ℓ} : {A : Type ℓ} (f g : A → Bool) (l : List A) → all f l ≡ true → all f (those g l) ≡ true
all_those f g [] h = refl
all_those f g (x ∷ l) h =
    let a = and_true (f x) (all f l) h in
    let r = all_those f g l a.1 in by (g x) (λ e. rw (e, a.0) r) (λ e. rw e r)

-- the marks, read rising, are the definition's own slots
pub own_marked : (heads next xmin : List ℕ) (t : ℕ) → length xmin ≤ places
    → marked_from 0 (own_marks xmin (walk heads next).seen t) ≡ own_slots heads next xmin t
unfolding own_marks own_from no_slots
own_marked heads next xmin t h =
    let f = own_slot xmin (walk heads next).seen t in
    let l = those f (nonzero_from 0 xmin) in
    marks_in_order places l (all_those _ f (nonzero_from 0 xmin) (below_nonzero places 0 xmin (omega arith)))
    ∙ rising_order 0 l (rising_those f 0 (nonzero_from 0 xmin) (rising_nonzero 0 xmin))
    ∙ sym (own_slots_law heads next xmin t)

-- there are as many flags as places
pub own_long : (xmin seen : List ℕ) (t : ℕ) → length (own_marks xmin seen t) ≡ places
unfolding own_marks no_slots
own_long xmin seen t = mark_length (own_from xmin seen t 0) (replicate places false) ∙ length-replicate places false

-- no more than there are places
pub own_few : (heads next xmin : List ℕ) (t : ℕ) → length xmin ≤ places → length (map put_free (own_slots heads next xmin t)) ≤ places
own_few heads next xmin t h =
    let m = own_marks xmin (walk heads next).seen t in
    let mapped = length-map (own_slots heads next xmin t) put_free in
    omega (arith, marked_few 0 m, own_long xmin (walk heads next).seen t, ap length (own_marked heads next xmin t h))

-- abort's puts from the fields of the store that it reads
unfoldable pub abort_puts_of : List ℕ → List ℕ → List ℕ → ℕ → List Put
abort_puts_of heads next xmin t = map put_free (own_slots heads next xmin t) ++ put_drop t ∷ []

pub abort_puts_law : (S : Store) (t : ℕ) → abort_puts S t ≡ abort_puts_of S.heads S.next S.xmin t
unfolding abort_puts abort_puts_of
abort_puts_law S t = refl

pub abort_few : (heads next xmin : List ℕ) (t : ℕ) → length xmin ≤ places → length (abort_puts_of heads next xmin t) ≤ suc places
unfolding abort_puts_of
abort_few heads next xmin t h =
    omega (arith, length-append (map put_free (own_slots heads next xmin t)) (put_drop t ∷ []), own_few heads next xmin t h)

-- the frees of the own marks and then the drop are abort's puts
pub abort_marked : (heads next xmin : List ℕ) (t : ℕ) {m : List Bool} → m ≡ own_marks xmin (walk heads next).seen t → length xmin ≤ places
    → (length m ≡ places) × (map put_free (marked_from 0 m) ++ put_drop t ∷ [] ≡ abort_puts_of heads next xmin t)
unfolding abort_puts_of
abort_marked heads next xmin t e h =
    (ap length e ∙ own_long xmin (walk heads next).seen t, rw (ap (marked_from 0) e ∙ own_marked heads next xmin t h))
