-- A transaction's own slots as marks, without those that its final writes name: the recycled ones.
use Rattle.std.specs.Prelude.{◌≡◌, refl, Bool, true, false, not, ◌&&◌, ◌||◌, List, [], ◌∷◌, map, ℕ, zero, suc, ◌+◌, ◌<◌, ◌≤◌, length, get_or, set, drop, eqb}
use Rattle.std.proofs.Common.{subst, sym, ap, ◌∙◌, add-zero, add-one, drop-cons, arith, length-set, eq-eqb, ne_eqb}
use Rattle.std.proofs.Math.Seq.{set_out}
use Rattle.records.specs.Limits.{places}
use Rattle.rules.specs.Lists.{those, memb}
use Rattle.basic_laws.specs.Cases.{by}
use Rattle.rules.specs.Types.{Store, Tx, Write}
use Rattle.rules.specs.Transaction.{finals}
use Rattle.rules.specs.Chains.{walk}
use Rattle.rules.specs.Changes.{recycled}
use Rattle.visibility.specs.OwnMarks.{own_marks, own_marked, own_long}
use Rattle.fields.specs.Marks.{mark_all, marked_from}

-- the mark of every number of l set to b, one after the other
abbrev pub set_each : Bool → List ℕ → List Bool → List Bool
set_each b [] m = m
set_each b (r ∷ l) m = set_each b l (set m r b)

pub marked_each : (l : List ℕ) (m : List Bool) → set_each true l m ≡ mark_all l m
marked_each [] m = refl
marked_each (r ∷ l) m = marked_each l (set m r true)

abbrev pub new_of : Write → ℕ
new_of w = w.new.0

-- one turn of the loop: the mark of the next item is set, or its place is too high
module _ {A : Type 0} (f : A → ℕ) (b : Bool) (l : List A) (i : ℕ) (d : A) (m : List Bool) {all : List Bool} (lt : i < length l) where
  pub each_next : set_each b (map f (drop i l)) m ≡ all → set_each b (map f (drop (i + 1) l)) (set m (f (get_or l i d)) b) ≡ all
  each_next h = rw (add-one i) (rw (drop-cons l i d lt) at h)

  pub each_high : set_each b (map f (drop i l)) m ≡ all → length m ≤ f (get_or l i d) → set_each b (map f (drop (i + 1) l)) m ≡ all
  each_high h p = rw (set_out m (f (get_or l i d)) b p) at (each_next h)

-- a filter that all pass, and one filter after another
those_all {ℓ} : {A : Type ℓ} (l : List A) → those (λ x. true) l ≡ l
those_all [] = refl
those_all {A = A} (x ∷ l) = ap (λ (r : List A). x ∷ r) (those_all l)

those_both {ℓ} : {A : Type ℓ} (f g h : A → Bool) (l : List A) → ((x : A) → h x ≡ (g x && f x)) → those f (those g l) ≡ those h l
those_both f g h [] e = refl
those_both f g h (x ∷ l) e =
    let r = those_both f g h l e in
    by (g x)
    (λ p. by (f x) (λ q. rw (e x, p, q, r)) (λ q. rw (e x, p, q, r)))
    (λ p. rw (e x, p, r))

-- one mark less is one number less
above : (k p : ℕ) (m : List Bool) → k < p → those (λ q. not (eqb q k)) (marked_from p m) ≡ marked_from p m
above k p [] h = refl
above k p (true ∷ m) h = rw (ne_eqb p k (omega arith), above k (suc p) m (omega arith))
above k p (false ∷ m) h = above k (suc p) m (omega arith)

unmark_one : (p : ℕ) (m : List Bool) (i : ℕ) → marked_from p (set m i false) ≡ those (λ q. not (eqb q (p + i))) (marked_from p m)
unmark_one p [] i = refl
unmark_one p (true ∷ m) zero =
    subst (λ y. marked_from (suc p) m ≡ those (λ q. not (eqb q y)) (p ∷ marked_from (suc p) m)) (sym (add-zero p))
    (rw (eq-eqb p p refl) (sym (above p (suc p) m (omega arith))))
unmark_one p (false ∷ m) zero =
    subst (λ y. marked_from (suc p) m ≡ those (λ q. not (eqb q y)) (marked_from (suc p) m)) (sym (add-zero p)) (sym (above p (suc p) m (omega arith)))
unmark_one p (b ∷ m) (suc i) =
    let e : suc p + i ≡ p + suc i = omega arith in
    go b (rw e at (unmark_one (suc p) m i))
  where
    go : (b : Bool) → marked_from (suc p) (set m i false) ≡ those (λ q. not (eqb q (p + suc i))) (marked_from (suc p) m)
        → marked_from p (b ∷ set m i false) ≡ those (λ q. not (eqb q (p + suc i))) (marked_from p (b ∷ m))
    go true h = rw (ne_eqb p (p + suc i) (omega arith), h)
    go false h = h

unmark_all_law : (l : List ℕ) (m : List Bool) → marked_from 0 (set_each false l m) ≡ those (λ p. not (memb p l)) (marked_from 0 m)
unmark_all_law [] m = sym (those_all (marked_from 0 m))
unmark_all_law (r ∷ l) m =
    let z : 0 + r ≡ r = omega arith in
    unmark_all_law l (set m r false)
    ∙ ap (those (λ p. not (memb p l))) (unmark_one 0 m r)
    ∙ rw z (those_both (λ p. not (memb p l)) (λ q. not (eqb q r)) (λ p. not (memb p (r ∷ l))) (marked_from 0 m) (λ p. neither (eqb p r) (memb p l)))
  where
    neither : (a b : Bool) → not (a || b) ≡ (not a && not b)
    neither true b = refl
    neither false b = refl

-- the own slots but those of final writes are the definition's recycled ones
unfoldable pub recycled_marks : List ℕ → List ℕ → Tx → List Bool
recycled_marks xmin seen x = set_each false (map new_of (finals x)) (own_marks xmin seen x.txid.0)

pub recycled_marked : (S : Store) (x : Tx) → length S.xmin ≤ places
    → marked_from 0 (recycled_marks S.xmin (walk S.heads S.next).seen x) ≡ recycled S x
unfolding recycled_marks recycled
recycled_marked S x h =
    unmark_all_law (map new_of (finals x)) (own_marks S.xmin (walk S.heads S.next).seen x.txid.0)
    ∙ ap (those (λ p. not (memb p (map new_of (finals x))))) (own_marked S.heads S.next S.xmin x.txid.0 h)

-- there are as many flags as places
unmark_length : (l : List ℕ) (m : List Bool) → length (set_each false l m) ≡ length m
unmark_length [] m = refl
unmark_length (r ∷ l) m = unmark_length l (set m r false) ∙ length-set m r false

pub recycled_long : (xmin seen : List ℕ) (x : Tx) → length (recycled_marks xmin seen x) ≡ places
unfolding recycled_marks
recycled_long xmin seen x = unmark_length (map new_of (finals x)) (own_marks xmin seen x.txid.0) ∙ own_long xmin seen x.txid.0
