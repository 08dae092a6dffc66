-- The walk and the chains: the walk ends well exactly where each row has a chain and chains stand apart, and then its marks are the chains' slots.
use Rattle.std.specs.Prelude.{◌≡◌, refl, Bool, true, false, ◌||◌, List, [], ◌∷◌, ℕ, zero, suc, ◌+◌, ◌-◌, ◌≤◌, ◌<◌, length, get_or, set, eqb, ltb}
use Rattle.std.proofs.Common.{sym, ap, ◌∙◌, arith, length-set, get_or-set_same, get_or-set_other, eqb-true, eq-eqb, ne_eqb, ltb-true, ltb-false}
use Rattle.std.proofs.lemmas.Bool.{eqb-false, not-false}
use Rattle.records.specs.Limits.{slots, places}
use Rattle.rules.specs.Lists.{memb}
use Rattle.rules.specs.Chains.{Walk, walk_row, walk_rows, stop, on}
use Rattle.basic_laws.specs.Cases.{by, clash, or_true, or_false, or_right, or_neither, mem_here, mem_there, mem_ne}
use Rattle.basic_laws.specs.Chain.{IsChain, chain_once, chain_one}
use Rattle.basic_laws.specs.Walk.{Ended, row_end, row_out, row_high, row_twice, row_step, rows_end, rows_step}

-- the slots not marked
unfoldable pub zeros : List ℕ → ℕ
zeros [] = 0
zeros (x ∷ s) = elim (eqb x 0) [ true ↦ suc (zeros s) | false ↦ zeros s ]

-- marking one leaves one less
pub zeros_set : (s : List ℕ) (p : ℕ) → p < length s → get_or s p 0 ≡ 0 → suc (zeros (set s p 1)) ≡ zeros s
unfolding zeros
zeros_set [] p lt e = absurd (omega arith)
zeros_set (x ∷ s) zero lt e = simp (zeros, eq-eqb x 0 e)
zeros_set (x ∷ s) (suc p) lt e = go (eqb x 0) (zeros_set s p (omega arith) e)
  where
    go : (b : Bool) → suc (zeros (set s p 1)) ≡ zeros s
        → suc (elim b [ true ↦ suc (zeros (set s p 1)) | false ↦ zeros (set s p 1) ]) ≡ elim b [ true ↦ suc (zeros s) | false ↦ zeros s ]
    go true h = ap suc h
    go false h = h

-- marking one slot
pub mark_set : (s : List ℕ) (p x : ℕ) → p < length s → on (set s p 1) x ≡ (eqb x p || on s x)
mark_set s p x lt = by (eqb x p)
    (λ e. let q : x ≡ p = eqb-true x p e in rw (e, q, get_or-set_same s p 1 0 lt))
    (λ e. rw (e, get_or-set_other s p x 1 0 (eqb-false x p e)))

-- no slot twice in one list
abbrev pub Apart : List ℕ → Type 0
Apart [] = Unit {0}
Apart (x ∷ l) = (memb x l ≡ false) × Apart l

-- what a chain that was walked is
pub record Walked (next seen : List ℕ) (p : ℕ) (s : List ℕ) (l : List ℕ) : Type 0 where
  pub chain : IsChain next p l
  pub marks : (x : ℕ) → on s x ≡ (memb x l || on seen x)
  pub fresh : (x : ℕ) → memb x l ≡ true → on seen x ≡ false
  pub size : length l + zeros s ≡ zeros seen
  pub long : length s ≡ length seen

or_swap : (a b c : Bool) → (a || (b || c)) ≡ ((b || a) || c)
or_swap true true c = refl
or_swap true false c = refl
or_swap false true c = refl
or_swap false false c = refl

-- a walk that stopped has not ended
no_stop : {A : Type 0} (s t : List ℕ) → stop s ≡ Ended t → A
no_stop s t e = clash {b = false} (ap (λ (w : Walk). w.ok) e) refl

-- the chain that ends at once
sound_end : (f : ℕ) (next seen : List ℕ) (p : ℕ) (s : List ℕ) → p ≡ 0 → walk_row f next seen p ≡ Ended s → Walked next seen p s []
sound_end f next seen p s z h =
    let q : seen ≡ s = ap (λ (w : Walk). w.seen) (sym (row_end next seen f p z) ∙ h) in
    record { chain = z; marks = λ x. rw q; fresh = λ x m. clash {b = false} m refl; size = omega (arith, ap zeros q); long = rw q }

-- one slot more
sound_step : (next seen : List ℕ) (p : ℕ) (s l : List ℕ) → length next ≡ places → length seen ≡ places → (p ≡ 0 → ⊥) → p ≤ slots → get_or seen p 0 ≡ 0
    → Walked next (set seen p 1) (get_or next p 0) s l → Walked next seen p s (p ∷ l)
sound_step next seen p s l ln ls nz le un w =
    let lt : p < length seen = omega arith in
    record {
      chain = (refl, omega arith, omega arith, w.chain);
      marks = λ x. w.marks x ∙ ap (λ (b : Bool). memb x l || b) (mark_set seen p x lt) ∙ or_swap (memb x l) (eqb x p) (on seen x);
      fresh = λ x m. or_true (eqb x p) (memb x l) m
          (λ e. rw (eqb-true x p e, un))
          (λ k. (or_false (eqb x p) (on seen x) (sym (mark_set seen p x lt) ∙ w.fresh x k)).1);
      size = omega (arith, w.size, zeros_set seen p lt un);
      long = w.long ∙ length-set seen p 1;
    }

-- a chain that was walked is one
pub row_sound : (f : ℕ) (next seen : List ℕ) (p : ℕ) (s : List ℕ) → length next ≡ places → length seen ≡ places
    → walk_row f next seen p ≡ Ended s → (l : List ℕ) × Walked next seen p s l
row_sound zero next seen p s ln ls h = by (eqb p 0)
    (λ e. ([], sound_end zero next seen p s (eqb-true p 0 e) h))
    (λ e. no_stop seen s (sym (row_out next seen zero p refl (eqb-false p 0 e)) ∙ h))
row_sound (suc f) next seen p s ln ls h = by (eqb p 0)
    (λ e. ([], sound_end (suc f) next seen p s (eqb-true p 0 e) h))
    (λ e. let nz = eqb-false p 0 e in
    by (ltb slots p)
    (λ hi. no_stop seen s (sym (row_high next seen (suc f) p (omega arith) nz (ltb-true slots p hi)) ∙ h))
    (λ lo. let le = ltb-false slots p lo in
    by (eqb (get_or seen p 0) 0)
    (λ un. let u = eqb-true (get_or seen p 0) 0 un in
    let ih = row_sound f next (set seen p 1) (get_or next p 0) s ln (length-set seen p 1 ∙ ls) (sym (row_step next seen (suc f) f p refl nz le u) ∙ h) in
    (p ∷ ih.0, sound_step next seen p s ih.0 ln ls nz le u ih.1))
    (λ tw. no_stop seen s (sym (row_twice next seen (suc f) p (omega arith) nz le (eqb-false (get_or seen p 0) 0 tw)) ∙ h))))

-- and back: a chain of fresh slots is walked to its end
pub row_complete : (f : ℕ) (next seen : List ℕ) (p : ℕ) (l : List ℕ) → length next ≡ places → length seen ≡ places → zeros seen ≤ f
    → IsChain next p l → Apart l → ((x : ℕ) → memb x l ≡ true → on seen x ≡ false) → (s : List ℕ) × (walk_row f next seen p ≡ Ended s)
row_complete f next seen p [] ln ls fl ch once fr = (seen, row_end next seen f p ch)
row_complete f next seen p (x ∷ l) ln ls fl ch once fr =
    let px = ch.0 in
    let un : get_or seen p 0 ≡ 0 = rw px (eqb-true (get_or seen x 0) 0 (not-false (eqb (get_or seen x 0) 0) (fr x (mem_here x l)))) in
    let lt : p < length seen = omega (arith, ch.0, ch.2) in
    let z = zeros_set seen p lt un in
    let ih = row_complete (f - 1) next (set seen p 1) (get_or next p 0) l ln (length-set seen p 1 ∙ ls) (omega arith) (rw px ch.3) once.1
    (λ y m. mark_set seen p y lt ∙ or_neither (eqb y p) (on seen y) (ne_eqb y p (rw px (mem_ne y x l m once.0))) (fr y (mem_there y x l m))) in
    (ih.0, row_step next seen f (f - 1) p (omega arith) (omega (arith, ch.0, ch.1)) (omega arith) un ∙ ih.1)

-- a chain has no slot twice
pub chain_apart : (ns : List ℕ) (p : ℕ) (l : List ℕ) → IsChain ns p l → Apart l
chain_apart ns p [] h = tt
chain_apart ns p (x ∷ l) h = (chain_once ns p x l h, chain_apart ns (get_or ns x 0) l h.3)

-- the rows' chains, of which the marks s tell
pub record Rows (next heads seen s : List ℕ) (L : ℕ → List ℕ) : Type 0 where
  pub chain : (r : ℕ) → r < length heads → IsChain next (get_or heads r 0) (L r)
  pub fresh : (r x : ℕ) → r < length heads → memb x (L r) ≡ true → on seen x ≡ false
  pub apart : (r q x : ℕ) → r < length heads → q < length heads → memb x (L r) ≡ true → memb x (L q) ≡ true → r ≡ q
  pub marked : (r x : ℕ) → r < length heads → memb x (L r) ≡ true → on s x ≡ true
  pub kept : (x : ℕ) → on seen x ≡ true → on s x ≡ true
  pub found : (x : ℕ) → on s x ≡ true → on seen x ≡ false → (r : ℕ) × (r < length heads) × (memb x (L r) ≡ true)
  pub short : (r : ℕ) → r < length heads → length (L r) + zeros s ≤ zeros seen
  pub size : zeros s ≤ zeros seen
  pub long : length s ≡ length seen

-- the chains with one in front
abbrev pub front : List ℕ → (ℕ → List ℕ) → ℕ → List ℕ
front l L zero = l
front l L (suc r) = L r

-- a row's chain and the chains of the rest
rows_front : (next : List ℕ) (h : ℕ) (hs seen m s l : List ℕ) (L : ℕ → List ℕ) → Walked next seen h m l → Rows next hs m s L
    → Rows next (h ∷ hs) seen s (front l L)
rows_front next h hs seen m s l L w R = record {
  chain = elim [ zero ↦ λ lt. w.chain | suc q ↦ λ lt. R.chain q (omega arith) ];
  fresh = elim [ zero ↦ λ x lt e. w.fresh x e | suc q ↦ λ x lt e. unseen x (R.fresh q x (omega arith) e) ];
  apart = elim [
    | zero ↦ elim [ zero ↦ λ x lr lq er eq. refl | suc q ↦ λ x lr lq er eq. clash (seen_l x er) (R.fresh q x (omega arith) eq) ]
    | suc r ↦ elim [
      | zero ↦ λ x lr lq er eq. clash (seen_l x eq) (R.fresh r x (omega arith) er)
      | suc q ↦ λ x lr lq er eq. ap suc (R.apart r q x (omega arith) (omega arith) er eq)
    ]
  ];
  marked = elim [ zero ↦ λ x lt e. R.kept x (seen_l x e) | suc q ↦ λ x lt e. R.marked q x (omega arith) e ];
  kept = λ x e. R.kept x (w.marks x ∙ or_right (memb x l) (on seen x) e);
  found = λ x e n. by (on m x)
      (λ k. (zero, omega arith, or_true (memb x l) (on seen x) (sym (w.marks x) ∙ k) (λ z. z) (λ z. clash z n)))
      (λ k. let f = R.found x e k in (suc f.0, omega (arith, f.1), f.2));
  short = elim [ zero ↦ λ lt. omega (arith, w.size, R.size) | suc q ↦ λ lt. omega (arith, w.size, R.short q (omega arith)) ];
  size = omega (arith, w.size, R.size);
  long = R.long ∙ w.long;
}
  where
    seen_l : (x : ℕ) → memb x l ≡ true → on m x ≡ true
    seen_l x e = w.marks x ∙ ap (λ (b : Bool). b || on seen x) e

    unseen : (x : ℕ) → on m x ≡ false → on seen x ≡ false
    unseen x e = (or_false (memb x l) (on seen x) (sym (w.marks x) ∙ e)).1

-- a walk is its two fields
pub walk_is : (w : Walk) (b : Bool) → w.ok ≡ b → w ≡ record { ok = b; seen = w.seen }
walk_is w b e = λ i. record { ok = e i; seen = w.seen }

-- no rows
rows_none : (next seen s : List ℕ) → seen ≡ s → Rows next [] seen s (λ r. [])
rows_none next seen s q = record {
  chain = λ r lt. absurd (omega arith);
  fresh = λ r x lt e. absurd (omega arith);
  apart = λ r q x lt lq. absurd (omega arith);
  marked = λ r x lt. absurd (omega arith);
  kept = λ x e. rw q at e;
  found = λ x e n. clash e (rw q at n);
  short = λ r lt. absurd (omega arith);
  size = omega (arith, ap zeros q);
  long = rw q;
}

-- a walk that ended gives each row its chain
pub rows_sound : (next heads seen s : List ℕ) → length next ≡ places → length seen ≡ places → walk_rows next heads seen ≡ Ended s
    → (L : ℕ → List ℕ) × Rows next heads seen s L
rows_sound next [] seen s ln ls h = (λ r. [], rows_none next seen s (ap (λ (w : Walk). w.seen) (sym (rows_end next seen) ∙ h)))
rows_sound next (p ∷ hs) seen s ln ls h =
    let w = walk_row places next seen p in
    by w.ok
    (λ e. let we = walk_is w true e in
    let one = row_sound places next seen p w.seen ln ls we in
    let ih = rows_sound next hs w.seen s ln (one.1.long ∙ ls) (sym (rows_step next seen p hs (Ended w.seen) we) ∙ h) in
    (front one.0 ih.0, rows_front next p hs seen w.seen s one.0 ih.0 one.1 ih.1))
    (λ e. no_stop w.seen s (sym (rows_step next seen p hs (stop w.seen) (walk_is w false e)) ∙ h))

-- and back: chains that stand apart are walked to the end
pub rows_complete : (next heads seen : List ℕ) (L : ℕ → List ℕ) → length next ≡ places → length seen ≡ places → zeros seen ≤ places
    → ((r : ℕ) → r < length heads → IsChain next (get_or heads r 0) (L r))
    → ((r q x : ℕ) → r < length heads → q < length heads → memb x (L r) ≡ true → memb x (L q) ≡ true → r ≡ q)
    → ((r x : ℕ) → r < length heads → memb x (L r) ≡ true → on seen x ≡ false)
    → (s : List ℕ) × (walk_rows next heads seen ≡ Ended s)
rows_complete next [] seen L ln ls zs ch apart fr = (seen, rows_end next seen)
rows_complete next (p ∷ hs) seen L ln ls zs ch apart fr =
    let one = row_complete places next seen p (L zero) ln ls zs (ch zero (omega arith)) (chain_apart next p (L zero) (ch zero (omega arith)))
    (λ x m. fr zero x (omega arith) m) in
    let snd = row_sound places next seen p one.0 ln ls one.1 in
    let same : snd.0 ≡ L zero = chain_one next p p snd.0 (L zero) refl snd.1.chain (ch zero (omega arith)) in
    let rest = rows_complete next hs one.0 (λ r. L (suc r)) ln (snd.1.long ∙ ls) (omega (arith, snd.1.size))
    (λ r lt. ch (suc r) (omega arith))
    (λ r q x lr lq er eq. let h = apart (suc r) (suc q) x (omega arith) (omega arith) er eq in omega arith)
    (λ r x lt m. snd.1.marks x ∙ or_neither (memb x snd.0) (on seen x)
    (by (memb x snd.0)
    (λ k. let bad : zero ≡ suc r = apart zero (suc r) x (omega arith) (omega arith) (rw same at k) m in absurd (omega arith))
    (λ k. k))
    (fr (suc r) x (omega arith) m)) in
    (rest.0, ◌∙◌ {c = Ended rest.0} (rows_step next seen p hs (Ended one.0) one.1) rest.1)
