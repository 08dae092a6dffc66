-- "the stripe's stamp once per stripe": index reads stay distinct, and so are never more than there are stripes.
use Rattle.std.specs.Prelude.{◌≡◌, refl, true, false, not, ◌&&◌, List, [], ◌∷◌, ◌++◌, map, ℕ, ◌≤◌, ◌<◌, length, eqb, ltb}
use Rattle.std.proofs.Common.{sym, ◌∙◌, arith, ne_eqb, lt-ltb}
use Rattle.std.proofs.lemmas.List.{length-map}
use Rattle.std.proofs.lemmas.Bool.{eqb-false, not-true}
use Rattle.records.specs.Limits.{stripes}
use Rattle.rules.specs.Lists.{all, any, memb, in_order}
use Rattle.rules.specs.Types.{IndexRead}
use Rattle.rules.specs.Fit.{stripes_apart}
use Rattle.rules.specs.Calls.{record_stamp}
use Rattle.basic_laws.specs.Cases.{by, and_true, and_both, or_false, or_neither}
use Rattle.basic_laws.specs.Members.{all_mem, mem_all}
use Rattle.basic_laws.specs.Rising.{unique, rising_short, mem_in_order, rising_in_order, length_into}
use Rattle.basic_laws.specs.Blanks.{all_more}

-- distinct numbers put in order are as many
order_long : (l : List ℕ) → unique l ≡ true → length (in_order l) ≡ length l
order_long [] u = refl
order_long (x ∷ l) u =
    let a = and_true (not (memb x l)) (unique l) u in
    rw (length_into x (in_order l) (mem_in_order l x ∙ not-true (memb x l) a.0), order_long l a.1)

-- at most n distinct numbers are below n
unique_few : (n : ℕ) (l : List ℕ) → unique l ≡ true → all (λ x. ltb x n) l ≡ true → length l ≤ n
unique_few n l u b = omega (
  arith,
  order_long l u,
  rising_short n (in_order l) (rising_in_order l) (mem_all (λ x. ltb x n) (in_order l) (λ x m. all_mem (λ x. ltb x n) l b x (sym (mem_in_order l x) ∙ m))),
)

-- the index reads' stripes
abbrev stripes_in : List IndexRead → List ℕ
stripes_in l = map (λ e. e.stripe) l

-- distinct stripes, as numbers
apart_absent : (i : ℕ) (l : List IndexRead) → all (λ q. not (eqb q.stripe i)) l ≡ true → memb i (stripes_in l) ≡ false
apart_absent i [] h = refl
apart_absent i (q ∷ l) h =
    let a = and_true (not (eqb q.stripe i)) (all (λ q. not (eqb q.stripe i)) l) h in
    or_neither (eqb i q.stripe) (memb i (stripes_in l))
    (ne_eqb i q.stripe (λ e. eqb-false q.stripe i (not-true (eqb q.stripe i) a.0) (sym e))) (apart_absent i l a.1)

apart_unique : (l : List IndexRead) → stripes_apart l ≡ true → (unique (stripes_in l) ≡ true) × (all (λ i. ltb i stripes) (stripes_in l) ≡ true)
apart_unique [] h = (refl, refl)
apart_unique (r ∷ l) h =
    let a = and_true (ltb r.stripe stripes) (all (λ q. not (eqb q.stripe r.stripe)) l && stripes_apart l) h in
    let b = and_true (all (λ q. not (eqb q.stripe r.stripe)) l) (stripes_apart l) a.1 in
    let i = apart_unique l b.1 in
    (rw (apart_absent r.stripe l b.0) i.0, and_both (ltb r.stripe stripes) (all (λ i. ltb i stripes) (stripes_in l)) a.0 i.1)

-- so there are at most as many as stripes
pub stripes_few : (l : List IndexRead) → stripes_apart l ≡ true → length l ≤ stripes
stripes_few l h = let a = apart_unique l h in omega (arith, unique_few stripes (stripes_in l) a.0 a.1, length-map l (λ (e : IndexRead). e.stripe))

-- one stripe more
stripes_more : (l : List IndexRead) (e : IndexRead) → stripes_apart l ≡ true → any (λ q. eqb q.stripe e.stripe) l ≡ false → e.stripe < stripes
    → stripes_apart (l ++ e ∷ []) ≡ true
stripes_more [] e h n lt = rw (lt-ltb e.stripe stripes lt)
stripes_more (r ∷ l) e h n lt =
    let a = and_true (ltb r.stripe stripes) (all (λ q. not (eqb q.stripe r.stripe)) l && stripes_apart l) h in
    let b = and_true (all (λ q. not (eqb q.stripe r.stripe)) l) (stripes_apart l) a.1 in
    let o = or_false (eqb r.stripe e.stripe) (any (λ q. eqb q.stripe e.stripe) l) n in
    let ne : not (eqb e.stripe r.stripe) ≡ true = rw (ne_eqb e.stripe r.stripe (λ k. eqb-false r.stripe e.stripe o.0 (sym k))) in
    rw (a.0, all_more (λ q. not (eqb q.stripe r.stripe)) l e b.0 ne) (stripes_more l e b.1 o.1 lt)

-- so a stamp recorded once per stripe keeps them distinct
pub stamps_apart : (i t : ℕ) (l : List IndexRead) → i < stripes → stripes_apart l ≡ true → stripes_apart (record_stamp i t l) ≡ true
stamps_apart i t l lt h = by (any (λ e. eqb e.stripe i) l)
    (λ k. rw k h)
    (λ k. rw k (stripes_more l (record { stripe = i; stamp = record { 0 = t } }) h k lt))
