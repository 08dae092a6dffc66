-- Guards taken and let go leave a store as it was.
use Rattle.std.specs.Prelude.{◌≡◌, refl, true, false, List, [], ◌∷◌, ◌++◌, map, ℕ, zero, suc, ◌<◌, length, get_or, set, eqb}
use Rattle.std.proofs.Common.{sym, ap, ◌∙◌, append_assoc, length-set, get_or-set_same, get_or-set_other, ext_get_or, eqb-true}
use Rattle.std.proofs.lemmas.Bool.{eqb-false}
use Rattle.records.specs.Setters.{guarded}
use Rattle.basic_laws.specs.Cases.{and_true, or_false, by, clash, every_cons}
use Rattle.rules.specs.Lists.{all_zero, memb}
use Rattle.rules.specs.Types.{Store, Tx}
use Rattle.rules.specs.Admitted.{resting}
use Rattle.rules.specs.Puts.{Put, put_stripe, put_partition, apply, apply_all}
use Rattle.rules.specs.Changes.{changes, guarded_stripes, guarded_partitions, index_guards, partition_guards, release}

-- an array with the named places set to v
abbrev pub set_all : {A : Type 0} → List A → List ℕ → A → List A
set_all g [] v = g
set_all g (i ∷ is) v = set_all (set g i v) is v

-- a place set to the blank holds it
pub set_blank {ℓ} : {A : Type ℓ} (g : List A) (i : ℕ) (z : A) → get_or (set g i z) i z ≡ z
set_blank [] i z = refl
set_blank (x ∷ g) zero z = refl
set_blank (x ∷ g) (suc i) z = set_blank g i z

module _ {A : Type 0} (z : A) where
  -- places that are not named keep what they have
  pub set_all_else : (is : List ℕ) (g : List A) (v : A) (p : ℕ) → memb p is ≡ false → get_or (set_all g is v) p z ≡ get_or g p z
  set_all_else [] g v p h = refl
  set_all_else (i ∷ is) g v p h =
      let o = or_false (eqb p i) (memb p is) h in
      set_all_else is (set g i v) v p o.1 ∙ get_or-set_other g i p v z (eqb-false p i o.0)

  -- all named places set to the blank, the others blank before
  pub set_all_blank : (is : List ℕ) (g : List A) (p : ℕ) → (memb p is ≡ false → get_or g p z ≡ z) → get_or (set_all g is z) p z ≡ z
  set_all_blank [] g p h = h refl
  set_all_blank (i ∷ is) g p h =
      set_all_blank is (set g i z) p (λ n.
      by (eqb p i)
      (λ e. rw (eqb-true p i e) (set_blank g i z))
      (λ e. get_or-set_other g i p z z (eqb-false p i e) ∙ h (rw (e, n))))

  -- a place that is named, or has v already, has v
  pub set_all_there : (is : List ℕ) (g : List A) (v : A) (i : ℕ) → i < length g → (memb i is ≡ false → get_or g i z ≡ v) → get_or (set_all g is v) i z ≡ v
  set_all_there [] g v i lt h = h refl
  set_all_there (j ∷ js) g v i lt h =
      set_all_there js (set g j v) v i (rw length-set lt) (λ n.
      by (eqb i j)
      (λ e. rw (eqb-true i j e) (get_or-set_same g j v z (rw (eqb-true i j e) at lt)))
      (λ e. get_or-set_other g j i v z (eqb-false i j e) ∙ h (rw (e, n))))

  pub set_all_here : (is : List ℕ) (g : List A) (p : ℕ) → memb p is ≡ true → get_or (set_all g is z) p z ≡ z
  set_all_here is g p m = set_all_blank is g p (λ n. clash m n)

  -- the array is as long as before
  pub set_all_long : (is : List ℕ) (g : List A) (v : A) → length (set_all g is v) ≡ length g
  set_all_long [] g v = refl
  set_all_long (i ∷ is) g v = set_all_long is (set g i v) v ∙ length-set g i v

pub all_zero_law : (g : List ℕ) (p : ℕ) → all_zero g ≡ true → get_or g p 0 ≡ 0
all_zero_law [] p h = refl
all_zero_law (x ∷ g) zero h = eqb-true x 0 (and_true (eqb x 0) (all_zero g) h).0
all_zero_law (x ∷ g) (suc p) h = all_zero_law g p (and_true (eqb x 0) (all_zero g) h).1

set_back : (is g : List ℕ) (v : ℕ) → all_zero g ≡ true → set_all (set_all g is v) is 0 ≡ g
set_back is g v z = ext_get_or 0 _ _
    (set_all_long 0 is (set_all g is v) 0 ∙ set_all_long 0 is g v)
    (λ p lt. set_all_blank 0 is (set_all g is v) p (λ n. set_all_else 0 is g v p n ∙ all_zero_law g p z) ∙ sym (all_zero_law g p z))

pub stripes_put : (is : List ℕ) (v : ℕ) (S : Store)
    → apply_all (map (λ i. put_stripe i v) is) S ≡ guarded (set_all S.stripe_guards is v) S.partition_guards S
stripes_put [] v S = refl
stripes_put (i ∷ is) v S = stripes_put is v (apply (put_stripe i v) S)

pub partitions_put : (is : List ℕ) (v : ℕ) (S : Store)
    → apply_all (map (λ i. put_partition i v) is) S ≡ guarded S.stripe_guards (set_all S.partition_guards is v) S
partitions_put [] v S = refl
partitions_put (i ∷ is) v S = partitions_put is v (apply (put_partition i v) S)

pub apply_all_append : (ps qs : List Put) (S : Store) → apply_all (ps ++ qs) S ≡ apply_all qs (apply_all ps S)
apply_all_append [] qs S = refl
apply_all_append (p ∷ ps) qs S = apply_all_append ps qs (apply p S)

-- what a resting store has of guards
pub guards_zero : (S : Store) → resting S ≡ true → (all_zero S.stripe_guards ≡ true) × (all_zero S.partition_guards ≡ true)
unfolding resting
guards_zero S h =
    let a = every_cons _ _ (every_cons _ _ h).1 in
    (a.0, (every_cons _ _ a.1).0)

-- index guards alone, and both kinds
pub index_back : (S : Store) (x : Tx) → all_zero S.stripe_guards ≡ true → apply_all (index_guards S x x.txid.0 ++ index_guards S x 0) S ≡ S
unfolding index_guards
index_back S x z =
    let is = guarded_stripes (changes S x) x in
    let t = x.txid.0 in
    apply_all_append (map (λ i. put_stripe i t) is) (map (λ i. put_stripe i 0) is) S
    ∙ ap (apply_all (map (λ i. put_stripe i 0) is)) (stripes_put is t S)
    ∙ stripes_put is 0 (guarded (set_all S.stripe_guards is t) S.partition_guards S)
    ∙ ap (λ (g : List ℕ). guarded g S.partition_guards S) (set_back is S.stripe_guards t z)

partition_back : (js : List ℕ) (t : ℕ) (S : Store) → all_zero S.partition_guards ≡ true
    → apply_all (map (λ i. put_partition i t) js ++ map (λ i. put_partition i 0) js) S ≡ S
partition_back js t S z =
    apply_all_append (map (λ i. put_partition i t) js) (map (λ i. put_partition i 0) js) S
    ∙ ap (apply_all (map (λ i. put_partition i 0) js)) (partitions_put js t S)
    ∙ partitions_put js 0 (guarded S.stripe_guards (set_all S.partition_guards js t) S)
    ∙ ap (λ (g : List ℕ). guarded S.stripe_guards g S) (set_back js S.partition_guards t z)

pub both_back : (S : Store) (x : Tx) → all_zero S.stripe_guards ≡ true → all_zero S.partition_guards ≡ true
    → apply_all ((index_guards S x x.txid.0 ++ partition_guards x x.txid.0) ++ release S x) S ≡ S
unfolding index_guards partition_guards release
both_back S x z y =
    let is = guarded_stripes (changes S x) x in
    let js = guarded_partitions x in
    let t = x.txid.0 in
    let A = map (λ i. put_stripe i t) is in
    let A0 = map (λ i. put_stripe i 0) is in
    let B = map (λ i. put_partition i t) js in
    let B0 = map (λ i. put_partition i 0) js in
    let T = guarded (set_all S.stripe_guards is t) S.partition_guards S in
    ap (λ (ps : List Put). apply_all ps S) (append_assoc A B (B0 ++ A0))
    ∙ apply_all_append A (B ++ (B0 ++ A0)) S
    ∙ ap (apply_all (B ++ (B0 ++ A0))) (stripes_put is t S)
    ∙ ap (λ (ps : List Put). apply_all ps T) (sym (append_assoc B B0 A0))
    ∙ apply_all_append (B ++ B0) A0 T
    ∙ ap (apply_all A0) (partition_back js t T y)
    ∙ stripes_put is 0 T
    ∙ ap (λ (g : List ℕ). guarded g S.partition_guards S) (set_back is S.stripe_guards t z)
