-- Guards stand aside: what a commit does between taking its guards and letting them go is what it would do without them.
use Rattle.std.specs.Prelude.{◌≡◌, refl, Bool, true, List, [], ◌∷◌, ◌++◌, map, ℕ}
use Rattle.std.proofs.Common.{sym, ap, ◌∙◌}
use Rattle.rules.specs.Types.{Store, Tx, Schedule}
use Rattle.basic_laws.specs.Cases.{and_true}
use Rattle.rules.specs.Lists.{memb}
use Rattle.rules.specs.Store.{postings_of}
use Rattle.rules.specs.Admitted.{resting}
use Rattle.rules.specs.Puts.{Put, k_stripe, k_partition, k_insert, k_remove, k_poison, k_doom, put_stripe, put_partition, put_poison, apply, apply_all}
use Rattle.rules.specs.Changes.{changes, guarded_stripes, guarded_partitions, index_guards, partition_guards, release}
use Rattle.run_laws.specs.OnlyKinds.{only, is_not}
use Rattle.run_laws.specs.GuardPuts.{apply_all_append, guards_zero, both_back}
use Rattle.run_laws.specs.Outcome.{guards_taken}
use Rattle.run_laws.specs.Released.{unguarded}

-- a put that may be made before or after any put of some kinds
abbrev pub Aside : List ℕ → Put → Type 0
Aside ks p = (a : Put) (T : Store) → memb a.kind ks ≡ true → apply p (apply a T) ≡ apply a (apply p T)

-- guards beside all else
stripe_aside : (i v : ℕ) → Aside unguarded (put_stripe i v)
unfolding postings_of
stripe_aside i v a T m = rw (is_not unguarded k_stripe refl a m)

partition_aside : (i v : ℕ) → Aside unguarded (put_partition i v)
unfolding postings_of
partition_aside i v a T m = rw (is_not unguarded k_partition refl a m)

-- insertions and removals
abbrev pub posting_kinds : List ℕ
posting_kinds = k_insert ∷ k_remove ∷ []

-- poison beside them
poison_aside : Aside posting_kinds put_poison
unfolding postings_of
poison_aside a T m = rw (is_not posting_kinds k_poison refl a m, is_not posting_kinds k_doom refl a m)

-- .. and so all of them
one_aside : (ks : List ℕ) (p : Put) → Aside ks p → (ps : List Put) (T : Store) → only ks ps ≡ true → apply p (apply_all ps T) ≡ apply_all ps (apply p T)
one_aside ks p h [] T o = refl
one_aside ks p h (a ∷ ps) T o =
    let b = and_true (memb a.kind ks) (only ks ps) o in
    one_aside ks p h ps (apply a T) b.1 ∙ ap (apply_all ps) (h a T b.0)

all_aside : (ks : List ℕ) (f : ℕ → Put) → ((i : ℕ) → Aside ks (f i)) → (is : List ℕ) (ps : List Put) (T : Store) → only ks ps ≡ true
    → apply_all (map f is) (apply_all ps T) ≡ apply_all ps (apply_all (map f is) T)
all_aside ks f h [] ps T o = refl
all_aside ks f h (i ∷ is) ps T o = ap (apply_all (map f is)) (one_aside ks (f i) (h i) ps T o) ∙ all_aside ks f h is ps (apply (f i) T) o

-- a commit's guards, set to its txid or to 0
index_aside : (S : Store) (x : Tx) (v : ℕ) (ps : List Put) (T : Store) → only unguarded ps ≡ true
    → apply_all (index_guards S x v) (apply_all ps T) ≡ apply_all ps (apply_all (index_guards S x v) T)
unfolding index_guards
index_aside S x v ps T o = all_aside unguarded (λ i. put_stripe i v) (λ i. stripe_aside i v) (guarded_stripes (changes S x) x) ps T o

partitions_aside : (x : Tx) (v : ℕ) (ps : List Put) (T : Store) → only unguarded ps ≡ true
    → apply_all (partition_guards x v) (apply_all ps T) ≡ apply_all ps (apply_all (partition_guards x v) T)
unfolding partition_guards
partitions_aside x v ps T o = all_aside unguarded (λ i. put_partition i v) (λ i. partition_aside i v) (guarded_partitions x) ps T o

-- two lists of puts that stand aside, as one
both_aside : (gs qs ps : List Put) (T : Store) → ((U : Store) → apply_all gs (apply_all ps U) ≡ apply_all ps (apply_all gs U))
    → ((U : Store) → apply_all qs (apply_all ps U) ≡ apply_all ps (apply_all qs U))
    → apply_all (gs ++ qs) (apply_all ps T) ≡ apply_all ps (apply_all (gs ++ qs) T)
both_aside gs qs ps T g q =
    apply_all_append gs qs (apply_all ps T) ∙ ap (apply_all qs) (g T) ∙ q (apply_all gs T) ∙ ap (apply_all ps) (sym (apply_all_append gs qs T))

-- guards let go
release_aside : (S : Store) (x : Tx) (ps : List Put) (T : Store) → only unguarded ps ≡ true
    → apply_all (release S x) (apply_all ps T) ≡ apply_all ps (apply_all (release S x) T)
unfolding release
release_aside S x ps T o = both_aside (partition_guards x 0) (index_guards S x 0) ps T (λ U. partitions_aside x 0 ps U o) (λ U. index_aside S x 0 ps U o)

-- guards taken first, or last
pub taken_aside : (S : Store) (x : Tx) (logged : Bool) (plan : Schedule) (ps : List Put) → only unguarded ps ≡ true
    → apply_all (guards_taken S x logged plan ++ ps) S ≡ apply_all (guards_taken S x logged plan) (apply_all ps S)
taken_aside S x logged plan ps o =
    let t = x.txid.0 in
    apply_all_append (guards_taken S x logged plan) ps S
    ∙ sym (both_aside (index_guards S x t) (partition_guards x t) ps S (λ U. index_aside S x t ps U o) (λ U. partitions_aside x t ps U o))

-- taken, then anything but guards, then let go
pub between_guards : (S : Store) (x : Tx) (logged : Bool) (plan : Schedule) → resting S ≡ true → (ps : List Put) → only unguarded ps ≡ true
    → apply_all (guards_taken S x logged plan ++ (ps ++ release S x)) S ≡ apply_all ps S
between_guards S x logged plan r ps o =
    let G = guards_taken S x logged plan in
    let R = release S x in
    let z = guards_zero S r in
    apply_all_append G (ps ++ R) S
    ∙ apply_all_append ps R (apply_all G S)
    ∙ release_aside S x ps (apply_all G S) o
    ∙ ap (apply_all ps) (sym (apply_all_append G R S) ∙ both_back S x z.0 z.1)

-- a poison between insertions and removals might as well come first
pub poison_first : (ps : List Put) (T : Store) → only posting_kinds ps ≡ true → apply put_poison (apply_all ps T) ≡ apply_all ps (apply put_poison T)
poison_first ps T o = one_aside posting_kinds put_poison poison_aside ps T o
