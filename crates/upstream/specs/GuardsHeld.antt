-- Source 002's `held`: while postings and rows change, the guards of every changed key and of every written row are the transaction's.
use Rattle.std.specs.Prelude.{◌≡◌, Bool, false, not, ◌||◌, ℕ, ◌<◌, ltb}
use Rattle.std.proofs.Math.Path.{refl, ap}
use Rattle.std.proofs.Common.{sym, ◌∙◌, arith}
use Rattle.std.proofs.Math.Bool.{true}
use mathlib.Core.List.{List, [], ◌∷◌, ◌++◌, map}
use Rattle.std.proofs.Math.ListN.{get_or}
use Rattle.std.proofs.Math.Dec.{eqb}
use borrow.Author.Tests.{eqb-true, eq-eqb, ltb-true}
use Rattle.records.specs.Limits.{rows}
use Rattle.rules.specs.Types.{Store, Tx, Write, Schedule, Value, Absent, Key}
use Rattle.basic_laws.specs.Cases.{by, clash, and_true, and_both, or_true, or_left, or_right, mem_here, mem_there}
use Rattle.rules.specs.Lists.{all, flat, memb}
use Rattle.rules.specs.Store.{posting, key_of, stripe_of, partition_of, same_value}
use Rattle.rules.specs.Transaction.{writes_of, finals}
use Rattle.rules.specs.Puts.{Put, k_stripe, k_partition, put_stripe, put_partition, apply_all}
use Rattle.rules.specs.Changes.{Change, change_of, index_changes, changes, posting_in, destinations, sources, stripes_in}
use Rattle.rules.specs.Changes.{changed_stripes, guarded_stripes, guarded_partitions, index_guards, partition_guards}
use Rattle.run_laws.specs.OnlyKinds.{only, only_map, kept, is_not}
use Rattle.run_laws.specs.GuardPuts.{set_all, set_all_there, stripes_put, partitions_put, apply_all_append}
use Rattle.run_laws.specs.Released.{unguarded}
use Rattle.run_laws.specs.Outcome.{guards_taken}
use Rattle.basic_laws.specs.Rearranged.{or_none}
use Rattle.basic_laws.specs.Rising.{mem_in_order}
use Rattle.posting_laws.specs.Pair.{key_of_posting}
use Rattle.posting_laws.specs.Posted.{mem_append}
use Rattle.posting_laws.specs.Undone.{Ready, rows_fit}

-- the stripe of a posting's key is that of its value
one_stripe : (p r : ℕ) (v : Value) → r < rows → memb p (posting_in r v) ≡ true → memb (stripe_of (key_of p)) (stripes_in v) ≡ true
one_stripe p r Absent lt m = m
one_stripe p r (Key k) lt m =
    let e = eqb-true p (posting k r) (sym (or_none (eqb p (posting k r))) ∙ m) in
    rw (e, key_of_posting k r lt) (mem_here (stripe_of k) [])

-- of changes of rows below the limit, on one side or the other
side_stripes : (side : Change → Value)
    → ((c : Change) (q : ℕ) → memb q (stripes_in (side c)) ≡ true → memb q (stripes_in c.before ++ stripes_in c.after) ≡ true)
    → (p : ℕ) (cs : List Change) → all (λ c. ltb c.row rows) cs ≡ true → memb p (flat (λ c. posting_in c.row (side c)) cs) ≡ true
    → memb (stripe_of (key_of p)) (flat (λ c. stripes_in c.before ++ stripes_in c.after) cs) ≡ true
side_stripes side h p [] b m = clash {b = false} m refl
side_stripes side h p (c ∷ cs) b m =
    let a = and_true (ltb c.row rows) (all (λ c. ltb c.row rows) cs) b in
    let q = stripe_of (key_of p) in
    let here = stripes_in c.before ++ stripes_in c.after in
    let there = flat (λ c. stripes_in c.before ++ stripes_in c.after) cs in
    let first = posting_in c.row (side c) in
    let rest = flat (λ c. posting_in c.row (side c)) cs in
    mem_append here there q
    ∙ or_true (memb p first) (memb p rest) (sym (mem_append first rest p) ∙ m)
    (λ e. or_left (memb q here) (memb q there) (h c q (one_stripe p c.row (side c) (ltb-true c.row rows a.0) e)))
    (λ e. or_right (memb q here) (memb q there) (side_stripes side h p cs a.1 e))

-- the rows of changes are those of writes
changes_rows : (key : List ℕ) (has : List Bool) (ws : List Write) → all (λ w. ltb w.row.0 rows) ws ≡ true
    → all (λ c. ltb c.row rows) (index_changes key has ws) ≡ true
unfolding index_changes
changes_rows key has [] h = refl
changes_rows key has (w ∷ ws) h =
    let a = and_true (ltb w.row.0 rows) (all (λ w. ltb w.row.0 rows) ws) h in
    let c = change_of key has w in
    by (not (same_value c.before c.after))
    (λ e. rw e (and_both (ltb w.row.0 rows) _ a.0 (changes_rows key has ws a.1)))
    (λ e. rw e (changes_rows key has ws a.1))

-- a test of a list's images
all_images {ℓ} : {A : Type ℓ} (f : A → ℕ) (g : ℕ → Bool) (l : List A) → ((a : A) → memb (f a) (map f l) ≡ true → g (f a) ≡ true) → all (λ a. g (f a)) l ≡ true
all_images f g [] h = refl
all_images f g (a ∷ l) h =
    and_both (g (f a)) (all (λ a. g (f a)) l) (h a (mem_here (f a) (map f l))) (all_images f g l (λ b m. h b (mem_there (f b) (f a) (map f l) m)))

module _ (S : Store) (x : Tx) (logged : Bool) (plan : Schedule) (ok : Ready S x) (ps : List Put) (o : only unguarded ps ≡ true) where
  abbrev t : ℕ
  t = x.txid.0

  -- the store while a commit changes it: guards taken, then the puts ps, none of them a guard
  abbrev pub during : Store
  during = apply_all (guards_taken S x logged plan ++ ps) S

  -- a posting put in or taken out: its key's stripe is guarded
  guarded_stripe : (p : ℕ) → (memb p (destinations (changes S x)) || memb p (sources (changes S x))) ≡ true
      → memb (stripe_of (key_of p)) (guarded_stripes (changes S x) x) ≡ true
  unfolding guarded_stripes changed_stripes destinations sources changes
  guarded_stripe p m =
      let cs = index_changes S.key S.has (finals x) in
      let q = stripe_of (key_of p) in
      let b = changes_rows S.key S.has (finals x) (rows_fit S x ok) in
      let touched = flat (λ c. stripes_in c.before ++ stripes_in c.after) cs in
      let there : memb q touched ≡ true =
      or_true (memb p (flat (λ c. posting_in c.row c.after) cs)) (memb p (flat (λ c. posting_in c.row c.before) cs)) m
      (λ e. side_stripes (λ c. c.after)
      (λ c r k. mem_append (stripes_in c.before) (stripes_in c.after) r ∙ or_right (memb r (stripes_in c.before)) (memb r (stripes_in c.after)) k)
      p cs b e)
      (λ e. side_stripes (λ c. c.before)
      (λ c r k. mem_append (stripes_in c.before) (stripes_in c.after) r ∙ or_left (memb r (stripes_in c.before)) (memb r (stripes_in c.after)) k)
      p cs b e) in
      rw (mem_in_order, mem_append, mem_in_order, there)

  -- guards that are taken stay taken
  abbrev ks : List ℕ
  ks = k_partition ∷ []

  stripe_guards_law : during.stripe_guards ≡ set_all S.stripe_guards (guarded_stripes (changes S x) x) t
  unfolding index_guards partition_guards
  stripe_guards_law =
      let G = map (λ i. put_stripe i t) (guarded_stripes (changes S x) x) in
      let Q = map (λ i. put_partition i t) (guarded_partitions x) in
      ap (λ (T : Store). T.stripe_guards) (apply_all_append (G ++ Q) ps S)
      ∙ kept (λ T. T.stripe_guards) unguarded (λ p T m. rw (is_not unguarded k_stripe refl p m)) ps (apply_all (G ++ Q) S) o
      ∙ ap (λ (T : Store). T.stripe_guards) (apply_all_append G Q S)
      ∙ kept (λ T. T.stripe_guards) ks (λ p T m. rw (is_not ks k_stripe refl p m)) Q (apply_all G S)
      (only_map ks (λ i. put_partition i t) (guarded_partitions x) (λ i. refl))
      ∙ ap (λ (T : Store). T.stripe_guards) (stripes_put (guarded_stripes (changes S x) x) t S)

  partition_guards_law : during.partition_guards ≡ set_all S.partition_guards (guarded_partitions x) t
  unfolding index_guards partition_guards
  partition_guards_law =
      let js = k_stripe ∷ [] in
      let G = map (λ i. put_stripe i t) (guarded_stripes (changes S x) x) in
      let Q = map (λ i. put_partition i t) (guarded_partitions x) in
      ap (λ (T : Store). T.partition_guards) (apply_all_append (G ++ Q) ps S)
      ∙ kept (λ T. T.partition_guards) unguarded (λ p T m. rw (is_not unguarded k_partition refl p m)) ps (apply_all (G ++ Q) S) o
      ∙ ap (λ (T : Store). T.partition_guards) (apply_all_append G Q S)
      ∙ ap (λ (T : Store). T.partition_guards) (partitions_put (guarded_partitions x) t (apply_all G S))
      ∙ ap (λ (g : List ℕ). set_all g (guarded_partitions x) t)
      (kept (λ T. T.partition_guards) js (λ p T m. rw (is_not js k_partition refl p m)) G S
      (only_map js (λ i. put_stripe i t) (guarded_stripes (changes S x) x) (λ i. refl)))

  -- `held` of 002's change_valid: the guard of each changed key, on both sides
  pub keys_held : (p : ℕ) → (memb p (destinations (changes S x)) || memb p (sources (changes S x))) ≡ true
      → get_or during.stripe_guards (stripe_of (key_of p)) 0 ≡ t
  keys_held p m =
      ap (λ (g : List ℕ). get_or g (stripe_of (key_of p)) 0) stripe_guards_law
      ∙ set_all_there 0 (guarded_stripes (changes S x) x) S.stripe_guards t (stripe_of (key_of p)) (omega (arith, ok.sized.stripe_guards))
      (λ n. clash (guarded_stripe p m) n)

  -- the row partition of 002's `authorized`: the guard of each written row
  pub rows_held : all (λ w. eqb (get_or during.partition_guards (partition_of w.row.0) 0) t) (writes_of x) ≡ true
  unfolding guarded_partitions
  rows_held =
      all_images (λ w. partition_of w.row.0) (λ i. eqb (get_or during.partition_guards i 0) t) (writes_of x) (λ w m.
      let i = partition_of w.row.0 in
      eq-eqb (get_or during.partition_guards i 0) t (ap (λ (g : List ℕ). get_or g i 0) partition_guards_law
      ∙ set_all_there 0 (guarded_partitions x) S.partition_guards t i (omega (arith, ok.sized.partition_guards))
      (λ n. clash (rw (mem_in_order, mem_append, m)) n)))
