-- "Guards: .. rising, taken index first, released partition first": which guards are held after each store of a commit.
use Rattle.std.specs.Prelude.{◌≡◌, refl, Bool, false, not, cond, ◌&&◌, ◌||◌, ◌⊎◌, ℕ, zero, suc, ◌+◌, ◌-◌, ◌<◌, ◌≤◌, ◌%◌, length, get_or, take, drop, eqb, ltb}
use Rattle.std.proofs.Common.{sym, ap, ◌∙◌, inl, arith, length-append, length-take, length-drop, get_or-take, get_or-drop, eq-eqb, ltb-true, ltb-false, le-leb}
use Rattle.std.proofs.Math.Bool.{true}
use mathlib.Core.List.{List, [], ◌∷◌, ◌++◌, map, append_assoc, append-nil}
use Rattle.std.proofs.Math.Logic.{inr, ⊎_elim}
use Rattle.std.proofs.lemmas.List.{length-map}
use Rattle.std.proofs.Math.Seq.{take_all}
use Rattle.std.proofs.Math.Dec.{leb}
use Rattle.records.specs.Limits.{stripes, partitions}
use Rattle.rules.specs.Lists.{all, all_zero, memb}
use Rattle.rules.specs.Types.{Store, Tx, Write, ReadRecord, IndexRead, Schedule, Uncut, After, Fate, Refusal}
use Rattle.rules.specs.Transaction.{writes_of, reads_of, index_reads_of, finals}
use Rattle.rules.specs.Fit.{stripes_apart}
use Rattle.rules.specs.Numbers.{number_of}
use Rattle.rules.specs.Puts.{Put, k_stripe, k_partition, put_stripe, put_partition, put_drop, put_poison, apply_all}
use Rattle.rules.specs.Changes.{changes, destinations, guarded_stripes, guarded_partitions, index_guards, partition_guards, release, insertions, removals}
use Rattle.rules.specs.Changes.{publication, recycling, stamping}
use Rattle.rules.specs.Commit.{End, count, run_of}
use Rattle.rules.specs.Answer.{events_of, uncut, cut_off, commit}
use Rattle.statements.specs.Sized.{Sized}
use Rattle.statements.specs.Words.{Some, Admitted}
use Rattle.statements.specs.StepWords.{PassedTests, Rises, GuardedStripe, GuardedPartition, InOrder, GuardsOf}
use Rattle.sentences.specs.StepsSay.{guarded_stripes_say, guarded_partitions_say}
use Rattle.basic_laws.specs.Cases.{by, clash, or_true, or_left, or_right, and_true, and_both}
use Rattle.basic_laws.specs.Members.{mem_at}
use Rattle.basic_laws.specs.Places.{zero_at}
use Rattle.basic_laws.specs.TestParts.{fit_parts}
use Rattle.run_laws.specs.OnlyKinds.{only, only_both, only_take, only_if, kept, is_not}
use Rattle.run_laws.specs.GuardPuts.{set_all, set_all_else, set_all_there, set_all_here, stripes_put, partitions_put, apply_all_append, guards_zero}
use Rattle.run_laws.specs.Released.{unguarded}
use Rattle.run_laws.specs.Kinds.{insertions_kind, removals_kind, publication_kinds, recycling_kind, stamping_kind, cleaning_kinds, rollback_kinds, finish_kind}
use Rattle.run_laws.specs.Outcome.{Taken, neither, index, both, guards_taken}
use Rattle.run_laws.specs.Outcome.{aborting, rolling_back, undoing, aborting_late, worse, Spoil, unremoved, unpublished, unrecycled, unfinished, Outcome}
use Rattle.run_laws.specs.Outcome.{done, stays, aborts, uninserted, uncalled, spoils, unstamped, outcome}
use Rattle.run_laws.specs.FirstRows.{admitted, stay_not, abort_not}
use Rattle.posting_laws.specs.Undone.{take_map, mem_take}
use Rattle.demands.specs.StampsAfter.{some_below}

-- a prefix of two lists joined
take_both : {A : Type 0} (n : ℕ) (l m : List A) → take n (l ++ m) ≡ take n l ++ take (n - length l) m
take_both zero l m = let e : zero - length l ≡ zero = omega arith in rw e
take_both (suc n) [] m = let e : suc n - zero ≡ suc n = omega arith in rw e
take_both (suc n) (a ∷ l) m = let e : suc n - suc (length l) ≡ n - length l = omega arith in rw e (ap (λ k. a ∷ k) (take_both n l m))

-- where a list rises no member of a prefix comes again
apart_prefix : (l : List ℕ) (j i : ℕ) → Rises l → memb i (take j l) ≡ true → memb i (drop j l) ≡ false
apart_prefix l j i r m = by (memb i (drop j l))
    (λ d. let a = mem_at (take j l) i m in
    let b = mem_at (drop j l) i d in
    let la : a.0 < j = omega (arith, a.1, length-take j l) in
    let lb : j + b.0 < length l = omega (arith, b.1, length-drop j l) in
    let up = r a.0 (j + b.0) (omega (arith, la)) lb in
    absurd (omega (arith, up, sym (get_or-take j l a.0 0 la) ∙ a.2, sym (get_or-drop j l b.0 0) ∙ b.2)))
    (λ d. d)

mem_drop : (l : List ℕ) (j i : ℕ) → memb i (drop j l) ≡ true → memb i l ≡ true
mem_drop l zero i m = m
mem_drop [] (suc j) i m = m
mem_drop (y ∷ l) (suc j) i m = or_right (eqb i y) (memb i l) (mem_drop l j i m)

mem_split : (l : List ℕ) (j i : ℕ) → memb i l ≡ true → memb i (drop j l) ≡ false → memb i (take j l) ≡ true
mem_split l zero i m d = clash m d
mem_split [] (suc j) i m d = m
mem_split (y ∷ l) (suc j) i m d = or_true (eqb i y) (memb i l) m
    (λ e. or_left (eqb i y) (memb i (take j l)) e) (λ e. or_right (eqb i y) (memb i (take j l)) (mem_split l j i e d))

-- an array of guards, all 0, of which those of a prefix of l are set to t and those of another, shorter one back to 0
module _ (g : List ℕ) (t : ℕ) (l : List ℕ) (zero_g : all_zero g ≡ true) (below : (i : ℕ) → memb i l ≡ true → i < length g) (up : Rises l) where
  abbrev held : ℕ → ℕ → List ℕ
  held a e = set_all (set_all g (take a l) t) (take e l) 0

  -- taking: none of them back
  took_here : (a i : ℕ) → memb i (take a l) ≡ true → get_or (held a 0) i 0 ≡ t
  took_here a i m = set_all_there 0 (take a l) g t i (below i (mem_take a l i m)) (λ n. clash m n)

  took_else : (a i : ℕ) → memb i (take a l) ≡ false → get_or (held a 0) i 0 ≡ 0
  took_else a i n = set_all_else 0 (take a l) g t i n ∙ zero_at g zero_g i

  -- releasing: all of them were taken
  left_here : (a e i : ℕ) → length l ≤ a → memb i (drop e l) ≡ true → get_or (held a e) i 0 ≡ t
  left_here a e i le m =
      let not_back : memb i (take e l) ≡ false = by (memb i (take e l)) (λ k. clash m (apart_prefix l e i up k)) (λ k. k) in
      let all = take_all a l le in
      set_all_else 0 (take e l) (set_all g (take a l) t) 0 i not_back
      ∙ set_all_there 0 (take a l) g t i (below i (mem_drop l e i m)) (λ n. clash (mem_drop l e i m) (rw all at n))

  left_else : (a e i : ℕ) → length l ≤ a → memb i (drop e l) ≡ false → get_or (held a e) i 0 ≡ 0
  left_else a e i le n = by (memb i (take e l))
      (λ k. set_all_here 0 (take e l) (set_all g (take a l) t) i k)
      (λ k. set_all_else 0 (take e l) (set_all g (take a l) t) 0 i k
      ∙ set_all_else 0 (take a l) g t i (by (memb i (take a l))
      (λ m. clash (mem_split l e i (mem_take a l i m) n) k) (λ m. m))
      ∙ zero_at g zero_g i)

-- guards taken, the stores M, guards let go, the stores W; M and W touch no guard
module _ (S : Store) (t : ℕ) (ss ps : List ℕ) (M W : List Put) (m : only unguarded M ≡ true) (w : only unguarded W ≡ true) where
  abbrev stripes_to : ℕ → List ℕ → List Put
  stripes_to v l = map (λ i. put_stripe i v) l

  abbrev partitions_to : ℕ → List ℕ → List Put
  partitions_to v l = map (λ i. put_partition i v) l

  abbrev whole : List Put
  whole = stripes_to t ss ++ (partitions_to t ps ++ (M ++ (partitions_to 0 ps ++ (stripes_to 0 ss ++ W))))

  -- parts of each
  abbrev parts : (a b c d e f : ℕ) → List Put
  parts a b c d e f =
      stripes_to t (take a ss) ++ (partitions_to t (take b ps) ++ (take c M ++ (partitions_to 0 (take d ps) ++ (stripes_to 0 (take e ss) ++ take f W))))

  -- the stripes' guards pass over partitions' guards and other stores, and the partitions' over stripes'
  over_partitions : (v : ℕ) (l : List ℕ) (T : Store) → (apply_all (partitions_to v l) T).stripe_guards ≡ T.stripe_guards
  over_partitions v l T = ap (λ (U : Store). U.stripe_guards) (partitions_put l v T)

  over_stripes : (v : ℕ) (l : List ℕ) (T : Store) → (apply_all (stripes_to v l) T).partition_guards ≡ T.partition_guards
  over_stripes v l T = ap (λ (U : Store). U.partition_guards) (stripes_put l v T)

  stripes_over : (ps : List Put) (T : Store) → only unguarded ps ≡ true → (apply_all ps T).stripe_guards ≡ T.stripe_guards
  stripes_over ps T o = kept (λ T. T.stripe_guards) unguarded (λ p T m. rw (is_not unguarded k_stripe refl p m)) ps T o

  partitions_over : (ps : List Put) (T : Store) → only unguarded ps ≡ true → (apply_all ps T).partition_guards ≡ T.partition_guards
  partitions_over ps T o = kept (λ T. T.partition_guards) unguarded (λ p T m. rw (is_not unguarded k_partition refl p m)) ps T o

  -- the store after the parts
  in_parts : (a b c d e f : ℕ) → apply_all (parts a b c d e f) S
      ≡ apply_all (take f W) (apply_all (stripes_to 0 (take e ss)) (apply_all (partitions_to 0 (take d ps)) (apply_all (take c M)
      (apply_all (partitions_to t (take b ps)) (apply_all (stripes_to t (take a ss)) S)))))
  in_parts a b c d e f =
      rw (
        apply_all_append (stripes_to t (take a ss)) _ S,
        apply_all_append (partitions_to t (take b ps)) _ (apply_all (stripes_to t (take a ss)) S),
        apply_all_append (take c M) _ _,
        apply_all_append (partitions_to 0 (take d ps)) _ _,
        apply_all_append (stripes_to 0 (take e ss)) (take f W) _,
      )

  stripes_then : (a b c d e f : ℕ) → (apply_all (parts a b c d e f) S).stripe_guards ≡ set_all (set_all S.stripe_guards (take a ss) t) (take e ss) 0
  stripes_then a b c d e f =
      let A = apply_all (stripes_to t (take a ss)) S in
      let B = apply_all (partitions_to t (take b ps)) A in
      let C = apply_all (take c M) B in
      let D = apply_all (partitions_to 0 (take d ps)) C in
      ap (λ (U : Store). U.stripe_guards) (in_parts a b c d e f)
      ∙ stripes_over (take f W) (apply_all (stripes_to 0 (take e ss)) D) (only_take unguarded f W w)
      ∙ ap (λ (U : Store). U.stripe_guards) (stripes_put (take e ss) 0 D)
      ∙ ap (λ (g : List ℕ). set_all g (take e ss) 0) (over_partitions 0 (take d ps) C ∙ stripes_over (take c M) B (only_take unguarded c M m)
      ∙ over_partitions t (take b ps) A ∙ ap (λ (U : Store). U.stripe_guards) (stripes_put (take a ss) t S))

  partitions_then : (a b c d e f : ℕ)
      → (apply_all (parts a b c d e f) S).partition_guards ≡ set_all (set_all S.partition_guards (take b ps) t) (take d ps) 0
  partitions_then a b c d e f =
      let A = apply_all (stripes_to t (take a ss)) S in
      let B = apply_all (partitions_to t (take b ps)) A in
      let C = apply_all (take c M) B in
      let D = apply_all (partitions_to 0 (take d ps)) C in
      ap (λ (U : Store). U.partition_guards) (in_parts a b c d e f)
      ∙ partitions_over (take f W) (apply_all (stripes_to 0 (take e ss)) D) (only_take unguarded f W w)
      ∙ over_stripes 0 (take e ss) D
      ∙ ap (λ (U : Store). U.partition_guards) (partitions_put (take d ps) 0 C)
      ∙ ap (λ (g : List ℕ). set_all g (take d ps) 0) (partitions_over (take c M) B (only_take unguarded c M m)
      ∙ ap (λ (U : Store). U.partition_guards) (partitions_put (take b ps) t A)
      ∙ ap (λ (g : List ℕ). set_all g (take b ps) t) (over_stripes t (take a ss) S))

  -- the first n of all
  first_parts : (n : ℕ) → let g = length ss in let q = length ps in let k = length M in
      take n whole ≡ parts n (n - g) (n - g - q) (n - g - q - k) (n - g - q - k - q) (n - g - q - k - q - g)
  first_parts n =
      rw (
        take_both n (stripes_to t ss) _,
        length-map ss (λ (i : ℕ). put_stripe i t),
        take_both (n - length ss) (partitions_to t ps) _,
        length-map ps (λ (i : ℕ). put_partition i t),
        take_both (n - length ss - length ps) M _,
        take_both (n - length ss - length ps - length M) (partitions_to 0 ps) _,
        length-map ps (λ (i : ℕ). put_partition i 0),
        take_both (n - length ss - length ps - length M - length ps) (stripes_to 0 ss) W,
        length-map ss (λ (i : ℕ). put_stripe i 0),
        take_map (λ (i : ℕ). put_stripe i t) n ss,
        take_map (λ (i : ℕ). put_partition i t) (n - length ss) ps,
        take_map (λ (i : ℕ). put_partition i 0) (n - length ss - length ps - length M) ps,
        take_map (λ (i : ℕ). put_stripe i 0) (n - length ss - length ps - length M - length ps) ss,
      )

  -- so the guards are held in turn, where they were 0
  module _ (sg : all_zero S.stripe_guards ≡ true) (pg : all_zero S.partition_guards ≡ true)
      (sb : (i : ℕ) → memb i ss ≡ true → i < length S.stripe_guards) (pb : (i : ℕ) → memb i ps ≡ true → i < length S.partition_guards)
      (sr : Rises ss) (pr : Rises ps) (T : ℕ → Store) (is : (n : ℕ) → T n ≡ apply_all (take n whole) S) where
    abbrev from : ℕ
    from = length ss + length ps + length M

    stripes_at : (n : ℕ) → (T n).stripe_guards ≡ held S.stripe_guards t ss sg sb sr n (n - from - length ps)
    stripes_at n =
        let g = length ss in
        let q = length ps in
        let k = length M in
        let e : n - g - q - k - q ≡ n - from - q = omega arith in
        ap (λ (U : Store). U.stripe_guards) (is n ∙ ap (λ (l : List Put). apply_all l S) (first_parts n))
        ∙ stripes_then n (n - g) (n - g - q) (n - g - q - k) (n - g - q - k - q) (n - g - q - k - q - g)
        ∙ ap (λ (j : ℕ). held S.stripe_guards t ss sg sb sr n j) e

    partitions_at : (n : ℕ) → (T n).partition_guards ≡ held S.partition_guards t ps pg pb pr (n - length ss) (n - from)
    partitions_at n =
        let g = length ss in
        let q = length ps in
        let k = length M in
        let e : n - g - q - k ≡ n - from = omega arith in
        ap (λ (U : Store). U.partition_guards) (is n ∙ ap (λ (l : List Put). apply_all l S) (first_parts n))
        ∙ partitions_then n (n - g) (n - g - q) (n - g - q - k) (n - g - q - k - q) (n - g - q - k - q - g)
        ∙ ap (λ (j : ℕ). held S.partition_guards t ps pg pb pr (n - g) j) e

    -- one guard after n stores
    stripe_at : (n i e : ℕ) → n - from - length ps ≡ e
        → get_or (T n).stripe_guards i 0 ≡ get_or (held S.stripe_guards t ss sg sb sr n e) i 0
    stripe_at n i e h =
        ap (λ (l : List ℕ). get_or l i 0) (stripes_at n ∙ ap (λ (j : ℕ). held S.stripe_guards t ss sg sb sr n j) h)

    partition_at : (n i d : ℕ) → n - from ≡ d
        → get_or (T n).partition_guards i 0 ≡ get_or (held S.partition_guards t ps pg pb pr (n - length ss) d) i 0
    partition_at n i d h =
        ap (λ (l : List ℕ). get_or l i 0) (partitions_at n ∙ ap (λ (j : ℕ). held S.partition_guards t ps pg pb pr (n - length ss) j) h)

    in_order : InOrder t T ss ps from
    in_order = record {
      taking = λ n le. record {
        stripe = λ i k. stripe_at n i 0 (omega arith) ∙ took_here S.stripe_guards t ss sg sb sr n i k;
        no_stripe = λ i k. stripe_at n i 0 (omega arith) ∙ took_else S.stripe_guards t ss sg sb sr n i k;
        partition = λ i k. partition_at n i 0 (omega arith) ∙ took_here S.partition_guards t ps pg pb pr (n - length ss) i k;
        no_partition = λ i k. partition_at n i 0 (omega arith) ∙ took_else S.partition_guards t ps pg pb pr (n - length ss) i k;
      };
      during = λ n le ge. record {
        stripe = λ i k. stripe_at n i 0 (omega arith) ∙ left_here S.stripe_guards t ss sg sb sr n 0 i (omega arith) k;
        no_stripe = λ i k. stripe_at n i 0 (omega arith) ∙ left_else S.stripe_guards t ss sg sb sr n 0 i (omega arith) k;
        partition = λ i k. partition_at n i 0 (omega arith) ∙ left_here S.partition_guards t ps pg pb pr (n - length ss) 0 i (omega arith) k;
        no_partition = λ i k. partition_at n i 0 (omega arith) ∙ left_else S.partition_guards t ps pg pb pr (n - length ss) 0 i (omega arith) k;
      };
      releasing = λ n ge. record {
        stripe = λ i k. stripe_at n i _ refl ∙ left_here S.stripe_guards t ss sg sb sr n (n - from - length ps) i (omega arith) k;
        no_stripe = λ i k. stripe_at n i _ refl ∙ left_else S.stripe_guards t ss sg sb sr n (n - from - length ps) i (omega arith) k;
        partition = λ i k. partition_at n i _ refl ∙ left_here S.partition_guards t ps pg pb pr (n - length ss) (n - from) i (omega arith) k;
        no_partition = λ i k. partition_at n i _ refl ∙ left_else S.partition_guards t ps pg pb pr (n - length ss) (n - from) i (omega arith) k;
      };
      apart = omega arith;
    }

-- guarded stripes are below the limit in a fit transaction, and guarded partitions always
reads_below : (l : List IndexRead) (i : ℕ) → stripes_apart l ≡ true → Some (λ e. i ≡ e.stripe) l → i < stripes
reads_below [] i h s = absurd s
reads_below (e ∷ l) i h s =
    let a = and_true (ltb e.stripe stripes) _ h in
    ⊎_elim (λ k. omega (arith, k, ltb-true e.stripe stripes a.0))
    (λ k. reads_below l i (and_true (all (λ q. not (eqb q.stripe e.stripe)) l) (stripes_apart l) a.1).1 k) s

some_modulo : {A : Type 0} (f : A → ℕ) (l : List A) (i : ℕ) → Some (λ a. i ≡ f a % partitions) l → i < partitions
some_modulo f [] i s = absurd s
some_modulo f (a ∷ l) i s = ⊎_elim (λ k. omega (arith, k)) (λ k. some_modulo f l i k) s

-- the stores of a run, by guards: all of them taken and let go, or the stripes' alone, or none; a run that passed n steps
module _ (S : Store) (x : Tx) where
  pub record Shape (n : ℕ) (made : List Put) : Type 0 where
    pub ss : List ℕ
    pub ps : List ℕ
    pub amid : List Put
    pub rest : List Put
    pub amid_spares : only unguarded amid ≡ true
    pub rest_spares : only unguarded rest ≡ true
    pub are : made ≡ whole S x.txid.0 ss ps amid rest amid_spares rest_spares
    pub stripes : (ss ≡ []) ⊎ (ss ≡ guarded_stripes (changes S x) x)
    pub partitions : (ps ≡ []) ⊎ (ps ≡ guarded_partitions x)
    pub all_stripes : leb 14 n ≡ true → ss ≡ guarded_stripes (changes S x) x
    pub all_partitions : leb 14 n ≡ true → ps ≡ guarded_partitions x
    pub last : leb 14 n ≡ true → rest ≡ []

  -- all of them, then M, and the guards let go
  late : (n : ℕ) (made M : List Put) (o : only unguarded M ≡ true)
      → made ≡ (index_guards S x x.txid.0 ++ partition_guards x x.txid.0) ++ (M ++ release S x) → Shape n made
  unfolding index_guards partition_guards release
  late n made M o e =
      let t = x.txid.0 in
      let ss = guarded_stripes (changes S x) x in
      let ps = guarded_partitions x in
      record {
        ss = ss;
        ps = ps;
        amid = M;
        rest = [];
        amid_spares = o;
        rest_spares = refl;
        are = e ∙ simp (append_assoc, append-nil);
        stripes = inr refl;
        partitions = inr refl;
        all_stripes = λ _. refl;
        all_partitions = λ _. refl;
        last = λ _. refl;
      }

  -- guards let go before the tests are passed, and then other stores: none, the stripes', or all
  let_go : (n : ℕ) (made W : List Put) (ss ps : List ℕ) → leb 14 n ≡ false → (o : only unguarded W ≡ true)
      → (ss ≡ []) ⊎ (ss ≡ guarded_stripes (changes S x) x) → (ps ≡ []) ⊎ (ps ≡ guarded_partitions x)
      → made ≡ whole S x.txid.0 ss ps [] W refl o → Shape n made
  let_go n made W ss ps l o si pi e = record {
    ss = ss;
    ps = ps;
    amid = [];
    rest = W;
    amid_spares = refl;
    rest_spares = o;
    are = e;
    stripes = si;
    partitions = pi;
    all_stripes = λ h. clash h l;
    all_partitions = λ h. clash h l;
    last = λ h. clash h l;
  }

  early : (n : ℕ) (logged : Bool) (plan : Schedule) (made W : List Put) {taken back : List Put} → leb 14 n ≡ false → only unguarded W ≡ true
      → Taken S x logged plan taken back → made ≡ taken ++ (back ++ W) → Shape n made
  unfolding index_guards partition_guards release
  early n logged plan made W l o neither e = let_go n made W [] [] l o (inl refl) (inl refl) e
  early n logged plan made W l o index e = let_go n made W (guarded_stripes (changes S x) x) [] l o (inr refl) (inl refl) e
  early n logged plan made W l o both e =
      let_go n made W (guarded_stripes (changes S x) x) (guarded_partitions x) l o (inr refl) (inr refl) (e ∙ simp append_assoc)

  module _ (logged : Bool) (plan : Schedule) where
    -- the stores between the guards, up to steps 15, 17, 18, 19 and 21
    abbrev to_insert : List Put
    to_insert = insertions S x

    abbrev to_remove : List Put
    to_remove = to_insert ++ removals S x

    abbrev to_publish : List Put
    to_publish = to_remove ++ publication x

    abbrev to_recycle : List Put
    to_recycle = to_publish ++ recycling S x

    abbrev to_finish : List Put
    to_finish = to_recycle ++ put_drop x.txid.0 ∷ []

    inserted : only unguarded to_insert ≡ true
    inserted = insertions_kind unguarded S x refl

    removed : only unguarded to_remove ≡ true
    removed = only_both unguarded to_insert (removals S x) inserted (removals_kind unguarded S x refl)

    published : only unguarded to_publish ≡ true
    published = only_both unguarded to_remove (publication x) removed (publication_kinds unguarded S x refl refl)

    freed : only unguarded to_recycle ≡ true
    freed = only_both unguarded to_publish (recycling S x) published (recycling_kind unguarded S x refl)

    finished : only unguarded to_finish ≡ true
    finished = only_both unguarded to_recycle (put_drop x.txid.0 ∷ []) freed refl

    spoiled : {n : ℕ} {made some finishing : List Put} {poisoning : Put} {kind : Fate → Refusal} {y : Tx} {drops : Bool}
        → Spoil S x logged plan n made some poisoning finishing kind y drops
        → (M : List Put) × (made ≡ guards_taken S x logged plan ++ M) × (only unguarded M ≡ true) × (only unguarded some ≡ true)
        × (only unguarded (poisoning ∷ finishing) ≡ true)
    spoiled (unremoved k) =
        (to_insert, refl, inserted, only_take unguarded (count S x logged plan 17) (removals S x) (removals_kind unguarded S x refl), refl)
    spoiled (unpublished k) = (
      to_remove,
      simp append_assoc,
      removed,
      only_take unguarded (count S x logged plan 18) (publication x) (publication_kinds unguarded S x refl refl),
      finish_kind unguarded S x logged plan refl,
    )
    spoiled (unrecycled k) = (
      to_publish,
      simp append_assoc,
      published,
      only_take unguarded (count S x logged plan 19) (recycling S x) (recycling_kind unguarded S x refl),
      finish_kind unguarded S x logged plan refl,
    )
    spoiled (unfinished k) = (to_recycle, simp append_assoc, freed, refl, refl)

    shape : (n : ℕ) (made : List Put) (d : End) → Outcome S x logged plan n made d → Shape n made
    shape _ _ _ (done p) =
        late _ _ (to_finish ++ stamping S x) (only_both unguarded to_finish (stamping S x) finished (stamping_kind unguarded S x refl)) (simp append_assoc)
    shape _ _ _ (stays {taken = taken} {back = back} l k r) = early _ logged plan _ [] l refl k (ap (λ (m : List Put). taken ++ m) (sym (append-nil back)))
    shape _ _ _ (aborts l k r) =
        early _ logged plan _ (aborting S x logged plan).puts l (cleaning_kinds unguarded S x logged plan refl refl refl S.poisoned) k refl
    shape _ _ _ (uninserted p r) =
        let some = take (count S x logged plan 15) (insertions S x) in
        let back = (rolling_back S x logged plan).puts in
        late _ _ (some ++ back)
        (only_both unguarded some back (only_take unguarded (count S x logged plan 15) (insertions S x) inserted)
        (rollback_kinds unguarded S x logged plan refl refl false (take (count S x logged plan 15) (destinations (changes S x)))))
        (simp append_assoc)
    shape _ _ _ (uncalled p l r) =
        let first = cond (worse S x logged plan) (put_poison ∷ []) [] in
        let back = (undoing S x logged plan).puts in
        let end = (aborting_late S x logged plan).puts in
        late _ _ (to_insert ++ (first ++ (back ++ end)))
        (only_both unguarded to_insert (first ++ (back ++ end)) inserted
        (only_both unguarded first (back ++ end) (only_if unguarded (worse S x logged plan) (put_poison ∷ []) [] refl refl)
        (only_both unguarded back end (rollback_kinds unguarded S x logged plan refl refl (worse S x logged plan) (destinations (changes S x)))
        (cleaning_kinds unguarded S x logged plan refl refl refl (worse S x logged plan || (undoing S x logged plan).failed)))))
        (simp append_assoc)
    shape _ _ _ (spoils {made = made} {some = some} {finishing = finishing} {poisoning = poisoning} p r) =
        let q = spoiled r in
        let end = some ++ poisoning ∷ finishing in
        late _ _ (q.0 ++ end) (only_both unguarded q.0 end q.2 (only_both unguarded some (poisoning ∷ finishing) q.3 q.4))
        (ap (λ (m : List Put). m ++ (end ++ release S x)) q.1 ∙ simp append_assoc)
    shape _ _ _ (unstamped p r) =
        let some = take (count S x logged plan 22) (stamping S x) in
        late _ _ (to_finish ++ (some ++ put_poison ∷ []))
        (only_both unguarded to_finish (some ++ put_poison ∷ []) finished
        (only_both unguarded some (put_poison ∷ []) (only_take unguarded (count S x logged plan 22) (stamping S x) (stamping_kind unguarded S x refl)) refl))
        (simp append_assoc)

-- 0 and 10 to 17 are answered past the tests alone
abbrev late_number : ℕ → Bool
late_number n = eqb n 0 || (leb 10 n && leb n 17)

late_passed : (S : Store) (x : Tx) (logged : Bool) (plan : Schedule) (n : ℕ) (ps : List Put) (d : End) → Outcome S x logged plan n ps d
    → late_number (number_of d.refusal) ≡ true → leb 14 n ≡ true
late_passed S x logged plan _ _ _ (done p) h = refl
late_passed S x logged plan _ _ _ (stays l k r) h = clash h (stay_not late_number refl refl r _)
late_passed S x logged plan _ _ _ (aborts l k r) h = clash h (abort_not late_number refl refl refl refl refl r)
late_passed S x logged plan _ _ _ (uninserted p r) h = refl
late_passed S x logged plan _ _ _ (uncalled p l r) h = refl
late_passed S x logged plan _ _ _ (spoils p (unremoved r)) h = refl
late_passed S x logged plan _ _ _ (spoils p (unpublished r)) h = refl
late_passed S x logged plan _ _ _ (spoils p (unrecycled r)) h = refl
late_passed S x logged plan _ _ _ (spoils p (unfinished r)) h = refl
late_passed S x logged plan _ _ _ (unstamped p r) h = refl

module _ (S : Store) (x : Tx) (logged : Bool) (plan : Schedule) (z : Sized S) (ok : Admitted S x plan) where
  abbrev made : List Put
  made = (run_of S x logged plan).puts

  -- the store of a commit cut at n, or of the whole one if it makes no more
  after_n : (n : ℕ) → (commit S x logged plan (After n)).store ≡ apply_all (take n made) S
  unfolding uncut cut_off
  after_n n = by (ltb n (length made))
      (λ e. rw (admitted S x logged plan (After n) ok, e))
      (λ e. rw (admitted S x logged plan (After n) ok, e, take_all n made (ltb-false n (length made) e)))

  -- its number, or its events, say that it passed step 14
  passed_is : PassedTests (commit S x logged plan Uncut) → leb 14 (run_of S x logged plan).passed ≡ true
  unfolding uncut events_of
  passed_is h =
      let u = rw (admitted S x logged plan Uncut ok) at h in
      let n = number_of (run_of S x logged plan).end.refusal in
      let by_number : late_number n ≡ true → leb 14 (run_of S x logged plan).passed ≡ true =
      λ e. late_passed S x logged plan _ _ _ (outcome S x logged plan) e in
      ⊎_elim
      (λ e. by_number (or_left (eqb n 0) (leb 10 n && leb n 17) (eq-eqb n 0 e)))
      (λ k. ⊎_elim
      (λ e. by_number (or_right (eqb n 0) (leb 10 n && leb n 17) (and_both (leb 10 n) (leb n 17) (le-leb 10 n e.0) (le-leb n 17 e.1))))
      (λ e. e) k) u

  stores_are : (commit S x logged plan Uncut).stores ≡ length made
  unfolding uncut
  stores_are = rw (admitted S x logged plan Uncut ok)

  stripe_below : (i : ℕ) → GuardedStripe S x i → i < length S.stripe_guards
  stripe_below i g = ⊎_elim
      (λ k. omega (arith, z.stripe_guards, some_below S (finals x) i k))
      (λ k. omega (arith, z.stripe_guards, reads_below (index_reads_of x) i (fit_parts S x ok.fits).stripes k)) g

  partition_below : (i : ℕ) → GuardedPartition x i → i < length S.partition_guards
  partition_below i g = ⊎_elim
      (λ k. omega (arith, z.partition_guards, some_modulo (λ (w : Write). w.row.0) (writes_of x) i k))
      (λ k. omega (arith, z.partition_guards, some_modulo (λ (e : ReadRecord). e.row.0) (reads_of x) i k)) g

  -- what holds of no list and of the guards' holds of either
  pick : (P : List ℕ → Type 0) (l m : List ℕ) → P [] → P m → (l ≡ []) ⊎ (l ≡ m) → P l
  pick P l m a b h = ⊎_elim (λ e. rw e a) (λ e. rw e b) h

  -- "Guards: .. rising, taken index first, released partition first": every admitted commit
  pub guards_in_turn : GuardsOf S x logged plan
  guards_in_turn =
      let h = shape S x logged plan _ _ _ (outcome S x logged plan) in
      let zeros = guards_zero S ok.rests in
      let ss = guarded_stripes_say S x in
      let ps = guarded_partitions_say x in
      let gs = guarded_stripes (changes S x) x in
      let gp = guarded_partitions x in
      record {
        ss = h.ss;
        ps = h.ps;
        from = length h.ss + length h.ps + length h.amid;
        order = in_order S x.txid.0 h.ss h.ps h.amid h.rest h.amid_spares h.rest_spares zeros.0 zeros.1
            (pick (λ l. (i : ℕ) → memb i l ≡ true → i < length S.stripe_guards) h.ss gs
            (λ i m. clash {b = false} m refl) (λ i m. stripe_below i ((ss.members i).0 m)) h.stripes)
            (pick (λ l. (i : ℕ) → memb i l ≡ true → i < length S.partition_guards) h.ps gp
            (λ i m. clash {b = false} m refl) (λ i m. partition_below i ((ps.members i).0 m)) h.partitions)
            (pick Rises h.ss gs (λ a b lt lb. absurd (omega arith)) ss.rises h.stripes)
            (pick Rises h.ps gp (λ a b lt lb. absurd (omega arith)) ps.rises h.partitions)
            (λ n. (commit S x logged plan (After n)).store)
            (λ n. after_n n ∙ ap (λ (l : List Put). apply_all (take n l) S) h.are);
        stripes = ⊎_elim (λ e. inl e) (λ e. inr (rw e ss)) h.stripes;
        partitions = ⊎_elim (λ e. inl e) (λ e. inr (rw e ps)) h.partitions;
        all_stripes = λ p. rw (h.all_stripes (passed_is p)) ss;
        all_partitions = λ p. rw (h.all_partitions (passed_is p)) ps;
        to_the_end = λ p. long h.ss h.ps h.amid h.rest h.amid_spares h.rest_spares h.are (h.last (passed_is p));
      }
    where
      long : (ss ps : List ℕ) (M W : List Put) (m : only unguarded M ≡ true) (w : only unguarded W ≡ true)
          → made ≡ whole S x.txid.0 ss ps M W m w → W ≡ []
          → length ss + length ps + length M + length ps + length ss ≡ (commit S x logged plan Uncut).stores
      long ss ps M W m w e n =
          sym (stores_are ∙ ap length e ∙ simp (length-append, length-map) (omega (arith, ap length n)))
