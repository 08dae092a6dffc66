-- A commit of one transaction keeps every other one fit and active, whatever it answers and wherever it is cut: its stores free no slot but its
-- own, drop no txid but its own, and the slots that they bring onto chains are its own.
use Rattle.std.specs.Prelude.{◌≡◌, Bool, false, not, ◌&&◌, ◌||◌, ◌⊎◌, ℕ, ◌<◌, length, get_or, set, take, ltb}
use Rattle.std.proofs.Math.Path.{refl}
use Rattle.std.proofs.Common.{sym, subst, ap, ◌∙◌, inl, inr, ⊎_elim, arith, length-set, get_or-set_same, get_or-set_other, take_all}
use Rattle.std.proofs.Math.Bool.{true}
use mathlib.Core.List.{List, [], ◌∷◌, map}
use Rattle.std.proofs.Math.ListN.{get_or-eq_default}
use Rattle.std.proofs.Math.Dec.{eqb}
use borrow.Author.Tests.{eqb-true, eqb-false, eq-eqb, ne_eqb, ltb-true, ltb-false, not-false}
use Rattle.records.specs.Limits.{active_limit}
use Rattle.rules.specs.Lists.{all, any, memb, flat, without}
use Rattle.rules.specs.Types.{Store, Tx, Write, Schedule, Cut, Uncut, After}
use Rattle.rules.specs.Store.{active_txids}
use Rattle.rules.specs.Transaction.{writes_of, finals}
use Rattle.rules.specs.Chains.{walk, on}
use Rattle.rules.specs.Fit.{fit, write_fit}
use Rattle.rules.specs.Numbers.{number_of}
use Rattle.rules.specs.Puts.{Put, k_stripe, k_partition, k_insert, k_remove, k_xmax, k_head, k_free, k_drop, k_stamp, k_poison, k_doom}
use Rattle.rules.specs.Puts.{k_enter, k_clock, k_xmin, k_next, is, put_free, put_drop, apply, apply_all, own_slots, abort_puts}
use Rattle.rules.specs.Tests.{write_base_conflict}
use Rattle.rules.specs.Changes.{publish_one, publication, recycled, recycling}
use Rattle.rules.specs.Commit.{run_of}
use Rattle.rules.specs.Answer.{uncut, cut_off, answer, commit}
use Rattle.basic_laws.specs.Cases.{by, clash, and_true, and_both, or_true, or_false, or_left, or_right, mem_here, mem_there}
use Rattle.run_laws.specs.OnlyKinds.{only_take, kept, is_not}
use Rattle.statements.specs.Words.{Admitted}
use Rattle.run_laws.specs.FirstRows.{every_commit}
use Rattle.run_laws.specs.OwnSlots.{own_parts, recycled_parts}
use Rattle.basic_laws.specs.AllOf.{all_append, all_take}
use Rattle.basic_laws.specs.Rising.{mem_without}
use Rattle.basic_laws.specs.LaidOut.{pad_length}
use Rattle.basic_laws.specs.Members.{all_mem}
use Rattle.basic_laws.specs.Chain.{IsChain, chain_head}
use Rattle.basic_laws.specs.Chained.{Chained}
use Rattle.statements.specs.Sized.{Sized, Keyed}
use Rattle.basic_laws.specs.TestParts.{write_parts, fit_parts}
use Rattle.run_laws.specs.FinalWrites.{finals_all}
use Rattle.admitted_laws.specs.Repairable.{ActiveForm, mends, marks}
use Rattle.admitted_laws.specs.Resting.{Rests, rests}
use Rattle.recovery_laws.specs.Unfinished.{dropped, dropped_are, dropped_form}
use Rattle.recovery_laws.specs.Sizes.{sized_all}
use Rattle.recovery_laws.specs.Calm.{calm}
use Rattle.run_laws.specs.GuardPuts.{set_blank}
use Rattle.recovery_laws.specs.Ways.{based}
use Rattle.recovery_laws.specs.Prefix.{prefix}
use Rattle.recovery_laws.specs.EveryStore.{counted, run_all, run_counted}
use Rattle.recovery_laws.specs.Again.{commit_rests}
use Rattle.call_laws.specs.StaysFit.{stays_fit}
use Rattle.call_laws.specs.Keeps.{Keeps}

-- the slot behind one of a chain is on it too
chain_on : (ns : List ℕ) (p : ℕ) (l : List ℕ) (x : ℕ) → IsChain ns p l → memb x l ≡ true → (eqb (get_or ns x 0) 0 || memb (get_or ns x 0) l) ≡ true
chain_on ns p [] x h m = clash {b = false} m refl
chain_on ns p (y ∷ l) x h m = or_true (eqb x y) (memb x l) m
    (λ e. subst (λ z. (eqb (get_or ns z 0) 0 || memb (get_or ns z 0) (y ∷ l)) ≡ true) (sym (eqb-true x y e)) (by (eqb (get_or ns y 0) 0)
    (λ k. or_left (eqb (get_or ns y 0) 0) (memb (get_or ns y 0) (y ∷ l)) k)
    (λ k. or_right (eqb (get_or ns y 0) 0) (memb (get_or ns y 0) (y ∷ l))
    (mem_there (get_or ns y 0) y l (chain_head ns (get_or ns y 0) l h.3 (eqb-false (get_or ns y 0) 0 k))))))
    (λ e. or_true (eqb (get_or ns x 0) 0) (memb (get_or ns x 0) l) (chain_on ns (get_or ns y 0) l x h.3 e)
    (λ k. or_left (eqb (get_or ns x 0) 0) (memb (get_or ns x 0) (y ∷ l)) k)
    (λ k. or_right (eqb (get_or ns x 0) 0) (memb (get_or ns x 0) (y ∷ l)) (mem_there (get_or ns x 0) y l k)))

module _ (S : Store) (x : Tx) (L : ℕ → List ℕ) (z : Sized S) (R : Rests S L) where
  abbrev t : ℕ
  t = x.txid.0

  abbrev seen : List ℕ
  seen = (walk S.heads S.next).seen

  C : Chained S.heads S.next seen L
  C = marks S L z R.mends

  -- 0 or on a chain; a slot of t's that leads to such a one; either
  abbrev rooted : ℕ → Bool
  rooted q = eqb q 0 || on seen q

  abbrev lands : ℕ → Bool
  lands n = eqb (get_or S.xmin n 0) t && rooted (get_or S.next n 0)

  abbrev ours : ℕ → Bool
  ours n = rooted n || lands n

  head_rooted : (r : ℕ) → rooted (get_or S.heads r 0) ≡ true
  head_rooted r =
      let h = get_or S.heads r 0 in
      by (ltb r (length S.heads))
      (λ e. let lt = ltb-true r (length S.heads) e in
      by (eqb h 0) (λ k. or_left (eqb h 0) (on seen h) k)
      (λ k. or_right (eqb h 0) (on seen h) (C.marked r h lt (chain_head S.next h (L r) (C.stand.chain r lt) (eqb-false h 0 k)))))
      (λ e. rw (get_or-eq_default S.heads 0 (ltb-false r (length S.heads) e)))

  next_rooted : (q : ℕ) → on seen q ≡ true → rooted (get_or S.next q 0) ≡ true
  next_rooted q o =
      let g = C.found q o in
      let n = get_or S.next q 0 in
      or_true (eqb n 0) (memb n (L g.0)) (chain_on S.next (get_or S.heads g.0 0) (L g.0) q (C.stand.chain g.0 g.1) g.2)
      (λ k. or_left (eqb n 0) (on seen n) k)
      (λ k. or_right (eqb n 0) (on seen n) (C.marked g.0 n g.1 k))

  -- a put that another txid doesn't feel: of a kind that counts for none of this, or of t's own
  abbrev aside : List ℕ
  aside = k_stripe ∷ k_partition ∷ k_insert ∷ k_remove ∷ k_xmax ∷ k_stamp ∷ k_poison ∷ k_doom ∷ []

  abbrev spares : Put → Bool
  spares p = memb p.kind aside || ((is p k_free && eqb (get_or S.xmin p.at 0) t) || ((is p k_drop && eqb p.val t) || (is p k_head && lands p.val)))

  calm_spares : (p : Put) → memb p.kind calm ≡ true → spares p ≡ true
  calm_spares p m = or_left (memb p.kind aside) _ (all_mem (λ k. memb k aside) calm refl p.kind m)

  -- slots of t's, freed
  freed_spare : (l : List ℕ) → ((p : ℕ) → memb p l ≡ true → eqb (get_or S.xmin p 0) t ≡ true) → all spares (map put_free l) ≡ true
  freed_spare [] h = refl
  freed_spare (p ∷ l) h = rw (h p (mem_here p l)) (freed_spare l (λ q m. h q (mem_there q p l m)))

  abort_spares : all spares (abort_puts S t) ≡ true
  unfolding abort_puts
  abort_spares =
      let own = own_slots S.heads S.next S.xmin t in
      let mine : (p : ℕ) → memb p own ≡ true → eqb (get_or S.xmin p 0) t ≡ true
      = λ p m. eq-eqb (get_or S.xmin p 0) t (own_parts S.heads S.next S.xmin t p m).mine in
      all_append spares (map put_free own) (put_drop t ∷ []) (freed_spare own mine) (rw (eq-eqb t t refl))

  recycling_spares : all spares (recycling S x) ≡ true
  unfolding recycling
  recycling_spares = freed_spare (recycled S x) (λ p m. eq-eqb (get_or S.xmin p 0) t (recycled_parts S x p m).0.mine)

  -- publication, past the tests
  module _ (fits : fit S x ≡ true) (free : write_base_conflict S x ≡ false) where
    abbrev fitting : Write → Bool
    fitting = write_fit S.xmin S.next seen t

    abbrev stale : Write → Bool
    stale w = not (eqb (get_or S.heads w.row.0 0) w.base.0)

    write_lands : (w : Write) → fitting w ≡ true → stale w ≡ false → lands w.new.0 ≡ true
    write_lands w f c =
        let P = write_parts S.xmin S.next seen t w f in
        let n = w.new.0 in
        let e = eqb-true (get_or S.next n 0) w.base.0 P.over in
        let h = eqb-true (get_or S.heads w.row.0 0) w.base.0 (not-false (eqb (get_or S.heads w.row.0 0) w.base.0) c) in
        and_both (eqb (get_or S.xmin n 0) t) (rooted (get_or S.next n 0)) P.mine (rw (e ∙ sym h) (head_rooted w.row.0))

    publish_spares : (ws : List Write) → all fitting ws ≡ true → any stale ws ≡ false → all spares (flat (publish_one t) ws) ≡ true
    unfolding publish_one
    publish_spares [] f c = refl
    publish_spares (w ∷ ws) f c =
        let a = and_true (fitting w) (all fitting ws) f in
        let o = or_false (stale w) (any stale ws) c in
        let l = write_lands w a.0 o.0 in
        let r = publish_spares ws a.1 o.1 in
        by (eqb w.base.0 0) (λ e. rw (e, l) r) (λ e. rw (e, l) r)

    publication_spares : all spares (publication x) ≡ true
    unfolding publication finals write_base_conflict
    publication_spares = publish_spares (finals x) (finals_all fitting (writes_of x) (fit_parts S x fits).writes) free

  -- what such puts leave: slots of other txids as they were, slots that lead where they led or nowhere, heads that are ours, other txids active
  record Beside (heads xmin next active : List ℕ) : Type 0 where
    pub slot : (n : ℕ) → (get_or S.xmin n 0 ≡ t → ⊥) → (get_or xmin n 0 ≡ get_or S.xmin n 0) × (get_or next n 0 ≡ get_or S.next n 0)
    pub onward : (n : ℕ) → (get_or next n 0 ≡ 0) ⊎ (get_or next n 0 ≡ get_or S.next n 0)
    pub head : (r : ℕ) → ours (get_or heads r 0) ≡ true
    pub long : length active ≡ active_limit
    pub listed : ActiveForm active S.clock
    pub others : (u : ℕ) → (u ≡ t → ⊥) → memb u (active_txids active) ≡ memb u (active_txids S.active)

  abbrev BesideIn : Store → Type 0
  BesideIn X = Beside X.heads X.xmin X.next X.active

  start : BesideIn S
  start = record {
    slot = λ n d. (refl, refl);
    onward = λ n. inr refl;
    head = λ r. or_left (rooted (get_or S.heads r 0)) (lands (get_or S.heads r 0)) (head_rooted r);
    long = z.active;
    listed = R.mends.listed;
    others = λ u d. refl;
  }

  module _ (heads xmin next active : List ℕ) (B : Beside heads xmin next active) where
    frees_beside : (s : ℕ) → get_or S.xmin s 0 ≡ t → Beside heads (set xmin s 0) (set next s 0) active
    frees_beside s e = record {
      slot = λ n d. let ne : n ≡ s → ⊥ = λ k. d (ap (λ (q : ℕ). get_or S.xmin q 0) k ∙ e) in
          (get_or-set_other xmin s n 0 0 ne ∙ (B.slot n d).0, get_or-set_other next s n 0 0 ne ∙ (B.slot n d).1);
      onward = λ n. by (eqb n s)
          (λ k. inl (rw (eqb-true n s k) (set_blank next s 0)))
          (λ k. rw (get_or-set_other next s n 0 0 (eqb-false n s k)) (B.onward n));
      head = B.head;
      long = B.long;
      listed = B.listed;
      others = B.others;
    }

    drops_beside : Beside heads xmin next (dropped active t)
    drops_beside = record {
      slot = B.slot;
      onward = B.onward;
      head = B.head;
      long = pad_length active_limit 0 (without t (active_txids active));
      listed = dropped_form active S.clock B.listed B.long t;
      others = λ u d. rw (dropped_are active S.clock B.listed B.long t, mem_without t (active_txids active) u, ne_eqb u t d) (B.others u d);
    }

    heads_beside : (r p : ℕ) → lands p ≡ true → Beside (set heads r p) xmin next active
    heads_beside r p l = record {
      slot = B.slot;
      onward = B.onward;
      head = λ q. by (eqb q r)
          (λ k. by (ltb q (length heads))
          (λ e. rw (eqb-true q r k, get_or-set_same heads r p 0 (rw (eqb-true q r k) at (ltb-true q (length heads) e))) (or_right (rooted p) (lands p) l))
          (λ e. rw (get_or-eq_default (set heads r p) 0 {n = q} (omega (arith, length-set heads r p, ltb-false q (length heads) e)))))
          (λ k. rw (get_or-set_other heads r q p 0 (eqb-false q r k)) (B.head q));
      long = B.long;
      listed = B.listed;
      others = B.others;
    }

  -- one put, and all
  step : (p : Put) (X : Store) → spares p ≡ true → BesideIn X → BesideIn (apply p X)
  step p X h B =
      or_true (memb p.kind aside) _ h
      (λ m. rw (
        is_not aside k_head refl p m,
        is_not aside k_free refl p m,
        is_not aside k_xmin refl p m,
        is_not aside k_next refl p m,
        is_not aside k_drop refl p m,
        is_not aside k_enter refl p m,
      ) B)
      (λ h1. or_true (is p k_free && eqb (get_or S.xmin p.at 0) t) _ h1
      (λ k. let a = and_true (is p k_free) (eqb (get_or S.xmin p.at 0) t) k in
      rw (eqb-true p.kind k_free a.0) (frees_beside X.heads X.xmin X.next X.active B p.at (eqb-true (get_or S.xmin p.at 0) t a.1)))
      (λ h2. or_true (is p k_drop && eqb p.val t) (is p k_head && lands p.val) h2
      (λ k. let a = and_true (is p k_drop) (eqb p.val t) k in
      rw (eqb-true p.kind k_drop a.0, eqb-true p.val t a.1) (drops_beside X.heads X.xmin X.next X.active B))
      (λ k. let a = and_true (is p k_head) (lands p.val) k in
      rw (eqb-true p.kind k_head a.0) (heads_beside X.heads X.xmin X.next X.active B p.at p.val a.1))))

  steps : (ps : List Put) (X : Store) → all spares ps ≡ true → BesideIn X → BesideIn (apply_all ps X)
  steps [] X h B = B
  steps (p ∷ ps) X h B = let a = and_true (spares p) (all spares ps) h in steps ps (apply p X) a.1 (step p X a.0 B)

  -- so another txid's slot off every chain is off every chain still
  module _ (X : Store) (B : BesideIn X) (M : ℕ → List ℕ) (D : Chained X.heads X.next (walk X.heads X.next).seen M) where
    ahead : (q : ℕ) → 0 < q → ours q ≡ true → ours (get_or X.next q 0) ≡ true
    ahead q pos o =
        let n = get_or S.next q 0 in
        ⊎_elim
        (λ (e : get_or X.next q 0 ≡ 0). rw e)
        (λ (e : get_or X.next q 0 ≡ n). rw e (or_left (rooted n) (lands n) (or_true (rooted q) (lands q) o
        (λ k. or_true (eqb q 0) (on seen q) k (λ i. absurd (omega (arith, pos, eqb-true q 0 i))) (λ i. next_rooted q i))
        (λ k. (and_true (eqb (get_or S.xmin q 0) t) (rooted n) k).1))))
        (B.onward q)

    reach : (p : ℕ) (l : List ℕ) → ours p ≡ true → IsChain X.next p l → (m : ℕ) → memb m l ≡ true → ours m ≡ true
    reach p [] o h m e = clash {b = false} e refl
    reach p (q ∷ l) o h m e = or_true (eqb m q) (memb m l) e
        (λ k. rw (eqb-true m q k, ← h.0) o)
        (λ k. reach (get_or X.next q 0) l (ahead q h.1 (rw h.0 at o)) h.3 m k)

    off : (n : ℕ) → 0 < get_or S.xmin n 0 → (get_or S.xmin n 0 ≡ t → ⊥) → on seen n ≡ false → on (walk X.heads X.next).seen n ≡ false
    off n u d o = by (on (walk X.heads X.next).seen n)
        (λ e. let g = D.found n e in
        or_true (rooted n) (lands n) (reach (get_or X.heads g.0 0) (M g.0) (B.head g.0) (D.stand.chain g.0 g.1) n g.2)
        (λ k. or_true (eqb n 0) (on seen n) k
        (λ i. absurd (omega (arith, u, ap (λ (q : ℕ). get_or S.xmin q 0) (eqb-true n 0 i), R.mends.slots.first)))
        (λ i. clash i o))
        (λ k. absurd (d (eqb-true (get_or S.xmin n 0) t (and_true (eqb (get_or S.xmin n 0) t) (rooted (get_or S.next n 0)) k).0))))
        (λ e. e)

-- fit for T, and active there
abbrev pub GoesOn : Tx → Store → Type 0
GoesOn y T = (fit T y ≡ true) × (memb y.txid.0 (active_txids T.active) ≡ true)

module _ (S : Store) (x y : Tx) (logged : Bool) (plan : Schedule) (z : Sized S) (d : y.txid.0 ≡ x.txid.0 → ⊥) (G : GoesOn y S) where
  -- after any number of a commit's stores
  others_go : Admitted S x plan → (n : ℕ) → GoesOn y (apply_all (take n (run_of S x logged plan).puts) S)
  others_go ok n =
      let all_puts = (run_of S x logged plan).puts in
      let ps = take n all_puts in
      let T = apply_all ps S in
      let Q = rests S z ok.rests in
      let L = Q.0 in
      let R = Q.1 in
      let passes = run_all (spares S x L z R) (calm_spares S x L z R) S x logged plan
      (λ p. publication_spares S x L z R ok.fits (based S x logged plan z ok p))
      (recycling_spares S x L z R) (abort_spares S x L z R) (rw (eq-eqb x.txid.0 x.txid.0 refl)) refl in
      let B = steps S x L z R ps S (all_take (spares S x L z R) n all_puts passes) (start S x L z R) in
      let w = sized_all ps S z in
      let W = mends T w (prefix S x logged plan z ok n).mends in
      let clock : T.clock ≡ S.clock = kept (λ (X : Store). X.clock) counted (λ p X m. rw (is_not counted k_clock refl p m)) ps S
      (only_take counted n all_puts (run_counted S x logged plan)) in (
        stays_fit S T y (omega (arith, clock))
            (λ m u q. B.slot m (λ e. d (sym q ∙ e)))
            (λ m u q o. off S x L z R T B W.0 (marks T W.0 w W.1) m u (λ e. d (sym q ∙ e)) o)
            G.0,
        B.others y.txid.0 d ∙ G.1,
      )

  -- all of them, and as many as a cut leaves
  all_go : Admitted S x plan → GoesOn y (apply_all (run_of S x logged plan).puts S)
  all_go ok = let ps = (run_of S x logged plan).puts in rw (take_all (length ps) ps (omega arith)) at (others_go ok (length ps))

  answered : Admitted S x plan → (cut : Cut) → GoesOn y (answer S x logged (run_of S x logged plan) cut).store
  unfolding uncut cut_off
  answered ok Uncut = all_go ok
  answered ok (After n) = by (ltb n (length (run_of S x logged plan).puts)) (λ e. rw e (others_go ok n)) (λ e. rw e (all_go ok))

  -- every commit, whatever it answers and wherever it is cut
  pub commit_others : (cut : Cut) → GoesOn y (commit S x logged plan cut).store
  commit_others cut = every_commit S x logged plan (λ a. GoesOn y a.store) cut G G G (λ ok. answered ok cut)

-- a commit leaves the lengths
commit_sized : (S : Store) (x : Tx) (logged : Bool) (plan : Schedule) (cut : Cut) → Sized S → Sized (commit S x logged plan cut).store
unfolding uncut cut_off
commit_sized S x logged plan cut z = every_commit S x logged plan (λ a. Sized a.store) cut z z z (λ _. go cut)
  where
    go : (c : Cut) → Sized (answer S x logged (run_of S x logged plan) c).store
    go Uncut = sized_all (run_of S x logged plan).puts S z
    go (After n) =
        by (ltb n (length (run_of S x logged plan).puts)) (λ e. rw e (sized_all (take n (run_of S x logged plan).puts) S z))
        (λ e. rw e (sized_all (run_of S x logged plan).puts S z))

-- and unless it is cut, the next call of the other is taken
pub commit_keeps_others : (S : Store) (x y : Tx) (logged : Bool) (plan : Schedule) (cut : Cut) → Keyed S → (y.txid.0 ≡ x.txid.0 → ⊥)
    → (number_of (commit S x logged plan cut).refusal ≡ 18 → ⊥) → Keeps S y → Keeps (commit S x logged plan cut).store y
commit_keeps_others S x y logged plan cut k d h K =
    let g = commit_others S x y logged plan K.sized d (K.fits, K.active) cut in
    record {
      sized = commit_sized S x logged plan cut K.sized;
      shaped = K.shaped;
      rests =
          commit_rests S x logged plan K.sized k K.rests cut (λ n. not (eqb n 18)) refl
          (rw (ne_eqb (number_of (commit S x logged plan cut).refusal) 18 h));
      fits = g.0;
      active = g.1;
    }
