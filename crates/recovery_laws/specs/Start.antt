-- Where a commit starts: what a resting store and a fit transaction give to publication and to abort.
use Rattle.std.specs.Prelude.{◌≡◌, refl, Bool, true, false, not, List, [], ◌∷◌, ℕ, ◌<◌, length, get_or, eqb}
use Rattle.std.proofs.Common.{sym, ap, ◌∙◌, arith, eqb-true, ltb-true, leb-true}
use Rattle.std.proofs.lemmas.Bool.{eqb-false, not-true, not-false}
use Rattle.records.specs.Limits.{rows, slots}
use Rattle.rules.specs.Lists.{all, any, memb}
use Rattle.rules.specs.Types.{Store, Tx, Write}
use Rattle.rules.specs.Store.{value_at, active_txids}
use Rattle.rules.specs.Transaction.{writes_of, finals}
use Rattle.rules.specs.Chains.{walk, on}
use Rattle.rules.specs.Admitted.{finished, resting}
use Rattle.rules.specs.Fit.{fit, write_fit}
use Rattle.rules.specs.Puts.{own_slots}
use Rattle.rules.specs.Tests.{write_base_conflict}
use Rattle.rules.specs.Changes.{recycled}
use Rattle.basic_laws.specs.Cases.{by, clash, and_true, or_false, or_left, or_right}
use Rattle.basic_laws.specs.Rising.{rising_from}
use Rattle.basic_laws.specs.Members.{Each}
use Rattle.basic_laws.specs.Chained.{Chained}
use Rattle.basic_laws.specs.Check.{Tail}
use Rattle.statements.specs.Sized.{Sized}
use Rattle.basic_laws.specs.TestParts.{write_parts, fit_parts}
use Rattle.run_laws.specs.FinalWrites.{distinct, finals_all, finals_distinct}
use Rattle.run_laws.specs.OwnSlots.{own_parts, parts_own, recycled_is, recycled_parts}
use Rattle.run_laws.specs.PublishedChains.{new_pointers}
use Rattle.basic_laws.specs.Places.{is_rising}
use Rattle.admitted_laws.specs.Repairable.{Off, marks}
use Rattle.admitted_laws.specs.Resting.{Rests, rests, Sole, rests_sole}
use Rattle.statements.specs.Words.{shown}
use Rattle.recovery_laws.specs.Shown.{shown_is}
use Rattle.recovery_laws.specs.Versions.{first_slot, chain_starts, first_tail, first_same, good_rests, good_fin}
use Rattle.recovery_laws.specs.Unfinished.{dropped, active_in, zero_finished, active_unfinished, drop_other, drop_doomed}
use Rattle.recovery_laws.specs.Live.{Live, Due}
use Rattle.recovery_laws.specs.Marked.{yet}
use Rattle.recovery_laws.specs.Publishing.{Todo, On}

module _ (S : Store) (L : ℕ → List ℕ) (z : Sized S) (R : Rests S L) (t : ℕ) (active : memb t (active_txids S.active) ≡ true) where
  abbrev f : ℕ → Bool
  f = finished S.active S.doomed

  abbrev seen : List ℕ
  seen = (walk S.heads S.next).seen

  abbrev own : List ℕ
  own = own_slots S.heads S.next S.xmin t

  C : Chained S.heads S.next seen L
  C = marks S L z R.mends

  -- an active txid is not 0
  pub txid_positive : 0 < t
  txid_positive = rising_from 1 (active_txids S.active) t (is_rising 1 (active_txids S.active) R.mends.listed.climb) active

  -- and unfinished
  pub txid_unfinished : f t ≡ false
  txid_unfinished = active_unfinished S.active S.doomed t (λ e. omega (arith, txid_positive)) (active_in t S.active active)

  -- the store at entry
  pub live_start : (who : ℕ) → Sole S.heads S.xmin S.xmax f L who → Live (shown S) S.active S.doomed who S L
  live_start who N = record {
    long = record { heads = z.heads; xmax = z.xmax; next = z.next; active = z.active };
    mends = R.mends;
    act_is = refl;
    doom_is = refl;
    sole = N;
    shows = λ r lt. sym (shown_is S L z R.mends r (omega (arith, z.heads)));
  }

  -- off every chain is off the marks
  off_seen : (p : ℕ) → Off S.heads L p → on seen p ≡ false
  off_seen p o = by (on seen p) (λ e. let g = C.found p e in clash g.2 (o g.0 g.1)) (λ e. e)

  seen_off : (p : ℕ) → on seen p ≡ false → Off S.heads L p
  seen_off p n r lt = by (memb p (L r)) (λ m. clash (C.marked r p lt m) n) (λ m. m)

  -- the txid's off-chain slots
  pub own_idle : (p : ℕ) → memb p own ≡ true → Off S.heads L p × (p ≡ 0 → ⊥)
  own_idle p m =
      let o = own_parts S.heads S.next S.xmin t p m in
      (seen_off p o.off, λ e. omega (arith, o.some, ap (λ (q : ℕ). get_or S.xmin q 0) e, R.mends.slots.first))

  pub own_mine : (p : ℕ) → Off S.heads L p → get_or S.xmin p 0 ≡ t → memb p own ≡ true
  own_mine p o e = parts_own S.heads S.next S.xmin t p (record { some = omega (arith, e, txid_positive); mine = e; off = off_seen p o })

  -- abort: a txid found on a chain is as finished as before: it is another one, or doomed
  pub steady : (v : ℕ) → (f v ≡ false → v ≡ S.doomed) → finished (dropped S.active t) S.doomed v ≡ f v
  steady v h = by (eqb v t)
      (λ e. let v_is = eqb-true v t e in
      let d : t ≡ S.doomed = sym v_is ∙ h (rw v_is txid_unfinished) in
      rw (← d) (drop_doomed S.active S.clock R.mends.listed z.active t v (λ q. omega (arith, txid_positive)) (active_in t S.active active)))
      (λ e. drop_other S.active S.clock R.mends.listed z.active t S.doomed v (eqb-false v t e))

  -- so it can be aborted
  pub due_start : Due t (shown S) (shown S) S.active S.doomed S.doomed own S
  due_start =
      let created : (r x : ℕ) → r < length S.heads → memb x (L r) ≡ true
      → finished (dropped S.active t) S.doomed (get_or S.xmin x 0) ≡ f (get_or S.xmin x 0)
      = λ r x lt m. steady (get_or S.xmin x 0) (R.created r x lt m) in
      let ended : (r x : ℕ) → r < length S.heads → memb x (L r) ≡ true
      → finished (dropped S.active t) S.doomed (get_or S.xmax x 0) ≡ f (get_or S.xmax x 0)
      = λ r x lt m. steady (get_or S.xmax x 0) (R.ended r x lt m) in
      record {
        L = L;
        live = live_start S.doomed (rests_sole S L R);
        good =
            λ r lt. good_fin S.xmin S.xmax f (finished (dropped S.active t) S.doomed) (L r) (λ x m. created r x lt m)
            (λ x m. ended r x lt m) (R.mends.stands.versions r lt);
        sole = record {
          created = λ r x lt m n. R.created r x lt m (sym (created r x lt m) ∙ n);
          ended = λ r x lt m n. R.ended r x lt m (sym (ended r x lt m) ∙ n);
        };
        shows = λ r lt.
            let l : r < length S.heads = omega (arith, z.heads) in
            ap (value_at S.key S.has)
            (first_same (λ p. finished (dropped S.active t) S.doomed (get_or S.xmin p 0)) (λ p. f (get_or S.xmin p 0)) (L r)
            (λ x m. created r x l m))
            ∙ sym (shown_is S L z R.mends r l);
        idle = own_idle;
        mine = own_mine;
      }

-- a resting store that isn't poisoned: none is doomed, so all on chains are finished, and a row shows its head
module _ (S : Store) (L : ℕ → List ℕ) (R : Rests S L) (healthy : S.poisoned ≡ false) where
  abbrev h : ℕ → Bool
  h = finished S.active S.doomed

  settled : (v : ℕ) → (h v ≡ false → v ≡ S.doomed) → h v ≡ true
  settled v k = by (h v) (λ e. e) (λ e. clash (rw (k e ∙ R.undoomed healthy) (zero_finished S.active S.doomed)) e)

  pub tails : (r : ℕ) → r < length S.heads → Tail S.xmin S.xmax h 0 (L r)
  tails r lt =
      good_rests S.xmin S.xmax h (L r) (λ y m. settled (get_or S.xmin y 0) (R.created r y lt m))
      (λ y m. settled (get_or S.xmax y 0) (R.ended r y lt m)) (R.mends.stands.versions r lt)

  nobody : (who : ℕ) → Sole S.heads S.xmin S.xmax h L who
  nobody who = record {
    created = λ r y lt m n. clash (settled (get_or S.xmin y 0) (R.created r y lt m)) n;
    ended = λ r y lt m n. clash (settled (get_or S.xmax y 0) (R.ended r y lt m)) n;
  }

  shows_first : Sized S → (r : ℕ) → r < rows → shown S r ≡ value_at S.key S.has (first_slot (L r))
  shows_first z r lt =
      let l : r < length S.heads = omega (arith, z.heads) in
      shown_is S L z R.mends r l ∙ ap (value_at S.key S.has) (first_tail S.xmin S.xmax h 0 (L r) (tails r l))

-- a row of a resting store that isn't poisoned shows its head
pub shows_heads : (S : Store) → Sized S → resting S ≡ true → S.poisoned ≡ false → (r : ℕ) → r < rows
    → shown S r ≡ value_at S.key S.has (get_or S.heads r 0)
shows_heads S z h healthy r lt =
    let R = rests S z h in
    shows_first S R.0 R.1 healthy z r lt
    ∙ ap (value_at S.key S.has)
    (sym (chain_starts S.next (get_or S.heads r 0) (R.0 r) (R.1.mends.stands.chains.chain r (omega (arith, z.heads)))))

-- a write whose base is not the head of its row
abbrev conflicts : List ℕ → Write → Bool
conflicts heads w = not (eqb (get_or heads w.row.0 0) w.base.0)

-- publication: past the tests, on a store that isn't poisoned
module _ (S : Store) (L : ℕ → List ℕ) (z : Sized S) (R : Rests S L) (x : Tx) (active : memb x.txid.0 (active_txids S.active) ≡ true)
    (fits : fit S x ≡ true) (healthy : S.poisoned ≡ false) (based : write_base_conflict S x ≡ false) where
  abbrev me : ℕ
  me = x.txid.0

  abbrev g : ℕ → Bool
  g = finished S.active S.doomed

  -- each final write can be published
  todo_one : (w : Write) → write_fit S.xmin S.next (walk S.heads S.next).seen me w ≡ true → conflicts S.heads w ≡ false
      → Todo S.heads S.xmin S.xmax S.next g me L w
  todo_one w h c =
      let p = write_parts S.xmin S.next (walk S.heads S.next).seen me w h in
      let n = w.new.0 in
      let head = eqb-true (get_or S.heads w.row.0 0) w.base.0 (not-false (eqb (get_or S.heads w.row.0 0) w.base.0) c) in
      let row : w.row.0 < length S.heads = omega (arith, ltb-true w.row.0 rows p.row, z.heads) in
      record {
        ready = record {
          row = row;
          pos = by (eqb n 0)
              (λ e. absurd
              (omega (arith, ltb-true 0 (get_or S.xmin n 0) p.taken, ap (λ (q : ℕ). get_or S.xmin q 0) (eqb-true n 0 e), R.mends.slots.first)))
              (λ e. omega (arith, eqb-false n 0 e));
          low = omega (arith, leb-true n slots p.new, z.next);
          over = eqb-true (get_or S.next n 0) w.base.0 p.over ∙ sym head;
          off = seen_off S L z R me active n (not-true (on (walk S.heads S.next).seen n) p.off);
        };
        based = head;
        mine = eqb-true (get_or S.xmin n 0) me p.mine;
        rest = tails S L R healthy w.row.0 row;
      }

  todo_all : (ws : List Write) → all (write_fit S.xmin S.next (walk S.heads S.next).seen me) ws ≡ true → any (conflicts S.heads) ws ≡ false
      → Each (Todo S.heads S.xmin S.xmax S.next g me L) ws
  todo_all [] h c = tt
  todo_all (w ∷ ws) h c =
      let a = and_true (write_fit S.xmin S.next (walk S.heads S.next).seen me w)
      (all (write_fit S.xmin S.next (walk S.heads S.next).seen me) ws) h in
      let o = or_false (conflicts S.heads w) (any (conflicts S.heads) ws) c in
      (todo_one w a.0 o.0, todo_all ws a.1 o.1)

  finals_todo : Each (Todo S.heads S.xmin S.xmax S.next g me L) (finals x)
  unfolding finals write_base_conflict
  finals_todo =
      todo_all (finals x) (finals_all (write_fit S.xmin S.next (walk S.heads S.next).seen me) (writes_of x) (fit_parts S x fits).writes) based

  finals_apart : distinct (finals x) ≡ true
  unfolding finals
  finals_apart = finals_distinct (writes_of x) (fit_parts S x fits).apart

  -- so publication can start
  pub on_start : On me (shown S) S.active S.doomed S.key S.has (recycled S x) (finals x) (shown S) S
  on_start = record {
    L = L;
    live = live_start S L z R me active me (nobody S L R healthy me);
    key_is = refl;
    has_is = refl;
    phase = λ r lt. yet (tails S L R healthy r lt);
    todo = finals_todo;
    apart = finals_apart;
    heads_are = λ r lt. sym (shows_first S L R healthy z r lt);
    idle = λ p m.
        let a = recycled_parts S x p m in
        let i = own_idle S L z R me active p (parts_own S.heads S.next S.xmin me p a.0) in
        (i.0, i.1, a.1);
    mine = λ p o e. by (memb p (new_pointers (finals x)))
        (λ k. or_left (memb p (new_pointers (finals x))) (memb p (recycled S x)) k)
        (λ k. or_right (memb p (new_pointers (finals x))) (memb p (recycled S x)) (recycled_is S x p ∙ rw (own_mine S L z R me active p o e, k)));
  }
