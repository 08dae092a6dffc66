-- Write: the slot it takes and the base it records; the store rests, and the transaction stays fit.
use Rattle.std.specs.Prelude.{◌≡◌, refl, Bool, true, false, not, ◌&&◌, ◌||◌, List, [], ◌∷◌, ◌++◌, ◌↔◌, ℕ, suc, ◌≤◌, ◌<◌, length, get_or, eqb, leb}
use Rattle.std.proofs.Common.{sym, ◌∙◌, arith, length-append, get_or-set_same, get_or-set_other, length-take-le}
use borrow.Author.Tests.{eqb-false, eq-eqb, ne_eqb, ltb-true, lt-ltb, leb-true, le-leb, lt-leb}
use Rattle.records.specs.Limits.{rows, slots, write_limit, last_minute}
use Rattle.records.specs.Zero.{no_write}
use Rattle.rules.specs.Lists.{all, any, memb, first_of}
use Rattle.rules.specs.Types.{Store, Tx, Write, Value}
use Rattle.rules.specs.Store.{active_txids}
use Rattle.rules.specs.Transaction.{writes_of, savepoints_of, last_own, with_writes}
use Rattle.rules.specs.Chains.{walk, on}
use Rattle.rules.specs.Fit.{writes_apart, fit}
use Rattle.rules.specs.Numbers.{number_of}
use Rattle.rules.specs.Calls.{visible_version, lowest_free, base_of, write}
use Rattle.basic_laws.specs.Cases.{by, and_true, and_both, or_false, or_right}
use Rattle.basic_laws.specs.Chain.{chain_below}
use Rattle.basic_laws.specs.Chained.{chained_from}
use Rattle.statements.specs.Sized.{Sized}
use Rattle.basic_laws.specs.TestParts.{write_parts, parts_write, fit_parts, parts_fit}
use Rattle.basic_laws.specs.LaidOut.{pad_length, take_pad}
use Rattle.basic_laws.specs.AllOf.{all_then}
use Rattle.admitted_laws.specs.Repairable.{marks}
use Rattle.recovery_laws.specs.Start.{txid_positive}
use Rattle.admitted_laws.specs.Resting.{Rests, rests, rested}
use Rattle.sentences.specs.Refusals.{write_told, write_accepted}
use Rattle.call_laws.specs.Passed.{Admitted, write_passed}
use Rattle.basic_laws.specs.Blanks.{all_both, all_more, all_mid, drop_pad}
use Rattle.statements.specs.ReadWords.{of_row}
use Rattle.call_laws.specs.ReadLaws.{visible_at, mem_mid, first_of_law, none_of, first_none, last_of, last_none, writes_taken}
use Rattle.call_laws.specs.Counts.{SizedTx, blank_write, counts_parts, parts_counts}
use Rattle.call_laws.specs.Keeps.{Keeps}
use Rattle.call_laws.specs.StaysFit.{fits_in, on_same, writes_fit}
use Rattle.call_laws.specs.Took.{took, took_is, took_sized, took_rests}
use Rattle.statements.specs.StoreWords.{Blank, Lowest, stored_key, Xmin, Xmax, Next, Values, RowLocks}
use Rattle.statements.specs.CallWords.{Based, kept, found, none, Writes}
use Rattle.sentences.specs.StoreSays.{lowest, differ, slot_taken}
use Rattle.sentences.specs.CallsSay.{one_write_more}

-- a write record
abbrev pub write_of : ℕ → ℕ → ℕ → Write
write_of r q p = record { row = record { 0 = r }; base = record { 0 = q }; new = record { 0 = p } }

-- "each new pointer distinct"; "writes of one row share a base": an earlier write and a later one
abbrev apart_from : Write → Write → Bool
apart_from v w = not (eqb v.new.0 w.new.0)

abbrev sharing : Write → Write → Bool
sharing v w = not (eqb v.row.0 w.row.0) || eqb v.base.0 w.base.0

-- one write more
apart_more : (ws : List Write) (v : Write) → writes_apart ws ≡ true → all (λ w. apart_from v w && sharing v w) ws ≡ true → writes_apart (ws ++ v ∷ []) ≡ true
apart_more [] v h k = refl
apart_more (w ∷ ws) v h k =
    let a = and_true (all (λ u. apart_from u w && sharing u w) ws) (writes_apart ws) h in
    let b = and_true (apart_from v w && sharing v w) (all (λ u. apart_from v u && sharing v u) ws) k in
    rw (all_more (λ u. apart_from u w && sharing u w) ws v a.0 b.0) (apart_more ws v a.1 b.1)

-- a write of another row shares no base
else_shares : (ws : List Write) (v : Write) → any (of_row v.row.0) ws ≡ false → all (sharing v) ws ≡ true
else_shares [] v n = refl
else_shares (w ∷ ws) v n =
    let o = or_false (of_row v.row.0 w) (any (of_row v.row.0) ws) n in
    rw (ne_eqb v.row.0 w.row.0 (λ e. eqb-false w.row.0 v.row.0 o.0 (sym e))) (else_shares ws v o.1)

-- the writes of a row share the base of the last one
last_shares : (before : List Write) (u : Write) (after : List Write) (v : Write) → writes_apart (before ++ u ∷ after) ≡ true → u.row.0 ≡ v.row.0
    → u.base.0 ≡ v.base.0
    → any (of_row v.row.0) after ≡ false → all (sharing v) (before ++ u ∷ after) ≡ true
last_shares [] u after v h er eb n =
    rw (eq-eqb v.base.0 u.base.0 (sym eb)) (and_both _ _ (or_right (not (eqb v.row.0 u.row.0)) true refl) (else_shares after v n))
last_shares (w ∷ before) u after v h er eb n =
    let a = and_true (all (λ t. apart_from t w && sharing t w) (before ++ u ∷ after)) (writes_apart (before ++ u ∷ after)) h in
    let s = (and_true (apart_from u w) (sharing u w) (all_mid (λ t. apart_from t w && sharing t w) before u after a.0)).1 in
    and_both (sharing v w) (all (sharing v) (before ++ u ∷ after)) (rw (er, eb) at s) (last_shares before u after v a.1 er eb n)

module _ (S : Store) (x : Tx) (L : ℕ → List ℕ) (z : Sized S) (R : Rests S L) (k : fit S x ≡ true) (r : ℕ) (lt : r < rows) where
  -- what write takes for base is that
  pub based : Based S x r (L r) (base_of S x r)
  unfolding base_of visible_version
  based =
      let v = visible_at S x in
      by (any (of_row r) (writes_of x))
      (λ e. let o = last_of r (writes_of x) (writes_taken S x L z R k) e in
      let n = ltb-true 0 (last_own r (writes_of x)).new.0 o.1 in
      rw (ne_eqb (last_own r (writes_of x)).new.0 0 (λ q. omega (arith, q, n))) (kept (last_own r (writes_of x)) o.0))
      (λ e. rw (
        last_none r (writes_of x) e,
        chained_from S.heads S.next (walk S.heads S.next).seen L (marks S L z R.mends) r (omega (arith, z.heads)),
      )
      (by (any v (L r))
      (λ s. found (first_of v (L r)) e (first_of_law S x (L r) s))
      (λ s. rw (first_none v (L r) s) (none e (none_of S x (L r) s)))))

  -- it is no more than the last slot
  base_within : (q : ℕ) → Based S x r (L r) q → q ≤ slots
  base_within _ (kept w o) = leb-true w.base.0 slots (write_parts S.xmin S.next (walk S.heads S.next).seen x.txid.0 w
      (all_mid (fits_in x S) o.before w o.after (rw o.split at (fit_parts S x k).writes))).base
  base_within q (found _ e F) =
      omega (
        arith,
        z.next,
        (chain_below S.next (get_or S.heads r 0) (L r) q (R.mends.stands.chains.chain r (omega (arith, z.heads)))
            (rw F.split (mem_mid q F.before F.after))).1,
      )
  base_within _ (none e s) = omega arith

  -- the earlier writes of the row share it
  base_shared : (q p : ℕ) → Based S x r (L r) q → all (sharing (write_of r q p)) (writes_of x) ≡ true
  base_shared _ p (kept w o) = rw o.split (last_shares o.before w o.after (write_of r w.base.0 p)
      (rw o.split at (fit_parts S x k).apart) o.row refl o.none)
  base_shared q p (found _ e F) = else_shares (writes_of x) (write_of r q p) e
  base_shared q p (none e s) = else_shares (writes_of x) (write_of r q p) e

  module _ (y : SizedTx x) (p : ℕ) (v : Value) (W : Lowest S.xmin p) (a : memb x.txid.0 (active_txids S.active) ≡ true)
      (room : x.write_count < write_limit) (minute : stored_key v ≤ last_minute) where
    abbrev t : ℕ
    t = x.txid.0

    abbrev q : ℕ
    q = base_of S x r

    -- the store and the transaction after the write
    abbrev T : Store
    T = took p t q v S

    abbrev added : Write
    added = write_of r q p

    abbrev all_writes : List Write
    all_writes = writes_of x ++ added ∷ []

    -- the base is a slot or 0
    le : q ≤ slots
    le = base_within q based

    -- the store rests with the same chains
    TSized : Sized T
    TSized = took_sized S L z R p t q v W a le minute

    TRests : Rests T L
    TRests = took_rests S L z R p t q v W a le minute

    marked : (n : ℕ) → on (walk T.heads T.next).seen n ≡ on (walk S.heads S.next).seen n
    marked = on_same S T L R z TRests TSized refl

    -- an earlier write has another slot, and stays fit
    same : (n : ℕ) → 0 < get_or S.xmin n 0 → get_or S.xmin n 0 ≡ t → (get_or T.xmin n 0 ≡ get_or S.xmin n 0) × (get_or T.next n 0 ≡ get_or S.next n 0)
    same n u e = let ne : n ≡ p → ⊥ = λ k. omega (arith, rw k at u, W.free) in (get_or-set_other S.xmin p n t 0 ne, get_or-set_other S.next p n q 0 ne)

    -- (its slot is used, the new one was free)
    used_other : (w : Write) → fits_in x S w ≡ true → w.new.0 ≡ p → ⊥
    used_other w h e = omega (
      arith,
      rw e at (ltb-true 0 (get_or S.xmin w.new.0 0) (write_parts S.xmin S.next (walk S.heads S.next).seen t w h).taken),
      W.free,
    )

    -- so it is fit still
    old_fits : (w : Write) → fits_in x S w ≡ true → fits_in x T w ≡ true
    old_fits = writes_fit S T x (omega arith) same (λ n u q e. marked n ∙ e)

    -- and so is the new one
    new_fits : fits_in x T added ≡ true
    new_fits =
        let e = get_or-set_same S.xmin p t 0 W.within in
        let C = marks S L z R.mends in
        parts_write T.xmin T.next (walk T.heads T.next).seen t added (record {
          row = lt-ltb r rows lt;
          base = le-leb q slots le;
          new = le-leb p slots (omega (arith, W.within, z.xmin));
          taken = rw e (lt-ltb 0 t (txid_positive S L z R t a));
          off = rw (marked p) (by (on (walk S.heads S.next).seen p)
              (λ e. let g = C.found p e in absurd (omega (arith, R.mends.stands.led g.0 p g.1 g.2, W.free)))
              (λ e. rw e));
          mine = rw e (eq-eqb t t refl);
          over = rw (get_or-set_same S.next p q 0 (omega (arith, W.within, z.xmin, z.next))) (eq-eqb q q refl);
        })

    -- there is one write more
    one_more : length all_writes ≡ suc x.write_count
    one_more = omega (arith, length-append (writes_of x) (added ∷ []), length-take-le x.write_count x.writes (omega (arith, y.writes)))

    -- the writes are one more, each fit and apart from the others
    write_fits : fit T (with_writes all_writes x) ≡ true
    write_fits =
        let P = fit_parts S x k in
        let K = counts_parts x P.counts in
        let few : length all_writes ≤ write_limit = omega (arith, one_more) in
        let e = take_pad write_limit no_write all_writes few in
        parts_fit T (with_writes all_writes x) (record {
          counts = parts_counts (with_writes all_writes x) (record {
            writes = le-leb (length all_writes) write_limit few;
            reads = K.reads;
            index_reads = K.index_reads;
            snapshot = K.snapshot;
            savepoints = K.savepoints;
            no_writes = drop_pad no_write blank_write refl write_limit all_writes;
            no_reads = K.no_reads;
            no_index_reads = K.no_index_reads;
            no_txids = K.no_txids;
            no_savepoints = K.no_savepoints;
          });
          reads = P.reads;
          writes = rw e (all_more (fits_in x T) (writes_of x) added (all_then (fits_in x S) (fits_in x T) old_fits (writes_of x) P.writes) new_fits);
          apart = rw e (apart_more (writes_of x) added P.apart (all_both (apart_from added) (sharing added) (writes_of x)
              (all_then (fits_in x S) (apart_from added) (λ w h. rw (ne_eqb p w.new.0 (λ q. used_other w h (sym q)))) (writes_of x) P.writes)
              (base_shared q p based)));
          stripes = P.stripes;
          savepoints = P.savepoints;
          within =
              all_then (λ n. leb n x.write_count) (λ n. leb n (length all_writes))
              (λ n h. le-leb n (length all_writes) (omega (arith, one_more, leb-true n x.write_count h))) (savepoints_of x) P.within;
          snapshot = P.snapshot;
          present = P.present;
        })

-- an accepted write
module _ (S : Store) (x : Tx) (r : ℕ) (v : Value) (z : Sized S) (h : number_of (write S x r v).refusal ≡ 0) where
  -- the store, with the slot taken
  pub write_took : (write S x r v).store ≡ took (lowest_free S.xmin) x.txid.0 (base_of S x r) v S
  write_took = rw (write_accepted S x r v h) (took_is (lowest_free S.xmin) x.txid.0 (base_of S x r) v S)

  -- an accepted write takes the lowest free slot over the row's base, and records that as the transaction's last write; nothing else changes
  pub write_writes : SizedTx x → (L : ℕ → List ℕ) → Rests S L → Writes S x r v (L r) (write S x r v)
  write_writes y L R =
      let P = write_passed S x r v h in
      let e = write_accepted S x r v h in
      let p = lowest_free S.xmin in
      let F = R.mends.slots.free p (lowest S.xmin P.free).free in
      let B : Blank S p = record {
        xmin = (lowest S.xmin P.free).free;
        xmax = F.unmarked;
        next = F.unlinked;
        key = R.mends.slots.absent p F.empty;
        has = F.empty;
        locked = F.unlocked;
        owner = F.unowned;
      } in
      let T = slot_taken S p x.txid.0 (base_of S x r) v B in
      rw e (record {
        slot = lowest S.xmin P.free;
        base = base_of S x r;
        based = based S x L z R P.first.fits r P.row;
        tx = one_write_more x r (base_of S x r) p (omega (arith, y.writes, P.room)) P.room;
        store = T;
        unmarked = rw (T.else Xmax (differ Xmax Xmin refl) (differ Xmax Next refl) (differ Xmax Values refl)) F.unmarked;
        unlocked = rw (T.else RowLocks (differ RowLocks Xmin refl) (differ RowLocks Next refl) (differ RowLocks Values refl)).0 F.unlocked;
        unowned = rw (T.else RowLocks (differ RowLocks Xmin refl) (differ RowLocks Next refl) (differ RowLocks Values refl)).1 F.unowned;
      })

  -- the store rests with the same chains
  pub write_chains : SizedTx x → (L : ℕ → List ℕ) → Rests S L → Rests (write S x r v).store L
  write_chains y L R =
      let P = write_passed S x r v h in
      let p = lowest_free S.xmin in
      rw (write_accepted S x r v h, took_is p x.txid.0 (base_of S x r) v S)
      (TRests S x L z R P.first.fits r P.row y p v (lowest S.xmin P.free) P.first.active P.room P.minute)

  -- and the transaction can go on
  pub write_keeps : SizedTx x → Keeps (write S x r v).store (write S x r v).tx
  write_keeps y =
      let P = write_passed S x r v h in
      let l = P.first in
      let R = rests S z l.rests in
      let p = lowest_free S.xmin in
      let W = lowest S.xmin P.free in
      let Z = TSized S x R.0 z R.1 l.fits r P.row y p v W l.active P.room P.minute in
      rw (write_accepted S x r v h, took_is p x.txid.0 (base_of S x r) v S) (record {
        sized = Z;
        shaped = record {
          snapshot = y.snapshot;
          writes = pad_length write_limit no_write (writes_of x ++ write_of r (base_of S x r) p ∷ []);
          reads = y.reads;
          index_reads = y.index_reads;
          savepoints = y.savepoints;
        };
        rests =
            rested (took p x.txid.0 (base_of S x r) v S) R.0 Z
            (TRests S x R.0 z R.1 l.fits r P.row y p v W l.active P.room P.minute);
        fits = write_fits S x R.0 z R.1 l.fits r P.row y p v W l.active P.room P.minute;
        active = l.active;
      })

-- "A write of a larger key is refused with 31, after 25": refused so exactly then
pub write_impossible : (S : Store) (x : Tx) → Admitted S x → S.poisoned ≡ false → (r : ℕ) → r < rows → x.write_count < write_limit → (v : Value)
    → (number_of (write S x r v).refusal ≡ 31) ↔ (last_minute < stored_key v)
write_impossible S x P healthy r lt room v =
    let t = (write_told S x r v).2.2.2.2.2.2.0 in (
      λ h. ltb-true last_minute (stored_key v) (t.0 h).1,
      λ over. t.1 (
        (rw P.rests, (rw P.fits, (rw P.active, (healthy, (lt-leb rows r lt, (lt-leb write_limit x.write_count room, tt)))))),
        lt-ltb last_minute (stored_key v) over,
      ),
    )
