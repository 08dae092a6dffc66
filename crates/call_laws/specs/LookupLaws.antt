-- Lookup: the rows it finds, what it records, when it raises index_conflict; and that the transaction stays fit. The words are in crate `statements`,
-- ReadWords.
use Rattle.std.specs.Prelude.{◌≡◌, refl, Bool, true, false, not, ◌&&◌, ◌||◌, List, [], ◌∷◌, map, ◌↔◌, ◌⊎◌, ℕ, ◌≤◌, ◌<◌, length, eqb, ltb}
use Rattle.std.proofs.Common.{sym, ap, ◌∙◌, arith, ne_eqb, ltb-true, ltb-false, lt-ltb, le-ltb, le-leb}
use Rattle.std.proofs.Math.Logic.{inl, inr, ⊎_elim}
use Rattle.std.proofs.lemmas.List.{length-map}
use Rattle.std.proofs.lemmas.Bool.{eqb-false, not-true}
use Rattle.records.specs.Limits.{rows, read_limit, index_read_limit, last_minute}
use Rattle.records.specs.Relations.{stripes_read, stripes_some}
use Rattle.records.specs.Zero.{no_index_read}
use Rattle.rules.specs.Lists.{any, memb}
use Rattle.rules.specs.Types.{Store, Tx, ReadRecord, IndexRead, Key}
use Rattle.rules.specs.Store.{posting, value_at, stripe_of, postings_of, active_txids}
use Rattle.rules.specs.Transaction.{writes_of, reads_of, index_reads_of, sees, with_reads}
use Rattle.rules.specs.Admitted.{resting}
use Rattle.rules.specs.Fit.{stripes_apart, fit}
use Rattle.rules.specs.Numbers.{number_of}
use Rattle.rules.specs.Calls.{read_ptr, record_read, candidates, record_reads, record_stamp, matching, lookup}
use Rattle.basic_laws.specs.Cases.{by, clash, iff, and_true, or_true, or_left, or_right, mem_here, mem_there}
use Rattle.basic_laws.specs.Members.{mem_all}
use Rattle.basic_laws.specs.Rising.{rising_ext, rising_short}
use Rattle.statements.specs.Sized.{Sized}
use Rattle.statements.specs.Table.{None}
use Rattle.statements.specs.ReadWords.{Visible, of_row, row_id, Reading, Candidate, Finds, Tried, InTurn, done, next, read_all, AllRead, stamp_of, Looks}
use Rattle.statements.specs.ReadWords.{LookupTooMany}
use Rattle.basic_laws.specs.TestParts.{fit_parts, parts_fit}
use Rattle.basic_laws.specs.LaidOut.{pad_length, take_pad}
use Rattle.sentences.specs.ReadsSay.{not_seen, laid_out, kept_both, reads_alone, index_reads_alone, stamp_says}
use Rattle.admitted_laws.specs.Resting.{Rests}
use Rattle.basic_laws.specs.Blanks.{drop_pad}
use Rattle.sentences.specs.Refusals.{looked, lookup_told, lookup_accepted}
use Rattle.call_laws.specs.Passed.{Admitted, LookupPassed, lookup_passed}
use Rattle.call_laws.specs.ReadLaws.{reading, reading_one}
use Rattle.call_laws.specs.Counts.{SizedTx, blank_index_read, counts_parts, parts_counts}
use Rattle.call_laws.specs.Keeps.{Keeps}
use Rattle.call_laws.specs.CandidateRows.{candidate_is, matching_rise, matching_is, candidate_below, candidates_rise}
use Rattle.call_laws.specs.OneByOne.{one_by_one}
use Rattle.call_laws.specs.StampLaws.{stripes_few, stamps_apart}

module _ (S : Store) (x : Tx) (k : ℕ) where
  -- "rows from postings of the key and own writes"
  pub candidate_says : (r : ℕ) → r < rows → (memb r (candidates S x k) ≡ true) ↔ Candidate S x k r
  unfolding postings_of
  candidate_says r lt =
      let posted = memb (posting k r) (postings_of S) in
      let written = any (of_row r) (writes_of x) in
      let e = candidate_is S x k r lt in (
        λ m. or_true posted written (sym e ∙ m) (λ h. inl h) (λ h. inr h),
        λ o. e ∙ ⊎_elim (λ h. or_left posted written h) (λ h. or_right posted written h) o,
      )

  module _ (L : ℕ → List ℕ) (z : Sized S) (R : Rests S L) (f : fit S x ≡ true) where
    tried : Tried S x k (candidates S x k)
    tried = record { rise = candidates_rise S x k; below = candidate_below S x k f; exactly = candidate_says }

    -- there is one such list
    tried_one : (cs : List ℕ) → Tried S x k cs → cs ≡ candidates S x k
    tried_one cs T =
        let C = tried in
        rising_ext 0 0 cs (candidates S x k) T.rise C.rise (λ r. iff (memb r cs) (memb r (candidates S x k))
        (λ m. (C.exactly r (T.below r m)).1 ((T.exactly r (T.below r m)).0 m))
        (λ m. (T.exactly r (C.below r m)).1 ((C.exactly r (C.below r m)).0 m)))

    -- rows read one after the other leave what lookup records, and nothing else
    in_turn_law : (rs : List ℕ) (l : List ReadRecord) → ((r : ℕ) → memb r rs ≡ true → r < rows) → InTurn S x L rs l (record_reads S x rs l)
    in_turn_law [] l b = done
    in_turn_law (r ∷ rs) l b = next (reading S x L z R f r l (b r (mem_here r rs))) (in_turn_law rs (record_read S x r l) (λ s m. b s (mem_there s r rs m)))

    in_turn_one : (rs : List ℕ) (l m : List ReadRecord) → ((r : ℕ) → memb r rs ≡ true → r < rows) → InTurn S x L rs l m → m ≡ record_reads S x rs l
    in_turn_one _ l _ b done = refl
    in_turn_one _ l n b (next {r = r} {rs = rs} {v = v} {m = m} w t) =
        in_turn_one rs m n (λ s e. b s (mem_there s r rs e)) t
        ∙ ap (λ (q : List ReadRecord). record_reads S x rs q) (reading_one S x L z R f r l m v (b r (mem_here r rs)) w).1

    -- the rows found are exactly those
    finds : Finds S x k L (matching S x k)
    finds = record {
      rise = matching_rise S x k;
      below = λ r m. candidate_below S x k f r ((matching_is S x k r).0 m).0;
      exactly = λ r lt.
          let v = value_at S.key S.has (read_ptr S x r) in
          let w : Reading S x r (L r) (reads_of x) v (record_read S x r (reads_of x)) = reading S x L z R f r (reads_of x) lt in (
            λ m. let a = (matching_is S x k r).0 m in ((candidate_says r lt).0 a.0, (record_read S x r (reads_of x), rw a.1 at w)),
            λ a. (matching_is S x k r).1 ((candidate_says r lt).1 a.0, sym (reading_one S x L z R f r (reads_of x) a.1.0 (Key k) lt a.1.1).0),
          );
    }

-- "raises index_conflict if the present stamp is nonzero and not visible"
raised : (x : Tx) (b : Bool) (t : ℕ) → ((b || (not (eqb t 0) && not (sees x t))) ≡ true) ↔ ((b ≡ true) ⊎ ((t ≡ 0 → ⊥) × (Visible x t → ⊥)))
raised x b t =
    let s = sees x t in (
      λ h. or_true b (not (eqb t 0) && not s) h (λ e. inl e)
          (λ e. let a = and_true (not (eqb t 0)) (not s) e in
          inr (eqb-false t 0 (not-true (eqb t 0) a.0), (not_seen x t).0 (not-true s a.1))),
      λ o. ⊎_elim (λ e. rw e)
          (λ (a : (t ≡ 0 → ⊥) × (Visible x t → ⊥)). or_right b (not (eqb t 0) && not s) (rw (ne_eqb t 0 a.0, (not_seen x t).1 a.1))) o,
    )

-- an accepted lookup
module _ (S : Store) (x : Tx) (k : ℕ) (z : Sized S) (y : SizedTx x) (h : number_of (lookup S x k).refusal ≡ 0) where
  abbrev l : List ReadRecord
  l = record_reads S x (candidates S x k) (reads_of x)

  abbrev e : List IndexRead
  e = record_stamp (stripe_of k) (stamp_of S k) (index_reads_of x)

  -- no line of the table applied
  passed : LookupPassed S x k
  passed = lookup_passed S x k h

  -- its candidates are read one after the other
  reads_them : AllRead S x (candidates S x k) × (read_all S x (candidates S x k) ≡ with_reads l x) × Keeps S (read_all S x (candidates S x k))
  reads_them = one_by_one S z passed.healthy x (candidates S x k) y passed.first (candidate_below S x k passed.first.fits) passed.room

  -- the stripes of the index reads stay distinct, and so they fit
  apart : stripes_apart e ≡ true
  apart = stamps_apart (stripe_of k) (stamp_of S k) (index_reads_of x) (omega (arith, stripes_some)) (fit_parts S x passed.first.fits).stripes

  few : length e ≤ index_read_limit
  few = omega (arith, stripes_few e apart, stripes_read)

  -- the rows found have places
  found_few : length (matching S x k) ≤ rows
  found_few = rising_short rows (matching S x k) (matching_rise S x k) (mem_all (λ r. ltb r rows) (matching S x k)
      (λ r m. lt-ltb r rows (candidate_below S x k passed.first.fits r ((matching_is S x k r).0 m).0)))

  -- it answers as said
  pub lookup_looks : (L : ℕ → List ℕ) → Rests S L → Looks S x k L (lookup S x k)
  lookup_looks L R =
      let f = passed.first.fits in
      let c = x.index_conflict || (not (eqb (stamp_of S k) 0) && not (sees x (stamp_of S k))) in
      let o = reads_alone x l passed.room in
      let i = index_reads_alone (with_reads l x) e c few in
      let m = length-map (matching S x k) row_id in
      rw (lookup_accepted S x k h) (record {
        found = matching S x k;
        finds = finds S x k L z R f;
        array = rw m at (laid_out rows (row_id 0) (map row_id (matching S x k)) (rw m found_few));
        read_rows = candidates S x k;
        tried = tried S x k L z R f;
        after = l;
        in_turn = in_turn_law S x k L z R f (candidates S x k) (reads_of x) (candidate_below S x k f);
        reads = o.1;
        accepted = reads_them.0;
        as_read = rw reads_them.1;
        stamps = e;
        stamping = stamp_says (stripe_of k) (stamp_of S k) (index_reads_of x);
        index_reads = i.1;
        conflict = raised x x.index_conflict (stamp_of S k);
        kept = kept_both o.0 i.0;
      })

  -- and the transaction that it returns can go on
  pub lookup_keeps : Keeps S (lookup S x k).tx
  lookup_keeps =
      let K : Keeps S (with_reads l x) = rw reads_them.1 at reads_them.2 in
      let P = fit_parts S (with_reads l x) K.fits in
      let C = counts_parts (with_reads l x) P.counts in
      rw (lookup_accepted S x k h) (record {
        sized = z;
        shaped = record {
          snapshot = y.snapshot;
          writes = y.writes;
          reads = K.shaped.reads;
          index_reads = pad_length index_read_limit no_index_read e;
          savepoints = y.savepoints;
        };
        rests = passed.first.rests;
        fits = parts_fit S (looked S x k) (record {
          counts = parts_counts (looked S x k) (record {
            writes = C.writes;
            reads = C.reads;
            index_reads = le-leb (length e) index_read_limit few;
            snapshot = C.snapshot;
            savepoints = C.savepoints;
            no_writes = C.no_writes;
            no_reads = C.no_reads;
            no_index_reads = drop_pad no_index_read blank_index_read refl index_read_limit e;
            no_txids = C.no_txids;
            no_savepoints = C.no_savepoints;
          });
          reads = P.reads;
          writes = P.writes;
          apart = P.apart;
          stripes = rw (take_pad index_read_limit no_index_read e few) apart;
          savepoints = P.savepoints;
          within = P.within;
          snapshot = P.snapshot;
          present = P.present;
        });
        active = passed.first.active;
      })

module _ (S : Store) (x : Tx) (P : Admitted S x) (healthy : S.poisoned ≡ false) where
  -- the tests before 31 are passed
  firsts : None (not (resting S) ∷ not (fit S x) ∷ not (memb x.txid.0 (active_txids S.active)) ∷ S.poisoned ∷ [])
  firsts = (rw P.rests, (rw P.fits, (rw P.active, (healthy, tt))))

  -- "Lookup of such a key gets the same number": refused so exactly then
  pub lookup_impossible : (k : ℕ) → (number_of (lookup S x k).refusal ≡ 31) ↔ (last_minute < k)
  lookup_impossible k =
      let t = (lookup_told S x k).2.2.2.2.0 in
      (λ h. ltb-true last_minute k (t.0 h).1, λ lt. t.1 (firsts, lt-ltb last_minute k lt))

  -- a minute passes 31 too
  pub minute_passes : (k : ℕ) → k ≤ last_minute → None (not (resting S) ∷ not (fit S x) ∷ not (memb x.txid.0 (active_txids S.active)) ∷ S.poisoned
      ∷ ltb last_minute k ∷ [])
  minute_passes k le = let f = firsts in (f.0, (f.1.0, (f.1.1.0, (f.1.1.1.0, (le-ltb last_minute k le, tt)))))

-- "24 if they don't all fit": of a minute, exactly where what its candidates would record doesn't fit, and else it is accepted
module _ (S : Store) (x : Tx) (L : ℕ → List ℕ) (z : Sized S) (R : Rests S L) (P : Admitted S x) (healthy : S.poisoned ≡ false) (k : ℕ) where
  over : (ltb read_limit (length (record_reads S x (candidates S x k) (reads_of x))) ≡ true) ↔ LookupTooMany S x k L
  over =
      let cs = candidates S x k in
      let m = record_reads S x cs (reads_of x) in
      let f = P.fits in (
        λ h. (cs, m, tried S x k L z R f, in_turn_law S x k L z R f cs (reads_of x) (candidate_below S x k f), ltb-true read_limit (length m) h),
        λ t. let e = in_turn_one S x k L z R f t.0 (reads_of x) t.1 t.2.below t.3 in
            lt-ltb read_limit (length m) (rw (e, tried_one S x k L z R f t.0 t.2) at t.4),
      )

  pub lookup_full : (number_of (lookup S x k).refusal ≡ 24) ↔ ((k ≤ last_minute) × LookupTooMany S x k L)
  lookup_full =
      let t = (lookup_told S x k).2.2.2.2.2.0 in (
        λ h. let n = t.0 h in (ltb-false last_minute k n.0.1.1.1.1.0, over.0 n.1),
        λ m. t.1 (minute_passes S x P healthy k m.0, over.1 m.1),
      )

  pub lookup_done : (number_of (lookup S x k).refusal ≡ 0) ↔ ((k ≤ last_minute) × (LookupTooMany S x k L → ⊥))
  lookup_done =
      let t = (lookup_told S x k).2.2.2.2.2.2 in
      let f = firsts S x P healthy in (
        λ h. let n = (t.0 h).1.1.1.1 in (ltb-false last_minute k n.0, λ m. clash (over.1 m) n.1.0),
        λ n. t.1 (
          f.0,
          (
            f.1.0,
            (
              f.1.1.0,
              (
                f.1.1.1.0,
                (
                  le-ltb last_minute k n.0,
                  (by (ltb read_limit (length (record_reads S x (candidates S x k) (reads_of x)))) (λ e. absurd (n.1 (over.0 e))) (λ e. e), tt),
                ),
              ),
            ),
          ),
        ),
      )
