-- A transaction just begun on an unpoisoned resting store: it reads each row's head, and a lookup finds the rows whose head has the key.
use Rattle.std.specs.Prelude.{◌≡◌, Bool, true, false, cond, ◌&&◌, ◌||◌, ◌↔◌, eqb}
use Rattle.std.proofs.Math.Path.{refl, ap}
use Rattle.std.proofs.Common.{sym, ◌∙◌, inl, inr, arith, length-append}
use Rattle.std.proofs.Math.Bool.{not}
use mathlib.Core.List.{List, [], ◌∷◌, ◌++◌, map}
use Rattle.std.proofs.Math.Logic.{⊎_elim}
use Prim.Native.Nat.{ℕ, zero, suc, ◌+◌, ◌%◌, ◌≤◌, ◌<◌}
use Rattle.std.proofs.Math.ListN.{length, get_or, length-map, get_or-map}
use Rattle.std.proofs.Math.Dec.{ltb}
use borrow.Author.Tests.{eqb-false, ne_eqb, ltb-true, ltb-false, lt-ltb, le-ltb, lt-leb, not-true}
use Rattle.records.specs.Limits.{rows, slots, stripes, active_limit, read_limit, clock_end, last_minute}
use Rattle.rules.specs.Lists.{any, memb, pad, first_of}
use Rattle.rules.specs.Types.{Store, Tx, ReadRecord, RowId, Value, Absent, Key, Seen}
use Rattle.rules.specs.Store.{same_value, carries, active_txids}
use Rattle.rules.specs.Transaction.{writes_of, reads_of, sees, last_own}
use Rattle.rules.specs.Chains.{chain_from}
use Rattle.rules.specs.Admitted.{resting}
use Rattle.rules.specs.Numbers.{number_of}
use Rattle.rules.specs.Puts.{put_enter, put_clock, apply_all}
use Rattle.rules.specs.Calls.{begun, begin, visible_version, read_ptr, same_read, record_read, read, candidates, record_reads, matching, as_row, lookup}
use Rattle.basic_laws.specs.AllOf.{any_append}
use Rattle.basic_laws.specs.Cases.{by, clash, iff, and_true, and_false, or_false, mem_here, mem_there}
use Rattle.basic_laws.specs.Members.{mem_all}
use Rattle.basic_laws.specs.Placed.{rising_at}
use Rattle.basic_laws.specs.Rising.{unique, rising_unique, rising_ext, rising_short}
use Rattle.basic_laws.specs.Rearranged.{or_none}
use Rattle.basic_laws.specs.LaidOut.{before_take, pad_length, take_pad}
use Rattle.records.specs.Zero.{no_read}
use Rattle.basic_laws.specs.Chain.{chain_head}
use Rattle.statements.specs.Sized.{Sized}
use Rattle.statements.specs.Words.{row_value}
use Rattle.statements.specs.ShowWords.{Unseen, Answered, AfterReads, unread, again, Shown}
use Rattle.statements.specs.OtherNumbers.{begin_lines, read_lines, lookup_lines}
use Rattle.posting_laws.specs.RestingPostings.{exact}
use Rattle.posting_laws.specs.HeadsTold.{value_same, carries_key}
use Rattle.posting_laws.specs.LookupFinds.{candidate_rows_law}
use Rattle.admitted_laws.specs.Repairable.{value_minute}
use Rattle.admitted_laws.specs.Resting.{Rests, rests}
use Rattle.recovery_laws.specs.Unfinished.{active_in, active_unfinished}
use Rattle.sentences.specs.FirstLine.{applies_none}
use Rattle.sentences.specs.Refusals.{begin_told, begin_accepted, read_told, read_accepted, lookup_told, lookup_accepted}
use Rattle.call_laws.specs.Keeps.{Keeps}
use Rattle.call_laws.specs.Passed.{Admitted}
use Rattle.call_laws.specs.LookupLaws.{lookup_impossible, minute_passes}
use Rattle.posting_laws.specs.Written.{rows_of}
use Rattle.call_laws.specs.BeginLaws.{begin_keeps}
use Rattle.call_laws.specs.ReadLaws.{same_version}
use Rattle.call_laws.specs.KeepsReads.{read_keeps}
use Rattle.call_laws.specs.CandidateRows.{candidates_rise, candidate_below, matching_rise, matching_is}

-- what is laid out stands at its place
pad_place {ℓ} : {A : Type ℓ} (z : A) (n : ℕ) (l : List A) (i : ℕ) → length l ≤ n → get_or (pad n z l) i z ≡ get_or l i z
pad_place z zero [] i le = refl
pad_place z zero (x ∷ l) i le = absurd (omega arith)
pad_place z (suc n) [] zero le = refl
pad_place z (suc n) [] (suc i) le = pad_place z n [] i (omega arith)
pad_place z (suc n) (x ∷ l) zero le = refl
pad_place z (suc n) (x ∷ l) (suc i) le = pad_place z n l i (omega arith)

-- a head that passes is the first of its chain that does
head_first : (f : ℕ → Bool) (n : ℕ) (next : List ℕ) (h : ℕ) → ((h ≡ 0 → ⊥) → f h ≡ true) → first_of f (chain_from (suc n) next h) ≡ h
unfolding chain_from
head_first f n next zero k = refl
head_first f n next (suc p) k = rw (k (λ e. omega (arith, e)))

-- one read more, and whether a pointer is among them
any_more {ℓ} : {A : Type ℓ} (f : A → Bool) (l : List A) (e : A) → any f l ≡ false → f e ≡ false → any f (l ++ e ∷ []) ≡ false
any_more f l e h k = rw (any_append f l (e ∷ []), h, k)

one_more {ℓ} : {A : Type ℓ} (b : Bool) (l : List A) (e : A) → length (cond b l (l ++ e ∷ [])) ≤ suc (length l)
one_more true l e = omega arith
one_more false l e = omega (arith, length-append l (e ∷ []))

-- the store that begin leaves
abbrev entered : Store → Store
entered T = apply_all (put_enter T.clock ∷ put_clock (suc T.clock) ∷ []) T

-- what a read of slot p records
abbrev entry : Store → ℕ → ℕ → ReadRecord
entry T r p = record { row = record { 0 = r }; ptr = record { 0 = p }; xmin = record { 0 = get_or T.xmin p 0 } }

module _ (T : Store) (z : Sized T) (rest : resting T ≡ true) (sound : T.poisoned ≡ false) (few : length (active_txids T.active) < active_limit)
    (early : T.clock < clock_end) where
  abbrev L : ℕ → List ℕ
  L = (rests T z rest).0

  R : Rests T L
  R = (rests T z rest).1

  -- begin is accepted
  begins : number_of (begin T).refusal ≡ 0
  begins = applies_none (begin T).refusal (begin_lines T) (begin_told T)
      (rw rest, (sound, (lt-leb active_limit (length (active_txids T.active)) few, (lt-leb clock_end T.clock early, tt))))

  keeps : Keeps (entered T) (begun T)
  keeps = rw (begin_accepted T begins) at (begin_keeps T z begins)

  -- it sees its own txid, and those before it that were not active
  sees_is : (t : ℕ) → sees (begun T) t ≡ (eqb t T.clock || (ltb t T.clock && not (memb t (active_txids T.active))))
  unfolding sees begun
  sees_is t = rw (sym (before_take T.active))

  -- so it sees the creator of a row's head
  sees_head : (r : ℕ) → r < rows → (get_or T.heads r 0 ≡ 0 → ⊥) → sees (begun T) (get_or T.xmin (get_or T.heads r 0) 0) ≡ true
  sees_head r lt n =
      let h = get_or T.heads r 0 in
      let t = get_or T.xmin h 0 in
      let acts = active_txids T.active in
      let l : r < length T.heads = omega (arith, z.heads) in
      let m = chain_head T.next h (L r) (R.mends.stands.chains.chain r l) n in
      let some = R.mends.stands.led r h l m in
      let gone : memb t acts ≡ false = by (memb t acts)
      (λ a. absurd (omega (
        arith,
        some,
        R.created r h l m (active_unfinished T.active T.doomed t (λ e. omega (arith, e, some)) (active_in t T.active a)),
        R.undoomed sound,
      )))
      (λ a. a) in
      sees_is t ∙ rw (gone, lt-ltb t T.clock (R.mends.below h)) (go (eqb t T.clock))
    where
      go : (b : Bool) → (b || true) ≡ true
      go true = refl
      go false = refl

  -- no write is its own
  no_own : (r : ℕ) → (last_own r (writes_of (begun T))).new.0 ≡ 0
  unfolding begun
  no_own r = refl

  no_rows : (r : ℕ) → memb r (rows_of (writes_of (begun T))) ≡ false
  unfolding begun
  no_rows r = refl

  none_read : reads_of (begun T) ≡ []
  unfolding begun
  none_read = refl

  -- a row's head is what it reads
  reads_head : (r : ℕ) → r < rows → read_ptr (entered T) (begun T) r ≡ get_or T.heads r 0
  unfolding read_ptr visible_version
  reads_head r lt =
      rw (no_own r) (head_first (λ p. sees (begun T) (get_or T.xmin p 0)) slots T.next (get_or T.heads r 0) (sees_head r lt))

  -- what stays of the new transaction after n reads: it can go on, reads what it would have read, and has at most n reads
  record Reader (n : ℕ) (y : Tx) : Type 0 where
    goes_on : Keeps (entered T) y
    same : (r : ℕ) → read_ptr (entered T) y r ≡ read_ptr (entered T) (begun T) r
    read : length (reads_of y) ≤ n

  -- one read more: it is accepted, gives the row's value, and leaves such a one
  reads_on : (n : ℕ) (y : Tx) → Reader n y → n < read_limit → (r : ℕ) → r < rows
      → (number_of (read (entered T) y r).refusal ≡ 0) × ((read (entered T) y r).value ≡ row_value T r) × Reader (suc n) (read (entered T) y r).tx
  unfolding record_read read_ptr visible_version sees
  reads_on n y K lt r l =
      let m = record_read (entered T) y r (reads_of y) in
      let p = read_ptr (entered T) y r in
      let one : length m ≤ suc (length (reads_of y)) = one_more
      (not (eqb (last_own r (writes_of y)).new.0 0) || any (same_read r p) (reads_of y)) (reads_of y) (entry T r p) in
      let short : length m ≤ read_limit = omega (arith, one, K.read) in
      let G = K.goes_on in
      let h = applies_none (read (entered T) y r).refusal (read_lines (entered T) y r) (read_told (entered T) y r)
      (rw G.rests, (rw G.fits, (rw G.active, (sound, (lt-leb rows r l, (le-ltb read_limit (length m) short, tt)))))) in
      let e = read_accepted (entered T) y r h in (
        h,
        ap (λ (a : Seen). a.value) e ∙ rw (K.same r, reads_head r l),
        record {
          goes_on = read_keeps (entered T) y r G.sized G.shaped h;
          same = λ q. rw e (K.same q);
          read = rw (e, take_pad read_limit no_read m short) (omega (arith, one, K.read));
        },
      )

  -- so after any reads
  reader : (n : ℕ) (y : Tx) → AfterReads (entered T) (begun T) n y → n ≤ read_limit → Reader n y
  reader _ _ unread le = record { goes_on = keeps; same = λ r. refl; read = rw none_read (omega arith) }
  reader _ _ (again {n = n} {y = y} h r l) le = (reads_on n y (reader n y h (omega arith)) (omega arith) r l).2

  -- two rows have no head in common
  heads_apart : (r q : ℕ) → r < rows → q < rows → (get_or T.heads r 0 ≡ 0 → ⊥) → get_or T.heads r 0 ≡ get_or T.heads q 0 → r ≡ q
  heads_apart r q lr lq n e =
      let C = R.mends.stands.chains in
      let a : r < length T.heads = omega (arith, z.heads) in
      let b : q < length T.heads = omega (arith, z.heads) in
      let m = chain_head T.next (get_or T.heads r 0) (L r) (C.chain r a) n in
      let k = chain_head T.next (get_or T.heads q 0) (L q) (C.chain q b) (λ o. n (e ∙ o)) in
      C.apart r q (get_or T.heads r 0) a b m (rw e k)

  -- a row with a head that is not recorded yet is recorded
  records_one : (r : ℕ) (l : List ReadRecord) → r < rows → (get_or T.heads r 0 ≡ 0 → ⊥) → any (λ e. eqb e.ptr.0 (get_or T.heads r 0)) l ≡ false
      → record_read (entered T) (begun T) r l ≡ l ++ entry T r (get_or T.heads r 0) ∷ []
  unfolding record_read
  records_one r l lt n k = rw (reads_head r lt, no_own r, same_version r (get_or T.heads r 0) (ne_eqb (get_or T.heads r 0) 0 n), k)

  -- so a read is recorded for each of several such rows
  records_each : (rs : List ℕ) (l : List ReadRecord) → unique rs ≡ true → ((r : ℕ) → memb r rs ≡ true → r < rows)
      → ((r : ℕ) → memb r rs ≡ true → get_or T.heads r 0 ≡ 0 → ⊥)
      → ((r : ℕ) → memb r rs ≡ true → any (λ e. eqb e.ptr.0 (get_or T.heads r 0)) l ≡ false)
      → length (record_reads (entered T) (begun T) rs l) ≡ length l + length rs
  records_each [] l u b n k = omega arith
  records_each (r ∷ rs) l u b n k =
      let a = and_true (not (memb r rs)) (unique rs) u in
      let h = get_or T.heads r 0 in
      let e = entry T r h in
      let one = records_one r l (b r (mem_here r rs)) (n r (mem_here r rs)) (k r (mem_here r rs)) in
      let more = records_each rs (l ++ e ∷ []) a.1 (λ q m. b q (mem_there q r rs m)) (λ q m. n q (mem_there q r rs m))
      (λ q m. any_more (λ d. eqb d.ptr.0 (get_or T.heads q 0)) l e (k q (mem_there q r rs m)) (ne_eqb h (get_or T.heads q 0)
      (λ same. clash m (rw (sym (heads_apart r q (b r (mem_here r rs)) (b q (mem_there q r rs m)) (n r (mem_here r rs)) same))
      (not-true (memb r rs) a.0))))) in
      rw one (omega (arith, more, length-append l (e ∷ [])))

  module _ (k : ℕ) where
    -- a lookup's candidates are the rows whose head has the key
    candidate_says : (r : ℕ) → (memb r (candidates (entered T) (begun T) k) ≡ true) ↔ ((r < rows) × (row_value T r ≡ Key k))
    candidate_says r =
        let is : r < rows → memb r (candidates (entered T) (begun T) k) ≡ carries T.key T.has (get_or T.heads r 0) k
        = λ lt. candidate_rows_law (entered T) (begun T) k r z.heads (exact (entered T) keeps.rests sound) lt
        ∙ rw (no_rows r) (or_none (carries T.key T.has (get_or T.heads r 0) k)) in
        let meant = carries_key T.key T.has (get_or T.heads r 0) k in (
          λ m. let lt = candidate_below (entered T) (begun T) k keeps.fits r m in (lt, meant.0 (sym (is lt) ∙ m)),
          λ a. is a.0 ∙ meant.1 a.1,
        )

    -- which it keeps all
    keeps_all : matching (entered T) (begun T) k ≡ candidates (entered T) (begun T) k
    keeps_all =
        rising_ext 0 0 (matching (entered T) (begun T) k) (candidates (entered T) (begun T) k) (matching_rise (entered T) (begun T) k)
        (candidates_rise (entered T) (begun T) k) (λ r. iff (memb r (matching (entered T) (begun T) k)) (memb r (candidates (entered T) (begun T) k))
        (λ m. ((matching_is (entered T) (begun T) k r).0 m).0)
        (λ m. let a = (candidate_says r).0 m in (matching_is (entered T) (begun T) k r).1 (m, rw (reads_head r a.0) a.1)))

    -- a row with a value has a head
    some_head : (r : ℕ) → memb r (candidates (entered T) (begun T) k) ≡ true → get_or T.heads r 0 ≡ 0 → ⊥
    some_head r m e =
        let v = ((candidate_says r).0 m).1 in
        absurd_value (sym (rw (e, (R.mends.slots.free 0 R.mends.slots.first).empty) at v))
      where
        absurd_value : Key k ≡ Absent → ⊥
        absurd_value e = clash {b = same_value (Key k) (Key k)} (value_same (Key k)) (ap (λ v. same_value v (Key k)) e)

    -- so each has its read
    as_many : length (record_reads (entered T) (begun T) (candidates (entered T) (begun T) k) (reads_of (begun T)))
        ≡ length (candidates (entered T) (begun T) k)
    as_many = rw none_read (omega (
      arith,
      records_each (candidates (entered T) (begun T) k) [] (rising_unique 0 (candidates (entered T) (begun T) k) (candidates_rise (entered T) (begun T) k))
          (λ r m. ((candidate_says r).0 m).0) some_head (λ r m. refl),
    ))

    -- no row has a key over the last minute
    in_year : 0 < length (candidates (entered T) (begun T) k) → k ≤ last_minute
    in_year some =
        let r = first_of_law (candidates (entered T) (begun T) k) some in
        rw ((candidate_says r.0).0 r.1).1 at (value_minute R.mends.slots (get_or T.heads r.0 0))
      where
        first_of_law : (l : List ℕ) → 0 < length l → (r : ℕ) × (memb r l ≡ true)
        first_of_law [] lt = absurd (omega arith)
        first_of_law (r ∷ l) lt = (r, mem_here r l)

    -- it passes 1, 2, 3 and 9
    admitted : Admitted (entered T) (begun T)
    admitted = record { rests = keeps.rests; fits = keeps.fits; active = keeps.active }

    -- 24 exactly where the rows are too many
    too_many : (number_of (lookup (entered T) (begun T) k).refusal ≡ 24) ↔ (read_limit < length (candidates (entered T) (begun T) k))
    too_many =
        let n = length (record_reads (entered T) (begun T) (candidates (entered T) (begun T) k) (reads_of (begun T))) in
        let t = (lookup_told (entered T) (begun T) k).2.2.2.2.2.0 in (
          λ h. omega (arith, as_many, ltb-true read_limit n (t.0 h).1),
          λ lt. t.1 (minute_passes (entered T) (begun T) admitted sound k (in_year (omega arith)), lt-ltb read_limit n (omega (arith, as_many))),
        )

    -- else it is accepted
    enough : k ≤ last_minute → length (candidates (entered T) (begun T) k) ≤ read_limit → number_of (lookup (entered T) (begun T) k).refusal ≡ 0
    enough minute le =
        let n = length (record_reads (entered T) (begun T) (candidates (entered T) (begun T) k) (reads_of (begun T))) in
        let e = minute_passes (entered T) (begun T) admitted sound k minute in
        applies_none (lookup (entered T) (begun T) k).refusal (lookup_lines (entered T) (begun T) k) (lookup_told (entered T) (begun T) k)
        (e.0, (e.1.0, (e.1.1.0, (e.1.1.1.0, (e.1.1.1.1.0, (le-ltb read_limit n (omega (arith, as_many)), tt))))))

    -- which stamp it can't see
    unseen_says : (t : ℕ) → ((not (eqb t 0) && not (sees (begun T) t)) ≡ true) ↔ Unseen T t
    unseen_says t =
        let acts = active_txids T.active in
        let c = T.clock in (
          λ h. let a = and_true (not (eqb t 0)) (not (sees (begun T) t)) h in
              let o = or_false (eqb t c) (ltb t c && not (memb t acts)) (sym (sees_is t) ∙ not-true (sees (begun T) t) a.1) in (
                eqb-false t 0 (not-true (eqb t 0) a.0),
                by (memb t acts) (λ m. inr m) (λ m. by (ltb t c)
                    (λ l. clash {b = false} (sym (rw (l, m) at o.1)) refl)
                    (λ l. inl (omega (arith, ltb-false t c l, eqb-false t c o.0)))),
              ),
          λ u. let hidden : sees (begun T) t ≡ false = sees_is t ∙ ⊎_elim
              (λ (l : c < t). rw (ne_eqb t c (λ e. omega (arith, e)), le-ltb t c (omega arith)))
              (λ (m : memb t acts ≡ true). let l = R.mends.listed.past t m in
              rw (ne_eqb t c (λ e. omega (arith, e, l)), m) (and_false (ltb t c))) u.1 in
              rw (ne_eqb t 0 u.0, hidden),
        )

    -- the answer, where it is accepted
    answers : k ≤ last_minute → length (candidates (entered T) (begun T) k) ≤ read_limit
        → Answered T k (candidates (entered T) (begun T) k) (lookup (entered T) (begun T) k)
    unfolding begun
    answers minute le =
        let h = enough minute le in
        let l = candidates (entered T) (begun T) k in
        let short = rising_short rows l (candidates_rise (entered T) (begun T) k)
        (mem_all (λ r. ltb r rows) l (λ r m. lt-ltb r rows ((candidate_says r).0 m).0)) in
        let t = get_or T.stamps (k % stripes) 0 in
        let up = unseen_says t in
        rw (lookup_accepted (entered T) (begun T) k h) (record {
          number = h;
          count = ap length keeps_all;
          long = pad_length rows (as_row 0) (map as_row (matching (entered T) (begun T) k));
          places = λ i. ap (λ (q : RowId). q.0) (ap (λ (m : List ℕ). get_or (pad rows (as_row 0) (map as_row m)) i (as_row 0)) keeps_all
              ∙ pad_place (as_row 0) rows (map as_row l) i (omega (arith, short, length-map l as_row)) ∙ get_or-map as_row l i 0);
          down = λ s. by (not (eqb t 0) && not (sees (begun T) t))
              (λ b. let u = up.0 b in ⊎_elim (λ (e : t ≡ 0). absurd (u.0 e))
              (λ (o : (t < T.clock) × (memb t (active_txids T.active) ≡ false)).
              ⊎_elim (λ (lt : T.clock < t). absurd (omega (arith, o.0))) (λ m. clash m o.1) u.1) (s (k % stripes)))
              (λ b. b);
          up = up;
        })

-- what such a store shows: the values of its heads
pub store_shows : (T : Store) → Sized T → resting T ≡ true → T.poisoned ≡ false → length (active_txids T.active) < active_limit → T.clock < clock_end
    → (value : ℕ → Value) → ((r : ℕ) → r < rows → row_value T r ≡ value r) → Shown T value
store_shows T z rest sound few early value same =
    let h = begins T z rest sound few early in
    let e = begin_accepted T h in
    record {
      begins = h;
      reads = rw e (λ n y k m r lt. let a = reads_on T z rest sound few early n y (reader T z rest sound few early n y k (omega arith)) m r lt in
          (a.0, a.1 ∙ same r lt));
      looks = λ k. rw e (
        candidates (entered T) (begun T) k,
        record {
          rising = rising_at 0 (candidates (entered T) (begun T) k) (candidates_rise (entered T) (begun T) k);
          exactly = λ r. let c = candidate_says T z rest sound few early k r in
              (λ m. let a = c.0 m in (a.0, sym (same r a.0) ∙ a.1), λ a. c.1 (a.0, same r a.0 ∙ a.1));
        },
        answers T z rest sound few early k,
        too_many T z rest sound few early k,
        lookup_impossible (entered T) (begun T) (admitted T z rest sound few early k) sound k,
      );
    }
