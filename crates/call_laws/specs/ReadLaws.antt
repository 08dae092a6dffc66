-- Read: whose value it gives, what it records, and that it changes nothing else. The words are in crate `statements`, ReadWords.
use Rattle.std.specs.Prelude.{◌≡◌, refl, Bool, true, false, not, ◌&&◌, ◌||◌, List, [], ◌∷◌, ◌++◌, ◌↔◌, ℕ, ◌<◌, length, get_or, eqb, ltb}
use Rattle.std.proofs.Math.Path.{sym}
use Rattle.std.proofs.Common.{ap, ◌∙◌, arith, eqb-true, eq-eqb, ne_eqb, ltb-true, lt-ltb}
use Rattle.std.proofs.Math.Bool.{and-true as and_yes}
use Rattle.std.proofs.lemmas.Bool.{eqb-false, lt-leb}
use Rattle.records.specs.Limits.{rows, places, read_limit}
use Rattle.records.specs.Zero.{no_write, no_read}
use Rattle.rules.specs.Lists.{all, any, memb, nonzero, first_of}
use Rattle.rules.specs.Types.{Store, Tx, Write, ReadRecord, Value, Absent}
use Rattle.rules.specs.Store.{value_at}
use Rattle.rules.specs.Transaction.{writes_of, reads_of, sees, last_own}
use Rattle.rules.specs.Chains.{chain_from, walk}
use Rattle.rules.specs.Fit.{fit, write_fit}
use Rattle.rules.specs.Numbers.{number_of}
use Rattle.rules.specs.Calls.{visible_version, read_ptr, same_read, record_read, read}
use Rattle.basic_laws.specs.Cases.{by, clash, and_true, and_both, or_true, or_false, mem_here, mem_there}
use Rattle.basic_laws.specs.Chain.{chain_below}
use Rattle.basic_laws.specs.Chained.{chained_from}
use Rattle.statements.specs.Sized.{Sized}
use Rattle.statements.specs.ReadWords.{VisibleAt, FirstIn, NoneIn, its_writes, LastOf, of_row, of_ptr, read_of, Reads, ReadTooMany}
use Rattle.statements.specs.ReadWords.{of_absent, Reading, own, found, known, absent, known_absent, ApartReads, RecordedOnce}
use Rattle.basic_laws.specs.TestParts.{fit_parts, write_parts}
use Rattle.basic_laws.specs.Members.{pairs}
use Rattle.basic_laws.specs.EachTwo.{each_pair}
use Rattle.basic_laws.specs.Blanks.{all_more}
use Rattle.basic_laws.specs.AllOf.{all_then, none_all}
use Rattle.run_laws.specs.FourTests.{either, both, differ}
use Rattle.admitted_laws.specs.FitSchedule.{same_number}
use Rattle.sentences.specs.ReadsSay.{sees_says, none_meant, meant_none, first_says, first_one, value_says, value_one, reads_alone}
use Rattle.admitted_laws.specs.Repairable.{marks}
use Rattle.admitted_laws.specs.Resting.{Rests}
use Rattle.sentences.specs.Refusals.{read_told, read_accepted}
use Rattle.call_laws.specs.Passed.{Admitted, read_passed}

-- the creator of slot p is visible, as the definition tests it
abbrev pub visible_at : Store → Tx → ℕ → Bool
visible_at S x p = sees x (get_or S.xmin p 0)

-- and as it is meant
pub at_says : (S : Store) (x : Tx) (p : ℕ) → (visible_at S x p ≡ true) ↔ VisibleAt S x p
at_says S x p = sees_says x (get_or S.xmin p 0)

-- so the definition finds the first version with a visible creator
pub first_of_law : (S : Store) (x : Tx) (l : List ℕ) → any (visible_at S x) l ≡ true → FirstIn (VisibleAt S x) l (first_of (visible_at S x) l)
first_of_law S x l h = first_says (visible_at S x) (VisibleAt S x) (at_says S x) l h

pub none_of : (S : Store) (x : Tx) (l : List ℕ) → any (visible_at S x) l ≡ false → NoneIn (VisibleAt S x) l
none_of S x l h = none_meant (visible_at S x) (VisibleAt S x) (at_says S x) l h

-- a member in the middle
pub mem_mid : (p : ℕ) (before after : List ℕ) → memb p (before ++ p ∷ after) ≡ true
mem_mid p [] after = mem_here p after
mem_mid p (x ∷ before) after = mem_there p x (before ++ p ∷ after) (mem_mid p before after)

-- where no number passes there is none
pub first_none : (f : ℕ → Bool) (l : List ℕ) → any f l ≡ false → first_of f l ≡ 0
first_none f [] h = refl
first_none f (x ∷ l) h = let o = or_false (f x) (any f l) h in rw (o.0, first_none f l o.1)

-- (a number that is not 0, by another test)
nonzero_ne : (n : ℕ) → nonzero n ≡ true → eqb n 0 ≡ false
nonzero_ne n h = ne_eqb n 0 (λ e. omega (arith, e, ltb-true 0 n h))

-- and the last own write; new pointers are not 0
abbrev pub taken : Write → Bool
taken w = nonzero w.new.0

-- there is none
pub last_none : (r : ℕ) (ws : List Write) → any (of_row r) ws ≡ false → last_own r ws ≡ no_write
last_none r [] h = refl
last_none r (w ∷ ws) h = let o = or_false (of_row r w) (any (of_row r) ws) h in rw (last_none r ws o.1, o.0)

-- or the last one
pub last_of : (r : ℕ) (ws : List Write) → all taken ws ≡ true → any (of_row r) ws ≡ true → LastOf r ws (last_own r ws) × (taken (last_own r ws) ≡ true)
last_of r [] h k = clash {b = false} k refl
last_of r (w ∷ ws) h k =
    let a = and_true (taken w) (all taken ws) h in
    by (any (of_row r) ws)
    (λ e. let i = last_of r ws a.1 e in
    rw (nonzero_ne (last_own r ws).new.0 i.1)
    (record { before = w ∷ i.0.before; after = i.0.after; split = ap (λ (m : List Write). w ∷ m) i.0.split; row = i.0.row; none = i.0.none }, i.1))
    (λ e. or_true (of_row r w) (any (of_row r) ws) k
    (λ o. rw (last_none r ws e, o) (record { before = []; after = ws; split = refl; row = eqb-true w.row.0 r o; none = e }, a.0))
    (λ o. clash o e))

-- there is one last
last_is : (r : ℕ) (before : List Write) (w : Write) (after : List Write) → all taken (before ++ w ∷ after) ≡ true → w.row.0 ≡ r → any (of_row r) after ≡ false
    → (last_own r (before ++ w ∷ after) ≡ w) × (taken w ≡ true)
last_is r [] w after h e n = (rw (last_none r after n, eq-eqb w.row.0 r e), (and_true (taken w) (all taken after) h).0)
last_is r (v ∷ before) w after h e n =
    let i = last_is r before w after (and_true (taken v) (all taken (before ++ w ∷ after)) h).1 e n in
    (rw (i.0, nonzero_ne w.new.0 i.1), i.1)

-- a version is known by its pointer
pub same_version : (r p : ℕ) → eqb p 0 ≡ false → same_read r p ≡ of_ptr p
same_version r p n = λ i e. (not (n i) || eqb e.row.0 r) && eqb e.ptr.0 p

module _ (S : Store) (x : Tx) (L : ℕ → List ℕ) (z : Sized S) (R : Rests S L) (f : fit S x ≡ true) where
  -- the writes of a fit transaction have their slots
  pub writes_taken : all taken (writes_of x) ≡ true
  writes_taken = all_then (write_fit S.xmin S.next (walk S.heads S.next).seen x.txid.0) taken
      (λ w h. let n = w.new.0 in
      by (eqb n 0)
      (λ e. clash (rw (eqb-true n 0 e) at (write_parts S.xmin S.next (walk S.heads S.next).seen x.txid.0 w h).taken)
      (rw R.mends.slots.first))
      (λ e. lt-ltb 0 n (omega (arith, eqb-false n 0 e))))
      (writes_of x) (fit_parts S x f).writes

  -- place 0 has no value
  pub no_value : value_at S.key S.has 0 ≡ Absent
  no_value = rw (R.mends.slots.free 0 R.mends.slots.first).empty

  -- the chain that the definition walks is the row's
  row_chain : (r : ℕ) → r < rows → chain_from places S.next (get_or S.heads r 0) ≡ L r
  row_chain r lt = chained_from S.heads S.next (walk S.heads S.next).seen L (marks S L z R.mends) r (omega (arith, z.heads))

  -- "the last own write of the row": its slot is read, which is not 0
  pub own_read : (r : ℕ) (w : Write) → LastOf r (its_writes x) w → (read_ptr S x r ≡ w.new.0) × (last_own r (writes_of x) ≡ w) × (eqb w.new.0 0 ≡ false)
  unfolding read_ptr
  own_read r w o =
      let i = last_is r o.before w o.after (rw o.split at writes_taken) o.row o.none in
      let e : last_own r (writes_of x) ≡ w = rw o.split i.0 in
      let n = nonzero_ne w.new.0 i.1 in
      (rw (e, n), e, n)

  -- "else the first chain version with a visible creator"
  pub first_read : (r p : ℕ) → r < rows → any (of_row r) (its_writes x) ≡ false → FirstIn (VisibleAt S x) (L r) p → read_ptr S x r ≡ p
  unfolding read_ptr visible_version
  first_read r p lt e F = rw (
    last_none r (writes_of x) e,
    row_chain r lt,
    F.split,
    first_one (visible_at S x) (VisibleAt S x) (at_says S x) F.before p F.after F.none F.passes,
  )

  -- else none
  pub none_read : (r : ℕ) → r < rows → any (of_row r) (its_writes x) ≡ false → NoneIn (VisibleAt S x) (L r) → read_ptr S x r ≡ 0
  unfolding read_ptr visible_version
  none_read r lt e n = rw (
    last_none r (writes_of x) e,
    row_chain r lt,
    first_none (visible_at S x) (L r) (meant_none (visible_at S x) (VisibleAt S x) (at_says S x) (L r) n),
  )

  -- a version found on a chain is no null pointer
  found_some : (r p : ℕ) → r < rows → FirstIn (VisibleAt S x) (L r) p → eqb p 0 ≡ false
  found_some r p lt F =
      let in_rows : r < length S.heads = omega (arith, z.heads) in
      let b = chain_below S.next (get_or S.heads r 0) (L r) p (R.mends.stands.chains.chain r in_rows)
      (rw F.split (mem_mid p F.before F.after)) in
      ne_eqb p 0 (λ e. omega (arith, e, b.0))

  -- what read gives and records is that
  pub reading : (r : ℕ) (l : List ReadRecord) → r < rows → Reading S x r (L r) l (value_at S.key S.has (read_ptr S x r)) (record_read S x r l)
  unfolding record_read
  reading r l lt =
      let v = visible_at S x in
      by (any (of_row r) (writes_of x))
      (λ e. let w = last_own r (writes_of x) in
      let o = (last_of r (writes_of x) writes_taken e).0 in
      let i = own_read r w o in
      rw (i.0, i.2) (own w o (value_says S w.new.0)))
      (λ e. by (any v (L r))
      (λ s. let F = first_of_law S x (L r) s in
      let p = first_of v (L r) in
      by (any (of_ptr p) l)
      (λ k. rw (first_read r p lt e F, last_none r (writes_of x) e, same_version r p (found_some r p lt F), k) (known p e F k (value_says S p)))
      (λ k. rw (first_read r p lt e F, last_none r (writes_of x) e, same_version r p (found_some r p lt F), k) (found p e F k (value_says S p))))
      (λ s. let n = none_of S x (L r) s in
      by (any (of_absent r) l)
      (λ k. rw (none_read r lt e n, last_none r (writes_of x) e, k) (known_absent e n k no_value))
      (λ k. rw (none_read r lt e n, last_none r (writes_of x) e, k, R.mends.slots.first) (absent e n k no_value))))

  -- and nothing else is: a reading has one value and one list of reads
  pub reading_one : (r : ℕ) (l m : List ReadRecord) (v : Value) → r < rows → Reading S x r (L r) l v m
      → (v ≡ value_at S.key S.has (read_ptr S x r)) × (m ≡ record_read S x r l)
  unfolding record_read
  reading_one r l m v lt (own w o h) =
      let i = own_read r w o in
      (rw i.0 (value_one S w.new.0 v h), rw (i.0, i.1, i.2))
  reading_one r l m v lt (found p e F k h) =
      let q = first_read r p lt e F in
      (rw q (value_one S p v h), rw (q, last_none r (writes_of x) e, same_version r p (found_some r p lt F), k))
  reading_one r l m v lt (known p e F k h) =
      let q = first_read r p lt e F in
      (rw q (value_one S p v h), rw (q, last_none r (writes_of x) e, same_version r p (found_some r p lt F), k))
  reading_one r l m v lt (absent e n k h) =
      let q = none_read r lt e n in
      (rw q (h ∙ sym no_value), rw (q, last_none r (writes_of x) e, k, R.mends.slots.first))
  reading_one r l m v lt (known_absent e n k h) =
      let q = none_read r lt e n in
      (rw q (h ∙ sym no_value), rw (q, last_none r (writes_of x) e, k))

-- an accepted read gives that value and those reads, and changes nothing else
pub read_gives : (S : Store) (x : Tx) (L : ℕ → List ℕ) → Sized S → Rests S L → (r : ℕ) → number_of (read S x r).refusal ≡ 0
    → Reads S x r (L r) (read S x r)
read_gives S x L z R r h =
    let P = read_passed S x r h in
    let l = record_read S x r (reads_of x) in
    let o = reads_alone x l P.room in
    rw (read_accepted S x r h) (record {
      after = l;
      reading = reading S x L z R P.first.fits r (reads_of x) P.row;
      reads = o.1;
      index_reads = o.2;
      index_read_count = o.3;
      index_conflict = o.4;
      kept = o.0;
    })

-- "24 .. no room for a new read": exactly where what it would record doesn't fit, and else it is accepted
module _ (S : Store) (x : Tx) (L : ℕ → List ℕ) (z : Sized S) (R : Rests S L) (P : Admitted S x) (healthy : S.poisoned ≡ false) (r : ℕ) (lt : r < rows) where
  over : (ltb read_limit (length (record_read S x r (reads_of x))) ≡ true) ↔ ReadTooMany S x r (L r)
  over =
      let m = record_read S x r (reads_of x) in (
        λ h. (value_at S.key S.has (read_ptr S x r), m, reading S x L z R P.fits r (reads_of x) lt, ltb-true read_limit (length m) h),
        λ t. lt-ltb read_limit (length m) (rw (reading_one S x L z R P.fits r (reads_of x) t.1 t.0 lt t.2).1 at t.3),
      )

  pub read_full : (number_of (read S x r).refusal ≡ 24) ↔ ReadTooMany S x r (L r)
  read_full =
      let t = (read_told S x r).2.2.2.2.2.0 in (
        λ h. over.0 (t.0 h).1,
        λ m. t.1 ((rw P.rests, (rw P.fits, (rw P.active, (healthy, (lt-leb rows r lt, tt))))), over.1 m),
      )

  pub read_done : (number_of (read S x r).refusal ≡ 0) ↔ (ReadTooMany S x r (L r) → ⊥)
  read_done =
      let t = (read_told S x r).2.2.2.2.2.2 in (
        λ h m. clash (over.1 m) (t.0 h).1.1.1.1.1.0,
        λ n. t.1 (
          rw P.rests,
          (
            rw P.fits,
            (
              rw P.active,
              (
                healthy,
                (
                  lt-leb rows r lt,
                  (by (ltb read_limit (length (record_read S x r (reads_of x)))) (λ e. absurd (n (over.0 e))) (λ e. e), tt),
                ),
              ),
            ),
          ),
        ),
      )

-- "recorded once per pointer", an absent row "once per row": where no read stood twice, none does
abbrev apart : ReadRecord → ReadRecord → Bool
apart d e = not (eqb d.ptr.0 e.ptr.0) || (eqb e.ptr.0 0 && not (eqb d.row.0 e.row.0))

apart_says : (l : List ReadRecord) → (pairs apart l ≡ true) ↔ RecordedOnce l
apart_says = each_pair no_read apart ApartReads (λ d e. either _ _ (differ _ _) (both _ _ (same_number _ _) (differ _ _)))

-- one read more, apart from those before
apart_more : (l : List ReadRecord) (e : ReadRecord) → all (λ d. apart d e) l ≡ true → pairs apart l ≡ true → pairs apart (l ++ e ∷ []) ≡ true
apart_more [] e h u = refl
apart_more (d ∷ l) e h u =
    let a = and_true (apart d e) (all (λ q. apart q e) l) h in
    let b = and_true (all (apart d) l) (pairs apart l) u in
    and_both (all (apart d) (l ++ e ∷ [])) (pairs apart (l ++ e ∷ [])) (all_more (apart d) l e b.0 a.0) (apart_more l e a.1 b.1)

-- of a new pointer, or of a row that is new as absent
new_pointer : (p : ℕ) (e : ReadRecord) → e.ptr.0 ≡ p → (l : List ReadRecord) → any (of_ptr p) l ≡ false → all (λ d. apart d e) l ≡ true
new_pointer p e is l h = none_all (of_ptr p) (λ d. apart d e) (λ d k. rw (is, k)) l h

new_row : (r : ℕ) (l : List ReadRecord) → any (of_absent r) l ≡ false → all (λ d. apart d (read_of r 0 0)) l ≡ true
new_row r l h = none_all (of_absent r) (λ d. apart d (read_of r 0 0))
    (λ d k. by (eqb d.ptr.0 0) (λ z. rw (z, rw (z, and_yes) at k)) (λ z. rw z)) l h

-- so a reading keeps them apart
pub once : {S : Store} {x : Tx} {r : ℕ} {c : List ℕ} {l m : List ReadRecord} {v : Value} → Reading S x r c l v m → RecordedOnce l → RecordedOnce m
once (own w o h) u = u
once {S} {x} {r} {c} {l} (found p n f k h) u =
    let e = read_of r p (get_or S.xmin p 0) in (apart_says (l ++ e ∷ [])).0 (apart_more l e (new_pointer p e refl l k) ((apart_says l).1 u))
once (known p n f k h) u = u
once {S} {x} {r} {c} {l} (absent n f k h) u =
    let e = read_of r 0 0 in (apart_says (l ++ e ∷ [])).0 (apart_more l e (new_row r l k) ((apart_says l).1 u))
once (known_absent n f k h) u = u
