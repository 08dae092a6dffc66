-- "Fit transaction", in words: the test says yes exactly where these sentences hold.
use Rattle.std.specs.Prelude.{◌≡◌, refl, Bool, true, false, not, ◌&&◌, ◌||◌, List, [], ◌∷◌, ◌↔◌, ◌≢◌, ◌⊎◌, ℕ, ◌≤◌, ◌<◌, length, get_or, drop, eqb, ltb, leb}
use Rattle.std.proofs.Common.{leb-true, le-leb, ltb-true, lt-ltb}
use Rattle.std.proofs.lemmas.Bool.{not-true}
use Rattle.records.specs.Limits.{rows, slots, stripes, active_limit, write_limit, read_limit, index_read_limit, savepoint_limit}
use Rattle.records.specs.Zero.{no_write, no_read, no_index_read}
use Rattle.rules.specs.Lists.{all, every, memb, is_zero}
use Rattle.rules.specs.Types.{Store, Tx, Write, ReadRecord, IndexRead}
use Rattle.rules.specs.Transaction.{writes_of, reads_of, index_reads_of, savepoints_of}
use Rattle.rules.specs.Chains.{walk, on}
use Rattle.rules.specs.Fit.{counts_fit, read_fit, writes_apart, stripes_apart, fit}
use Rattle.basic_laws.specs.Cases.{clash, by, every_cons, cons_every, every_none}
use Rattle.run_laws.specs.FourTests.{either, both, differ}
use Rattle.basic_laws.specs.Members.{pairs}
use Rattle.statements.specs.Sized.{Sized}
use Rattle.admitted_laws.specs.Repairable.{Mends, Off, marks}
use Rattle.basic_laws.specs.EachTwo.{each_place, each_pair, not_falling}
use Rattle.admitted_laws.specs.FitSchedule.{same_number}

at_most : (m n : ℕ) → (leb m n ≡ true) ↔ (m ≤ n)
at_most m n = (leb-true m n, le-leb m n)

below : (m n : ℕ) → (ltb m n ≡ true) ↔ (m < n)
below m n = (ltb-true m n, lt-ltb m n)

-- a row of tests, one after the other
more : {P Q : Type 0} (b : Bool) (bs : List Bool) → (b ≡ true) ↔ P → (every bs ≡ true) ↔ Q → (every (b ∷ bs) ≡ true) ↔ (P × Q)
more b bs p q = (λ t. let h = every_cons b bs t in (p.0 h.0, q.0 h.1), λ t. cons_every b bs (p.1 t.0) (q.1 t.1))

last : {P : Type 0} (b : Bool) → (b ≡ true) ↔ P → (every (b ∷ []) ≡ true) ↔ P
last b p = (λ t. p.0 (every_cons b [] t).0, λ t. cons_every b [] (p.1 t) every_none)

-- "unused places zero": every place from n on
abbrev pub Blank {ℓ} : {A : Type ℓ} → (A → Type 0) → A → ℕ → List A → Type 0
Blank P z n l = (i : ℕ) → i < length (drop n l) → P (get_or (drop n l) i z)

abbrev pub NoWrite : Write → Type 0
NoWrite w = (w.row.0 ≡ 0) × ((w.base.0 ≡ 0) × (w.new.0 ≡ 0))

abbrev pub NoRead : ReadRecord → Type 0
NoRead r = (r.row.0 ≡ 0) × ((r.ptr.0 ≡ 0) × (r.xmin.0 ≡ 0))

abbrev pub NoIndexRead : IndexRead → Type 0
NoIndexRead r = (r.stripe ≡ 0) × (r.stamp.0 ≡ 0)

-- "counts within limits, unused places zero"
abbrev pub Counts : Tx → Type 0
Counts x =
    (x.write_count ≤ write_limit)
    × ((x.read_count ≤ read_limit)
    × ((x.index_read_count ≤ index_read_limit)
    × ((x.snapshot_count ≤ active_limit)
    × ((x.savepoint_count ≤ savepoint_limit)
    × (Blank NoWrite no_write x.write_count x.writes
    × (Blank NoRead no_read x.read_count x.reads
    × (Blank NoIndexRead no_index_read x.index_read_count x.index_reads
    × (Blank (λ t. t ≡ 0) 0 x.snapshot_count x.snapshot
    × Blank (λ n. n ≡ 0) 0 x.savepoint_count x.savepoints))))))))

counts_say : (x : Tx) → (counts_fit x ≡ true) ↔ Counts x
unfolding counts_fit
counts_say x =
    more _ _ (at_most _ _) (more _ _ (at_most _ _) (more _ _ (at_most _ _) (more _ _ (at_most _ _) (more _ _ (at_most _ _)
    (more _ _
    (each_place no_write _ NoWrite (λ w. both _ _ (same_number _ _) (both _ _ (same_number _ _) (same_number _ _))) (drop x.write_count x.writes))
    (more _ _ (each_place no_read _ NoRead (λ r. both _ _ (same_number _ _) (both _ _ (same_number _ _) (same_number _ _))) (drop x.read_count x.reads))
    (more _ _ (each_place no_index_read _ NoIndexRead (λ r. both _ _ (same_number _ _) (same_number _ _)) (drop x.index_read_count x.index_reads))
    (more _ _ (each_place 0 is_zero (λ t. t ≡ 0) (λ t. same_number t 0) (drop x.snapshot_count x.snapshot))
    (last _ (each_place 0 is_zero (λ n. n ≡ 0) (λ n. same_number n 0) (drop x.savepoint_count x.savepoints)))))))))))

-- "rows below" the limit; "read pointers 1 to" the last slot; document 02's wish 2: or "pointer 0, with xmin 0"
abbrev pub ReadFits : ReadRecord → Type 0
ReadFits r = (r.row.0 < rows) × (((1 ≤ r.ptr.0) × (r.ptr.0 ≤ slots)) ⊎ ((r.ptr.0 ≡ 0) × (r.xmin.0 ≡ 0)))

-- "bases 0 to" the last slot; "each new pointer .. used, off every chain, with xmin the txid, next the base"
abbrev pub WriteFits : Store → (ℕ → List ℕ) → ℕ → Write → Type 0
WriteFits S L t w =
    (w.row.0 < rows)
    × ((w.base.0 ≤ slots)
    × ((w.new.0 ≤ slots)
    × ((0 < get_or S.xmin w.new.0 0)
    × (Off S.heads L w.new.0
    × ((get_or S.xmin w.new.0 0 ≡ t)
    × (get_or S.next w.new.0 0 ≡ w.base.0))))))

-- "each new pointer distinct"; "writes of one row share a base"
abbrev pub WritesApart : Write → Write → Type 0
WritesApart w v = (v.new.0 ≢ w.new.0) × ((v.row.0 ≢ w.row.0) ⊎ (v.base.0 ≡ w.base.0))

abbrev apart : Write → Write → Bool
apart w v = not (eqb v.new.0 w.new.0) && (not (eqb v.row.0 w.row.0) || eqb v.base.0 w.base.0)

writes_pairs : (ws : List Write) → writes_apart ws ≡ pairs apart ws
writes_pairs [] = refl
writes_pairs (w ∷ ws) = rw (writes_pairs ws)

-- "stripes below 16 and distinct"
shuffle : (a b c d : Bool) → (a && (b && (c && d))) ≡ ((a && c) && (b && d))
shuffle false b c d = refl
shuffle true true c d = refl
shuffle true false true d = refl
shuffle true false false d = refl

stripes_pairs : (l : List IndexRead) → stripes_apart l ≡ (all (λ r. ltb r.stripe stripes) l && pairs (λ r q. not (eqb q.stripe r.stripe)) l)
stripes_pairs [] = refl
stripes_pairs (r ∷ l) =
    rw (stripes_pairs l)
    (shuffle (ltb r.stripe stripes) (all (λ q. not (eqb q.stripe r.stripe)) l) (all (λ q. ltb q.stripe stripes) l)
    (pairs (λ p q. not (eqb q.stripe p.stripe)) l))

-- on no chain, by the walk's marks
off_say : (S : Store) (L : ℕ → List ℕ) → Sized S → Mends S L → (p : ℕ) → (not (on (walk S.heads S.next).seen p) ≡ true) ↔ Off S.heads L p
off_say S L z M p =
    let C = marks S L z M in
    let seen = (walk S.heads S.next).seen in (
      (λ t r lt. by (memb p (L r)) (λ m. clash (C.marked r p lt m) (not-true (on seen p) t)) (λ m. m)),
      (λ o. by (on seen p) (λ e. let f = C.found p e in clash f.2 (o f.0 f.1)) (λ e. rw e)),
    )

-- a fit transaction for a store with these chains
abbrev pub FitTx : Store → (ℕ → List ℕ) → Tx → Type 0
FitTx S L x =
    Counts x
    × (((i : ℕ) → i < length (reads_of x) → ReadFits (get_or (reads_of x) i no_read))
    × (((i : ℕ) → i < length (writes_of x) → WriteFits S L x.txid.0 (get_or (writes_of x) i no_write))
    × (((i j : ℕ) → i < j → j < length (writes_of x) → WritesApart (get_or (writes_of x) i no_write) (get_or (writes_of x) j no_write))
    × ((((i : ℕ) → i < length (index_reads_of x) → (get_or (index_reads_of x) i no_index_read).stripe < stripes)
    × ((i j : ℕ) → i < j → j < length (index_reads_of x)
    → (get_or (index_reads_of x) j no_index_read).stripe ≢ (get_or (index_reads_of x) i no_index_read).stripe))
    × ((((i : ℕ) → i < length (savepoints_of x) → 0 ≤ get_or (savepoints_of x) i 0)
    × ((i j : ℕ) → i < j → j < length (savepoints_of x) → get_or (savepoints_of x) i 0 ≤ get_or (savepoints_of x) j 0))
    × (((i : ℕ) → i < length (savepoints_of x) → get_or (savepoints_of x) i 0 ≤ x.write_count)
    × ((x.snapshot_xmin.0 ≤ x.snapshot_xmax.0)
    × (x.snapshot_xmax.0 ≤ S.clock))))))))

pub fit_says : (S : Store) (L : ℕ → List ℕ) → Sized S → Mends S L → (x : Tx) → (fit S x ≡ true) ↔ FitTx S L x
unfolding fit
fit_says S L z M x =
    rw (writes_pairs (writes_of x), stripes_pairs (index_reads_of x))
    (more _ _ (counts_say x)
    (more _ _ (each_place no_read read_fit ReadFits (λ r. more _ _ (below _ _)
    (last _ (either _ _ (both _ _ (at_most _ _) (at_most _ _)) (both _ _ (same_number _ _) (same_number _ _))))) (reads_of x))
    (more _ _ (each_place no_write _ (WriteFits S L x.txid.0) (λ w.
    more _ _ (below _ _)
    (more _ _ (at_most _ _)
    (more _ _ (at_most _ _) (more _ _ (below _ _) (more _ _ (off_say S L z M w.new.0) (more _ _ (same_number _ _) (last _ (same_number _ _))))))))
    (writes_of x))
    (more _ _ (each_pair no_write apart WritesApart (λ w v. both _ _ (differ _ _) (either _ _ (differ _ _) (same_number _ _))) (writes_of x))
    (more _ _ (both _ _ (each_place no_index_read _ (λ r. r.stripe < stripes) (λ r. below _ _) (index_reads_of x))
    (each_pair no_index_read _ (λ r q. q.stripe ≢ r.stripe) (λ r q. differ _ _) (index_reads_of x)))
    (more _ _ (not_falling 0 (savepoints_of x))
    (more _ _ (each_place 0 _ (λ n. n ≤ x.write_count) (λ n. at_most _ _) (savepoints_of x))
    (more _ _ (at_most _ _) (last _ (at_most _ _))))))))))
