-- The four tests of commit, entry by entry, on a store whose fields are lent: what a test answers from the place where it stands.
use Rattle.std.specs.Prelude.{◌≡◌, Bool, true, false, not, cond, ◌&&◌, ◌||◌, List, [], ◌∷◌, map, ℕ, suc, ◌+◌}
use Rattle.std.specs.Prelude.{get_or, length, position, eqb, leb, ltb, Option, Some, None, is_some, Result, Ok, Err, is_err}
use Rattle.std.proofs.Math.Nat.{add-zero, add-suc, suc-add}
use Rattle.std.proofs.Common.{zero-add}
use Rattle.std.proofs.Math.Numerals.{add-one}
use Rattle.std.specs.List.{position_or_len}
use Rattle.std.proofs.Common.{refl, sym, ap, ◌∙◌, arith}
use Rattle.std.proofs.lemmas.Bool.{true≢false, lt-ltb}
use Rattle.basic_laws.specs.Cases.{by}
use Rattle.basic_laws.specs.FirstTrue.{yes, yes_map, yes_finals}
use Rattle.rules.specs.Lists.{any, memb, first_true}
use Rattle.rules.specs.Types.{Store, Tx, ReadRecord}
use Rattle.rules.specs.Transaction.{writes_of, index_reads_of, snapshot_of}
use Rattle.rules.specs.Tests.{stamp_differs, read_conflict, base_moved, finals_that}
use Rattle.rules.specs.Tests.{index_read_conflict, write_base_conflict, index_read_place, write_base_place}
use Rattle.fields.specs.Lent.{at_rows, at_places, flags_at_places, at_active, at_stripes}

-- `Err` of the place of the first entry that conflicts, or of their number `Ok`, if none does
abbrev pub tested : Bool → ℕ → Result ℕ ℕ
tested true p = Err p
tested false p = Ok p

-- either way, the number that is told
abbrev pub place_told : Result ℕ ℕ → ℕ
place_told (Ok n) = n
place_told (Err i) = i

abbrev some_or : ℕ → Option ℕ → ℕ
some_or d None = d
some_or d (Some i) = i

-- what the answer says of the test
pub tested_yes : (b : Bool) (p : ℕ) {t : Result ℕ ℕ} → t ≡ tested b p → is_err t ≡ b
tested_yes true p e = ap is_err e
tested_yes false p e = ap is_err e

pub tested_place : (b : Bool) (p : ℕ) {t : Result ℕ ℕ} → t ≡ tested b p → place_told t ≡ p
tested_place true p e = ap place_told e
tested_place false p e = ap place_told e

-- the same with an entry more in front, which doesn't conflict
abbrev pub one_more : Result ℕ ℕ → Result ℕ ℕ
one_more (Ok n) = Ok (suc n)
one_more (Err i) = Err (suc i)

pub later_place : (b : Bool) (p : ℕ) → one_more (tested b p) ≡ tested b (suc p)
later_place true p = refl
later_place false p = refl

-- the library's words for the first place
first_is : {A : Type 0} (f : A → Bool) (l : List A) → position_or_len f l ≡ first_true (map f l)
first_is f [] = refl
first_is {A} f (a ∷ l) = by (f a) (λ e. rw e) (λ e. rw e (let later = first_is f l in omega arith))

one_is : {A : Type 0} (f : A → Bool) (l : List A) → ltb (position_or_len f l) (length l) ≡ any f l
one_is f [] = refl
one_is {A} f (a ∷ l) = by (f a) (λ e. rw (e, lt-ltb 0 (suc (length l)) (omega arith))) (λ e. rw e (shift (position_or_len f l) (length l) ∙ one_is f l))
  where
    shift : (n m : ℕ) → ltb (1 + n) (suc m) ≡ ltb n m
    shift n m = grind arith

-- if none does, that place is the number of all
all_passed : {A : Type 0} (f : A → Bool) (l : List A) → any f l ≡ false → first_true (map f l) ≡ length l
all_passed f [] e = refl
all_passed f (a ∷ l) e = by (f a) (λ k. absurd (true≢false (rw k at e))) (λ k. rw k (ap suc (all_passed f l (rw k at e))))

-- so an answer of the library's place, or of that number, answers the test
module _ {A : Type 0} (f : A → Bool) (l : List A) where
  found : {r : Option ℕ} → r ≡ position f l → r ≡ cond (any f l) (Some (first_true (map f l))) None
  found e = rw (first_is f l) at (rw (one_is f l) at e)

  pub first_place : {i v : ℕ} → Some i ≡ position f l → v ≡ i → Err v ≡ tested (any f l) (first_true (map f l))
  first_place {i} {v} e is = go (any f l) (first_true (map f l)) (found e)
    where
      go : (b : Bool) (p : ℕ) → Some i ≡ cond b (Some p) None → Err v ≡ tested b p
      go true p e = ap Err (is ∙ ap (some_or 0) e)
      go false p e = absurd (true≢false (ap is_some e))

  pub no_place : {n : ℕ} → None ≡ position f l → n ≡ length l → Ok n ≡ tested (any f l) (first_true (map f l))
  no_place {n} e is = go (any f l) (first_true (map f l)) (found e) (all_passed f l)
    where
      go : (b : Bool) (p : ℕ) → None ≡ cond b (Some p) None → (b ≡ false → p ≡ length l) → Ok n ≡ tested b p
      go true p e k = absurd (true≢false (sym (ap is_some e)))
      go false p e k = ap Ok (is ∙ sym (k refl))

-- what a test answers that has come to place i, of the entries from there on
unfoldable pub answer_from : ℕ → List Bool → Result ℕ ℕ
answer_from i bs = tested (yes bs) (i + first_true bs)

-- the entry at i conflicts, or the later ones decide, or there is none
module _ (i : ℕ) (l : List Bool) {b : Bool} {bs : List Bool} (next : l ≡ b ∷ bs) where
  pub answer_here : b ≡ true → answer_from i l ≡ tested true i
  unfolding answer_from
  answer_here e = rw (next, e, add-zero i)

  pub answer_next : b ≡ false → answer_from i l ≡ answer_from (i + 1) bs
  unfolding answer_from
  answer_next e = rw (next, e, add-suc i (first_true bs), add-one i, suc-add i (first_true bs))

pub answer_none : (i : ℕ) (l : List Bool) → l ≡ [] → answer_from i l ≡ tested false i
unfolding answer_from
answer_none i l e = rw (e, add-zero i)

-- from the first place on: of 12 and 13, of 11, of 14
pub answer_all {ℓ} : {A : Type ℓ} (f : A → Bool) (l : List A) → answer_from 0 (map f l) ≡ tested (any f l) (first_true (map f l))
unfolding answer_from
answer_all f l = rw (yes_map f l, zero-add (first_true (map f l)))

pub index_reads_all : (S : Store) (x : Tx)
    → answer_from 0 (x.index_conflict ∷ map (stamp_differs S) (index_reads_of x)) ≡ tested (index_read_conflict S x) (index_read_place S x)
unfolding answer_from index_read_conflict index_read_place
index_reads_all S x = rw (yes_map (stamp_differs S) (index_reads_of x), zero-add)

pub write_bases_all : (S : Store) (x : Tx) → answer_from 0 (finals_that (base_moved S) (writes_of x)) ≡ tested (write_base_conflict S x) (write_base_place S x)
unfolding answer_from write_base_conflict write_base_place
write_bases_all S x = rw (yes_finals (base_moved S) (writes_of x), zero-add)

-- 13 of one read, of an absent row or of a version, from the parts of the transaction that the test looks at
unfoldable pub read_conflict_of : List ℕ → List ℕ → List ℕ → List ℕ → ℕ → ℕ → ReadRecord → Bool
read_conflict_of heads xmin xmax snapshot me end e =
    let b = get_or xmax e.ptr.0 0 in
    cond (eqb e.ptr.0 0) (not (eqb (get_or heads e.row.0 0) 0))
    (not (eqb (get_or xmin e.ptr.0 0) e.xmin.0) || (not (eqb b 0 || eqb b me) && (leb end b || memb b snapshot)))

pub read_conflict_of_law : (S : Store) (x : Tx) (e : ReadRecord) {heads xmin xmax : List ℕ} → S.heads ≡ heads → S.xmin ≡ xmin → S.xmax ≡ xmax
    → read_conflict_of heads xmin xmax (snapshot_of x) x.txid.0 x.snapshot_xmax.0 e ≡ read_conflict S x e
unfolding read_conflict read_conflict_of
read_conflict_of_law S x e h m n = rw (h, m, n)

-- S lends the fields that the tests read
pub record Lends (S : Store) (s h : List ℕ) (l : List Bool) (o a m n : List ℕ) : Type 0 where
  pub stamps : S.stamps ≡ at_stripes s
  pub heads : S.heads ≡ at_rows h
  pub locked : S.locked ≡ flags_at_places l
  pub owner : S.owner ≡ at_places o
  pub active : S.active ≡ at_active a
  pub xmin : S.xmin ≡ at_places m
  pub xmax : S.xmax ≡ at_places n
