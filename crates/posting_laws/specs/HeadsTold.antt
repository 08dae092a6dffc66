-- The postings of the heads: rising, and one for each row whose head has a value.
use Rattle.std.specs.Prelude.{◌≡◌, refl, ◌↔◌, Bool, true, false, ◌&&◌, List, [], ◌∷◌, ℕ, zero, suc, ◌+◌, ◌≤◌, ◌<◌, length, get_or, eqb, ltb}
use Rattle.std.proofs.Common.{sym, ◌∙◌, arith, add-zero, zero-add, add-suc, suc-add, eqb-true, eq-eqb, ne_eqb, lt-ltb, le-ltb, ltb-true}
use Rattle.std.proofs.Math.Dec.{leb-suc-suc}
use Rattle.records.specs.Limits.{rows}
use Rattle.rules.specs.Types.{Value, Absent, Key}
use Rattle.basic_laws.specs.Cases.{by, clash, and_true}
use Rattle.rules.specs.Lists.{memb, rising}
use Rattle.rules.specs.Store.{posting, key_of, row_of, value_at, same_value, carries}
use Rattle.rules.specs.Admitted.{head_postings}
use Rattle.basic_laws.specs.Rearranged.{or_none}
use Rattle.basic_laws.specs.Rising.{mem_into, rising_ext}
use Rattle.posting_laws.specs.Pair.{posting_of, row_small, posting_test}

-- `same_value` is equality
pub same_value_law : (v w : Value) → same_value v w ≡ true → v ≡ w
same_value_law Absent Absent h = refl
same_value_law Absent (Key k) h = clash {b = false} h refl
same_value_law (Key j) Absent h = clash {b = false} h refl
same_value_law (Key j) (Key k) h = rw (eqb-true j k h)

pub value_same : (v : Value) → same_value v v ≡ true
value_same Absent = refl
value_same (Key k) = eq-eqb k k refl

-- a version carries a key where its value is that key
pub carries_key : (key : List ℕ) (has : List Bool) (p k : ℕ) → (carries key has p k ≡ true) ↔ (value_at key has p ≡ Key k)
carries_key key has p k = (same_value_law (value_at key has p) (Key k), λ e. rw e (value_same (Key k)))

-- two rising lists of postings with the same postings at each row are one
pub told_by_rows : (a b : List ℕ) → rising 0 a ≡ true → rising 0 b ≡ true
    → ((k r : ℕ) → r < rows → memb (posting k r) a ≡ memb (posting k r) b) → a ≡ b
told_by_rows a b ra rb h =
    rising_ext 0 0 a b ra rb (λ c. rw (posting_of c) at (h (key_of c) (row_of c) (row_small c)))

module _ (key : List ℕ) (has : List Bool) where
  -- no posting of an earlier row
  earlier : (k q r : ℕ) (hs : List ℕ) → q < r → r + length hs ≤ rows → memb (posting k q) (head_postings key has r hs) ≡ false
  earlier k q r [] lt le = refl
  earlier k q r (h ∷ hs) lt le = by (get_or has h false)
      (λ e. rw (
        e,
        mem_into (posting (get_or key h 0) r) (head_postings key has (suc r) hs) (posting k q),
        ne_eqb (posting k q) (posting (get_or key h 0) r) (omega arith),
      ) (earlier k q (suc r) hs (omega arith) (omega arith)))
      (λ e. rw e (earlier k q (suc r) hs (omega arith) (omega arith)))

  -- the row's own head decides
  from_row : (k r i : ℕ) (hs : List ℕ) → r + length hs ≤ rows → r + i < rows
      → memb (posting k (r + i)) (head_postings key has r hs) ≡ (ltb i (length hs) && carries key has (get_or hs i 0) k)
  from_row k r i [] le lt = rw (le-ltb i 0 (omega arith))
  from_row k r zero (h ∷ hs) le lt =
      let l = head_postings key has (suc r) hs in
      let j = get_or key h 0 in
      let none = earlier k r (suc r) hs (omega arith) (omega arith) in
      rw (add-zero, lt-ltb 0 (suc (length hs)) (omega arith))
      (by (get_or has h false)
      (λ e. rw (e, mem_into (posting j r) l (posting k r), none, posting_test j k r r (omega arith) (omega arith), eq-eqb r r refl) (or_none (eqb j k)))
      (λ e. rw (e, none)))
  from_row k r (suc i) (h ∷ hs) le lt =
      let l = head_postings key has (suc r) hs in
      let j = get_or key h 0 in
      let rest : memb (posting k (suc (r + i))) l ≡ _ = rw suc-add at (from_row k (suc r) i hs (omega arith) (omega arith)) in
      rw (add-suc, leb-suc-suc)
      (by (get_or has h false)
      (λ e. rw (e, mem_into (posting j r) l (posting k (suc (r + i))), ne_eqb (posting k (suc (r + i))) (posting j r) (omega arith)) rest)
      (λ e. rw e rest))

  module _ (heads : List ℕ) (fit : length heads ≤ rows) where
    -- "exactly (key, row) of each head with a value"
    pub head_member : (k r : ℕ) → r < rows
        → memb (posting k r) (head_postings key has 0 heads) ≡ (ltb r (length heads) && carries key has (get_or heads r 0) k)
    head_member k r lt = rw zero-add at (from_row k 0 r heads (omega arith) (omega arith))

    -- .. from the posting to the head, and back
    pub head_has : (k r : ℕ) → r < rows → memb (posting k r) (head_postings key has 0 heads) ≡ true
        → (r < length heads) × (value_at key has (get_or heads r 0) ≡ Key k)
    head_has k r lt m =
        let a = and_true (ltb r (length heads)) (carries key has (get_or heads r 0) k) (sym (head_member k r lt) ∙ m) in
        (ltb-true r (length heads) a.0, (carries_key key has (get_or heads r 0) k).0 a.1)

    -- one posting a row at most
    pub head_once : (j k r : ℕ) → r < rows → memb (posting j r) (head_postings key has 0 heads) ≡ true
        → memb (posting k r) (head_postings key has 0 heads) ≡ true → j ≡ k
    head_once j k r lt m n =
        let a = (head_has j r lt m).1 in
        let b = (head_has k r lt n).1 in
        cc
