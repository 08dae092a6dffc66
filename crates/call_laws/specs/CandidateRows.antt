-- Lookup's candidates and the rows that it finds: told by their members.
use Rattle.std.specs.Prelude.{◌≡◌, refl, true, false, ◌||◌, ◌↔◌, ℕ, ◌<◌}
use Rattle.std.proofs.Common.{sym, ◌∙◌, arith, eqb-true, ltb-true}
use mathlib.Core.List.{List, [], ◌∷◌, ◌++◌, map}
use Rattle.std.proofs.Math.Dec.{eqb}
use Rattle.records.specs.Limits.{rows}
use Rattle.rules.specs.Lists.{all, any, memb, those, rising}
use Rattle.rules.specs.Types.{Store, Tx, Write, Key}
use Rattle.rules.specs.Store.{posting, key_of, row_of, value_at, carries, postings_of}
use Rattle.rules.specs.Transaction.{writes_of}
use Rattle.rules.specs.Chains.{walk}
use Rattle.rules.specs.Fit.{write_fit, fit}
use Rattle.rules.specs.Calls.{read_ptr, candidates, matching}
use Rattle.basic_laws.specs.Cases.{clash, and_true, and_both, or_true}
use Rattle.basic_laws.specs.Members.{mem_those}
use Rattle.basic_laws.specs.TestParts.{write_parts, fit_parts}
use Rattle.posting_laws.specs.HeadsTold.{carries_key}
use Rattle.posting_laws.specs.LookupFinds.{candidate_tells}
use Rattle.posting_laws.specs.Posted.{mem_append}
use Rattle.basic_laws.specs.Rising.{eqb_sym, mem_in_order, rising_in_order, rising_those}
use Rattle.statements.specs.ReadWords.{of_row}

-- rows of writes
mem_rows : (r : ℕ) (ws : List Write) → memb r (map (λ w. w.row.0) ws) ≡ any (of_row r) ws
mem_rows r [] = refl
mem_rows r (w ∷ ws) = rw (mem_rows r ws, eqb_sym r w.row.0)

-- every posting has a row below the limit
rows_below : (r : ℕ) (l : List ℕ) → memb r (map row_of l) ≡ true → r < rows
rows_below r [] m = clash {b = false} m refl
rows_below r (c ∷ l) m = or_true (eqb r (row_of c)) (memb r (map row_of l)) m (λ e. omega (arith, eqb-true r (row_of c) e)) (λ e. rows_below r l e)

-- the rows that a fit transaction writes are below the limit
pub written_below : (S : Store) (x : Tx) → fit S x ≡ true → (r : ℕ) → any (of_row r) (writes_of x) ≡ true → r < rows
written_below S x f r m = go (writes_of x) (fit_parts S x f).writes m
  where
    go : (ws : List Write) → all (write_fit S.xmin S.next (walk S.heads S.next).seen x.txid.0) ws ≡ true → any (of_row r) ws ≡ true → r < rows
    go [] h m = clash {b = false} m refl
    go (w ∷ ws) h m =
        let g = write_fit S.xmin S.next (walk S.heads S.next).seen x.txid.0 in
        let a = and_true (g w) (all g ws) h in
        or_true (of_row r w) (any (of_row r) ws) m
        (λ e. omega (
          arith,
          eqb-true w.row.0 r e,
          ltb-true w.row.0 rows (write_parts S.xmin S.next (walk S.heads S.next).seen x.txid.0 w a.0).row,
        ))
        (λ e. go ws a.1 e)

module _ (S : Store) (x : Tx) (k : ℕ) where
  -- "rows from postings of the key and own writes"
  pub candidate_is : (r : ℕ) → r < rows → memb r (candidates S x k) ≡ (memb (posting k r) (postings_of S) || any (of_row r) (writes_of x))
  candidate_is r lt = candidate_tells S x k r lt ∙ rw (mem_rows r (writes_of x))

  -- "rising"
  pub candidates_rise : rising 0 (candidates S x k) ≡ true
  unfolding candidates
  candidates_rise = rising_in_order (map row_of (those (λ c. eqb (key_of c) k) (postings_of S)) ++ map (λ w. w.row.0) (writes_of x))

  -- so do the rows found
  pub matching_rise : rising 0 (matching S x k) ≡ true
  unfolding matching
  matching_rise = rising_those 0 (λ r. carries S.key S.has (read_ptr S x r) k) (candidates S x k) candidates_rise

  -- "kept if the read value is the key"
  pub matching_is : (r : ℕ) → (memb r (matching S x k) ≡ true) ↔ ((memb r (candidates S x k) ≡ true) × (value_at S.key S.has (read_ptr S x r) ≡ Key k))
  unfolding matching
  matching_is r =
      let c = carries S.key S.has (read_ptr S x r) k in
      let meant = carries_key S.key S.has (read_ptr S x r) k in
      let e = mem_those (λ q. carries S.key S.has (read_ptr S x q) k) (candidates S x k) r in (
        (λ m. let a = and_true (memb r (candidates S x k)) c (sym e ∙ m) in (a.0, meant.0 a.1)),
        (λ a. e ∙ and_both (memb r (candidates S x k)) c a.0 (meant.1 a.1)),
      )

  module _ (f : fit S x ≡ true) where
    -- so every candidate is below the limit
    pub candidate_below : (r : ℕ) → memb r (candidates S x k) ≡ true → r < rows
    unfolding candidates
    candidate_below r m =
        let keyed = map row_of (those (λ c. eqb (key_of c) k) (postings_of S)) in
        let written = map (λ w. w.row.0) (writes_of x) in
        or_true (memb r keyed) (memb r written) (sym (mem_in_order (keyed ++ written) r ∙ mem_append keyed written r) ∙ m)
        (λ e. rows_below r (those (λ c. eqb (key_of c) k) (postings_of S)) e)
        (λ e. written_below S x f r (sym (mem_rows r (writes_of x)) ∙ e))
