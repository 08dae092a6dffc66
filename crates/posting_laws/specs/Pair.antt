-- A posting is one number, and that number tells its key and its row.
use Rattle.std.specs.Prelude.{◌≡◌, ◌&&◌, ℕ, ◌<◌, eqb}
use Rattle.std.proofs.Common.{arith, eqb-true, eq-eqb}
use Rattle.records.specs.Limits.{rows, key_end}
use Rattle.records.specs.Relations.{rows_some}
use Rattle.basic_laws.specs.Cases.{iff, and_true, and_both}
use Rattle.rules.specs.Store.{posting, key_of, row_of}

-- the key and the row of a posting, and the posting of its key and row
pub key_of_posting : (k r : ℕ) → r < rows → key_of (posting k r) ≡ k
key_of_posting k r h = omega arith

pub row_of_posting : (k r : ℕ) → r < rows → row_of (posting k r) ≡ r
row_of_posting k r h = omega arith

pub posting_of : (c : ℕ) → posting (key_of c) (row_of c) ≡ c
posting_of c = omega arith

-- every number has a row
pub row_small : (c : ℕ) → row_of c < rows
row_small c = omega (arith, rows_some)

-- one number, one posting
pub posting_once : (j k q r : ℕ) → q < rows → r < rows → posting j q ≡ posting k r → (j ≡ k) × (q ≡ r)
posting_once j k q r h i e = omega arith

pub below_key : (k r : ℕ) → k < key_end → r < rows → posting k r < posting key_end 0
below_key k r h i = omega arith

-- the same as a test
pub posting_test : (j k q r : ℕ) → q < rows → r < rows → eqb (posting k r) (posting j q) ≡ (eqb r q && eqb j k)
posting_test j k q r h i = iff (eqb (posting k r) (posting j q)) (eqb r q && eqb j k)
    (λ e. let s = eqb-true (posting k r) (posting j q) e in and_both (eqb r q) (eqb j k) (eq-eqb r q (omega arith)) (eq-eqb j k (omega arith)))
    (λ e. let a = and_true (eqb r q) (eqb j k) e in eq-eqb (posting k r) (posting j q) (omega (arith, eqb-true r q a.0, eqb-true j k a.1)))
