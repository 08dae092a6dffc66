-- The postings of the heads, put in from the last row down.
use Rattle.std.specs.Prelude.{◌≡◌, Bool, true, false, cond, List, ℕ, suc, ◌-◌, ◌<◌, ◌≤◌, min, length, get_or, take, drop, replicate}
use Rattle.std.proofs.Math.Path.{refl}
use Rattle.std.proofs.Common.{◌∙◌, arith, drop-cons, take_all}
use Rattle.std.proofs.Math.ListN.{length-drop}
use Rattle.records.specs.Limits.{rows, posting_limit}
use Rattle.records.specs.Relations.{rows_posted}
use Rattle.rules.specs.Lists.{pad, into}
use Rattle.rules.specs.Store.{posting}
use Rattle.rules.specs.Admitted.{head_postings}
use Rattle.basic_laws.specs.HeadPostings.{heads_length}
use Rattle.packed.specs.Packed.{Packed}
use Rattle.fields.specs.Lent.{array, at_rows, array_length, array_at, array_end}
use Rattle.fields.specs.Pad.{take_pad}

-- a list laid out in an array that has room for it is read back
taken_back : (n : ℕ) (l : List ℕ) → length l ≤ n → take (length l) (pad n 0 l) ≡ l
taken_back n l h = let e : min (length l) n ≡ length l = omega arith in (rw e at (take_pad n 0 l)) ∙ take_all n l h

module _ (key : List ℕ) (has : List Bool) (heads : List ℕ) where
  -- the postings of the rows from r on; shut, so that a law finds its parts
  unfoldable pub postings_from : ℕ → List ℕ
  postings_from r = head_postings key has r (drop r (at_rows heads))

  -- an empty array holds those of no row
  pub rebuild_start : Packed (postings_from rows) posting_limit (replicate posting_limit 0) 0
  unfolding postings_from
  rebuild_start = rw (array_end rows 0 heads rows (omega arith)) (record { at = refl; count = refl })

  -- those from row 0 on are all
  pub rebuild_end : (r : ℕ) {x : List ℕ} {n : ℕ} → r ≡ 0 → Packed (postings_from r) posting_limit x n
      → Packed (head_postings key has 0 (at_rows heads)) posting_limit x n
  unfolding postings_from
  rebuild_end r e p = rw e at p

  postings_fit : (r : ℕ) → length (postings_from r) ≤ posting_limit
  unfolding postings_from
  postings_fit r = omega (arith, heads_length key has r (drop r (at_rows heads)), length-drop r (at_rows heads), array_length rows 0 heads, rows_posted)

  -- one row more, whose head is i
  postings_next : (q i : ℕ) → q < rows → i ≡ get_or heads q 0
      → postings_from q ≡ cond (get_or has i false) (into (posting (get_or key i 0) q) (postings_from (suc q))) (postings_from (suc q))
  unfolding postings_from
  postings_next q i h e = rw (drop-cons (at_rows heads) q 0 (rw (array_length rows 0 heads) h), array_at rows 0 heads q h, e)

-- an array that holds those of the rows from r on, and the row before: without a value, and with one
module _ (key : List ℕ) (has : List Bool) (heads x : List ℕ) (n r i : ℕ) (low : 0 < r) (high : r ≤ rows) (e : i ≡ get_or heads (r - 1) 0)
    (held : Packed (postings_from key has heads r) posting_limit x n) where
  before : r ≡ suc (r - 1)
  before = omega arith

  next : postings_from key has heads (r - 1)
      ≡ cond (get_or has i false) (into (posting (get_or key i 0) (r - 1)) (postings_from key has heads r)) (postings_from key has heads r)
  next = rw (← before) at (postings_next key has heads (r - 1) i (omega arith) e)

  pub rebuild_none : get_or has i false ≡ false → Packed (postings_from key has heads (r - 1)) posting_limit x n
  rebuild_none f = rw (next, f) held

  long : length x ≡ posting_limit
  unfolding array
  long = rw held.at (array_length posting_limit 0 (postings_from key has heads r))

  first : take n x ≡ postings_from key has heads r
  first = rw (held.at, held.count) (taken_back posting_limit (postings_from key has heads r) (postings_fit key has heads r))

  pub rebuild_put : (k : ℕ) {y : List ℕ} {m : ℕ} → get_or has i false ≡ true → k ≡ get_or key i 0 → Packed (into (posting k (r - 1)) (take n x)) (length x) y m
      → Packed (postings_from key has heads (r - 1)) posting_limit y m
  rebuild_put k f g p = rw (next, f, ← g) (rw (long, first) at p)
