-- The final writes of a transaction, one write at a time.
use Rattle.std.specs.Prelude.{◌≡◌, refl, Bool, true, false, List, [], ◌∷◌, ℕ, suc, ◌+◌, ◌<◌, ◌≤◌, length, get_or, set, take, drop, eqb}
use Rattle.std.proofs.Common.{sym, ap, ◌∙◌, arith, add-zero, length-drop, get_or-drop, drop-drop, take_all, drop-cons, add-one}
use Rattle.records.specs.Limits.{write_limit}
use Rattle.records.specs.Zero.{no_write}
use Rattle.rules.specs.Lists.{any, pad}
use Rattle.rules.specs.Types.{Tx, Write}
use Rattle.rules.specs.Transaction.{writes_of, final_writes, finals}
use Rattle.commit_tests.specs.declared.finals.Finals.{Finals}
use Rattle.fields.specs.Pad.{pad_more}

-- the final writes laid out in an array, with their number
unfoldable pub finals_laid : Tx → Finals
finals_laid x = record { at = pad write_limit no_write (finals x); count = length (finals x) }

-- a write of the row r
unfoldable pub of_row : ℕ → Write → Bool
of_row r v = eqb v.row.0 r

-- one write w more, before others: it is final if none of them is of its row
module _ (w : Write) (l ws : List Write) (next : l ≡ w ∷ ws) where
  final_here : any (of_row w.row.0) ws ≡ false → final_writes l ≡ w ∷ final_writes ws
  unfolding of_row
  final_here e = rw (next, e)

  final_later : any (of_row w.row.0) ws ≡ true → final_writes l ≡ final_writes ws
  unfolding of_row
  final_later e = rw (next, e)

-- what is left of a list from k on is w and others: w stands at k
module _ {ℓ} {A : Type ℓ} (l : List A) (k : ℕ) (w : A) (ws : List A) (left : drop k l ≡ w ∷ ws) where
  pub left_more : k < length l
  left_more = let e = length-drop k l in let n : length (drop k l) ≡ suc (length ws) = ap length left in omega arith

  pub left_first : (z : A) → get_or l k z ≡ w
  left_first z = let e = get_or-drop k l 0 z in rw (left, add-zero) at (sym e)

  pub left_rest : drop (k + 1) l ≡ ws
  left_rest = sym (drop-drop 1 k l) ∙ ap (drop 1) left

-- the write at a place and those after it
pub write_next : (ws : List Write) (i : ℕ) → i < length ws → drop i ws ≡ get_or ws i no_write ∷ drop (i + 1) ws
write_next ws i h = rw (drop-cons ws i no_write h, add-one)

-- the final writes among the first i writes are laid out in `at`: `count` of them
pub record Laid (x : Tx) (i : ℕ) (at : List Write) (count : ℕ) : Type 0 where
  pub few : count ≤ i
  pub some : count ≤ length (finals x)
  pub left : drop count (finals x) ≡ final_writes (drop i (writes_of x))
  pub laid : at ≡ pad write_limit no_write (take count (finals x))

pub laid_none : (x : Tx) → Laid x 0 (pad write_limit no_write []) 0
unfolding finals
laid_none x = record { few = omega arith; some = omega arith; left = refl; laid = refl }

-- the next write, w, is final or not
module _ (x : Tx) (i count : ℕ) (at : List Write) (w : Write) (so : Laid x i at count)
    (next : drop i (writes_of x) ≡ w ∷ drop (i + 1) (writes_of x)) where
  pub laid_here : i < write_limit → any (of_row w.row.0) (drop (i + 1) (writes_of x)) ≡ false
      → Laid x (i + 1) (set at count w) (count + 1)
  laid_here h e =
      let few = so.few in
      let left = so.left ∙ final_here w _ _ next e in
      let more = left_more (finals x) count w _ left in
      record {
        few = omega arith;
        some = omega arith;
        left = left_rest (finals x) count w _ left;
        laid = rw (left_first (finals x) count w _ left no_write) at (pad_more write_limit no_write (finals x) at count (omega arith) more so.laid);
      }

  pub laid_later : any (of_row w.row.0) (drop (i + 1) (writes_of x)) ≡ true → Laid x (i + 1) at count
  laid_later e = let few = so.few in record { few = omega arith; some = so.some; left = so.left ∙ final_later w _ _ next e; laid = so.laid }

-- all writes are looked at
pub laid_all : (x : Tx) (i count : ℕ) (at : List Write) → Laid x i at count → drop i (writes_of x) ≡ []
    → ◌≡◌ {A = Finals} (record { at = at; count = count }) (finals_laid x)
unfolding finals_laid
laid_all x i count at so over =
    let some = so.some in
    let dropped = length-drop count (finals x) in
    let none : length (drop count (finals x)) ≡ 0 = ap length (so.left ∙ ap final_writes over) in
    let all : count ≡ length (finals x) = omega arith in
    let at_all : at ≡ pad write_limit no_write (finals x) = so.laid ∙ ap (pad write_limit no_write) (take_all count (finals x) (omega arith)) in
    λ j. record { at = at_all j; count = all j }
