-- Clearing the unfinished xmax of heads, row by row.
use Rattle.std.specs.Prelude.{◌≡◌, Bool, true, false, cond, List, ℕ, ◌+◌, ◌<◌, ◌≤◌, length, get_or, set, drop}
use Rattle.std.proofs.Math.Path.{refl}
use Rattle.std.proofs.Math.Numerals.{add-one}
use Rattle.std.proofs.Common.{drop_of_length-le, drop-cons}
use Rattle.std.proofs.Math.Seq.{set_out}
use Rattle.basic_laws.specs.Cases.{by}
use Rattle.rules.specs.Recovery.{clear}

-- the rows from r on are left; shut, so that a law finds its parts
unfoldable pub clear_left : (ℕ → Bool) → List ℕ → List ℕ → ℕ → List ℕ
clear_left fin hs x r = clear fin (drop r hs) x

-- every row is left, and none
module _ (fin : ℕ → Bool) (hs x : List ℕ) where
  pub clear_start : clear_left fin hs x 0 ≡ clear fin hs x
  unfolding clear_left
  clear_start = refl

  pub clear_end : (r : ℕ) → length hs ≤ r → x ≡ clear_left fin hs x r
  unfolding clear_left
  clear_end r h = rw (drop_of_length-le hs {i = r} h)

-- the head of row r is i: its xmax is unfinished, finished, or it is no slot
module _ (fin : ℕ → Bool) (hs x : List ℕ) (r i : ℕ) (h : r < length hs) (e : i ≡ get_or hs r 0) where
  clear_next : clear_left fin hs x r ≡ clear_left fin hs (cond (fin (get_or x i 0)) x (set x i 0)) (r + 1)
  unfolding clear_left
  clear_next = rw (drop-cons hs r 0 h, add-one, e)

  pub clear_set : fin (get_or x i 0) ≡ false → clear_left fin hs (set x i 0) (r + 1) ≡ clear_left fin hs x r
  clear_set d = rw (clear_next, d)

  pub clear_stay : fin (get_or x i 0) ≡ true → clear_left fin hs x (r + 1) ≡ clear_left fin hs x r
  clear_stay d = rw (clear_next, d)

  pub clear_past : length x ≤ i → clear_left fin hs x (r + 1) ≡ clear_left fin hs x r
  clear_past k = by (fin (get_or x i 0)) (λ d. clear_stay d) (λ d. rw (clear_next, d, set_out x i 0 k))
