-- Final writes: one a row, and what they change in the index, row by row.
use Rattle.std.specs.Prelude.{◌≡◌, Bool, true, not, cond, ◌&&◌, ℕ, ◌≤◌, ◌<◌, length, eqb}
use Rattle.std.proofs.Math.Path.{refl}
use Rattle.std.proofs.Common.{sym, ◌∙◌, eqb-true, ne_eqb, ltb-true}
use Rattle.std.proofs.Math.Bool.{false}
use mathlib.Core.List.{List, [], ◌∷◌, ◌++◌, map}
use native.Mathlib.Omega.{arith}
use Rattle.std.proofs.Math.ListN.{length-append}
use Rattle.std.proofs.Math.Dec.{ltb}
use Rattle.std.proofs.lemmas.Bool.{eqb-false, not-true}
use Rattle.records.specs.Limits.{rows}
use Rattle.rules.specs.Types.{Value, Absent, Key, Write}
use Rattle.basic_laws.specs.Cases.{by, and_true, and_false, or_false, or_neither}
use Rattle.rules.specs.Lists.{all, any, flat, memb}
use Rattle.rules.specs.Store.{posting, value_at, same_value}
use Rattle.rules.specs.Transaction.{final_writes}
use Rattle.rules.specs.Changes.{Change, change_of, index_changes, posting_in}
use Rattle.basic_laws.specs.Rearranged.{or_none}
use Rattle.basic_laws.specs.AllOf.{all_append}
use Rattle.basic_laws.specs.Rising.{unique}
use Rattle.posting_laws.specs.Pair.{posting_test}
use Rattle.posting_laws.specs.Posted.{mem_append}

-- the rows of some writes
abbrev pub row_of_write : Write → ℕ
row_of_write w = w.row.0

abbrev pub rows_of : List Write → List ℕ
rows_of ws = map row_of_write ws

-- a row that isn't written has no final write
no_later : (q : ℕ) (ws : List Write) → any (λ v. eqb v.row.0 q) ws ≡ false → memb q (rows_of (final_writes ws)) ≡ false
no_later q [] h = refl
no_later q (w ∷ ws) h =
    let o = or_false (eqb w.row.0 q) (any (λ v. eqb v.row.0 q) ws) h in
    let r = no_later q ws o.1 in
    by (any (λ v. eqb v.row.0 w.row.0) ws)
    (λ e. rw e r)
    (λ e. rw e (or_neither (eqb q w.row.0) (memb q (rows_of (final_writes ws))) (ne_eqb q w.row.0 (λ k. eqb-false w.row.0 q o.0 (sym k))) r))

-- "those with no later write of their row": one a row
pub finals_once : (ws : List Write) → unique (rows_of (final_writes ws)) ≡ true
finals_once [] = refl
finals_once (w ∷ ws) = by (any (λ v. eqb v.row.0 w.row.0) ws)
    (λ e. rw e (finals_once ws))
    (λ e. rw (e, no_later w.row.0 ws e) (finals_once ws))

-- what a row's write gives, and d where the row isn't written
abbrev pub pick {ℓ} : {A : Type ℓ} → (Write → A) → A → ℕ → List Write → A
pick f d r [] = d
pick f d r (w ∷ ws) = cond (eqb r w.row.0) (f w) (pick f d r ws)

-- a row that isn't written; a function of what is picked
pub pick_none {ℓ} : {A : Type ℓ} (f : Write → A) (d : A) (r : ℕ) (ws : List Write) → memb r (rows_of ws) ≡ false → pick f d r ws ≡ d
pick_none f d r [] h = refl
pick_none f d r (w ∷ ws) h = let o = or_false (eqb r w.row.0) (memb r (rows_of ws)) h in rw o.0 (pick_none f d r ws o.1)

pub pick_map {ℓ κ} : {A : Type ℓ} {B : Type κ} (F : A → B) (f : Write → A) (d : A) (r : ℕ) (ws : List Write)
    → F (pick f d r ws) ≡ pick (λ w. F (f w)) (F d) r ws
pick_map F f d r [] = refl
pick_map F f d r (w ∷ ws) = by (eqb r w.row.0) (λ e. rw e) (λ e. rw e (pick_map F f d r ws))

-- the one posting that a write may put in or take out
posting_one : (b : Bool) (q : ℕ) (v : Value) → length (cond b (posting_in q v) []) ≤ 1
posting_one true q Absent = omega arith
posting_one true q (Key k) = omega arith
posting_one false q v = omega arith

-- .. its row and its key
in_posting : (b : Bool) (v : Value) (k r q : ℕ) → r < rows → q < rows
    → memb (posting k r) (cond b (posting_in q v) []) ≡ (eqb r q && (b && same_value v (Key k)))
in_posting false v k r q h i = sym (and_false (eqb r q))
in_posting true Absent k r q h i = sym (and_false (eqb r q))
in_posting true (Key j) k r q h i = or_none (eqb (posting k r) (posting j q)) ∙ posting_test j k q r i h

-- .. before others of other rows
unique_one : (b : Bool) (q : ℕ) (v : Value) (l : List ℕ) → unique l ≡ true → ((k : ℕ) → memb (posting k q) l ≡ false)
    → unique (cond b (posting_in q v) [] ++ l) ≡ true
unique_one false q v l u h = u
unique_one true q Absent l u h = u
unique_one true q (Key k) l u h = rw (h k) u

module _ (key : List ℕ) (has : List Bool) where
  -- "A change exists where the base's value .. differs from the new one."
  abbrev pub changed : Write → Bool
  changed w = not (same_value (value_at key has w.base.0) (value_at key has w.new.0))

  -- one side of the changes, as postings: `destinations` and `sources`
  abbrev pub side_of : (Change → Value) → List Write → List ℕ
  side_of side ws = flat (λ c. posting_in c.row (side c)) (index_changes key has ws)

  -- one write's part of it
  abbrev pub one : (Change → Value) → Write → List ℕ
  one side w = cond (changed w) (posting_in w.row.0 (side (change_of key has w))) []

  -- write by write
  side_cons : (side : Change → Value) (w : Write) (ws : List Write) → side_of side (w ∷ ws) ≡ one side w ++ side_of side ws
  unfolding index_changes
  side_cons side w ws = by (changed w) (λ e. rw e) (λ e. rw e)

  -- no more than writes
  pub side_length : (side : Change → Value) (ws : List Write) → length (side_of side ws) ≤ length ws
  unfolding index_changes
  side_length side [] = omega arith
  side_length side (w ∷ ws) =
      rw (side_cons side w ws, length-append (one side w) (side_of side ws))
      (omega (arith, posting_one (changed w) w.row.0 (side (change_of key has w)), side_length side ws))

  -- a test that each write's posting passes
  pub side_all : (side : Change → Value) (f : ℕ → Bool) (g : Write → Bool) → ((w : Write) → g w ≡ true → all f (one side w) ≡ true)
      → (ws : List Write) → all g ws ≡ true → all f (side_of side ws) ≡ true
  unfolding index_changes
  side_all side f g h [] k = refl
  side_all side f g h (w ∷ ws) k =
      let a = and_true (g w) (all g ws) k in
      rw (side_cons side w ws) (all_append f (one side w) (side_of side ws) (h w a.0) (side_all side f g h ws a.1))

  -- a posting is on a side where its row's write says so
  pub mem_side : (side : Change → Value) (k r : ℕ) (ws : List Write) → r < rows → all (λ w. ltb w.row.0 rows) ws ≡ true → unique (rows_of ws) ≡ true
      → memb (posting k r) (side_of side ws) ≡ pick (λ w. changed w && same_value (side (change_of key has w)) (Key k)) false r ws
  unfolding index_changes
  mem_side side k r [] lt b u = refl
  mem_side side k r (w ∷ ws) lt b u =
      let q = w.row.0 in
      let v = side (change_of key has w) in
      let a = and_true (ltb q rows) (all (λ w. ltb w.row.0 rows) ws) b in
      let c = and_true (not (memb q (rows_of ws))) (unique (rows_of ws)) u in
      rw (
        side_cons side w ws,
        mem_append (one side w) (side_of side ws) (posting k r),
        in_posting (changed w) v k r q lt (ltb-true q rows a.0),
        mem_side side k r ws lt a.1 c.1,
      )
      (by (eqb r q)
      (λ e. rw (
        e,
        pick_none (λ w. changed w && same_value (side (change_of key has w)) (Key k)) false r ws (rw (eqb-true r q e) (not-true (memb q (rows_of ws)) c.0)),
      ) (or_none (changed w && same_value v (Key k))))
      (λ e. rw e))

  -- one posting a row: none stands twice on a side
  pub side_once : (side : Change → Value) (ws : List Write) → all (λ w. ltb w.row.0 rows) ws ≡ true → unique (rows_of ws) ≡ true
      → unique (side_of side ws) ≡ true
  unfolding index_changes
  side_once side [] b u = refl
  side_once side (w ∷ ws) b u =
      let q = w.row.0 in
      let a = and_true (ltb q rows) (all (λ w. ltb w.row.0 rows) ws) b in
      let c = and_true (not (memb q (rows_of ws))) (unique (rows_of ws)) u in
      rw (side_cons side w ws)
      (unique_one (changed w) q (side (change_of key has w)) (side_of side ws) (side_once side ws a.1 c.1)
      (λ k. mem_side side k q ws (ltb-true q rows a.0) a.1 c.1 ∙ pick_none _ false q ws (not-true (memb q (rows_of ws)) c.0)))
