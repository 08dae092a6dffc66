-- Final writes: what holds of the writes holds of them, and each row has one.
use Rattle.std.specs.Prelude.{◌≡◌, refl, Bool, true, false, not, ◌&&◌, ◌||◌, List, [], ◌∷◌, ℕ, ◌≤◌, length, eqb}
use Rattle.std.proofs.Common.{arith, eqb-true}
use Rattle.rules.specs.Types.{Write}
use Rattle.rules.specs.Lists.{all, any}
use Rattle.rules.specs.Transaction.{final_writes}
use Rattle.rules.specs.Fit.{writes_apart}
use Rattle.basic_laws.specs.Cases.{by, and_true, and_both, or_true, or_right, or_false}

-- two writes of one row, and with one new pointer
abbrev pub same_row : Write → Write → Bool
same_row w v = eqb v.row.0 w.row.0

abbrev pub same_new : Write → Write → Bool
same_new w v = eqb v.new.0 w.new.0

-- what a fit transaction says of two writes
abbrev fits : Write → Write → Bool
fits w v = not (same_new w v) && (not (same_row w v) || eqb v.base.0 w.base.0)

-- what two final writes are
abbrev pub differs : Write → Write → Bool
differs w v = not (same_row w v) && not (same_new w v)

-- the writes' rows are distinct, and so are their new pointers
abbrev pub distinct : List Write → Bool
distinct [] = true
distinct (w ∷ ws) = all (differs w) ws && distinct ws

-- there are no more of them than writes
pub finals_few : (ws : List Write) → length (final_writes ws) ≤ length ws
finals_few [] = omega arith
finals_few (w ∷ ws) =
    let h = finals_few ws in
    by (any (same_row w) ws) (λ e. rw e (omega arith)) (λ e. rw e (omega arith))

-- a test of all writes holds of the final ones
pub finals_all : (f : Write → Bool) (ws : List Write) → all f ws ≡ true → all f (final_writes ws) ≡ true
finals_all f [] h = refl
finals_all f (w ∷ ws) h =
    let a = and_true (f w) (all f ws) h in
    let r = finals_all f ws a.1 in
    by (any (same_row w) ws) (λ e. rw e r) (λ e. rw e (and_both (f w) (all f (final_writes ws)) a.0 r))

-- a row that is written has a final write
pub finals_some : (r : ℕ) (ws : List Write) → any (λ w. eqb w.row.0 r) ws ≡ true → any (λ w. eqb w.row.0 r) (final_writes ws) ≡ true
finals_some r [] h = h
finals_some r (w ∷ ws) h = or_true (eqb w.row.0 r) (any (λ v. eqb v.row.0 r) ws) h
    (λ e. by (any (same_row w) ws)
    (λ k. rw k (finals_some r ws (rw (eqb-true w.row.0 r e) at k)))
    (λ k. rw (k, e)))
    (λ e. let i = finals_some r ws e in
    by (any (same_row w) ws) (λ k. rw k i) (λ k. rw k (or_right (eqb w.row.0 r) (any (λ v. eqb v.row.0 r) (final_writes ws)) i)))

-- a write with no later one of its row, and with a new pointer of its own
no_later : (w : Write) (ws : List Write) → any (same_row w) ws ≡ false → all (fits w) ws ≡ true → all (differs w) ws ≡ true
no_later w [] n h = refl
no_later w (v ∷ ws) n h =
    let o = or_false (same_row w v) (any (same_row w) ws) n in
    let a = and_true (fits w v) (all (fits w) ws) h in
    let b = and_true (not (same_new w v)) (not (same_row w v) || eqb v.base.0 w.base.0) a.0 in
    rw (o.0, b.0) (no_later w ws o.1 a.1)

-- the final writes of a fit transaction are distinct
pub finals_distinct : (ws : List Write) → writes_apart ws ≡ true → distinct (final_writes ws) ≡ true
finals_distinct [] h = refl
finals_distinct (w ∷ ws) h =
    let a = and_true (all (fits w) ws) (writes_apart ws) h in
    let r = finals_distinct ws a.1 in
    by (any (same_row w) ws)
    (λ e. rw e r)
    (λ e. rw e (and_both (all (differs w) (final_writes ws)) (distinct (final_writes ws)) (finals_all (differs w) ws (no_later w ws e a.0)) r))
