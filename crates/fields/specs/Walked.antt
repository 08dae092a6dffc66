-- The walk of all chains, one turn at a time.
use Rattle.std.specs.Prelude.{◌≡◌, refl, List, [], ◌∷◌, ℕ, zero, suc, ◌+◌, ◌<◌, ◌≤◌, get_or, set, drop, length, replicate, eqb, ltb}
use Rattle.std.proofs.Common.{ap, ◌∙◌, arith, add-one, drop_of_length-le, length-set, drop-cons}
use Rattle.std.proofs.lemmas.List.{length-replicate}
use Rattle.records.specs.Limits.{slots, places, no_marks}
use Rattle.rules.specs.Chains.{Walk, stop, walk_row, walk_rows, walk}
use Rattle.basic_laws.specs.Cases.{by}
use Rattle.basic_laws.specs.Walk.{Ended, after, row_high as high, row_twice as twice, row_step as step}
use Rattle.fields.specs.Lent.{array_same, at_places}

-- one turn along a chain, by its tests; i is the place of the slot p
module _ (next seen : List ℕ) where
  pub row_high : (f p i : ℕ) → i ≡ p → (f ≡ 0 → ⊥) → (p ≡ 0 → ⊥) → slots < i → walk_row f next seen p ≡ stop seen
  row_high f p i e h n k = high next seen f p h n (omega arith)

  pub row_twice : (f p i : ℕ) → i ≡ p → (f ≡ 0 → ⊥) → (p ≡ 0 → ⊥) → i ≤ slots → (get_or seen i 0 ≡ 0 → ⊥) → walk_row f next seen p ≡ stop seen
  row_twice f p i e h n k m = twice next seen f p h n (omega arith) (rw e at m)

  pub row_step : (f g p i q : ℕ) → i ≡ p → f ≡ suc g → (p ≡ 0 → ⊥) → i ≤ slots → get_or seen i 0 ≡ 0 → get_or next i 0 ≡ q
      → walk_row f next seen p ≡ walk_row g next (set seen i 1) q
  row_step f g p i q e h n k m d = rw (← d, e) (step next seen f g p h n (omega arith) (rw e at m))

-- no row is left; the next row's chain comes first
pub rows_end : (next heads seen : List ℕ) (r : ℕ) → length heads ≤ r → walk_rows next (drop r heads) seen ≡ Ended seen
unfolding walk_rows
rows_end next heads seen r h = rw drop_of_length-le

pub rows_cons : (next heads seen : List ℕ) (r : ℕ) → r < length heads
    → walk_rows next (drop r heads) seen ≡ after next (drop (r + 1) heads) (walk_row places next seen (get_or heads r 0))
unfolding walk_rows
rows_cons next heads seen r h = rw (drop-cons heads r 0 h, add-one)

-- what follows a chain that ended, and one that stopped
pub after_end : (next hs seen : List ℕ) (w : Walk) → w ≡ Ended seen → after next hs w ≡ walk_rows next hs seen
after_end next hs seen w e = rw e

pub after_stop : (next hs seen : List ℕ) (w v : Walk) → after next hs w ≡ v → w ≡ stop seen → stop seen ≡ v
after_stop next hs seen w v e s = rw s at e

-- the marks keep their number
pub row_long : (f : ℕ) (next seen : List ℕ) (p : ℕ) → length (walk_row f next seen p).seen ≡ length seen
unfolding walk_row
row_long zero next seen p = by (eqb p 0) (λ e. simp (walk_row, e)) (λ e. simp (walk_row, e))
row_long (suc f) next seen p =
    by
    (eqb p 0)
    (λ e. simp (walk_row, e))
    (λ e. by
    (ltb slots p)
    (λ h. simp (walk_row, e, h))
    (λ h. by
    (eqb (get_or seen p 0) 0)
    (λ s. simp (walk_row, e, h, s) (row_long f next (set seen p 1) (get_or next p 0) ∙ length-set seen p 1))
    (λ s. simp (walk_row, e, h, s))))

pub rows_long : (next hs seen : List ℕ) → length (walk_rows next hs seen).seen ≡ length seen
unfolding walk_rows
rows_long next [] seen = refl
rows_long next (h ∷ hs) seen =
    by
    (walk_row places next seen h).ok
    (λ e. rw (walk_rows, e) (rows_long next hs (walk_row places next seen h).seen ∙ row_long places next seen h))
    (λ e. rw (walk_rows, e) (row_long places next seen h))

pub walk_long : (heads next : List ℕ) → length (walk heads next).seen ≡ places
unfolding walk no_marks
walk_long heads next = rows_long next heads (replicate places 0) ∙ length-replicate {A = ℕ} places 0

-- the marks of a walk are an array
pub marks_array : (heads next seen : List ℕ) → seen ≡ (walk heads next).seen → at_places seen ≡ (walk heads next).seen
marks_array heads next seen e = array_same places 0 seen (ap length e ∙ walk_long heads next) ∙ e
