-- Finished and unfinished txids, when one is dropped from the active list and when one is doomed.
use Rattle.std.specs.Prelude.{◌≡◌, Bool, true, false, not, cond, ◌&&◌, ◌||◌, List, [], ◌∷◌, ℕ, zero, suc, ◌≤◌, length, get_or, eqb}
use Rattle.std.proofs.Math.Path.{refl}
use Rattle.std.proofs.Common.{sym, ap, ◌∙◌, arith}
use borrow.Author.Tests.{eqb-true, eqb-false, eq-eqb, ne_eqb}
use Rattle.records.specs.Limits.{active_limit}
use Rattle.rules.specs.Lists.{memb, without, pad}
use Rattle.rules.specs.Store.{active_txids}
use Rattle.rules.specs.Admitted.{finished}
use Rattle.basic_laws.specs.Cases.{by, clash, and_false, or_true, or_neither, mem_there}
use Rattle.basic_laws.specs.Rising.{rising_from, mem_without, rising_without, without_length}
use Rattle.basic_laws.specs.LaidOut.{before_pad}
use Rattle.basic_laws.specs.Places.{is_rising, rising_is}
use Rattle.admitted_laws.specs.Repairable.{ActiveForm}
use Rattle.recovery_laws.specs.ArraysKept.{pad_after}

-- no txid stands among zeros
none_in : (u : ℕ) (l : List ℕ) → (u ≡ 0 → ⊥) → ((i : ℕ) → get_or l i 0 ≡ 0) → memb u l ≡ false
none_in u [] n h = refl
none_in u (x ∷ l) n h = or_neither (eqb u x) (memb u l) (ne_eqb u x (λ e. n (e ∙ h zero))) (none_in u l n (λ i. h (suc i)))

-- the zeros after the active txids hold none
pub in_array : (u : ℕ) (act : List ℕ) → (u ≡ 0 → ⊥) → ((i : ℕ) → length (active_txids act) ≤ i → get_or act i 0 ≡ 0) → memb u act ≡ memb u (active_txids act)
in_array u [] n h = refl
in_array u (x ∷ l) n h = go (in_array u l n) (eqb x 0) refl h
  where
    go : (((i : ℕ) → length (active_txids l) ≤ i → get_or l i 0 ≡ 0) → memb u l ≡ memb u (active_txids l))
        → (b : Bool) → eqb x 0 ≡ b → ((i : ℕ) → length (cond b [] (x ∷ active_txids l)) ≤ i → get_or (x ∷ l) i 0 ≡ 0)
        → memb u (x ∷ l) ≡ memb u (cond b [] (x ∷ active_txids l))
    go ih true e h = none_in u (x ∷ l) n (λ i. h i (omega arith))
    go ih false e h = ap (λ (b : Bool). eqb u x || b) (ih (λ i le. h (suc i) (omega arith)))

in_pad : (u n : ℕ) (l : List ℕ) → (u ≡ 0 → ⊥) → length l ≤ n → memb u (pad n 0 l) ≡ memb u l
in_pad u zero [] z le = refl
in_pad u zero (x ∷ l) z le = absurd (omega arith)
in_pad u (suc n) [] z le = none_in u (pad (suc n) 0 []) z (λ i. pad_after 0 (suc n) [] i (omega arith))
in_pad u (suc n) (x ∷ l) z le = ap (λ (b : Bool). eqb u x || b) (in_pad u n l z (omega arith))

-- no more active txids than places
pub active_short : (act : List ℕ) → length (active_txids act) ≤ length act
active_short [] = omega arith
active_short (x ∷ l) = by (eqb x 0) (λ e. rw e (omega arith)) (λ e. rw e (omega (arith, active_short l)))

-- an active txid stands in the array
pub active_in : (u : ℕ) (act : List ℕ) → memb u (active_txids act) ≡ true → memb u act ≡ true
active_in u [] m = m
active_in u (x ∷ l) m = by (eqb x 0)
    (λ e. clash {b = false} (rw e at m) refl)
    (λ e. or_true (eqb u x) (memb u (active_txids l)) (rw e at m) (λ k. rw k) (λ k. mem_there u x l (active_in u l k)))

-- the active list that a drop of t leaves
abbrev pub dropped : List ℕ → ℕ → List ℕ
dropped act t = pad active_limit 0 (without t (active_txids act))

-- txids with the same standing in two lists are finished in both or in neither
pub finished_same : (a b : List ℕ) (d u : ℕ) → ((u ≡ 0 → ⊥) → memb u a ≡ memb u b) → finished a d u ≡ finished b d u
unfolding finished
finished_same a b d u h = by (eqb u 0) (λ e. rw e) (λ e. rw (e, h (eqb-false u 0 e)))

-- 0, no txid, counts as finished
pub zero_finished : (act : List ℕ) (d : ℕ) → finished act d 0 ≡ true
unfolding finished
zero_finished act d = refl

-- an active txid is unfinished
pub active_unfinished : (act : List ℕ) (d t : ℕ) → (t ≡ 0 → ⊥) → memb t act ≡ true → finished act d t ≡ false
unfolding finished
active_unfinished act d t n m = rw (ne_eqb t 0 n, m)

-- and so is the doomed one
pub doomed_unfinished : (act : List ℕ) (d : ℕ) → (d ≡ 0 → ⊥) → finished act d d ≡ false
unfolding finished
doomed_unfinished act d n = rw (ne_eqb d 0 n, eq-eqb d d refl) (and_false (not (memb d act)))

-- an active txid that is doomed changes nothing
pub doom_same : (act : List ℕ) (t u : ℕ) → memb t act ≡ true → finished act t u ≡ finished act 0 u
unfolding finished
doom_same act t u m = by (eqb u 0)
    (λ z. rw z)
    (λ z. by (eqb u t)
    (λ e. rw (z, e, eqb-true u t e, m))
    (λ e. rw (z, e)))

module _ (act : List ℕ) (clock : ℕ) (A : ActiveForm act clock) (long : length act ≡ active_limit) (t : ℕ) where
  listed : (u : ℕ) → (u ≡ 0 → ⊥) → memb u act ≡ memb u (active_txids act)
  listed u n = in_array u act n A.after

  short : length (without t (active_txids act)) ≤ active_limit
  short = omega (arith, without_length t (active_txids act), active_short act)

  in_dropped : (u : ℕ) → (u ≡ 0 → ⊥) → memb u (dropped act t) ≡ (not (eqb u t) && memb u (active_txids act))
  in_dropped u n = in_pad u active_limit (without t (active_txids act)) n short ∙ mem_without t (active_txids act) u

  -- others stand as they stood
  pub drop_other : (d u : ℕ) → (u ≡ t → ⊥) → finished (dropped act t) d u ≡ finished act d u
  drop_other d u n = finished_same (dropped act t) act d u (λ z. in_dropped u z ∙ rw (ne_eqb u t n) (sym (listed u z)))

  -- t is finished now, if it isn't doomed
  pub drop_this : (d : ℕ) → (t ≡ d → ⊥) → finished (dropped act t) d t ≡ true
  unfolding finished
  drop_this d n = by (eqb t 0) (λ e. rw e) (λ e. rw (e, in_dropped t (eqb-false t 0 e), eq-eqb t t refl, ne_eqb t d n))

  -- a doomed t stays unfinished
  pub drop_doomed : (u : ℕ) → (t ≡ 0 → ⊥) → memb t act ≡ true → finished (dropped act t) t u ≡ finished act t u
  drop_doomed u z m = by (eqb u t)
      (λ e. rw (eqb-true u t e) (doomed_unfinished (dropped act t) t z ∙ sym (active_unfinished act t t z m)))
      (λ e. drop_other t u (eqb-false u t e))

  -- what the new list holds
  zero_out : memb 0 (without t (active_txids act)) ≡ false
  zero_out = by (memb 0 (without t (active_txids act)))
      (λ m. absurd
      (omega (arith, rising_from 1 (without t (active_txids act)) 0 (rising_without 1 t (active_txids act) (is_rising 1 (active_txids act) A.climb)) m)))
      (λ m. m)

  -- it is the old one without t
  pub dropped_are : active_txids (dropped act t) ≡ without t (active_txids act)
  dropped_are = before_pad active_limit (without t (active_txids act)) short zero_out

  -- t is active no longer
  pub dropped_gone : memb t (active_txids (dropped act t)) ≡ false
  dropped_gone = rw (dropped_are, mem_without t (active_txids act) t, eq-eqb t t refl)

  -- and it is in its form
  pub dropped_form : ActiveForm (dropped act t) clock
  dropped_form = record {
    climb = rw dropped_are (rising_is 1 (without t (active_txids act)) (rising_without 1 t (active_txids act) (is_rising 1 (active_txids act) A.climb)));
    past = λ u m. A.past u (kept u (rw dropped_are at m));
    after = λ i le. pad_after 0 active_limit (without t (active_txids act)) i (rw dropped_are at le);
  }
    where
      kept : (u : ℕ) → memb u (without t (active_txids act)) ≡ true → memb u (active_txids act) ≡ true
      kept u m = by (memb u (active_txids act)) (λ e. e) (λ e. clash (rw (mem_without t (active_txids act) u, e) at m) (and_false (not (eqb u t))))
