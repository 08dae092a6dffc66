-- What recovery does to an array: places kept or blanked, heads' xmax cleared, a list laid out and taken back.
use Rattle.std.specs.Prelude.{◌≡◌, refl, Bool, true, false, not, cond, List, [], ◌∷◌, ◌⊎◌, ℕ, zero, suc, ◌≤◌, ◌<◌, length, get_or, set, replicate, eqb}
use Rattle.std.proofs.Common.{sym, ap, ◌∙◌, inl, inr, arith, length-set, get_or-set_same, get_or-set_other, ext_get_or, eqb-true}
use Rattle.std.proofs.lemmas.Bool.{eqb-false}
use Rattle.run_laws.specs.GuardPuts.{set_all_blank}
use Rattle.rules.specs.Lists.{memb, keep, pad}
use Rattle.rules.specs.Chains.{on}
use Rattle.rules.specs.Recovery.{clear}
use Rattle.basic_laws.specs.Cases.{by, clash, or_true, or_false, mem_here, mem_there}
use Rattle.basic_laws.specs.Chain.{IsChain}

module _ {ℓ} {A : Type ℓ} (z : A) where
  pub keep_at : (m : List ℕ) (l : List A) (i : ℕ) → get_or (keep z m l) i z ≡ cond (on m i) (get_or l i z) z
  keep_at m [] i = go (on m i)
    where
      go : (b : Bool) → z ≡ cond b z z
      go true = refl
      go false = refl
  keep_at [] (x ∷ l) zero = refl
  keep_at [] (x ∷ l) (suc i) = keep_at [] l i
  keep_at (b ∷ m) (x ∷ l) zero = go (eqb b 0)
    where
      go : (c : Bool) → cond c z x ≡ cond (not c) x z
      go true = refl
      go false = refl
  keep_at (b ∷ m) (x ∷ l) (suc i) = keep_at m l i

  -- marked: as it was
  pub keep_on : (m : List ℕ) (l : List A) (i : ℕ) → on m i ≡ true → get_or (keep z m l) i z ≡ get_or l i z
  keep_on m l i e = keep_at m l i ∙ ap (λ (b : Bool). cond b (get_or l i z) z) e

  -- not marked: blank
  pub keep_off : (m : List ℕ) (l : List A) (i : ℕ) → on m i ≡ false → get_or (keep z m l) i z ≡ z
  keep_off m l i e = keep_at m l i ∙ ap (λ (b : Bool). cond b (get_or l i z) z) e

  -- as long as it was
  pub keep_length : (m : List ℕ) (l : List A) → length (keep z m l) ≡ length l
  keep_length m [] = refl
  keep_length [] (x ∷ l) = ap suc (keep_length [] l)
  keep_length (b ∷ m) (x ∷ l) = ap suc (keep_length m l)

  -- what was kept is kept by the same marks
  pub keep_again : (m n : List ℕ) (l : List A) → ((i : ℕ) → on n i ≡ on m i) → keep z n (keep z m l) ≡ keep z m l
  keep_again m n l h = ext_get_or z (keep z n (keep z m l)) (keep z m l) (keep_length n (keep z m l)) (λ i lt. by (on m i)
      (λ e. keep_on n (keep z m l) i (h i ∙ e))
      (λ e. keep_off n (keep z m l) i (h i ∙ e) ∙ sym (keep_off m l i e)))

  -- an array of blanks
  pub blanks : (n i : ℕ) → get_or (replicate n z) i z ≡ z
  blanks zero i = refl
  blanks (suc n) zero = refl
  blanks (suc n) (suc i) = blanks n i

  -- a list laid out in an array: blanks after it
  pub pad_after : (n : ℕ) (l : List A) (i : ℕ) → length l ≤ i → get_or (pad n z l) i z ≡ z
  pad_after zero l i h = refl
  pad_after (suc n) [] zero h = refl
  pad_after (suc n) [] (suc i) h = pad_after n [] i (omega arith)
  pad_after (suc n) (x ∷ l) zero h = absurd (omega arith)
  pad_after (suc n) (x ∷ l) (suc i) h = pad_after n l i (omega arith)

-- a chain whose slots are marked stays
pub chain_keep : (m ns : List ℕ) (p : ℕ) (l : List ℕ) → ((x : ℕ) → memb x l ≡ true → on m x ≡ true) → IsChain ns p l → IsChain (keep 0 m ns) p l
chain_keep m ns p [] o h = h
chain_keep m ns p (x ∷ l) o h = (
  h.0,
  h.1,
  rw keep_length h.2,
  rw (keep_on 0 m ns x (o x (mem_here x l))) (chain_keep m ns (get_or ns x 0) l (λ y k. o y (mem_there y x l k)) h.3),
)

-- one head's xmax cleared
abbrev once : (ℕ → Bool) → ℕ → List ℕ → List ℕ
once f h xmax = cond (f (get_or xmax h 0)) xmax (set xmax h 0)

-- 0 stays 0
pub set_zero : (l : List ℕ) (h x : ℕ) → get_or l x 0 ≡ 0 → get_or (set l h 0) x 0 ≡ 0
set_zero l h x e = set_all_blank 0 (h ∷ []) l x (λ _. e)

once_zero : (f : ℕ → Bool) (h : ℕ) (xmax : List ℕ) (x : ℕ) → get_or xmax x 0 ≡ 0 → get_or (once f h xmax) x 0 ≡ 0
once_zero f h xmax x e = by (f (get_or xmax h 0)) (λ k. rw k e) (λ k. rw k (set_zero xmax h x e))

once_other : (f : ℕ → Bool) (h : ℕ) (xmax : List ℕ) (x : ℕ) → (x ≡ h → ⊥) → get_or (once f h xmax) x 0 ≡ get_or xmax x 0
once_other f h xmax x n = by (f (get_or xmax h 0)) (λ e. rw e) (λ e. rw (e, get_or-set_other xmax h x 0 0 n))

once_same : (f : ℕ → Bool) (xmax : List ℕ) (x : ℕ) → x < length xmax → f (get_or xmax x 0) ≡ false → get_or (once f x xmax) x 0 ≡ 0
once_same f xmax x lt e = rw (e, get_or-set_same xmax x 0 0 lt)

once_length : (f : ℕ → Bool) (h : ℕ) (xmax : List ℕ) → length (once f h xmax) ≡ length xmax
once_length f h xmax = by (f (get_or xmax h 0)) (λ e. rw e) (λ e. rw (e, length-set))

-- as long as it was
pub clear_length : (f : ℕ → Bool) (hs xmax : List ℕ) → length (clear f hs xmax) ≡ length xmax
clear_length f [] xmax = refl
clear_length f (h ∷ hs) xmax = clear_length f hs (once f h xmax) ∙ once_length f h xmax

-- no head's: as it was; a head's: 0, if it was 0 or unfinished
pub clear_other : (f : ℕ → Bool) (hs xmax : List ℕ) (x : ℕ) → memb x hs ≡ false → get_or (clear f hs xmax) x 0 ≡ get_or xmax x 0
clear_other f [] xmax x o = refl
clear_other f (h ∷ hs) xmax x o =
    let k = or_false (eqb x h) (memb x hs) o in
    clear_other f hs (once f h xmax) x k.1 ∙ once_other f h xmax x (eqb-false x h k.0)

clear_zero : (f : ℕ → Bool) (hs xmax : List ℕ) (x : ℕ) → get_or xmax x 0 ≡ 0 → get_or (clear f hs xmax) x 0 ≡ 0
clear_zero f [] xmax x e = e
clear_zero f (h ∷ hs) xmax x e = clear_zero f hs (once f h xmax) x (once_zero f h xmax x e)

-- a head's: 0
pub clear_here : (f : ℕ → Bool) (hs xmax : List ℕ) (x : ℕ) → memb x hs ≡ true → x < length xmax → (get_or xmax x 0 ≡ 0) ⊎ (f (get_or xmax x 0) ≡ false)
    → get_or (clear f hs xmax) x 0 ≡ 0
clear_here f [] xmax x m lt e = clash {b = false} m refl
clear_here f (h ∷ hs) xmax x m lt (inl e) = clear_zero f hs (once f h xmax) x (once_zero f h xmax x e)
clear_here f (h ∷ hs) xmax x m lt (inr n) = by (eqb x h)
    (λ e. clear_zero f hs (once f h xmax) x (rw (← (eqb-true x h e)) (once_same f xmax x lt n)))
    (λ e. let o = once_other f h xmax x (eqb-false x h e) in
    clear_here f hs (once f h xmax) x (or_true (eqb x h) (memb x hs) m (λ k. clash k e) (λ k. k)) (rw once_length lt) (inr (rw o n)))

-- where all are finished nothing is cleared
pub clear_none : (f : ℕ → Bool) → ((u : ℕ) → f u ≡ true) → (hs xmax : List ℕ) → clear f hs xmax ≡ xmax
clear_none f h [] xmax = refl
clear_none f h (x ∷ hs) xmax = rw (h (get_or xmax x 0)) (clear_none f h hs xmax)
