-- What the test of a chain's versions says.
use Rattle.std.specs.Prelude.{◌≡◌, refl, Bool, true, false, not, cond, ◌&&◌, ◌||◌, List, [], ◌∷◌, ◌⊎◌, ℕ, get_or, eqb}
use Rattle.std.proofs.Common.{◌∙◌, inl, inr, ⊎_elim, eqb-true, eq-eqb}
use Rattle.std.proofs.lemmas.Bool.{not-true}
use Rattle.rules.specs.Admitted.{tail_ok, next_ok, chain_ok}
use Rattle.basic_laws.specs.Cases.{and_true, and_both, or_true, or_right}

-- finished versions, of which the first has xmax v, and each other the xmin of the one before it
abbrev pub Tail : List ℕ → List ℕ → (ℕ → Bool) → ℕ → List ℕ → Type 0
Tail xmin xmax f v [] = Unit {0}
Tail xmin xmax f v (x ∷ l) = (f (get_or xmin x 0) ≡ true) × (get_or xmax x 0 ≡ v) × Tail xmin xmax f (get_or xmin x 0) l

-- a chain of a repairable store
pub data Good (xmin xmax : List ℕ) (f : ℕ → Bool) : List ℕ → Type 0 where
  plain : {l : List ℕ} (v : ℕ) → (v ≡ 0) ⊎ (f v ≡ false) → Tail xmin xmax f v l → Good xmin xmax f l
  ahead : {x : ℕ} {l : List ℕ} (v : ℕ) → f (get_or xmin x 0) ≡ false → get_or xmax x 0 ≡ 0 → (v ≡ 0) ⊎ (v ≡ get_or xmin x 0) → Tail xmin xmax f v l
      → Good xmin xmax f (x ∷ l)

-- the tests say so, and back
pub tail_ok_law : (xmin xmax : List ℕ) (f : ℕ → Bool) (v : ℕ) (l : List ℕ) → tail_ok xmin xmax f v l ≡ true → Tail xmin xmax f v l
tail_ok_law xmin xmax f v [] h = tt
tail_ok_law xmin xmax f v (x ∷ l) h =
    let a = and_true (f (get_or xmin x 0)) (eqb (get_or xmax x 0) v && tail_ok xmin xmax f (get_or xmin x 0) l) h in
    let b = and_true (eqb (get_or xmax x 0) v) (tail_ok xmin xmax f (get_or xmin x 0) l) a.1 in
    (a.0, eqb-true (get_or xmax x 0) v b.0, tail_ok_law xmin xmax f (get_or xmin x 0) l b.1)

pub ok_tail : (xmin xmax : List ℕ) (f : ℕ → Bool) (v : ℕ) (l : List ℕ) → Tail xmin xmax f v l → tail_ok xmin xmax f v l ≡ true
ok_tail xmin xmax f v [] t = refl
ok_tail xmin xmax f v (x ∷ l) t = rw (t.0, eq-eqb (get_or xmax x 0) v t.1, ok_tail xmin xmax f (get_or xmin x 0) l t.2)

pub chain_ok_law : (xmin xmax : List ℕ) (f : ℕ → Bool) (l : List ℕ) → chain_ok xmin xmax f l ≡ true → Good xmin xmax f l
chain_ok_law xmin xmax f [] h = plain 0 (inl refl) tt
chain_ok_law xmin xmax f (x ∷ l) h = at (f (get_or xmin x 0)) refl h
  where
    go : f (get_or xmin x 0) ≡ false → get_or xmax x 0 ≡ 0 → (m : List ℕ) → next_ok xmin xmax f (get_or xmin x 0) m ≡ true → Good xmin xmax f (x ∷ m)
    go e z [] h = ahead 0 e z (inl refl) tt
    go e z (y ∷ m) h =
        let a = and_true (eqb (get_or xmax y 0) 0 || eqb (get_or xmax y 0) (get_or xmin x 0)) (tail_ok xmin xmax f (get_or xmax y 0) (y ∷ m)) h in
        ahead (get_or xmax y 0) e z
        (or_true (eqb (get_or xmax y 0) 0) (eqb (get_or xmax y 0) (get_or xmin x 0)) a.0 (λ k. inl (eqb-true (get_or xmax y 0) 0 k))
        (λ k. inr (eqb-true (get_or xmax y 0) (get_or xmin x 0) k)))
        (tail_ok_law xmin xmax f (get_or xmax y 0) (y ∷ m) a.1)

    at : (b : Bool) → f (get_or xmin x 0) ≡ b
        → cond b ((eqb (get_or xmax x 0) 0 || not (f (get_or xmax x 0))) && tail_ok xmin xmax f (get_or xmax x 0) (x ∷ l))
        (eqb (get_or xmax x 0) 0 && next_ok xmin xmax f (get_or xmin x 0) l)
        ≡ true
        → Good xmin xmax f (x ∷ l)
    at true e h =
        let a = and_true (eqb (get_or xmax x 0) 0 || not (f (get_or xmax x 0))) (tail_ok xmin xmax f (get_or xmax x 0) (x ∷ l)) h in
        plain (get_or xmax x 0)
        (or_true (eqb (get_or xmax x 0) 0) (not (f (get_or xmax x 0))) a.0 (λ k. inl (eqb-true (get_or xmax x 0) 0 k))
        (λ k. inr (not-true (f (get_or xmax x 0)) k)))
        (tail_ok_law xmin xmax f (get_or xmax x 0) (x ∷ l) a.1)
    at false e h =
        let a = and_true (eqb (get_or xmax x 0) 0) (next_ok xmin xmax f (get_or xmin x 0) l) h in
        go e (eqb-true (get_or xmax x 0) 0 a.0) l a.1

pub ok_chain : (xmin xmax : List ℕ) (f : ℕ → Bool) (l : List ℕ) → Good xmin xmax f l → chain_ok xmin xmax f l ≡ true
ok_chain xmin xmax f [] (plain v o t) = refl
ok_chain xmin xmax f (x ∷ l) (plain v o t) =
    rw (t.0, ok_tail xmin xmax f (get_or xmin x 0) l t.2, t.1, eq-eqb v v refl) (⊎_elim (λ z. rw (eq-eqb v 0 z)) (λ z. rw z (both (eqb v 0))) o)
  where
    both : (b : Bool) → ((b || true) && true) ≡ true
    both true = refl
    both false = refl
ok_chain xmin xmax f _ (ahead {x = x} {l = l} v e z o t) = rw (e, eq-eqb (get_or xmax x 0) 0 z) (go l t)
  where
    go : (m : List ℕ) → Tail xmin xmax f v m → next_ok xmin xmax f (get_or xmin x 0) m ≡ true
    go [] t = refl
    go (y ∷ m) t = and_both (eqb (get_or xmax y 0) 0 || eqb (get_or xmax y 0) (get_or xmin x 0)) (tail_ok xmin xmax f (get_or xmax y 0) (y ∷ m))
        (⊎_elim (λ k. rw (eq-eqb (get_or xmax y 0) 0 (t.1 ∙ k)))
        (λ k. or_right (eqb (get_or xmax y 0) 0) (eqb (get_or xmax y 0) (get_or xmin x 0)) (eq-eqb (get_or xmax y 0) (get_or xmin x 0) (t.1 ∙ k))) o)
        (ok_tail xmin xmax f (get_or xmax y 0) (y ∷ m) (t.0, refl, t.2))
