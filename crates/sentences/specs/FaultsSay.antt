-- "Steps and faults": which faults of a schedule strike.
use Rattle.std.specs.Prelude.{◌≡◌, refl, true, not, List, [], ◌∷◌, ◌⊎◌, ℕ, eqb}
use Rattle.std.proofs.Common.{sym, ap, subst, ◌∙◌, inl, inr, ⊎_elim, eqb-true, eq-eqb}
use Rattle.std.proofs.lemmas.Bool.{not-true}
use Rattle.basic_laws.specs.Cases.{by, clash, and_true}
use Rattle.records.specs.Zero.{no_fault}
use Rattle.rules.specs.Lists.{all}
use Rattle.rules.specs.Types.{Fault}
use Rattle.rules.specs.Faults.{allowed, steps_apart, faults_of, schedule_fit, fault_at}
use Rattle.rules.specs.Commit.{strikes, count}
use Rattle.statements.specs.Words.{Some}
use Rattle.statements.specs.FaultWords.{LettersSay, FaultsSay}

-- some member has it, and so something weaker
some_then : {A : Type 0} {P R : A → Type 0} (l : List A) → ((a : A) → P a → R a) → Some P l → Some R l
some_then (a ∷ l) f (inl h) = inl (f a h)
some_then (a ∷ l) f (inr h) = inr (some_then l f h)
some_then [] f h = absurd h

-- where no later fault is at the step, none of them is the one looked for
apart_none : (f : Fault) (n : ℕ) (P : Fault → Type 0) (fs : List Fault) → all (λ g. not (eqb g.step f.step)) fs ≡ true → f.step ≡ n
    → Some (λ g. (g.step ≡ n) × P g) fs → ⊥
apart_none f n P [] t e h = h
apart_none f n P (g ∷ fs) t e (inl h) =
    clash (eq-eqb g.step f.step (h.0 ∙ sym e)) (not-true (eqb g.step f.step) (and_true _ (all (λ g. not (eqb g.step f.step)) fs) t).0)
apart_none f n P (g ∷ fs) t e (inr h) = apart_none f n P fs (and_true (not (eqb g.step f.step)) _ t).1 e h

-- the fault at a step has what the fault of that step has
found : (n : ℕ) (P : Fault → Type 0) (fs : List Fault) → steps_apart fs ≡ true → Some (λ f. (f.step ≡ n) × P f) fs → P (fault_at n fs)
found n P [] t h = absurd h
found n P (f ∷ fs) t h =
    let a = and_true (all (λ g. not (eqb g.step f.step)) fs) (steps_apart fs) t in
    by (eqb f.step n)
    (λ e. rw e (⊎_elim (λ g. g.1) (λ g. absurd (apart_none f n P fs a.0 (eqb-true f.step n e) g)) h))
    (λ e. rw e (⊎_elim (λ g. clash (eq-eqb f.step n g.0) e) (found n P fs a.1) h))

-- there is none, or it is one of them
finds : (n : ℕ) (fs : List Fault) → (fault_at n fs ≡ no_fault) ⊎ Some (λ f. (f.step ≡ n) × (f ≡ fault_at n fs)) fs
finds n [] = inl refl
finds n (f ∷ fs) = by (eqb f.step n)
    (λ e. rw e (inr (inl (eqb-true f.step n e, refl))))
    (λ e. let w : fault_at n (f ∷ fs) ≡ fault_at n fs = rw e in
    subst (λ y. (y ≡ no_fault) ⊎ Some (λ g. (g.step ≡ n) × (g ≡ y)) (f ∷ fs)) (sym w) (⊎_elim (λ g. inl g) (λ g. inr (inr g)) (finds n fs)))

-- "any fault strikes .., and never at a step not reached"; "k after k stores"
pub faults_say : FaultsSay
unfolding schedule_fit strikes count
faults_say S x logged plan fit =
    let fs = faults_of plan in
    let apart = (and_true (all allowed fs) (steps_apart fs) fit).1 in
    record {
      letter = λ n c nz. (
        λ h. let e = eqb-true (fault_at n fs).letter c h in
            ⊎_elim (λ g. absurd (nz (sym e ∙ ap (λ (f : Fault). f.letter) g)))
            (some_then fs (λ f g. (g.0, ap (λ (h : Fault). h.letter) g.1 ∙ e))) (finds n fs),
        λ h. eq-eqb (fault_at n fs).letter c (found n (λ f. f.letter ≡ c) fs apart h),
      );
      k = λ n m h. found n (λ f. f.k ≡ m) fs apart h;
      none = λ n no. ⊎_elim (λ g. ap (λ (f : Fault). f.k) g) (λ g. absurd (no (some_then fs (λ f h. h.0) g))) (finds n fs);
    }

-- the letters
pub letters_say : LettersSay
letters_say = (refl, refl, refl, refl, refl)
