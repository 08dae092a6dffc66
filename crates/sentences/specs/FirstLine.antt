-- "The first that applies": what a list of tries answers, as a table of numbers, fates and tests.
use Rattle.std.specs.Prelude.{◌≡◌, refl, Bool, true, false, not, cond, ◌&&◌, List, [], ◌∷◌, ◌++◌, map, ◌⊎◌, ℕ, eqb}
use Rattle.std.proofs.Common.{sym, ap, subst, ◌∙◌, inl, inr, eqb-true, eq-eqb}
use Rattle.std.proofs.lemmas.Bool.{eqb-false, not-true}
use Rattle.rules.specs.Lists.{all, memb}
use Rattle.rules.specs.Types.{Refusal}
use Rattle.rules.specs.Numbers.{number_of, Try, refuse, tries, is_done}
use Rattle.statements.specs.Table.{Line, Told, None}
use Rattle.basic_laws.specs.Cases.{by, clash, and_true, and_both, or_false, mem_here, mem_there, none_more, none_less}
use Rattle.basic_laws.specs.Rising.{unique}

-- the lines as tries, and the numbers that they can give
abbrev pub tries_of : List Line → List Try
tries_of ls = map (λ l. refuse l.when l.says) ls

abbrev pub numbers_of : List Line → List ℕ
numbers_of [] = 0 ∷ []
numbers_of (l ∷ ls) = l.number ∷ numbers_of ls

-- each refusal has its line's number, and no number stands twice
abbrev same : Line → Bool
same l = eqb (number_of l.says) l.number

abbrev pub numbered : List Line → Bool
numbered ls = all same ls && unique (numbers_of ls)

-- (the first line, and the rest)
numbered_cons : (l : Line) (ls : List Line) → numbered (l ∷ ls) ≡ true
    → (number_of l.says ≡ l.number) × (memb l.number (numbers_of ls) ≡ false) × (numbered ls ≡ true)
numbered_cons l ls h =
    let a = and_true (same l && all same ls) (not (memb l.number (numbers_of ls)) && unique (numbers_of ls)) h in
    let b = and_true (same l) (all same ls) a.0 in
    let c = and_true (not (memb l.number (numbers_of ls))) (unique (numbers_of ls)) a.1 in (
      eqb-true (number_of l.says) l.number b.0,
      not-true (memb l.number (numbers_of ls)) c.0,
      and_both (all same ls) (unique (numbers_of ls)) b.1 c.1,
    )

-- no other number is given
given : (ls : List Line) → numbered ls ≡ true → memb (number_of (tries (tries_of ls))) (numbers_of ls) ≡ true
given [] h = refl
given (l ∷ ls) h =
    let n = numbered_cons l ls h in
    let r = given ls n.2 in
    by l.when
    (λ e. let w : number_of (tries (tries_of (l ∷ ls))) ≡ l.number = rw e n.0 in
    subst (λ y. memb y (l.number ∷ numbers_of ls) ≡ true) (sym w) (mem_here l.number (numbers_of ls)))
    (λ e. let w : number_of (tries (tries_of (l ∷ ls))) ≡ number_of (tries (tries_of ls)) = rw e in
    subst (λ y. memb y (l.number ∷ numbers_of ls) ≡ true) (sym w) (mem_there (number_of (tries (tries_of ls))) l.number (numbers_of ls) r))

-- where the tries stand: nothing before applied, and what is left decides; or something did, and no number of those left is given
abbrev Stand : Refusal → List Bool → List Line → Type 0
Stand why before ls = (None before × (why ≡ tries (tries_of ls))) ⊎ ((None before → ⊥) × (memb (number_of why) (numbers_of ls) ≡ false))

-- so they answer as their lines say, from there on
told_from : (why : Refusal) (before : List Bool) (ls : List Line) → numbered ls ≡ true → Stand why before ls → Told why before ls
told_from why before [] h (inl s) = (λ _. s.0, λ _. ap number_of s.1)
told_from why before [] h (inr s) = (λ e. clash (rw e) s.1, λ n. absurd (s.0 n))
told_from why before (l ∷ ls) h (inr s) =
    let o = or_false (eqb (number_of why) l.number) (memb (number_of why) (numbers_of ls)) s.1 in
    let ne : number_of why ≡ l.number → ⊥ = λ e. eqb-false (number_of why) l.number o.0 e in (
      (λ e. absurd (ne e), λ n. absurd (s.0 n.0)),
      λ e. absurd (ne e),
      told_from why (before ++ l.when ∷ []) ls (numbered_cons l ls h).2 (inr (λ n. s.0 (none_less before l.when n).0, o.1)),
    )
told_from why before (l ∷ ls) h (inl s) =
    let n = numbered_cons l ls h in
    by l.when
    (λ e. let w : why ≡ l.says = s.1 ∙ rw e in
    let k : number_of why ≡ l.number = ap number_of w ∙ n.0 in (
      (λ _. (s.0, e), λ _. k),
      λ _. w,
      told_from why (before ++ l.when ∷ []) ls n.2 (inr (λ m. clash e (none_less before l.when m).1, rw k n.1)),
    ))
    (λ e. let w : why ≡ tries (tries_of ls) = s.1 ∙ rw e in
    let ne : number_of why ≡ l.number → ⊥ = λ k. clash (given ls n.2) (rw (sym (ap number_of w) ∙ k) n.1) in (
      (λ k. absurd (ne k), λ m. clash m.1 e),
      λ k. absurd (ne k),
      told_from why (before ++ l.when ∷ []) ls n.2 (inl (none_more before l.when s.0 e, w)),
    ))

-- the first that applies answers as the lines say
pub told : (ls : List Line) → numbered ls ≡ true → Told (tries (tries_of ls)) [] ls
told ls h = told_from (tries (tries_of ls)) [] ls h (inl (tt, refl))

-- where 0 is given no line applies
abbrev pub whens : List Line → List Bool
whens ls = map (λ l. l.when) ls

-- (with the tests before)
told_none : (why : Refusal) (before : List Bool) (ls : List Line) → Told why before ls → number_of why ≡ 0 → None before × None (whens ls)
told_none why before [] t e = (t.0 e, tt)
told_none why before (l ∷ ls) t e =
    let r = told_none why (before ++ l.when ∷ []) ls t.2 e in
    let n = none_less before l.when r.0 in
    (n.0, (n.1, r.1))

-- so no test of the lines holds
pub none_applies : (why : Refusal) (ls : List Line) → Told why [] ls → number_of why ≡ 0 → None (whens ls)
none_applies why ls t e = (told_none why [] ls t e).1

-- and where none applies 0 is given
none_told : (why : Refusal) (before : List Bool) (ls : List Line) → Told why before ls → None before → None (whens ls) → number_of why ≡ 0
none_told why before [] t b n = t.1 b
none_told why before (l ∷ ls) t b n = none_told why (before ++ l.when ∷ []) ls t.2 (none_more before l.when b n.0) n.1

-- so a call whose tests all fail is accepted
pub applies_none : (why : Refusal) (ls : List Line) → Told why [] ls → None (whens ls) → number_of why ≡ 0
applies_none why ls t n = none_told why [] ls t tt n

-- what a call answers: its refusal; the one value where it is refused, the other where it is not
module _ {A : Type 0} (refusal_of : A → Refusal) (why : Refusal) (yes no : A) (y : refusal_of yes ≡ why) (n : refusal_of no ≡ why) where
  pub refusal_is : refusal_of (cond (is_done why) yes no) ≡ why
  refusal_is = by (is_done why) (λ e. rw e y) (λ e. rw e n)

  -- refused
  pub refused : (number_of (refusal_of (cond (is_done why) yes no)) ≡ 0 → ⊥) → cond (is_done why) yes no ≡ no
  refused h = by (is_done why) (λ e. absurd (h (rw (refusal_is) (eqb-true (number_of why) 0 e)))) (λ e. rw e)

  -- accepted
  pub accepted : number_of (refusal_of (cond (is_done why) yes no)) ≡ 0 → cond (is_done why) yes no ≡ yes
  accepted h = rw (eq-eqb (number_of why) 0 (rw (refusal_is) at h))

-- a call by its number: accepted, or refused
pub either : {A : Type 0} (n : ℕ) → (n ≡ 0 → A) → ((n ≡ 0 → ⊥) → A) → A
either n f g = by (eqb n 0) (λ e. f (eqb-true n 0 e)) (λ e. g (eqb-false n 0 e))
