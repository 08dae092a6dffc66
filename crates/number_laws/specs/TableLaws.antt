-- A table of numbers, as "Numbers seen" is one: the first row that applies says what is answered. When each number is given, read off it.
use Rattle.std.specs.Prelude.{◌≡◌, refl, Bool, true, false, cond, List, [], ◌∷◌, ◌++◌, ◌↔◌, ◌⊎◌, ℕ, eqb}
use Rattle.std.proofs.Common.{sym, ◌∙◌, inl, inr, eqb-true}
use Rattle.statements.specs.Table.{Row, first_row, Reason, None}
use Rattle.basic_laws.specs.Cases.{by, and_true, none_more, none_less}
use Rattle.rules.specs.Lists.{all}
use Rattle.rules.specs.Numbers.{number_of}

-- each row's refusal has the row's number
abbrev pub same : Row → Bool
same r = eqb (number_of r.says) r.number

-- a reason speaks of all that comes before
reason_none : (n : ℕ) (before : List Bool) (rs : List Row) (d : Row) → Reason n before rs d → None before
reason_none n before [] d h = h.1
reason_none n before (r ∷ rs) d (inl h) = h.1
reason_none n before (r ∷ rs) d (inr h) = (none_less before r.when (reason_none n (before ++ r.when ∷ []) rs d h)).0

-- one row more in front
told_cons : (n : ℕ) (before : List Bool) (r : Row) (rs : List Row) (d : Row) → number_of r.says ≡ r.number → None before
    → (r.when ≡ false → (number_of (first_row rs d).says ≡ n) ↔ Reason n (before ++ r.when ∷ []) rs d)
    → (number_of (first_row (r ∷ rs) d).says ≡ n) ↔ Reason n before (r ∷ rs) d
told_cons n before r rs d e b rest = (λ h. by r.when (λ o. inl (sym (rw o at h) ∙ e, b, o)) (λ o. inr ((rest o).0 (rw o at h))), back)
  where
    back : Reason n before (r ∷ rs) d → number_of (first_row (r ∷ rs) d).says ≡ n
    back (inl h) = rw h.2 (e ∙ sym h.0)
    back (inr h) =
        let o = (none_less before r.when (reason_none n (before ++ r.when ∷ []) rs d h)).1 in
        rw o ((rest o).1 h)

-- so a number is answered exactly for one of its reasons
pub told_by : (n : ℕ) (before : List Bool) (rs : List Row) (d : Row) → all same rs ≡ true → same d ≡ true → None before
    → (number_of (first_row rs d).says ≡ n) ↔ Reason n before rs d
told_by n before [] d a z b =
    let e = eqb-true (number_of d.says) d.number z in
    (λ h. (sym h ∙ e, b), λ h. e ∙ sym h.0)
told_by n before (r ∷ rs) d a z b =
    let c = and_true (same r) (all same rs) a in
    told_cons n before r rs d (eqb-true (number_of r.says) r.number c.0) b
    (λ o. told_by n (before ++ r.when ∷ []) rs d c.1 z (none_more before r.when b o))

-- something that each row has
infixr 5 ◌▸◌
pub data Each (Q : Row → Type 0) : List Row → Type 0 where
  end : Each Q []
  ◌▸◌ : {r : Row} {rs : List Row} → Q r → Each Q rs → Each Q (r ∷ rs)

-- .. the first that applies has
pub each : (Q : Row → Type 0) (rs : List Row) (d : Row) → Each Q rs → Q d → Q (first_row rs d)
each Q _ d end z = z
each Q _ d (◌▸◌ {r = r} {rs = rs} h t) z = go r.when h (each Q rs d t z)
  where
    go : (b : Bool) → Q r → Q (first_row rs d) → Q (cond b r (first_row rs d))
    go true a c = a
    go false a c = c

-- where a row applies, a test of its number holds: P is such a test for each number
abbrev pub Says : (ℕ → Bool) → Row → Type 0
Says P r = r.when ≡ true → P r.number ≡ true

-- so it holds of the number answered, or no row applied
pub said : (P : ℕ → Bool) (rs : List Row) (d : Row) → all same rs ≡ true → Each (Says P) rs
    → ((first_row rs d).says ≡ d.says) ⊎ (P (number_of (first_row rs d).says) ≡ true)
said P _ d a end = inl refl
said P _ d a (◌▸◌ {r = r} {rs = rs} h t) =
    let c = and_true (same r) (all same rs) a in
    by r.when
    (λ o. inr (rw (o, eqb-true (number_of r.says) r.number c.0) (h o)))
    (λ o. rw o (said P rs d c.1 t))
