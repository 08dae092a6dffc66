-- Lists of which each member differs from all later ones.
use Rattle.std.specs.Prelude.{◌≡◌, refl, Bool, true, false, not, ◌&&◌, ◌||◌, List, [], ◌∷◌, ℕ, ◌+◌, ◌<◌, length, get_or, drop, ltb, eqb}
use Rattle.std.proofs.Common.{ap, ◌∙◌, drop-cons, add-one}
use Rattle.std.specs.List.{list_all}
use Rattle.records.specs.Limits.{stripes}
use Rattle.rules.specs.Types.{Write, IndexRead, Fault}
use Rattle.rules.specs.Lists.{all}
use Rattle.rules.specs.Fit.{writes_apart, stripes_apart}
use Rattle.rules.specs.Faults.{steps_apart}
use Rattle.basic_laws.specs.Members.{pairs}
use Rattle.basic_laws.specs.Chains.{all_of_list}

-- two writes with different new pointers, and one base if they are of one row
abbrev pub writes_differ : Write → Write → Bool
writes_differ w v = not (eqb v.new.0 w.new.0) && (not (eqb v.row.0 w.row.0) || eqb v.base.0 w.base.0)

-- two index reads of different stripes
abbrev pub stripes_differ : IndexRead → IndexRead → Bool
stripes_differ r q = not (eqb q.stripe r.stripe)

-- two faults at different steps
abbrev pub steps_differ : Fault → Fault → Bool
steps_differ f g = not (eqb g.step f.step)

pub writes_apart_law : (l : List Write) → pairs writes_differ l ≡ writes_apart l
writes_apart_law [] = refl
writes_apart_law (w ∷ l) = ap (λ b. all (writes_differ w) l && b) (writes_apart_law l)

pub steps_apart_law : (l : List Fault) → pairs steps_differ l ≡ steps_apart l
steps_apart_law [] = refl
steps_apart_law (f ∷ l) = ap (λ b. all (steps_differ f) l && b) (steps_apart_law l)

-- a stripe that there is
abbrev pub stripe_fit : IndexRead → Bool
stripe_fit r = ltb r.stripe stripes

pub stripes_apart_law : (l : List IndexRead) → (list_all stripe_fit l && pairs stripes_differ l) ≡ stripes_apart l
stripes_apart_law l = rw (all_of_list stripe_fit l) (go l)
  where
    swap : (a b r s x : Bool) → (b && s) ≡ x → ((a && b) && (r && s)) ≡ (a && (r && x))
    swap false b r s x e = refl
    swap true true true s x e = e
    swap true true false s x e = refl
    swap true false true s x e = e
    swap true false false s x e = refl

    go : (l : List IndexRead) → (all stripe_fit l && pairs stripes_differ l) ≡ stripes_apart l
    go [] = refl
    go (r ∷ l) = swap (stripe_fit r) (all stripe_fit l) (all (stripes_differ r) l) (pairs stripes_differ l) (stripes_apart l) (go l)

-- the one at i, e, differs from all later ones: the rest decides
pub pairs_pass : {A : Type 0} (d : A → A → Bool) (l : List A) (i : ℕ) (e : A) {w : Bool} → i < length l → e ≡ get_or l i e
    → pairs d (drop i l) ≡ w → list_all (d e) (drop (i + 1) l) ≡ true → pairs d (drop (i + 1) l) ≡ w
pairs_pass d l i e h at left t =
    let first : drop i l ≡ e ∷ drop (i + 1) l = drop-cons l i e h ∙ rw (← at, add-one) in
    rw (first, ← all_of_list (d e) (drop (i + 1) l), t) at left
