-- Puts of some kinds alone, and the fields that they leave.
use Rattle.std.specs.Prelude.{◌≡◌, refl, Bool, true, false, cond, List, [], ◌∷◌, ◌++◌, map, ℕ, zero, suc, take, eqb}
use Rattle.std.proofs.Common.{◌∙◌, eqb-true}
use Rattle.rules.specs.Types.{Store}
use Rattle.rules.specs.Lists.{all, memb}
use Rattle.rules.specs.Puts.{Put, k_head, k_free, k_xmin, k_next, k_key, is, apply, apply_all}
use Rattle.basic_laws.specs.Cases.{by, clash, and_true, and_both}

abbrev pub only : List ℕ → List Put → Bool
only ks ps = all (λ p. memb p.kind ks) ps

pub only_both : (ks : List ℕ) (ps qs : List Put) → only ks ps ≡ true → only ks qs ≡ true → only ks (ps ++ qs) ≡ true
only_both ks [] qs h k = k
only_both ks (p ∷ ps) qs h k =
    let a = and_true (memb p.kind ks) (only ks ps) h in and_both (memb p.kind ks) (only ks (ps ++ qs)) a.0 (only_both ks ps qs a.1 k)

-- one put for each number of a list
pub only_map {ℓ} : {A : Type ℓ} (ks : List ℕ) (f : A → Put) (l : List A) → ((a : A) → memb (f a).kind ks ≡ true) → only ks (map f l) ≡ true
only_map ks f [] h = refl
only_map ks f (a ∷ l) h = and_both (memb (f a).kind ks) (only ks (map f l)) (h a) (only_map ks f l h)

pub only_take : (ks : List ℕ) (n : ℕ) (ps : List Put) → only ks ps ≡ true → only ks (take n ps) ≡ true
only_take ks zero ps h = refl
only_take ks (suc n) [] h = refl
only_take ks (suc n) (p ∷ ps) h =
    let a = and_true (memb p.kind ks) (only ks ps) h in
    and_both (memb p.kind ks) (only ks (take n ps)) a.0 (only_take ks n ps a.1)

pub only_if : (ks : List ℕ) (b : Bool) (ps qs : List Put) → only ks ps ≡ true → only ks qs ≡ true → only ks (cond b ps qs) ≡ true
only_if ks true ps qs h k = h
only_if ks false ps qs h k = k

-- what each such put leaves, all of them leave
pub kept {ℓ} : {A : Type ℓ} (F : Store → A) (ks : List ℕ) → ((p : Put) (S : Store) → memb p.kind ks ≡ true → F (apply p S) ≡ F S)
    → (ps : List Put) (S : Store) → only ks ps ≡ true → F (apply_all ps S) ≡ F S
kept F ks h [] S o = refl
kept F ks h (p ∷ ps) S o =
    let a = and_true (memb p.kind ks) (only ks ps) o in kept F ks h ps (apply p S) a.1 ∙ h p S a.0

-- a put of some kinds is of no other
pub is_not : (ks : List ℕ) (k : ℕ) → memb k ks ≡ false → (p : Put) → memb p.kind ks ≡ true → is p k ≡ false
is_not ks k n p m = by (eqb p.kind k) (λ e. clash m (rw (eqb-true p.kind k e) n)) (λ e. e)

module _ (ks : List ℕ) where
  pub heads_kept : memb k_head ks ≡ false → (ps : List Put) (S : Store) → only ks ps ≡ true → (apply_all ps S).heads ≡ S.heads
  heads_kept n = kept (λ S. S.heads) ks (λ p S m. rw (is_not ks k_head n p m))

  -- a slot's field is changed by a free and by a put of its own
  module _ (n : memb k_free ks ≡ false) where
    pub xmin_kept : memb k_xmin ks ≡ false → (ps : List Put) (S : Store) → only ks ps ≡ true → (apply_all ps S).xmin ≡ S.xmin
    xmin_kept k = kept (λ S. S.xmin) ks (λ p S m. rw (is_not ks k_free n p m, is_not ks k_xmin k p m))

    pub next_kept : memb k_next ks ≡ false → (ps : List Put) (S : Store) → only ks ps ≡ true → (apply_all ps S).next ≡ S.next
    next_kept k = kept (λ S. S.next) ks (λ p S m. rw (is_not ks k_free n p m, is_not ks k_next k p m))

    pub key_kept : memb k_key ks ≡ false → (ps : List Put) (S : Store) → only ks ps ≡ true → (apply_all ps S).key ≡ S.key
    key_kept k = kept (λ S. S.key) ks (λ p S m. rw (is_not ks k_free n p m, is_not ks k_key k p m))

    pub has_kept : memb k_key ks ≡ false → (ps : List Put) (S : Store) → only ks ps ≡ true → (apply_all ps S).has ≡ S.has
    has_kept k = kept (λ S. S.has) ks (λ p S m. rw (is_not ks k_free n p m, is_not ks k_key k p m))
