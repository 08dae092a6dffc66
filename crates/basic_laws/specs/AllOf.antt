-- Tests of all members of a list, and of one of them.
use Rattle.std.specs.Prelude.{◌≡◌, refl, Bool, true, false, not, ◌||◌, List, [], ◌∷◌, ◌++◌, ℕ, zero, suc, get_or, take}
use Rattle.std.proofs.lemmas.Bool.{not-false}
use Rattle.basic_laws.specs.Cases.{by, and_true, and_both, or_true, or_left, or_right, or_false}
use Rattle.rules.specs.Lists.{all, any}

-- a test that implies another
pub all_then {ℓ} : {A : Type ℓ} (f g : A → Bool) → ((a : A) → f a ≡ true → g a ≡ true) → (l : List A) → all f l ≡ true → all g l ≡ true
all_then f g h [] k = refl
all_then f g h (a ∷ l) k = let b = and_true (f a) (all f l) k in and_both (g a) (all g l) (h a b.0) (all_then f g h l b.1)

-- of two lists joined
pub all_append {ℓ} : {A : Type ℓ} (f : A → Bool) (l m : List A) → all f l ≡ true → all f m ≡ true → all f (l ++ m) ≡ true
all_append f [] m h k = k
all_append f (a ∷ l) m h k = let b = and_true (f a) (all f l) h in and_both (f a) (all f (l ++ m)) b.0 (all_append f l m b.1 k)

-- one of them: a test that implies another, and two lists joined
pub any_then {ℓ} : {A : Type ℓ} (f g : A → Bool) → ((a : A) → f a ≡ true → g a ≡ true) → (l : List A) → any f l ≡ true → any g l ≡ true
any_then f g h [] k = k
any_then f g h (a ∷ l) k = or_true (f a) (any f l) k
    (λ e. or_left (g a) (any g l) (h a e))
    (λ e. or_right (g a) (any g l) (any_then f g h l e))

pub any_append {ℓ} : {A : Type ℓ} (f : A → Bool) (l m : List A) → any f (l ++ m) ≡ (any f l || any f m)
any_append f [] m = refl
any_append f (a ∷ l) m = by (f a) (λ e. rw e) (λ e. rw e (any_append f l m))

-- where none has the one, all have the other; no failure among them
pub none_all {ℓ} : {A : Type ℓ} (f g : A → Bool) → ((a : A) → f a ≡ false → g a ≡ true) → (l : List A) → any f l ≡ false → all g l ≡ true
none_all f g h [] k = refl
none_all f g h (a ∷ l) k = let o = or_false (f a) (any f l) k in and_both (g a) (all g l) (h a o.0) (none_all f g h l o.1)

pub none_fails {ℓ} : {A : Type ℓ} (f : A → Bool) (l : List A) → any (λ a. not (f a)) l ≡ false → all f l ≡ true
none_fails f l h = none_all (λ a. not (f a)) f (λ a k. not-false (f a) k) l h

-- of one place, where the default passes too, and of a prefix
pub all_get {ℓ} : {A : Type ℓ} (f : A → Bool) (l : List A) (p : ℕ) (d : A) → all f l ≡ true → f d ≡ true → f (get_or l p d) ≡ true
all_get f [] p d h z = z
all_get f (y ∷ l) zero d h z = (and_true (f y) (all f l) h).0
all_get f (y ∷ l) (suc p) d h z = all_get f l p d (and_true (f y) (all f l) h).1 z

pub all_take {ℓ} : {A : Type ℓ} (f : A → Bool) (n : ℕ) (l : List A) → all f l ≡ true → all f (take n l) ≡ true
all_take f zero l h = refl
all_take f (suc n) [] h = refl
all_take f (suc n) (y ∷ l) h = let a = and_true (f y) (all f l) h in and_both (f y) (all f (take n l)) a.0 (all_take f n l a.1)
