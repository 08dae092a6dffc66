-- Tests of all members of a list, and of the blank places after it.
use Rattle.std.specs.Prelude.{◌≡◌, refl, Bool, true, ◌&&◌, List, [], ◌∷◌, ◌++◌, ℕ, zero, suc, length, drop}
use Rattle.rules.specs.Lists.{all, pad}
use Rattle.basic_laws.specs.Cases.{and_true, and_both}
use Rattle.basic_laws.specs.AllOf.{all_append}

-- two tests of all
pub all_both : {A : Type 0} (f g : A → Bool) (l : List A) → all f l ≡ true → all g l ≡ true → all (λ x. f x && g x) l ≡ true
all_both f g [] h k = refl
all_both f g (x ∷ l) h k =
    let a = and_true (f x) (all f l) h in
    let b = and_true (g x) (all g l) k in
    rw (a.0, b.0) (all_both f g l a.1 b.1)

-- one member more
pub all_more : {A : Type 0} (f : A → Bool) (l : List A) (x : A) → all f l ≡ true → f x ≡ true → all f (l ++ x ∷ []) ≡ true
all_more f l x h k = all_append f l (x ∷ []) h (rw k)

-- a member in the middle
pub all_mid : {A : Type 0} (f : A → Bool) (before : List A) (x : A) (after : List A) → all f (before ++ x ∷ after) ≡ true → f x ≡ true
all_mid f [] x after h = (and_true (f x) (all f after) h).0
all_mid f (y ∷ before) x after h = all_mid f before x after (and_true (f y) (all f (before ++ x ∷ after)) h).1

-- a list laid out in an array: a test that a blank passes holds of the unused places
pub drop_pad : {A : Type 0} (z : A) (f : A → Bool) → f z ≡ true → (n : ℕ) (l : List A) → all f (drop (length l) (pad n z l)) ≡ true
drop_pad z f b zero [] = refl
drop_pad z f b (suc n) [] = and_both (f z) (all f (pad n z [])) b (drop_pad z f b n [])
drop_pad z f b zero (x ∷ l) = refl
drop_pad z f b (suc n) (x ∷ l) = drop_pad z f b n l
