-- Case splits on a test, and what a test that holds says of its parts.
use Rattle.std.specs.Prelude.{◌≡◌, refl, Bool, true, false, ◌&&◌, ◌||◌, List, [], ◌∷◌, ◌++◌, ℕ, eqb}
use Rattle.std.proofs.Common.{arith, eq-eqb}
use Rattle.rules.specs.Lists.{every, memb}
use Rattle.statements.specs.Table.{None}

-- a case split that keeps the test's equation
pub by {ℓ} : {A : Type ℓ} (b : Bool) → (b ≡ true → A) → (b ≡ false → A) → A
by true f g = f refl
by false f g = g refl

-- no test both holds and fails
pub clash : {A : Type 0} {b : Bool} → b ≡ true → b ≡ false → A
clash {A} {b} p q = absurd (let z : ◌≡◌ {A = ℕ} 0 1 = cc in omega arith)

pub or_true : (a b : Bool) {A : Type 0} → (a || b) ≡ true → (a ≡ true → A) → (b ≡ true → A) → A
or_true true b e f g = f refl
or_true false b e f g = g e

pub or_false : (a b : Bool) → (a || b) ≡ false → (a ≡ false) × (b ≡ false)
or_false true b e = (e, cc)
or_false false b e = (refl, e)

pub or_left : (a b : Bool) → a ≡ true → (a || b) ≡ true
or_left a b e = rw e

pub or_right : (a b : Bool) → b ≡ true → (a || b) ≡ true
or_right true b e = refl
or_right false b e = e

pub or_neither : (a b : Bool) → a ≡ false → b ≡ false → (a || b) ≡ false
or_neither a b p q = rw (p, q)

pub and_true : (a b : Bool) → (a && b) ≡ true → (a ≡ true) × (b ≡ true)
and_true true b e = (refl, e)
and_true false b e = (e, cc)

pub and_false : (b : Bool) → (b && false) ≡ false
and_false true = refl
and_false false = refl

pub and_both : (a b : Bool) → a ≡ true → b ≡ true → (a && b) ≡ true
and_both a b p q = rw (p, q)

-- two tests that hold together are one
pub iff : (a b : Bool) → (a ≡ true → b ≡ true) → (b ≡ true → a ≡ true) → a ≡ b
iff true b f g = cc (f refl)
iff false true f g = g refl
iff false false f g = refl

-- a shut row of tests holds where each does
pub every_cons : (b : Bool) (bs : List Bool) → every (b ∷ bs) ≡ true → (b ≡ true) × (every bs ≡ true)
unfolding every
every_cons true bs e = (refl, e)
every_cons false bs e = clash {b = false} e refl

-- .. all of them at once
abbrev pub Each : List Bool → Type 0
Each [] = Unit
Each (b ∷ bs) = (b ≡ true) × Each bs

pub every_each : (bs : List Bool) → every bs ≡ true → Each bs
every_each [] e = tt
every_each (b ∷ bs) e = let h = every_cons b bs e in (h.0, every_each bs h.1)

-- .. and back
pub every_none : every [] ≡ true
unfolding every
every_none = refl

pub cons_every : (b : Bool) (bs : List Bool) → b ≡ true → every bs ≡ true → every (b ∷ bs) ≡ true
unfolding every
cons_every b bs p q = rw p q

pub mem_here : (x : ℕ) (l : List ℕ) → memb x (x ∷ l) ≡ true
mem_here x l = rw (eq-eqb x x refl)

pub mem_there : (y x : ℕ) (l : List ℕ) → memb y l ≡ true → memb y (x ∷ l) ≡ true
mem_there y x l m = or_right (eqb y x) (memb y l) m

-- a member and a non-member differ
pub mem_ne : (y x : ℕ) (l : List ℕ) → memb y l ≡ true → memb x l ≡ false → y ≡ x → ⊥
mem_ne y x l m n e = clash m (rw e n)

pub none_more : (bs : List Bool) (b : Bool) → None bs → b ≡ false → None (bs ++ b ∷ [])
none_more [] b n e = (e, tt)
none_more (c ∷ bs) b n e = (n.0, none_more bs b n.1 e)

pub none_less : (bs : List Bool) (b : Bool) → None (bs ++ b ∷ []) → None bs × (b ≡ false)
none_less [] b n = (tt, n.0)
none_less (c ∷ bs) b n = let r = none_less bs b n.1 in ((n.0, r.0), r.1)
