-- The versions of a chain: what they depend on, and what is left of them once an unfinished first one is gone.
use Rattle.std.specs.Prelude.{◌≡◌, refl, Bool, true, false, cond, List, [], ◌∷◌, ◌⊎◌, ℕ, get_or, eqb}
use Rattle.std.proofs.Common.{sym, subst, ◌∙◌, inl, inr, ⊎_elim, arith, eqb-true, ne_eqb}
use Rattle.rules.specs.Lists.{memb, first_of}
use Rattle.rules.specs.Recovery.{trim_head}
use Rattle.basic_laws.specs.Cases.{by, clash, or_true, mem_here, mem_there}
use Rattle.basic_laws.specs.Chain.{IsChain}
use Rattle.basic_laws.specs.Check.{Tail, Good, plain, ahead}

-- tails agree where their slots do, and what was finished still is
pub tail_cong : (xmin xmax xmin' xmax' : List ℕ) (f f' : ℕ → Bool) (v : ℕ) (l : List ℕ)
    → ((x : ℕ) → memb x l ≡ true → get_or xmin' x 0 ≡ get_or xmin x 0)
    → ((x : ℕ) → memb x l ≡ true → get_or xmax' x 0 ≡ get_or xmax x 0)
    → ((x : ℕ) → memb x l ≡ true → f (get_or xmin x 0) ≡ true → f' (get_or xmin x 0) ≡ true)
    → Tail xmin xmax f v l → Tail xmin' xmax' f' v l
tail_cong xmin xmax xmin' xmax' f f' v [] a b g t = tt
tail_cong xmin xmax xmin' xmax' f f' v (x ∷ l) a b g t = (
  rw (a x (mem_here x l)) (g x (mem_here x l) t.0),
  b x (mem_here x l) ∙ t.1,
  rw (a x (mem_here x l))
      (tail_cong xmin xmax xmin' xmax' f f' (get_or xmin x 0) l (λ y m. a y (mem_there y x l m)) (λ y m. b y (mem_there y x l m))
      (λ y m. g y (mem_there y x l m)) t.2),
)

-- so do a good chain's versions
pub good_cong : (xmin xmax xmin' xmax' : List ℕ) (f : ℕ → Bool) (l : List ℕ)
    → ((x : ℕ) → memb x l ≡ true → get_or xmin' x 0 ≡ get_or xmin x 0)
    → ((x : ℕ) → memb x l ≡ true → get_or xmax' x 0 ≡ get_or xmax x 0)
    → Good xmin xmax f l → Good xmin' xmax' f l
good_cong xmin xmax xmin' xmax' f l a b (plain v o t) = plain v o (tail_cong xmin xmax xmin' xmax' f f v l a b (λ x m e. e) t)
good_cong xmin xmax xmin' xmax' f _ a b (ahead {x = x} {l = l} v n e o t) =
    let q = a x (mem_here x l) in
    ahead {x = x} v (rw q n) (b x (mem_here x l) ∙ e) (⊎_elim (λ k. inl k) (λ k. inr (k ∙ sym q)) o)
    (tail_cong xmin xmax xmin' xmax' f f v l (λ y m. a y (mem_there y x l m)) (λ y m. b y (mem_there y x l m)) (λ y m e. e) t)

-- a chain's first slot, 0 if it is empty
abbrev pub first_slot : List ℕ → ℕ
first_slot [] = 0
first_slot (x ∷ l) = x

-- where a chain starts
pub chain_starts : (ns : List ℕ) (p : ℕ) (l : List ℕ) → IsChain ns p l → p ≡ first_slot l
chain_starts ns p [] h = h
chain_starts ns p (x ∷ l) h = h.0

-- the chain without an unfinished first version
abbrev pub trim : (ℕ → Bool) → List ℕ → List ℕ → List ℕ
trim f xmin [] = []
trim f xmin (x ∷ l) = cond (f (get_or xmin x 0)) (x ∷ l) l

-- what a good chain leaves: finished versions, of which the first has xmax 0 or an unfinished one
pub trim_tail : (xmin xmax : List ℕ) (f : ℕ → Bool) (l : List ℕ) → Good xmin xmax f l → (v : ℕ) × ((v ≡ 0) ⊎ (f v ≡ false)) × Tail xmin xmax f v (trim f xmin l)
trim_tail xmin xmax f [] (plain v o h) = (v, o, h)
trim_tail xmin xmax f (x ∷ l) (plain v o h) = (v, o, rw h.0 h)
trim_tail xmin xmax f _ (ahead {x = x} v n z o h) = (v, ⊎_elim (λ e. inl e) (λ e. inr (rw e n)) o, rw n h)

-- the first finished version of finished versions is the first
pub first_tail : (xmin xmax : List ℕ) (f : ℕ → Bool) (v : ℕ) (l : List ℕ) → Tail xmin xmax f v l → first_of (λ p. f (get_or xmin p 0)) l ≡ first_slot l
first_tail xmin xmax f v [] t = refl
first_tail xmin xmax f v (x ∷ l) t = rw t.0

-- and of a good chain it is the first that is left
pub first_trim : (xmin xmax : List ℕ) (f : ℕ → Bool) (l : List ℕ) → Good xmin xmax f l → first_of (λ p. f (get_or xmin p 0)) l ≡ first_slot (trim f xmin l)
first_trim xmin xmax f [] (plain v o h) = refl
first_trim xmin xmax f (x ∷ l) (plain v o h) = rw h.0
first_trim xmin xmax f _ (ahead {x = x} {l = l} v n z o h) = rw n (first_tail xmin xmax f v l h)

-- its slots are slots of the chain
pub trim_mem : (f : ℕ → Bool) (xmin l : List ℕ) (y : ℕ) → memb y (trim f xmin l) ≡ true → memb y l ≡ true
trim_mem f xmin [] y m = m
trim_mem f xmin (x ∷ l) y m = by (f (get_or xmin x 0)) (λ e. rw e at m) (λ e. mem_there y x l (rw e at m))

-- it is the chain from the trimmed head
pub trim_chain : (f : ℕ → Bool) (xmin next : List ℕ) (p : ℕ) (l : List ℕ) → IsChain next p l → IsChain next (trim_head f xmin next p) (trim f xmin l)
trim_chain f xmin next p [] h = rw h
trim_chain f xmin next p (x ∷ l) h =
    let nz = ne_eqb x 0 (omega (arith, h.1)) in
    by (f (get_or xmin x 0))
    (λ e. rw (h.0, nz, e) (refl, h.1, h.2, h.3))
    (λ e. rw (h.0, nz, e) h.3)

-- the first that passes: told by the tests of the members; a member, if there is one
pub first_same : (g h : ℕ → Bool) (l : List ℕ) → ((x : ℕ) → memb x l ≡ true → g x ≡ h x) → first_of g l ≡ first_of h l
first_same g h [] e = refl
first_same g h (x ∷ l) e = rw (e x (mem_here x l), first_same g h l (λ y m. e y (mem_there y x l m)))

-- it is 0 or a member
pub first_in : (g : ℕ → Bool) (l : List ℕ) → (first_of g l ≡ 0) ⊎ (memb (first_of g l) l ≡ true)
first_in g [] = inl refl
first_in g (x ∷ l) =
    let r = first_in g l in
    by (g x)
    (λ e. let w : first_of g (x ∷ l) ≡ x = rw e in subst (λ y. (y ≡ 0) ⊎ (memb y (x ∷ l) ≡ true)) (sym w) (inr (mem_here x l)))
    (λ e. let w : first_of g (x ∷ l) ≡ first_of g l = rw e in
    subst (λ y. (y ≡ 0) ⊎ (memb y (x ∷ l) ≡ true)) (sym w) (⊎_elim (λ k. inl k) (λ k. inr (mem_there (first_of g l) x l k)) r))

-- a good chain whose txids are all finished rests
pub good_rests : (xmin xmax : List ℕ) (f : ℕ → Bool) (l : List ℕ) → ((x : ℕ) → memb x l ≡ true → f (get_or xmin x 0) ≡ true)
    → ((x : ℕ) → memb x l ≡ true → f (get_or xmax x 0) ≡ true)
    → Good xmin xmax f l → Tail xmin xmax f 0 l
good_rests xmin xmax f [] a b (plain v o t) = tt
good_rests xmin xmax f (x ∷ l) a b (plain v o t) = (t.0, t.1 ∙ ⊎_elim (λ e. e) (λ n. clash (rw t.1 at (b x (mem_here x l))) n) o, t.2)
good_rests xmin xmax f _ a b (ahead {x = x} {l = l} v n e o t) = clash (a x (mem_here x l)) n

-- a good chain stays so where its txids stand as they stood
pub good_fin : (xmin xmax : List ℕ) (f f' : ℕ → Bool) (l : List ℕ) → ((x : ℕ) → memb x l ≡ true → f' (get_or xmin x 0) ≡ f (get_or xmin x 0))
    → ((x : ℕ) → memb x l ≡ true → f' (get_or xmax x 0) ≡ f (get_or xmax x 0))
    → Good xmin xmax f l → Good xmin xmax f' l
good_fin xmin xmax f f' [] a b (plain v o t) = plain 0 (inl refl) tt
good_fin xmin xmax f f' (x ∷ l) a b (plain v o t) =
    plain v (⊎_elim (λ e. inl e) (λ n. inr (rw t.1 at (b x (mem_here x l)) ∙ n)) o)
    (tail_cong xmin xmax xmin xmax f f' v (x ∷ l) (λ y m. refl) (λ y m. refl) (λ y m e. a y m ∙ e) t)
good_fin xmin xmax f f' _ a b (ahead {x = x} {l = l} v n e o t) =
    ahead {x = x} v (a x (mem_here x l) ∙ n) e o (tail_cong xmin xmax xmin xmax f f' v l (λ y m. refl) (λ y m. refl) (λ y m k. a y (mem_there y x l m) ∙ k) t)

-- the txids of finished versions, of which the first has a finished xmax, are finished
pub tail_finished : (xmin xmax : List ℕ) (f : ℕ → Bool) (v : ℕ) (l : List ℕ) → f v ≡ true → Tail xmin xmax f v l → (y : ℕ) → memb y l ≡ true
    → (f (get_or xmin y 0) ≡ true) × (f (get_or xmax y 0) ≡ true)
tail_finished xmin xmax f v [] d t y m = clash {b = false} m refl
tail_finished xmin xmax f v (x ∷ l) d t y m = or_true (eqb y x) (memb y l) m
    (λ e. rw (eqb-true y x e) (t.0, rw t.1 d))
    (λ e. tail_finished xmin xmax f (get_or xmin x 0) l t.0 t.2 y e)
