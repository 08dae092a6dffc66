-- Chains: a chain is a list that is checked, and the definition by fuel computes it.
use Rattle.std.specs.Prelude.{◌≡◌, refl, true, false, List, [], ◌∷◌, ℕ, zero, suc, ◌≤◌, ◌<◌, length, get_or, eqb}
use Rattle.std.proofs.Common.{ap, sym, subst, arith, eqb-true}
use Rattle.rules.specs.Lists.{memb}
use Rattle.rules.specs.Chains.{chain_from}
use Rattle.basic_laws.specs.Cases.{by, clash, or_true, mem_here, mem_there}

-- the list starts at p, leads through slots and ends at 0
abbrev pub IsChain : List ℕ → ℕ → List ℕ → Type 0
IsChain ns p [] = p ≡ 0
IsChain ns p (x ∷ l) = (p ≡ x) × (0 < x) × (x < length ns) × IsChain ns (get_or ns x 0) l

-- a chain whose slots keep their next
pub chain_near : (ns ms : List ℕ) (p : ℕ) (l : List ℕ) → length ms ≡ length ns
    → ((x : ℕ) → memb x l ≡ true → get_or ms x 0 ≡ get_or ns x 0) → IsChain ns p l → IsChain ms p l
chain_near ns ms p [] e h c = c
chain_near ns ms p (x ∷ l) e h c = (
  c.0,
  c.1,
  omega (arith, c.2),
  rw (h x (mem_here x l)) (chain_near ns ms (get_or ns x 0) l e (λ y m. h y (mem_there y x l m)) c.3),
)

-- a head moved to a slot whose next is the old head: the chain grows by that slot
pub chain_push : (ns : List ℕ) (n p : ℕ) (l : List ℕ) → 0 < n → n < length ns → get_or ns n 0 ≡ p → IsChain ns p l → IsChain ns n (n ∷ l)
chain_push ns n p l pos lt e h = (refl, pos, lt, rw e h)

-- one chain from one start
pub chain_one : (ns : List ℕ) (p q : ℕ) (l m : List ℕ) → p ≡ q → IsChain ns p l → IsChain ns q m → l ≡ m
chain_one ns p q [] [] e h k = refl
chain_one ns p q [] (y ∷ m) e h k = absurd (omega (arith, k.0, k.1))
chain_one ns p q (x ∷ l) [] e h k = absurd (omega (arith, h.0, h.1))
chain_one ns p q (x ∷ l) (y ∷ m) e h k =
    let xy : x ≡ y = cc (h.0, k.0, e) in
    let r : l ≡ m = chain_one ns (get_or ns x 0) (get_or ns y 0) l m (rw xy) h.3 k.3 in
    cc

-- the fuel form computes the list, given fuel enough
pub chain_from_law : (f : ℕ) (ns : List ℕ) (p : ℕ) (l : List ℕ) → length l < f → IsChain ns p l → chain_from f ns p ≡ l
unfolding chain_from
chain_from_law zero ns p l lt h = absurd (omega arith)
chain_from_law (suc f) ns zero [] lt h = refl
chain_from_law (suc f) ns (suc p) [] lt h = absurd (omega arith)
chain_from_law (suc f) ns zero (x ∷ l) lt h = absurd (omega (arith, h.0, h.1))
chain_from_law (suc f) ns (suc p) (x ∷ l) lt h =
    rw (h.0, chain_from_law f ns (get_or ns x 0) l (omega arith) h.3)

-- every member of a chain lies below the table's length
pub chain_below : (ns : List ℕ) (p : ℕ) (l : List ℕ) (x : ℕ) → IsChain ns p l → memb x l ≡ true → (0 < x) × (x < length ns)
chain_below ns p [] x h m = clash {b = false} m refl
chain_below ns p (y ∷ l) x h m =
    or_true (eqb x y) (memb x l) m
    (λ e. rw (eqb-true x y e) (h.1, h.2))
    (λ e. chain_below ns (get_or ns y 0) l x h.3 e)

-- the rest of a chain from one of its slots
pub chain_rest : (ns : List ℕ) (p : ℕ) (l : List ℕ) (x : ℕ) → IsChain ns p l → memb x l ≡ true → (m : List ℕ) × IsChain ns x m × (length m ≤ length l)
chain_rest ns p [] x h e = clash {b = false} e refl
chain_rest ns p (y ∷ l) x h e = or_true (eqb x y) (memb x l) e
    (λ k. let q = eqb-true x y k in (y ∷ l, (q, h.1, h.2, h.3), omega arith))
    (λ k. let r = chain_rest ns (get_or ns y 0) l x h.3 k in (r.0, r.1, omega (arith, r.2)))

-- a chain that ends has no slot twice
pub chain_once : (ns : List ℕ) (p : ℕ) (x : ℕ) (l : List ℕ) → IsChain ns p (x ∷ l) → memb x l ≡ false
chain_once ns p x l h = by (memb x l)
    (λ m. let r = chain_rest ns (get_or ns x 0) l x h.3 m in
    let e : length (x ∷ l) ≡ length r.0 = ap length (chain_one ns x x (x ∷ l) r.0 refl (refl, h.1, h.2, h.3) r.1) in
    absurd (omega (arith, r.2, e)))
    (λ m. m)

-- a chain that is not empty starts with its head
pub chain_head : (ns : List ℕ) (p : ℕ) (l : List ℕ) → IsChain ns p l → (p ≡ 0 → ⊥) → memb p l ≡ true
chain_head ns p [] h n = absurd (n h)
chain_head ns p (x ∷ l) h n = subst (λ y. memb y (x ∷ l) ≡ true) (sym h.0) (mem_here x l)
