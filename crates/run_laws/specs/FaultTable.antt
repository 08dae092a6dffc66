-- The table of faults as a table: its masks and the paper's own grouping of the steps say what it says, by one computed test.
use Rattle.std.specs.Prelude.{◌≡◌, refl, Bool, true, false, ◌&&◌, ◌||◌, List, [], ◌∷◌, ℕ, zero, suc, ◌/◌, ◌%◌, ◌≤◌, ◌<◌, get_or, eqb, ltb}
use Rattle.std.proofs.Common.{inl, inr, eq-or-lt_of_le, le_of_suc-le-suc, not-suc-le-zero, arith, ltb-true, ne_eqb}
use Rattle.std.specs.Bool.{beq}
use Rattle.std.proofs.Math.Decide.{dec_lt}
use Rattle.std.proofs.Math.ListN.{get_or-eq_default}
use Rattle.records.specs.Limits.{fault_limit}
use Rattle.rules.specs.Lists.{all, any, every, memb}
use Rattle.basic_laws.specs.Cases.{and_true, every_cons}
use Rattle.rules.specs.Types.{Fault}
use Rattle.rules.specs.Faults.{F, B, P, X, Q, Allowed, may, Fk, table, bit_of, masks, allowed}

-- whether a mask has a bit
abbrev pub bit : ℕ → ℕ → Bool
bit m b = eqb (m / b % 2) 1

-- a letter is a byte
abbrev pub letter_end : ℕ
letter_end = 256

-- steps that allow the same
pub record Group : Type 0 where
  pub steps : List ℕ
  pub allows : Allowed

abbrev pub each : List ℕ → Allowed → Group
each ns a = record { steps = ns; allows = a }

-- the paper's rows, gathered by what they allow
unfoldable pub groups : List Group
groups =
    each (3 ∷ 4 ∷ 5 ∷ 9 ∷ 10 ∷ 11 ∷ 12 ∷ 13 ∷ 14 ∷ 20 ∷ 21 ∷ 23 ∷ []) (may (F ∷ []))
    ∷ each (6 ∷ []) (may (F ∷ P ∷ []))
    ∷ each (7 ∷ 8 ∷ []) (may (F ∷ B ∷ []))
    ∷ each (16 ∷ []) (may (F ∷ X ∷ P ∷ Q ∷ []))
    ∷ each (15 ∷ 17 ∷ 18 ∷ 19 ∷ 22 ∷ 24 ∷ []) Fk
    ∷ []

-- what is allowed takes a letter, with a k that is 0 or not
abbrev pub takes : Allowed → ℕ → Bool → Bool
takes a c plain = memb c a.letters && (plain || (a.counted && eqb c F))

-- some group has the step and takes the letter
abbrev pub grouped : List Group → ℕ → ℕ → Bool → Bool
grouped gs n c plain = any (λ g. memb n g.steps && takes g.allows c plain) gs

-- a test that holds of every number below n
abbrev pub all_below : (ℕ → Bool) → ℕ → Bool
all_below f zero = true
all_below f (suc n) = f n && all_below f n

below : (f : ℕ → Bool) (n : ℕ) → all_below f n ≡ true → (k : ℕ) → k < n → f k ≡ true
below f zero t k h = absurd (not-suc-le-zero h)
below f (suc n) t k h = elim (eq-or-lt_of_le (le_of_suc-le-suc h)) [
  | inl e ↦ rw e (and_true (f n) (all_below f n) t).0
  | inr l ↦ below f n (and_true (f n) (all_below f n) t).1 k l
]

beq_eq : (a b : Bool) → beq a b ≡ true → a ≡ b
beq_eq true true t = refl
beq_eq true false t = cc
beq_eq false true t = cc
beq_eq false false t = refl

-- at a step and a letter: the mask's bits and the groups say what the table says
unfoldable pub agree : ℕ → ℕ → Bool
agree n c =
    let a = get_or table n (may []) in
    let m = get_or masks n 0 in
    every (
    beq (bit m (bit_of c)) (memb c a.letters)
    ∷ beq (bit m 2) a.counted
    ∷ beq (takes a c true) (grouped groups n c true)
    ∷ beq (takes a c false) (grouped groups n c false)
    ∷ [])

abbrev pub agree_at : ℕ → Bool
agree_at n = all_below (agree n) letter_end

-- every step, one place more for all that lie beyond the table, and every letter
tested : all_below agree_at (suc fault_limit) ≡ true
unfolding agree every groups masks table
tested = refl

agreed : (n c : ℕ) → n < suc fault_limit → c < letter_end → agree n c ≡ true
agreed n c hn hc = below (agree n) letter_end (below agree_at (suc fault_limit) tested n hn) c hc

-- a number beyond every step is in no list of steps, and so in no group
abbrev are_steps : List ℕ → Bool
are_steps l = all (λ m. ltb m fault_limit) l

far : (n : ℕ) (l : List ℕ) → fault_limit ≤ n → are_steps l ≡ true → memb n l ≡ false
far n [] h t = refl
far n (m ∷ l) h t =
    let b = and_true (ltb m fault_limit) (are_steps l) t in
    rw (ne_eqb n m (λ e. omega (arith, ltb-true m fault_limit b.0))) (far n l h b.1)

none_far : (n c : ℕ) (plain : Bool) (gs : List Group) → fault_limit ≤ n → all (λ g. are_steps g.steps) gs ≡ true → grouped gs n c plain ≡ false
none_far n c plain [] h t = refl
none_far n c plain (g ∷ gs) h t =
    let b = and_true (are_steps g.steps) (all (λ k. are_steps k.steps) gs) t in
    rw (far n g.steps h b.0) (none_far n c plain gs h b.1)

beyond : (n c : ℕ) → fault_limit ≤ n → c < letter_end → agree n c ≡ true
unfolding agree groups masks table
beyond n c hn hc =
    rw (get_or-eq_default masks 0 {n = n}, get_or-eq_default table (may []) {n = n})
    (rw (none_far n c true groups hn refl, none_far n c false groups hn refl) (agreed fault_limit c (omega arith) hc))

-- the rule that the test gives, for every number of a step
rule : (n c : ℕ) → c < letter_end → agree n c ≡ true
rule n c h = elim (dec_lt n fault_limit) [ yes l ↦ agreed n c (omega arith) h | no g ↦ beyond n c (omega arith) h ]

-- one test of several
one_of : (l : List Bool) (i : ℕ) → every l ≡ true → get_or l i true ≡ true
one_of [] i t = refl
one_of (b ∷ l) zero t = (every_cons b l t).0
one_of (b ∷ l) (suc i) t = one_of l i (every_cons b l t).1

-- a letter's bit is set in a step's mask exactly where the table has the letter
pub mask_says : (n c : ℕ) → c < letter_end → bit (get_or masks n 0) (bit_of c) ≡ memb c (get_or table n (may [])).letters
unfolding agree
mask_says n c h = beq_eq _ _ (one_of _ 0 (rule n c h))

-- and the bit of k where its F takes one
pub mask_counts : (n : ℕ) → bit (get_or masks n 0) 2 ≡ (get_or table n (may [])).counted
unfolding agree
mask_counts n = beq_eq _ _ (one_of _ 1 (rule n 0 (omega arith)))

-- a fault is allowed exactly where a group of the paper's has its step and takes its letter and k
takes_grouped : (n c : ℕ) (plain : Bool) → c < letter_end → takes (get_or table n (may [])) c plain ≡ grouped groups n c plain
unfolding agree
takes_grouped n c true h = beq_eq _ _ (one_of _ 2 (rule n c h))
takes_grouped n c false h = beq_eq _ _ (one_of _ 3 (rule n c h))

pub paper_says : (f : Fault) → f.letter < letter_end → allowed f ≡ grouped groups f.step f.letter (eqb f.k 0)
unfolding allowed
paper_says f h = takes_grouped f.step f.letter (eqb f.k 0) h
