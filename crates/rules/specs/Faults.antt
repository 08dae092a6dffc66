-- "Steps and faults": the table of 24 steps with the faults each allows, and the fit schedule.
use Rattle.std.specs.Prelude.{Bool, true, false, not, cond, ◌&&◌, ◌||◌, List, [], ◌∷◌, map, ℕ, ◌+◌, get_or, take, eqb}
use Rattle.rules.specs.Lists.{all, memb, sum}
use Rattle.rules.specs.Types.{Fault, Schedule}
use Rattle.records.specs.Zero.{no_fault}

-- "F fail, k after k stores clipped to the step's number, B busy, P panic, X fail and poison, Q panic and poison": the letters in ASCII
abbrev pub F : ℕ
F = 70

abbrev pub B : ℕ
B = 66

abbrev pub P : ℕ
P = 80

abbrev pub X : ℕ
X = 88

abbrev pub Q : ℕ
Q = 81

-- what a step allows: letters, and whether its F takes a k
pub record Allowed : Type 0 where
  pub letters : List ℕ
  pub counted : Bool

abbrev pub may : List ℕ → Allowed
may ls = record { letters = ls; counted = false }

abbrev pub Fk : Allowed
Fk = record { letters = F ∷ []; counted = true }

-- the table, by step number; place 0 is no step
unfoldable pub table : List Allowed
table =
    may []
    ∷ may []  -- 1 open
    ∷ may []  -- 2 final writes (none)
    ∷ may (F ∷ [])  -- 3 index changes
    ∷ may (F ∷ [])  -- 4 lock keys
    ∷ may (F ∷ [])  -- 5 record (logged only)
    ∷ may (F ∷ P ∷ [])  -- 6 prepare (logged only)
    ∷ may (F ∷ B ∷ [])  -- 7 index guards
    ∷ may (F ∷ B ∷ [])  -- 8 partition guards
    ∷ may (F ∷ [])  -- 9 unlogged check (unlogged with writes only)
    ∷ may (F ∷ [])  -- 10 health
    ∷ may (F ∷ [])  -- 11 index reads
    ∷ may (F ∷ [])  -- 12 row locks
    ∷ may (F ∷ [])  -- 13 serialization
    ∷ may (F ∷ [])  -- 14 write base
    ∷ Fk  -- 15 insert destinations
    ∷ may (F ∷ X ∷ P ∷ Q ∷ [])  -- 16 callback (logged only)
    ∷ Fk  -- 17 remove sources
    ∷ Fk  -- 18 publish
    ∷ Fk  -- 19 recycle
    ∷ may (F ∷ [])  -- 20 flush, ignored
    ∷ may (F ∷ [])  -- 21 finish
    ∷ Fk  -- 22 stamp
    ∷ may (F ∷ [])  -- 23 abort
    ∷ Fk  -- 24 rollback
    ∷ []

-- the same as numbers, the constant table `Schedule::ALLOWED`: each letter is a bit, and so is taking a k; a letter in no mask is 64
abbrev pub bit_of : ℕ → ℕ
bit_of c = cond (eqb c F) 1 (cond (eqb c B) 4 (cond (eqb c P) 8 (cond (eqb c X) 16 (cond (eqb c Q) 32 64))))

abbrev pub mask_of : Allowed → ℕ
mask_of a = sum (map bit_of a.letters) + cond a.counted 2 0

unfoldable pub masks : List ℕ
masks = map mask_of table

-- not "a letter the step lacks, or k nonzero outside Fk"
unfoldable pub allowed : Fault → Bool
allowed f =
    let a = get_or table f.step (may []) in
    memb f.letter a.letters && (eqb f.k 0 || (a.counted && eqb f.letter F))

-- not "two faults at one step"
abbrev pub steps_apart : List Fault → Bool
steps_apart [] = true
steps_apart (f ∷ fs) = all (λ g. not (eqb g.step f.step)) fs && steps_apart fs

abbrev pub faults_of : Schedule → List Fault
faults_of c = take c.count c.faults

-- "A schedule is unfit with two faults at one step, a letter the step lacks, or k nonzero outside Fk."
unfoldable pub schedule_fit : Schedule → Bool
schedule_fit c = all allowed (faults_of c) && steps_apart (faults_of c)

-- the fault at a step, letter 0 for none
abbrev pub fault_at : ℕ → List Fault → Fault
fault_at n [] = no_fault
fault_at n (f ∷ fs) = let r = fault_at n fs in cond (eqb f.step n) f r
