-- "A schedule is unfit with two faults at one step, a letter the step lacks, or k nonzero outside Fk", in words.
use Rattle.std.specs.Prelude.{◌≡◌, refl, Bool, true, not, List, [], ◌∷◌, ◌↔◌, ◌≢◌, ◌⊎◌, ℕ, ◌<◌, length, get_or, eqb}
use Rattle.std.proofs.Common.{eqb-true, eq-eqb}
use Rattle.records.specs.Zero.{no_fault}
use Rattle.rules.specs.Lists.{memb}
use Rattle.rules.specs.Types.{Fault, Schedule}
use Rattle.rules.specs.Faults.{F, may, table, allowed, steps_apart, faults_of, schedule_fit}
use Rattle.run_laws.specs.FourTests.{either, both, differ}
use Rattle.basic_laws.specs.Members.{pairs}
use Rattle.basic_laws.specs.EachTwo.{each_place, each_pair}

-- a test of equality, and a test itself, in words
pub same_number : (m n : ℕ) → (eqb m n ≡ true) ↔ (m ≡ n)
same_number m n = (eqb-true m n, eq-eqb m n)

pub itself : (b : Bool) → (b ≡ true) ↔ (b ≡ true)
itself b = (λ t. t, λ t. t)

-- the step allows the letter, and a k other than 0 goes with an F of a step that takes one
abbrev pub Allows : Fault → Type 0
Allows f =
    let a = get_or table f.step (may []) in
    (memb f.letter a.letters ≡ true) × ((f.k ≡ 0) ⊎ ((a.counted ≡ true) × (f.letter ≡ F)))

allows : (f : Fault) → (allowed f ≡ true) ↔ Allows f
unfolding allowed
allows f =
    let a = get_or table f.step (may []) in
    both _ _ (itself (memb f.letter a.letters)) (either _ _ (same_number f.k 0) (both _ _ (itself a.counted) (same_number f.letter F)))

apart_pairs : (fs : List Fault) → steps_apart fs ≡ pairs (λ f g. not (eqb g.step f.step)) fs
apart_pairs [] = refl
apart_pairs (f ∷ fs) = rw (apart_pairs fs)

-- a fit schedule: each fault is allowed, and no two are at one step
pub schedule_says : (c : Schedule) → (schedule_fit c ≡ true)
    ↔ (((i : ℕ) → i < length (faults_of c) → Allows (get_or (faults_of c) i no_fault))
    × ((i j : ℕ) → i < j → j < length (faults_of c) → (get_or (faults_of c) j no_fault).step ≢ (get_or (faults_of c) i no_fault).step))
unfolding schedule_fit
schedule_says c =
    let fs = faults_of c in
    rw (apart_pairs fs)
    (both _ _ (each_place no_fault allowed Allows allows fs)
    (each_pair no_fault (λ f g. not (eqb g.step f.step)) (λ f g. g.step ≢ f.step) (λ f g. differ g.step f.step) fs))
