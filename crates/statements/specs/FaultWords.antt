-- "Steps and faults": which faults of a schedule strike, in words.
use Rattle.std.specs.Prelude.{◌≡◌, Bool, true, List, ◌↔◌, ◌≢◌, ℕ, suc, ◌≤◌, take}
use Rattle.rules.specs.Types.{Store, Tx, Fault, Schedule, Cut}
use Rattle.rules.specs.Faults.{F, B, P, X, Q, schedule_fit}
use Rattle.rules.specs.Commit.{strikes, count, run_of}
use Rattle.rules.specs.Answer.{commit}
use Rattle.statements.specs.Words.{Some}

-- "F fail, .. B busy, P panic, X fail and poison, Q panic and poison": each letter is the byte by which a script names it
abbrev pub LettersSay : Type 0
LettersSay = (F ≡ 70) × (B ≡ 66) × (P ≡ 80) × (X ≡ 88) × (Q ≡ 81)

-- a schedule's faults are its first places, as many as it counts
abbrev pub planned : Schedule → List Fault
planned plan = take plan.count plan.faults

-- of a fit schedule, which has no two faults at one step: a letter strikes at a step exactly where the schedule has a fault of that letter there, and
-- "k after k stores" is that fault's k; a step without a fault has no k
pub record FaultsStrike (S : Store) (x : Tx) (logged : Bool) (plan : Schedule) : Type 0 where
  pub letter : (n c : ℕ) → c ≢ 0 → (strikes S x logged plan n c ≡ true) ↔ Some (λ f. (f.step ≡ n) × (f.letter ≡ c)) (planned plan)
  pub k : (n m : ℕ) → Some (λ f. (f.step ≡ n) × (f.k ≡ m)) (planned plan) → count S x logged plan n ≡ m
  pub none : (n : ℕ) → (Some (λ f. f.step ≡ n) (planned plan) → ⊥) → count S x logged plan n ≡ 0

abbrev pub FaultsSay : Type 0
FaultsSay = (S : Store) (x : Tx) (logged : Bool) (plan : Schedule) → schedule_fit plan ≡ true → FaultsStrike S x logged plan

-- two schedules that agree about a step: the same letters strike there, after the same number of stores
pub record AlikeAt (S : Store) (x : Tx) (logged : Bool) (plan other : Schedule) (n : ℕ) : Type 0 where
  pub letters : (c : ℕ) → strikes S x logged plan n c ≡ strikes S x logged other n c
  pub k : count S x logged plan n ≡ count S x logged other n

-- "any fault strikes .. never at a step not reached", and "20 flush F, ignored": schedules that agree about the steps that the run of the first comes
-- to (those passed and one more), 20 left aside, and about the finish, abort and rollback that a failed step may come to, are answered alike, if both are
-- fit or both unfit
abbrev pub NeverBeyond : Type 0
NeverBeyond = (S : Store) (x : Tx) (logged : Bool) (plan other : Schedule) (cut : Cut)
    → schedule_fit plan ≡ schedule_fit other → ((n : ℕ) → n ≤ suc (run_of S x logged plan).passed → n ≢ 20 → AlikeAt S x logged plan other n)
    → AlikeAt S x logged plan other 21 → AlikeAt S x logged plan other 23 → AlikeAt S x logged plan other 24
    → commit S x logged plan cut ≡ commit S x logged other cut

-- "20 flush F, ignored", by itself
abbrev pub FlushIgnored : Type 0
FlushIgnored = (S : Store) (x : Tx) (logged : Bool) (plan other : Schedule) (cut : Cut)
    → schedule_fit plan ≡ schedule_fit other → ((n : ℕ) → n ≢ 20 → AlikeAt S x logged plan other n)
    → commit S x logged plan cut ≡ commit S x logged other cut
