-- The plan of a commit and what strikes it, read off a store and a schedule.
use Rattle.std.specs.Prelude.{◌≡◌, Bool, true, false, ◌||◌, List, [], ◌∷◌, map, ℕ, ◌≤◌, length, take}
use Rattle.std.proofs.Common.{sym, ap, ◌∙◌, arith, length-take, take_all}
use Rattle.std.proofs.Math.Nat.{min-eq_left}
use Rattle.records.specs.Limits.{rows, places, stripes, active_limit, write_limit}
use Rattle.records.specs.Zero.{no_write}
use Rattle.statements.specs.Sized.{Sized}
use Rattle.rules.specs.Lists.{first_true}
use Rattle.rules.specs.Types.{Store, Tx, Write, Schedule}
use Rattle.rules.specs.Transaction.{writes_of, finals}
use Rattle.rules.specs.Chains.{walk}
use Rattle.rules.specs.Faults.{F, X, Q}
use Rattle.rules.specs.Fit.{fit}
use Rattle.rules.specs.Puts.{Put}
use Rattle.rules.specs.Commit.{count, strikes, run_of}
use Rattle.run_laws.specs.FinalWrites.{finals_few}
use Rattle.run_laws.specs.Gates.{gates}
use Rattle.fields.specs.Pad.{take_pad}
use Rattle.journal.specs.Adds.{Adds}
use Rattle.fields.specs.Walked.{marks_array}
use Rattle.fields.specs.Lent.{array_same, at_rows, at_places, flags_at_places}
use Rattle.commit_tests.specs.declared.finals.Finals.{Finals}
use Rattle.commit_tests.specs.declared.faults.Letters.{Letters}
use Rattle.commit_tests.specs.Conflicts.{Lends}
use Rattle.commit_tests.specs.Striking.{letters, letter_in, count_in, letter_at, count_at, letters_say, counts_say}
use Rattle.steps.specs.GateTable.{clean_gate}
use Rattle.steps.specs.Stops.{hits, gate_of}
use Rattle.steps.specs.RunFound.{run_puts}
use Rattle.commit_tests.specs.FinalTurns.{finals_laid}
use Rattle.commit.specs.declared.plan.run.Struck.{Struck}
use Rattle.commit.specs.declared.plan.run.Plan.{Plan}
use Rattle.commit.specs.Plan.Parts.{puts_at}
use Rattle.commit.specs.Plan.Planned.{plan_of, plan_from, struck_of, Planned, plan_is}
use Rattle.commit.specs.Plan.Held.{run_held}

-- a store lends its own fields
pub lends_own : (S : Store) → Sized S → Lends S S.stamps S.heads S.locked S.owner S.active S.xmin S.xmax
lends_own S z = record {
  stamps = sym (array_same stripes 0 S.stamps z.stamps);
  heads = sym (array_same rows 0 S.heads z.heads);
  locked = sym (array_same places false S.locked z.locked);
  owner = sym (array_same places 0 S.owner z.owner);
  active = sym (array_same active_limit 0 S.active z.active);
  xmin = sym (array_same places 0 S.xmin z.xmin);
  xmax = sym (array_same places 0 S.xmax z.xmax);
}

-- the marks of the walk
marks_are : (S : Store) → Sized S → {seen : List ℕ} → seen ≡ (walk (at_rows S.heads) (at_places S.next)).seen
    → at_places seen ≡ (walk S.heads S.next).seen
marks_are S z {seen} e =
    marks_array S.heads S.next seen (e ∙ rw (array_same rows 0 S.heads z.heads, array_same places 0 S.next z.next))

-- the final writes laid out
pub laid_count : (x : Tx) {f : Finals} → f ≡ finals_laid x → f.count ≡ length (finals x)
unfolding finals_laid
laid_count x e = ap (λ (g : Finals). g.count) e

-- no more than a transaction has writes
pub finals_long : (x : Tx) → length x.writes ≡ write_limit → length (finals x) ≤ write_limit
unfolding finals
finals_long x h = omega (arith, finals_few (writes_of x), length-take x.write_count x.writes)

-- read back
pub laid_taken : (x : Tx) {f : Finals} → length x.writes ≡ write_limit → f ≡ finals_laid x → take f.count f.at ≡ finals x
unfolding finals_laid
laid_taken x h e =
    let few = finals_long x h in
    ap (λ (g : Finals). take g.count g.at) e ∙ rw (min-eq_left few) at (take_pad write_limit no_write (finals x)) ∙ take_all write_limit (finals x) few

-- the plan from the store's arrays, the marks of its walk and the final writes is the commit's
pub plan_told : (S : Store) (x : Tx) → Sized S → fit S x ≡ true → {p : Plan} {ws : List Write} {seen : List ℕ} → ws ≡ finals x
    → seen ≡ (walk (at_rows S.heads) (at_places S.next)).seen
    → p ≡ plan_from (at_places S.key) (flags_at_places S.has) (at_places S.xmin) (at_places seen) x ws → p ≡ plan_of S x
plan_told S x z ok laid marks e =
    e
    ∙ plan_is x _ _ _ _ _ S
    (array_same places 0 S.key z.key)
    (array_same places false S.has z.has)
    (array_same places 0 S.xmin z.xmin)
    (marks_are S z marks)
    laid
    ok

-- what strikes, by the letter and the k of each step
abbrev pub struck_by : (ℕ → ℕ) → (ℕ → ℕ) → Bool → Struck
struck_by letter k poisoned = record {
  inserted = k 15;
  removed = k 17;
  published = k 18;
  recycled = k 19;
  stamped = k 22;
  rolled = k 24;
  finish = hits letter 21 F;
  abort = hits letter 23 F;
  rollback = hits letter 24 F;
  worse = hits letter 16 X || hits letter 16 Q;
  poisoned = poisoned;
}

pub struck_is : (S : Store) (x : Tx) (logged : Bool) (plan : Schedule) {l : Letters} {poisoned : Bool} → l ≡ letters plan → poisoned ≡ S.poisoned
    → struck_by (letter_in l) (count_in l) poisoned ≡ struck_of S x logged plan
unfolding struck_of count strikes letter_at count_at
struck_is S x logged plan {l} is p = λ i. struck_by (letters_say plan l is i) (counts_say plan l is i) (p i)

-- the gate is one of them, or the clean run after them
first_few : (bs : List Bool) → first_true bs ≤ length bs
first_few [] = omega arith
first_few (true ∷ bs) = omega arith
first_few (false ∷ bs) = omega (arith, first_few bs)

gate_few : (S : Store) (x : Tx) (logged : Bool) (plan : Schedule) → gate_of S x logged plan ≤ clean_gate
unfolding gate_of gates
gate_few S x logged plan = first_few (map (λ g. g.when) (gates S x logged plan))

-- what the journal holds once the run is pushed
pub run_pushed : (S : Store) (x : Tx) (logged : Bool) (plan : Schedule) → Sized S → fit S x ≡ true → {p : Plan} {q : Struck} {g : ℕ} {after : List Put}
    → p ≡ plan_of S x → q ≡ struck_of S x logged plan → g ≡ gate_of S x logged plan
    → (Planned S x logged plan p q → Adds [] (puts_at S x logged plan g) after) → after ≡ (run_of S x logged plan).puts
run_pushed S x logged plan z ok {p} {q} {g} pl st at a =
    let h : Planned S x logged plan p q = record { plans = pl; strikes = st; fits = ok; long = omega (arith, z.xmin) } in
    let few : g ≤ clean_gate = rw at (gate_few S x logged plan) in
    run_held g h few (rw at (run_puts S x logged plan)) (a h)
