-- Which gate stops a run, as a number: the first of commit's gates whose test holds.
use Rattle.std.specs.Prelude.{◌≡◌, Bool, true, false, not, cond, ◌&&◌, ◌||◌, List, [], ◌∷◌, ◌++◌, map, ℕ, suc, ◌+◌, ◌<◌, ◌≤◌, length, get_or, eqb, ltb}
use Rattle.std.proofs.Math.Path.{refl}
use Rattle.std.proofs.Common.{sym, ◌∙◌, add-zero, add-suc, suc-add, arith}
use Rattle.std.proofs.Math.Nat.{zero-add}
use Rattle.basic_laws.specs.Cases.{by}
use Rattle.rules.specs.Types.{Store, Tx, Schedule}
use Rattle.rules.specs.Lists.{first_true}
use Rattle.rules.specs.Transaction.{finals}
use Rattle.rules.specs.Faults.{F, B, P, X, Q, faults_of}
use Rattle.rules.specs.Tests.{index_read_conflict, row_lock_conflict, serialization_conflict, write_base_conflict}
use Rattle.rules.specs.Commit.{strikes, Run, run_of}
use Rattle.run_laws.specs.Gates.{Gate, first, gates, clean, run_gates}
use Rattle.commit_tests.specs.declared.faults.Letters.{Letters}
use Rattle.commit_tests.specs.Striking.{letters, letter_at, letter_in, letters_say}
use Rattle.steps.specs.GateTable.{changes_failed, index_guards_failed, index_reads_failed, insert_failed, clean_gate}

-- the run of the first gate that holds, by the gate's place
pub first_at : (gs : List Gate) (r : Run) → first gs r ≡ get_or (map (λ g. g.then) gs ++ r ∷ []) (first_true (map (λ g. g.when) gs)) r
first_at [] r = refl
first_at (g ∷ gs) r = by g.when (λ e. rw e) (λ e. rw e (first_at gs r))

-- the gates from number n on: the number of the first whose test holds, `clean_gate` if none does
unfoldable pub gate_from : ℕ → List Bool → ℕ
gate_from n [] = clean_gate
gate_from n (b ∷ bs) = cond b n (gate_from (suc n) bs)

-- one of the first gates stops the run, so the others don't matter
pub gate_stops : (n r : ℕ) (bs cs : List Bool) → r ≡ gate_from n bs → r < clean_gate → r ≡ gate_from n (bs ++ cs)
unfolding gate_from
gate_stops n r [] cs e h = absurd (let z : ⊥ = omega arith in z)
gate_stops n r (true ∷ bs) cs e h = e
gate_stops n r (false ∷ bs) cs e h = gate_stops (suc n) r bs cs e h

-- none of them does, so the others decide
pub gate_goes : (n q r : ℕ) (bs cs : List Bool) → q ≡ gate_from n bs → clean_gate ≤ q → n + length bs ≤ clean_gate → r ≡ gate_from (n + length bs) cs
    → r ≡ gate_from n (bs ++ cs)
unfolding gate_from
gate_goes n q r [] cs e h few t = rw add-zero at t
gate_goes n q r (true ∷ bs) cs e h few t = absurd (let z : ⊥ = omega arith in z)
gate_goes n q r (false ∷ bs) cs e h few t = gate_goes (suc n) q r bs cs e h (omega arith) (rw (add-suc, ← suc-add) at t)

-- all the gates: the number is the place
pub gate_first : (n : ℕ) (bs : List Bool) → n + length bs ≡ clean_gate → gate_from n bs ≡ n + first_true bs
unfolding gate_from
gate_first n [] e = sym e
gate_first n (true ∷ bs) e = sym (add-zero n)
gate_first n (false ∷ bs) e = gate_first (suc n) bs (omega arith) ∙ suc-add n (first_true bs) ∙ sym (add-suc n (first_true bs))

-- a letter that ends the callback: it fails or panics, with poison or without
abbrev pub ends_callback : ℕ → Bool
ends_callback c = eqb c F || ((eqb c X || eqb c Q) || (eqb c P || eqb c Q))

-- the tests of the gates, from the letter that strikes at each step
module _ (letter : ℕ → ℕ) where
  abbrev pub hits : ℕ → ℕ → Bool
  hits n c = eqb (letter n) c

  -- gates 0 to 4: steps 1 to 6
  unfoldable pub opening_tests : Bool → List Bool
  opening_tests logged = hits 3 F ∷ hits 4 F ∷ (logged && hits 5 F) ∷ (logged && hits 6 F) ∷ (logged && hits 6 P) ∷ []

  -- gates 5 to 11: steps 7 to 10
  unfoldable pub guarding_tests : Bool → Bool → Bool → Bool → List Bool
  guarding_tests logged writing bound poisoned =
      hits 7 F
      ∷ hits 7 B
      ∷ hits 8 F
      ∷ hits 8 B
      ∷ ((not logged && writing) && hits 9 F)
      ∷ ((not logged && writing) && bound)
      ∷ (hits 10 F || poisoned)
      ∷ []

  -- gates 12 to 19: the four tests
  unfoldable pub conflict_tests : Bool → Bool → Bool → Bool → List Bool
  conflict_tests t11 t12 t13 t14 = hits 11 F ∷ t11 ∷ hits 12 F ∷ t12 ∷ hits 13 F ∷ t13 ∷ hits 14 F ∷ t14 ∷ []

  -- gates 20 to 26: steps 15 to 22
  unfoldable pub closing_tests : Bool → List Bool
  closing_tests logged =
      hits 15 F
      ∷ (logged && ends_callback (letter 16))
      ∷ hits 17 F
      ∷ hits 18 F
      ∷ hits 19 F
      ∷ hits 21 F
      ∷ hits 22 F
      ∷ []

  unfoldable pub gate_tests : Bool → Bool → Bool → Bool → Bool → Bool → Bool → Bool → List Bool
  gate_tests logged writing bound poisoned t11 t12 t13 t14 =
      opening_tests logged ++ (guarding_tests logged writing bound poisoned ++ (conflict_tests t11 t12 t13 t14 ++ closing_tests logged))

-- they are the tests of commit's gates
pub gate_tests_law : (S : Store) (x : Tx) (logged : Bool) (plan : Schedule)
    → map (λ g. g.when) (gates S x logged plan)
    ≡ gate_tests (letter_at (faults_of plan)) logged (ltb 0 (length (finals x))) S.bound S.poisoned (index_read_conflict S x)
    (row_lock_conflict S x) (serialization_conflict S x) (write_base_conflict S x)
unfolding gates strikes gate_tests opening_tests guarding_tests conflict_tests closing_tests letter_at
gate_tests_law S x logged plan = refl

-- the numbers that the four parts find from the letters: the first that is a gate is the place of the first test that holds
module _ (letter : ℕ → ℕ) (logged writing bound poisoned t11 t12 t13 t14 : Bool) where
  all_tests : (r : ℕ) → r ≡ gate_from changes_failed (gate_tests letter logged writing bound poisoned t11 t12 t13 t14)
      → r ≡ first_true (gate_tests letter logged writing bound poisoned t11 t12 t13 t14)
  unfolding gate_tests opening_tests guarding_tests conflict_tests closing_tests
  all_tests r e = e ∙ gate_first 0 (gate_tests letter logged writing bound poisoned t11 t12 t13 t14) refl ∙ zero-add _

  module _ (a : ℕ) (opens : a ≡ gate_from changes_failed (opening_tests letter logged)) where
    pub first_opening : a < clean_gate → a ≡ first_true (gate_tests letter logged writing bound poisoned t11 t12 t13 t14)
    unfolding gate_tests
    first_opening h = all_tests a (gate_stops _ _ _ _ opens h)

    module _ (passed : clean_gate ≤ a) (b : ℕ) (guards : b ≡ gate_from index_guards_failed (guarding_tests letter logged writing bound poisoned)) where
      pub first_guarding : b < clean_gate → b ≡ first_true (gate_tests letter logged writing bound poisoned t11 t12 t13 t14)
      unfolding gate_tests opening_tests
      first_guarding h = all_tests b (gate_goes _ _ _ _ _ opens passed (omega arith) (gate_stops _ _ _ _ guards h))

      module _ (guarded : clean_gate ≤ b) (d : ℕ) (tests : d ≡ gate_from index_reads_failed (conflict_tests letter t11 t12 t13 t14)) where
        pub first_conflict : d < clean_gate → d ≡ first_true (gate_tests letter logged writing bound poisoned t11 t12 t13 t14)
        unfolding gate_tests opening_tests guarding_tests
        first_conflict h =
            all_tests d (gate_goes _ _ _ _ _ opens passed (omega arith) (gate_goes _ _ _ _ _ guards guarded (omega arith) (gate_stops _ _ _ _ tests h)))

        pub first_closing : clean_gate ≤ d → (e : ℕ) → e ≡ gate_from insert_failed (closing_tests letter logged)
            → e ≡ first_true (gate_tests letter logged writing bound poisoned t11 t12 t13 t14)
        unfolding gate_tests opening_tests guarding_tests conflict_tests
        first_closing h e closes =
            all_tests e (gate_goes _ _ _ _ _ opens passed (omega arith)
            (gate_goes _ _ _ _ _ guards guarded (omega arith) (gate_goes _ _ _ _ _ tests h (omega arith) closes)))

-- the gate at which a run of commit ends
unfoldable pub gate_of : Store → Tx → Bool → Schedule → ℕ
gate_of S x logged plan = first_true (map (λ g. g.when) (gates S x logged plan))

-- a run of commit's steps is that of the gate
pub run_at : (S : Store) (x : Tx) (logged : Bool) (plan : Schedule)
    → run_of S x logged plan
    ≡ get_or (map (λ g. g.then) (gates S x logged plan) ++ clean S x logged plan ∷ []) (gate_of S x logged plan) (clean S x logged plan)
unfolding gate_of
run_at S x logged plan = run_gates S x logged plan ∙ first_at (gates S x logged plan) (clean S x logged plan)

-- what `first_gate` finds on S, by a schedule's letters, is the gate
pub gate_of_law : (S : Store) (x : Tx) (logged : Bool) (plan : Schedule) (g : ℕ) {l : Letters} {writing : Bool}
    → l ≡ letters plan → writing ≡ ltb 0 (length (finals x))
    → g ≡ first_true (gate_tests (letter_in l) logged writing S.bound S.poisoned
    (index_read_conflict S x) (row_lock_conflict S x) (serialization_conflict S x) (write_base_conflict S x))
    → g ≡ gate_of S x logged plan
unfolding gate_of
gate_of_law S x logged plan g {l} is some e = e ∙ rw (some, letters_say plan l is, gate_tests_law S x logged plan)
