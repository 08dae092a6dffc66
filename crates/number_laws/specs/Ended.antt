-- Each ending of a run beside its rows of "Numbers seen": its stores add up to the row's store.
use Rattle.std.specs.Prelude.{◌≡◌, refl, Bool, true, false, cond, ◌&&◌, List, [], ◌∷◌, ◌++◌, ℕ}
use Rattle.std.proofs.Common.{sym, ap, subst, ◌∙◌, append_assoc}
use Rattle.rules.specs.Types.{Store, Tx, Schedule, Events, Fate, Refusal}
use Rattle.rules.specs.Admitted.{resting}
use Rattle.rules.specs.Puts.{Put, put_poison, apply, apply_all}
use Rattle.rules.specs.Commit.{End, Clean, Run, poison, fails}
use Rattle.run_laws.specs.GuardPuts.{apply_all_append}
use Rattle.run_laws.specs.Outcome.{Taken}
use Rattle.run_laws.specs.FirstRows.{given_back}
use Rattle.run_laws.specs.Gates.{Gate, first, stay_end, abort_end, dying}
use Rattle.sentences.specs.RunSays.{abort_failed, abort_done}
use Rattle.statements.specs.Table.{Row, row, first_row}
use Rattle.statements.specs.NumbersSeen.{stays, unaborted, aborts}

-- "Poisoning a poisoned store makes no store."
poison_once : (T : Store) → apply_all (poison T.poisoned) T ≡ apply put_poison T
poison_once T = go T.poisoned refl
  where
    go : (b : Bool) → T.poisoned ≡ b → apply_all (poison b) T ≡ apply put_poison T
    go true e = rw (← e)
    go false e = refl

module _ (S : Store) (x : Tx) (logged : Bool) (plan : Schedule) where
  -- a run of the steps beside a row: what its stores add up to
  pub record Agree (r : Run) (w : Row) : Type 0 where
    pub store : apply_all r.puts S ≡ w.store

  abbrev pub ran : ℕ → List Put → End → Run
  ran n ps d = record { passed = n; puts = ps; end = d }

  -- gates beside rows: the run of the first gate that holds agrees with the first row that applies
  pub record Match (gs : List Gate) (c : Run) (ws : List Row) (d : Row) : Type 0 where
    pub are : Agree (first gs c) (first_row ws d)

  abbrev gate : Bool → Run → Gate
  gate b r = record { when = b; then = r }

  -- a gate with one row; with two, the first for a failure in cleaning up
  pub one : (b : Bool) {n : ℕ} {r : Run} {why : Refusal} {ps : List Put} {T : Store} {y : Tx} {e : Events} {gs : List Gate} {c : Run} {ws : List Row}
      {d : Row} → Agree r (row n b why ps T y e) → (b ≡ false → Match gs c ws d) → Match (gate b r ∷ gs) c (row n b why ps T y e ∷ ws) d
  one true a m = record { are = a }
  one false a m = record { are = (m refl).are }

  pub two : (b f : Bool) {n k : ℕ} {r : Run} {why only : Refusal} {ps qs : List Put} {T U : Store} {y z : Tx} {v w : Events} {gs : List Gate} {c : Run}
      {ws : List Row} {d : Row}
      → (f ≡ true → Agree r (row n (b && f) why ps T y v)) → (f ≡ false → Agree r (row k b only qs U z w)) → (b ≡ false → Match gs c ws d)
      → Match (gate b r ∷ gs) c (row n (b && f) why ps T y v ∷ row k b only qs U z w ∷ ws) d
  two true true a e m = record { are = a refl }
  two true false a e m = record { are = e refl }
  two false f a e m = record { are = (m refl).are }

  -- a gate that holds, and one that doesn't; a row that applies, and one that doesn't
  pub shut : {b : Bool} {r : Run} {gs : List Gate} {c : Run} {ws : List Row} {d : Row} → b ≡ true → Match [] r ws d → Match (gate b r ∷ gs) c ws d
  shut e m = record { are = rw e m.are }

  pub through : {b : Bool} {r : Run} {gs : List Gate} {c : Run} {ws : List Row} {d : Row} → b ≡ false → Match gs c ws d → Match (gate b r ∷ gs) c ws d
  through e m = record { are = rw e m.are }

  pub pick : {w : Row} {r : Run} {ws : List Row} {d : Row} → w.when ≡ true → Agree r w → Match [] r (w ∷ ws) d
  pick {w} {r} {ws} {d} e a = record { are = subst (λ (b : Bool). Agree r (cond b w (first_row ws d))) (sym e) a }

  pub pass : {w : Row} {gs : List Gate} {r : Run} {ws : List Row} {d : Row} → w.when ≡ false → Match gs r ws d → Match gs r (w ∷ ws) d
  pass e m = record { are = rw e m.are }

  module _ (rest : resting S ≡ true) where
    -- 4 and 8: what was taken is given back
    pub stay : (b : Bool) (kind : Fate → Refusal) (m : ℕ) {n : ℕ} {taken back : List Put} {gs : List Gate} {c : Run} {ws : List Row} {d : Row}
        → Taken S x logged plan taken back → (b ≡ false → Match gs c ws d)
        → Match (gate b (ran m (taken ++ back) (stay_end S x logged plan kind)) ∷ gs) c (stays S x logged plan m taken back n kind b ∷ ws) d
    stay b kind m t next = one b (record { store = given_back S x logged plan rest t }) next

    -- 5, 6, 7 and 9: .. and then aborted, or not
    then_only : {taken back : List Put} → Taken S x logged plan taken back → (ps : List Put) → apply_all (taken ++ (back ++ ps)) S ≡ apply_all ps S
    then_only {taken} {back} t ps = rw (sym (append_assoc taken back ps), apply_all_append (taken ++ back) ps S, given_back S x logged plan rest t)

    pub die : (b : Bool) (kind other : Fate → Refusal) (found preparing : Bool) (m : ℕ) {n k : ℕ} {taken back : List Put} {gs : List Gate} {c : Run}
        {ws : List Row} {d : Row}
        → Taken S x logged plan taken back → (b ≡ false → Match gs c ws d)
        → Match (gate b (ran m (taken ++ (back ++ dying S x logged plan)) (abort_end S x logged plan kind other found preparing)) ∷ gs) c
        (unaborted S x logged plan m taken back preparing n other b ∷ aborts S x logged plan m taken back found k kind b ∷ ws) d
    die b kind other found preparing m {taken = taken} {back = back} t next =
        two b (fails S x logged plan 23)
        (λ e. record {
          store =
              then_only t (dying S x logged plan) ∙ ap (λ (c : Clean). apply_all c.puts S) (abort_failed S x logged plan S.poisoned e) ∙ poison_once S;
        })
        (λ e. record { store = then_only t (dying S x logged plan) ∙ ap (λ (c : Clean). apply_all c.puts S) (abort_done S x logged plan S.poisoned e) })
        next
