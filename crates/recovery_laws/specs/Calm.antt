-- Guards, postings, stamps and poison: puts of these alone change nothing that repairable looks at.
use Rattle.std.specs.Prelude.{◌≡◌, refl, Bool, true, false, List, [], ◌∷◌, ℕ, eqb}
use Rattle.std.proofs.Common.{sym, subst}
use Rattle.records.specs.Setters.{dressed}
use Rattle.rules.specs.Lists.{memb}
use Rattle.rules.specs.Types.{Store}
use Rattle.rules.specs.Puts.{Put, k_stripe, k_partition, k_insert, k_remove, k_xmax, k_head, k_free, k_drop}
use Rattle.rules.specs.Puts.{k_stamp, k_poison, k_doom, k_enter, k_clock, k_xmin, k_next, k_key, k_lock, apply}
use Rattle.basic_laws.specs.Cases.{and_true}
use Rattle.run_laws.specs.OnlyKinds.{only, is_not}
use Rattle.admitted_laws.specs.Repairable.{Mends}
use Rattle.recovery_laws.specs.Along.{To}

-- what these fields don't count for
abbrev pub Calm : (Store → Type 0) → Type 0
Calm I = (g q ps : List ℕ) (n : ℕ) (st : List ℕ) (b : Bool) (X : Store) → I X → I (dressed g q ps n st b X)

-- a repairable store stays so
pub mends_calm : (L : ℕ → List ℕ) → Calm (λ X. Mends X L)
mends_calm L g q ps n st b X M = record {
  started = M.started;
  slots = M.slots;
  listed = M.listed;
  below = M.below;
  doom = M.doom;
  stands = M.stands;
}

-- the kinds of such puts
abbrev pub calm : List ℕ
calm = k_stripe ∷ k_partition ∷ k_insert ∷ k_remove ∷ k_stamp ∷ k_poison ∷ []

calm_put : (p : Put) (X : Store) → memb p.kind calm ≡ true
    → let Y = apply p X in Y ≡ dressed Y.stripe_guards Y.partition_guards Y.postings Y.posting_count Y.stamps Y.poisoned X
calm_put p X m =
    let no : (k : ℕ) → memb k calm ≡ false → eqb p.kind k ≡ false = λ k n. is_not calm k n p m in
    rw (no k_head refl, no k_free refl, no k_xmin refl, no k_xmax refl, no k_next refl, no k_key refl, no k_lock refl)
    (rw (no k_drop refl, no k_enter refl, no k_clock refl, no k_doom refl))

-- so what they don't count for holds along them
pub calmly : (I : Store → Type 0) → Calm I → (ps : List Put) → only calm ps ≡ true → (X : Store) → I X → To I I ps X
calmly I c [] o X h = (h, h)
calmly I c (p ∷ ps) o X h =
    let a = and_true (memb p.kind calm) (only calm ps) o in
    let Y = apply p X in (
      h,
      calmly I c ps a.1 Y
          (subst I (sym (calm_put p X a.0))
          (c Y.stripe_guards Y.partition_guards Y.postings Y.posting_count Y.stamps Y.poisoned X h)),
    )
