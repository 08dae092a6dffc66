-- Freed slots: they are all zero, and what a slot that is not among them holds stays.
use Rattle.std.specs.Prelude.{◌≡◌, refl, false, not, List, [], ◌∷◌, map, ℕ}
use Rattle.std.proofs.Common.{ap}
use Rattle.records.specs.Setters.{slotted}
use Rattle.rules.specs.Types.{Store, Write}
use Rattle.rules.specs.Lists.{memb, those}
use Rattle.rules.specs.Store.{value_at, same_value}
use Rattle.rules.specs.Puts.{put_free, apply, apply_all}
use Rattle.rules.specs.Changes.{Change, change_of, index_changes}
use Rattle.run_laws.specs.GuardPuts.{set_all, set_all_else}
use Rattle.basic_laws.specs.Members.{Each}

-- the store with these slots all zero
abbrev pub freed : List ℕ → Store → Store
freed ps S =
    slotted
    (set_all S.xmin ps 0)
    (set_all S.xmax ps 0)
    (set_all S.next ps 0)
    (set_all S.key ps 0)
    (set_all S.has ps false)
    (set_all S.locked ps false)
    (set_all S.owner ps 0)
    S

-- their frees leave it
pub freed_is : (ps : List ℕ) (S : Store) → apply_all (map put_free ps) S ≡ freed ps S
freed_is [] S = refl
freed_is (p ∷ ps) S = freed_is ps (apply (put_free p) S)

-- a slot's value
pub freed_value : (l : List ℕ) (T : Store) (q : ℕ) → memb q l ≡ false
    → let D = apply_all (map put_free l) T in value_at D.key D.has q ≡ value_at T.key T.has q
freed_value l T q n = rw (freed_is l T, set_all_else 0 l T.key 0 q n, set_all_else false l T.has false q n)

-- neither side of a write is among the freed slots
abbrev pub Spared : List ℕ → Write → Type 0
Spared l w = (memb w.base.0 l ≡ false) × (memb w.new.0 l ≡ false)

-- the changes of such writes
pub freed_changes : (l : List ℕ) (T : Store) (ws : List Write) → Each (Spared l) ws
    → let D = apply_all (map put_free l) T in index_changes D.key D.has ws ≡ index_changes T.key T.has ws
unfolding index_changes
freed_changes l T ws E = ap (λ (cs : List Change). those (λ c. not (same_value c.before c.after)) cs) (each ws E)
  where
    each : (ws : List Write) → Each (Spared l) ws
        → let D = apply_all (map put_free l) T in map (change_of D.key D.has) ws ≡ map (change_of T.key T.has) ws
    each [] E = refl
    each (w ∷ ws) E = rw (freed_value l T w.base.0 E.0.0, freed_value l T w.new.0 E.0.1, each ws E.1)
