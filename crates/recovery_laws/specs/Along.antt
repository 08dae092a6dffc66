-- A predicate at every prefix of a list of puts.
use Rattle.std.specs.Prelude.{List, [], ◌∷◌, ◌++◌, ℕ, zero, suc, take}
use Rattle.rules.specs.Types.{Store}
use Rattle.rules.specs.Puts.{Put, apply, apply_all}

-- P at every prefix, and Q at the end
abbrev pub To : (Store → Type 0) → (Store → Type 0) → List Put → Store → Type 0
To P Q [] S = P S × Q S
To P Q (p ∷ ps) S = P S × To P Q ps (apply p S)

-- so P after the first k puts
pub to_take : (P Q : Store → Type 0) (ps : List Put) (S : Store) (k : ℕ) → To P Q ps S → P (apply_all (take k ps) S)
to_take P Q [] S zero h = h.0
to_take P Q (p ∷ ps) S zero h = h.0
to_take P Q [] S (suc k) h = h.0
to_take P Q (p ∷ ps) S (suc k) h = to_take P Q ps (apply p S) k h.1

-- and Q after all
pub to_end : (P Q : Store → Type 0) (ps : List Put) (S : Store) → To P Q ps S → Q (apply_all ps S)
to_end P Q [] S h = h.1
to_end P Q (p ∷ ps) S h = to_end P Q ps (apply p S) h.1

-- P along the first k puts
pub to_cut : (P Q : Store → Type 0) (ps : List Put) (S : Store) (k : ℕ) → To P Q ps S → To P P (take k ps) S
to_cut P Q [] S zero h = (h.0, h.0)
to_cut P Q (p ∷ ps) S zero h = (h.0, h.0)
to_cut P Q [] S (suc k) h = (h.0, h.0)
to_cut P Q (p ∷ ps) S (suc k) h = (h.0, to_cut P Q ps (apply p S) k h.1)

-- blocks one after the other
pub to_then : (P Q R : Store → Type 0) (ps qs : List Put) (S : Store) → To P Q ps S → ((X : Store) → Q X → To P R qs X) → To P R (ps ++ qs) S
to_then P Q R [] qs S h k = k S h.1
to_then P Q R (p ∷ ps) qs S h k = (h.0, to_then P Q R ps qs (apply p S) h.1 k)

-- weaker predicates
pub to_map : (P P' Q Q' : Store → Type 0) (ps : List Put) (S : Store) → ((X : Store) → P X → P' X) → ((X : Store) → Q X → Q' X) → To P Q ps S → To P' Q' ps S
to_map P P' Q Q' [] S f g h = (f S h.0, g S h.1)
to_map P P' Q Q' (p ∷ ps) S f g h = (f S h.0, to_map P P' Q Q' ps (apply p S) f g h.1)
