-- Writes within the limits: what a journal and a posting can hold.
use Rattle.std.specs.Prelude.{◌≡◌, refl, Bool, true, ◌&&◌, List, [], ◌∷◌, map, ◌%◌, ◌<◌, ◌≤◌, ltb, leb}
use Rattle.std.proofs.Common.{mod-eq_of_lt, ltb-true, leb-true}
use Rattle.records.specs.Limits.{rows, slots}
use Rattle.rules.specs.Lists.{all}
use Rattle.basic_laws.specs.Cases.{and_true, and_both}
use Rattle.rules.specs.Types.{Store, Tx, Write}
use Rattle.rules.specs.Transaction.{writes_of, finals}
use Rattle.rules.specs.Chains.{walk}
use Rattle.rules.specs.Fit.{fit}
use Rattle.basic_laws.specs.TestParts.{write_parts, fit_parts}
use Rattle.run_laws.specs.FinalWrites.{finals_all}

-- a write's pointers and row are within their limits
abbrev pub plain : Write → Bool
plain w = ltb w.row.0 rows && (leb w.base.0 slots && leb w.new.0 slots)

pub plain_parts : (w : Write) → plain w ≡ true → (w.row.0 < rows) × (w.base.0 ≤ slots) × (w.new.0 ≤ slots)
plain_parts w p =
    let a = and_true (ltb w.row.0 rows) _ p in
    let b = and_true (leb w.base.0 slots) (leb w.new.0 slots) a.1 in
    (ltb-true w.row.0 rows a.0, leb-true w.base.0 slots b.0, leb-true w.new.0 slots b.1)

-- a test that follows from another, of a list
pub all_follows {ℓ} : {A : Type ℓ} (f g : A → Bool) (l : List A) → ((x : A) → f x ≡ true → g x ≡ true) → all f l ≡ true → all g l ≡ true
all_follows f g [] h a = refl
all_follows f g (x ∷ l) h a =
    let b = and_true (f x) (all f l) a in and_both (g x) (all g l) (h x b.0) (all_follows f g l h b.1)

-- the final writes of a fit transaction are plain
pub finals_plain : (S : Store) (x : Tx) → fit S x ≡ true → all plain (finals x) ≡ true
unfolding finals
finals_plain S x h =
    finals_all plain (writes_of x) (all_follows _ plain (writes_of x) (λ w f.
    let p = write_parts S.xmin S.next (walk S.heads S.next).seen x.txid.0 w f in
    and_both (ltb w.row.0 rows) _ p.row (and_both (leb w.base.0 slots) (leb w.new.0 slots) p.base p.new))
    (fit_parts S x h).writes)

-- a write with its row brought below the limit: how code reads one that it knows nothing of
abbrev pub low : Write → Write
low w = record { row = record { 0 = w.row.0 % rows }; base = w.base; new = w.new }

-- a plain one is so already
pub low_same : (ws : List Write) → all plain ws ≡ true → map low ws ≡ ws
low_same [] h = refl
low_same (w ∷ ws) h =
    let b = and_true (plain w) (all plain ws) h in
    let e : w.row.0 % rows ≡ w.row.0 = mod-eq_of_lt (plain_parts w b.0).0 in
    let f : low w ≡ w = λ i. record { row = record { 0 = e i }; base = w.base; new = w.new } in
    rw (f, low_same ws b.1)
