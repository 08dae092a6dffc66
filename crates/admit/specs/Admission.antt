-- The refusals that every call but begin and recovery tries first, and refusals as the results of code.
use Rattle.std.specs.Prelude.{◌≡◌, refl, Bool, true, false, not, cond, ◌&&◌, [], ◌∷◌, Result, Ok, Err}
use Rattle.std.proofs.Common.{ap, ◌∙◌}
use Rattle.std.proofs.Math.Bool.{and-true}
use Rattle.rules.specs.Lists.{memb}
use Rattle.basic_laws.specs.Cases.{by, clash}
use Rattle.rules.specs.Types.{Store, Tx, Open, Closed, Refusal, NotResting, Unfit, NotActive}
use Rattle.rules.specs.Store.{active_txids}
use Rattle.rules.specs.Admitted.{resting}
use Rattle.rules.specs.Fit.{fit}
use Rattle.rules.specs.Numbers.{refuse, tries, is_done}
use Rattle.rules.specs.Calls.{admits}

-- what the rules refuse, as a result: `Done` is no error
abbrev pub as_result : Refusal → Result (Unit {0}) Refusal
as_result w = cond (is_done w) (Ok tt) (Err w)

-- an error is what was refused; with no error nothing was
pub refused_is : (v w : Refusal) → Err v ≡ as_result w → (v ≡ w) × (is_done v ≡ false)
refused_is v w e = by (is_done w)
    (λ y. absurd (apart (rw y at e)))
    (λ n. let same = only (rw n at e) in (same, ap is_done same ∙ n))
  where
    apart : {v : Refusal} → ◌≡◌ {A = Result (Unit {0}) Refusal} (Err v) (Ok tt) → ⊥
    apart e = cc

    only : {v u : Refusal} → ◌≡◌ {A = Result (Unit {0}) Refusal} (Err v) (Err u) → v ≡ u
    only e = cc

pub done_is : (u : Unit {0}) (w : Refusal) → Ok u ≡ as_result w → is_done w ≡ true
done_is u w e = by (is_done w) (λ y. y) (λ n. absurd (apart (rw n at e)))
  where
    apart : {u : Unit {0}} {v : Refusal} → ◌≡◌ {A = Result (Unit {0}) Refusal} (Ok u) (Err v) → ⊥
    apart e = cc

-- numbers 1, 2 and 3
unfoldable pub tried_by : Bool → Bool → Bool → Refusal
tried_by rests fits active = tries (refuse (not rests) (NotResting Open) ∷ refuse (not fits) (Unfit Open) ∷ refuse (not active) (NotActive Closed) ∷ [])

-- `planned`: the schedule is fit, which is commit's alone to ask
unfoldable pub admitted : Store → Tx → Bool → Refusal
admitted S x planned = tried_by (resting S) (fit S x && planned) (memb x.txid.0 (active_txids S.active))

pub admitted_by : (S : Store) (x : Tx) (planned : Bool) {rests fits active : Bool} → rests ≡ resting S → fits ≡ fit S x
    → active ≡ memb x.txid.0 (active_txids S.active)
    → tried_by rests (fits && planned) active ≡ admitted S x planned
unfolding admitted
admitted_by S x planned p q r = rw (p, q, r)

-- a call without a schedule
pub admitted_call : (S : Store) (x : Tx) → admitted S x true ≡ admits S x []
unfolding admitted tried_by admits
admitted_call S x = rw (and-true (fit S x))

-- where nothing is refused, the transaction is fit
pub admitted_fit : (S : Store) (x : Tx) (planned : Bool) → is_done (admitted S x planned) ≡ true → fit S x ≡ true
unfolding admitted tried_by
admitted_fit S x planned d = go (resting S) (fit S x) refl d
  where
    go : (a b : Bool) → fit S x ≡ b → is_done (tried_by a (b && planned) (memb x.txid.0 (active_txids S.active))) ≡ true → fit S x ≡ true
    go true true q h = q
    go true false q h = clash h refl
    go false b q h = clash h refl
