-- Refusals in their order, one row of tests after another, and the answers that depend on them.
use Rattle.std.specs.Prelude.{◌≡◌, refl, Bool, true, false, not, cond, List, [], ◌∷◌, Result, Ok, Err}
use Rattle.std.proofs.Common.{sym, ap, ◌∙◌, arith, take_all, ℕ, ◌≤◌, length, take}
use Rattle.rules.specs.Puts.{Put, apply_all}
use Rattle.journal.specs.Journal.{put_limit}
use Rattle.journal.specs.Adds.{Adds, adds_all}
use Rattle.rules.specs.Lists.{memb}
use Rattle.basic_laws.specs.Cases.{by, clash}
use Rattle.rules.specs.Types.{Store, Tx, Open, Closed, Refusal, Done, NotResting, Unfit, NotActive, FoundPoisoned}
use Rattle.rules.specs.Store.{active_txids}
use Rattle.rules.specs.Admitted.{resting}
use Rattle.rules.specs.Fit.{fit}
use Rattle.rules.specs.Numbers.{Try, refuse, tries, is_done}
use Rattle.rules.specs.Calls.{admits, admits_healthy}
use Rattle.admit.specs.Admission.{as_result, refused_is, done_is, admitted, admitted_call}

-- what was refused before, else what comes next
unfoldable pub unless : Refusal → Refusal → Refusal
unless first more = cond (is_done first) more first

pub unless_kept : (first more : Refusal) → is_done first ≡ false → first ≡ unless first more
unfolding unless
unless_kept first more e = rw e

pub unless_more : (first more q : Refusal) → is_done first ≡ true → q ≡ more → q ≡ unless first more
unfolding unless
unless_more first more q e f = rw e f

-- number 9
unfoldable pub poisoned_tries : Bool → Refusal
poisoned_tries poisoned = tries (refuse poisoned (FoundPoisoned Open) ∷ [])

-- numbers 1, 2, 3 and 9
abbrev pub first_tries : Store → Tx → Refusal
first_tries S x = unless (admitted S x true) (poisoned_tries S.poisoned)

-- as results: an error before stays, and without one the rest decides
pub unless_err : (first more : Refusal) {v : Refusal} → Err v ≡ as_result first → Err v ≡ as_result (unless first more)
unless_err first more {v} e =
    let r = refused_is v first e in
    let kept : first ≡ unless first more = unless_kept first more (sym (ap is_done r.0) ∙ r.1) in
    e ∙ ap as_result kept

pub unless_ok : (u : Unit {0}) (first more : Refusal) {r : Result (Unit {0}) Refusal} → Ok u ≡ as_result first → r ≡ as_result more
    → r ≡ as_result (unless first more)
unless_ok u first more e f = f ∙ ap as_result (unless_more first more more (done_is u first e) refl)

-- a planned row of puts, all of it applied
pub applied : (S : Store) {T : Store} {j₀ j ps : List Put} {n : ℕ} → j₀ ≡ [] → Adds j₀ ps j → length ps ≤ put_limit → n ≡ length j → T ≡ apply_all (take n j) S
    → T ≡ apply_all ps S
applied S {T} {j₀} {j} {ps} {n} o a l m t =
    let first : Adds [] ps j = rw o at a in
    let all : j ≡ ps = adds_all first l in
    t ∙ ap (λ (qs : List Put). apply_all qs S) (take_all n j (omega (arith, m)) ∙ all)

-- a refusal stays one, and nothing refused before leaves the rest
four : (a b c d : Bool) (more : Refusal) →
    cond a (NotResting Open) (cond b (Unfit Open) (cond c (NotActive Closed) (cond d (FoundPoisoned Open) more)))
    ≡ unless (unless (cond a (NotResting Open) (cond b (Unfit Open) (cond c (NotActive Closed) Done))) (poisoned_tries d)) more
unfolding unless poisoned_tries
four true b c d more = refl
four false true c d more = refl
four false false true d more = refl
four false false false true more = refl
four false false false false more = refl

-- "1, 2, 3, 9", then the rest
pub healthy_then : (S : Store) (x : Tx) (more : List Try) → admits_healthy S x more ≡ unless (unless (admits S x []) (poisoned_tries S.poisoned)) (tries more)
unfolding admits
healthy_then S x more = four (not (resting S)) (not (fit S x)) (not (memb x.txid.0 (active_txids S.active))) S.poisoned (tries more)

-- where nothing is refused, neither row refuses
pub both_done : (why first more : Refusal) → why ≡ unless first more → is_done why ≡ true → (is_done first ≡ true) × (is_done more ≡ true)
unfolding unless
both_done why first more e d = by (is_done first)
    (λ y. let q : why ≡ more = rw y at e in (y, sym (ap is_done q) ∙ d))
    (λ n. let q : why ≡ first = rw n at e in clash d (ap is_done q ∙ n))

-- and the store rests and the transaction is fit
pub admitted_both : (S : Store) (x : Tx) (more : List Try) → is_done (admits S x more) ≡ true → (resting S ≡ true) × (fit S x ≡ true)
unfolding admits
admitted_both S x more d = go (resting S) (fit S x) refl refl d
  where
    rest : Refusal
    rest = tries (refuse (not (memb x.txid.0 (active_txids S.active))) (NotActive Closed) ∷ more)

    go : (a b : Bool) → resting S ≡ a → fit S x ≡ b → is_done (cond (not a) (NotResting Open) (cond (not b) (Unfit Open) rest)) ≡ true
        → (resting S ≡ true) × (fit S x ≡ true)
    go true true p q h = (p, q)
    go true false p q h = clash h refl
    go false b p q h = clash h refl

-- as code finds it: admission, poison, then the call's own tests, which may lean on a fit transaction
pub found_healthy : (S : Store) (x : Tx) (more : List Try) (tried first why own : Refusal)
    → tried ≡ admitted S x true → first ≡ unless tried (poisoned_tries S.poisoned) → why ≡ unless first own → (fit S x ≡ true → own ≡ tries more)
    → why ≡ admits_healthy S x more
found_healthy S x more tried first why own q e f g =
    let a = q ∙ admitted_call S x in
    let whole : unless first (tries more) ≡ admits_healthy S x more = rw (e, a) (sym (healthy_then S x more)) in
    by (is_done first)
    (λ y. let b = both_done first tried (poisoned_tries S.poisoned) e y in
    let ok = admitted_both S x [] (sym (ap is_done a) ∙ b.0) in
    f ∙ ap (unless first) (g ok.1) ∙ whole)
    (λ n. f ∙ sym (unless_kept first own n) ∙ unless_kept first (tries more) n ∙ whole)

-- an answer by its refusal
unfoldable pub choose : {A : Type 0} → (Refusal → A) → (Refusal → A) → Refusal → A
choose done refused why = cond (is_done why) (done why) (refused why)

module _ {A : Type 0} (done refused : Refusal → A) (why w : Refusal) (e : why ≡ w) where
  pub choose_done : is_done why ≡ true → done why ≡ choose done refused w
  unfolding choose
  choose_done d = rw (← e, d)

  pub choose_refused : is_done why ≡ false → refused why ≡ choose done refused w
  unfolding choose
  choose_refused d = rw (← e, d)
