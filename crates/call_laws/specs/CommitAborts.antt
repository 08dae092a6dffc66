-- "Each abort that neither fault nor cut strikes truly frees and deregisters": the aborts inside commit.
use Rattle.std.specs.Prelude.{◌≡◌, Bool, true, false, ◌||◌, ℕ, get_or}
use Rattle.std.proofs.Math.Path.{refl, sym}
use Rattle.std.proofs.Common.{ap, ◌∙◌, arith}
use Rattle.std.proofs.Math.Bool.{cond}
use mathlib.Core.List.{List, [], ◌∷◌, ◌++◌, append_assoc, append-nil}
use Rattle.records.specs.Limits.{active_limit}
use Rattle.records.specs.Zero.{only_txid}
use Rattle.basic_laws.specs.Cases.{clash}
use Rattle.rules.specs.Lists.{memb, pad}
use Rattle.rules.specs.Types.{Store, Tx, Schedule, Cut}
use Rattle.rules.specs.Store.{active_txids}
use Rattle.rules.specs.Admitted.{resting}
use Rattle.rules.specs.Numbers.{number_of}
use Rattle.rules.specs.Puts.{Put, k_stripe, k_partition, k_insert, k_remove, k_xmax, k_free, k_drop, k_poison, k_enter, k_xmin}
use Rattle.rules.specs.Puts.{k_next, k_key, k_lock, is, sets, raises, frees, enters, put_poison, apply, apply_all, abort_puts}
use Rattle.rules.specs.Calls.{abort}
use Rattle.rules.specs.Changes.{changes, destinations, index_guards, release, insertions}
use Rattle.rules.specs.Commit.{End, fails, abort_or_poison}
use Rattle.rules.specs.Answer.{uncut, commit}
use Rattle.run_laws.specs.OnlyKinds.{only, only_both, only_if, kept, is_not}
use Rattle.run_laws.specs.GuardPuts.{apply_all_append}
use Rattle.run_laws.specs.Outcome.{Taken, neither, index, both, guards_taken, after_insert, worse, undoing, Outcome}
use Rattle.run_laws.specs.Outcome.{done, stays, aborts, uninserted, uncalled, spoils, unstamped, outcome}
use Rattle.statements.specs.Words.{Freed, aborted_number, Admitted}
use Rattle.run_laws.specs.FirstRows.{whole, stay_not, spoil_not}
use Rattle.run_laws.specs.Kinds.{index_kind, taken_kinds, release_kinds, insertions_kind, rollback_kinds}
use Rattle.statements.specs.Sized.{Sized}
use Rattle.run_laws.specs.OwnSlots.{parts_own}
use Rattle.recovery_laws.specs.Unfinished.{dropped, dropped_gone}
use Rattle.recovery_laws.specs.Start.{txid_positive}
use Rattle.admitted_laws.specs.Resting.{rests}
use Rattle.sentences.specs.Refusals.{abort_accepted}
use Rattle.call_laws.specs.Passed.{abort_passed}
use Rattle.call_laws.specs.AbortLaws.{own_of, aborted_is, wiped_all}

-- abort's stores leave that
abort_frees : (S : Store) (t : ℕ) → Sized S → resting S ≡ true → memb t (active_txids S.active) ≡ true → Freed S t (apply_all (abort_puts S t) S)
abort_frees S t z r a =
    let R = rests S z r in
    rw (aborted_is S t) (record {
      freed = λ p e off. wiped_all (own_of S t) (dropped S.active t) S p
          (parts_own S.heads S.next S.xmin t p (record { some = omega (arith, e, txid_positive S R.0 z R.1 t a); mine = e; off = off }));
      gone = dropped_gone S.active S.clock R.1.mends.listed z.active t;
    })

-- the fields that an abort changes
record Slots : Type 0 where
  pub xmin : List ℕ
  pub xmax : List ℕ
  pub next : List ℕ
  pub key : List ℕ
  pub has : List Bool
  pub locked : List Bool
  pub owner : List ℕ
  pub active : List ℕ

abbrev slots_in : Store → Slots
slots_in S = record { xmin = S.xmin; xmax = S.xmax; next = S.next; key = S.key; has = S.has; locked = S.locked; owner = S.owner; active = S.active }

-- one put, on these fields alone
abbrev slot_put : Put → Slots → Slots
slot_put p s = record {
  xmin = frees p 0 (sets p k_xmin s.xmin);
  xmax = frees p 0 (sets p k_xmax s.xmax);
  next = frees p 0 (sets p k_next s.next);
  key = frees p 0 (sets p k_key s.key);
  has = frees p false (raises p k_key s.has);
  locked = frees p false (raises p k_lock s.locked);
  owner = frees p 0 (sets p k_lock s.owner);
  active = cond (is p k_drop || is p k_enter) (pad active_limit 0 (enters p (active_txids s.active))) s.active;
}

-- so stores that agree on them agree after the same puts
slots_through : (ps : List Put) (T U : Store) → slots_in T ≡ slots_in U → slots_in (apply_all ps T) ≡ slots_in (apply_all ps U)
slots_through [] T U e = e
slots_through (p ∷ ps) T U e = slots_through ps (apply p T) (apply p U) (ap (slot_put p) e)

-- guards, postings and poison leave them
abbrev beside : List ℕ
beside = k_stripe ∷ k_partition ∷ k_insert ∷ k_remove ∷ k_poison ∷ []

slots_kept : (ps : List Put) (T : Store) → only beside ps ≡ true → slots_in (apply_all ps T) ≡ slots_in T
slots_kept ps T o = kept slots_in beside (λ p U m. rw (
  is_not beside k_free refl p m,
  is_not beside k_xmin refl p m,
  is_not beside k_xmax refl p m,
  is_not beside k_next refl p m,
  is_not beside k_key refl p m,
  is_not beside k_lock refl p m,
  is_not beside k_drop refl p m,
  is_not beside k_enter refl p m,
)) ps T o

-- what is known of the slots is known of every store with the same
same_freed : (S : Store) (t : ℕ) (T U : Store) → slots_in T ≡ slots_in U → Freed S t U → Freed S t T
same_freed S t T U e f = record {
  freed = λ p m off. let b = f.freed p m off in record {
    xmin = ap (λ (s : Slots). get_or s.xmin p 0) e ∙ b.xmin;
    xmax = ap (λ (s : Slots). get_or s.xmax p 0) e ∙ b.xmax;
    next = ap (λ (s : Slots). get_or s.next p 0) e ∙ b.next;
    key = ap (λ (s : Slots). get_or s.key p 0) e ∙ b.key;
    has = ap (λ (s : Slots). get_or s.has p false) e ∙ b.has;
    locked = ap (λ (s : Slots). get_or s.locked p false) e ∙ b.locked;
    owner = ap (λ (s : Slots). get_or s.owner p 0) e ∙ b.owner;
  };
  gone = ap (λ (s : Slots). memb t (active_txids s.active)) e ∙ f.gone;
}

-- an abort's stores with such puts around them
freed_among : (S : Store) (t : ℕ) → Sized S → resting S ≡ true → memb t (active_txids S.active) ≡ true → (ps qs : List Put)
    → only beside ps ≡ true → only beside qs ≡ true → Freed S t (apply_all (ps ++ (abort_puts S t ++ qs)) S)
freed_among S t z r a ps qs o k =
    let A = abort_puts S t in
    let U = apply_all A (apply_all ps S) in
    rw (apply_all_append ps (A ++ qs) S, apply_all_append A qs (apply_all ps S))
    (same_freed S t (apply_all qs U) (apply_all A S)
    (slots_kept qs U k ∙ slots_through A (apply_all ps S) S (slots_kept ps S o))
    (abort_frees S t z r a))

module _ (S : Store) (x : Tx) (logged : Bool) (plan : Schedule) where
  taken_beside : {taken back : List Put} → Taken S x logged plan taken back → only beside (taken ++ back) ≡ true
  taken_beside neither = refl
  taken_beside index =
      only_both beside (index_guards S x x.txid.0) (index_guards S x 0) (index_kind beside refl refl S x x.txid.0) (index_kind beside refl refl S x 0)
  taken_beside both =
      only_both beside (guards_taken S x logged plan) (release S x) (taken_kinds beside refl refl S x logged plan) (release_kinds beside refl refl S x)

  -- what a failed callback stores before its abort
  called_beside : only beside (after_insert S x logged plan ++ (cond (worse S x logged plan) (put_poison ∷ []) [] ++ (undoing S x logged plan).puts)) ≡ true
  called_beside =
      let C = cond (worse S x logged plan) (put_poison ∷ []) [] in
      let W = (undoing S x logged plan).puts in
      only_both beside (after_insert S x logged plan) (C ++ W)
      (only_both beside (guards_taken S x logged plan) (insertions S x) (taken_kinds beside refl refl S x logged plan) (insertions_kind beside S x refl))
      (only_both beside C W (only_if beside (worse S x logged plan) (put_poison ∷ []) [] refl refl)
      (rollback_kinds beside S x logged plan refl refl (worse S x logged plan) (destinations (changes S x))))

  only_freed : (n : ℕ) (ps : List Put) (d : End) → Sized S → Admitted S x plan → fails S x logged plan 23 ≡ false
      → Outcome S x logged plan n ps d → aborted_number (number_of d.refusal) ≡ true → Freed S x.txid.0 (apply_all ps S) × (d.tx ≡ only_txid x.txid.0)
  unfolding abort_or_poison
  only_freed _ _ _ z ok f (done p) h = clash h refl
  only_freed _ _ _ z ok f (stays l t k) h = clash h (stay_not aborted_number refl refl k _)
  only_freed _ _ _ z ok f (aborts {taken = taken} {back = back} l t k) h =
      rw (f, sym (append_assoc taken back (abort_puts S x.txid.0)), sym (append-nil (abort_puts S x.txid.0)))
      (freed_among S x.txid.0 z ok.rests ok.active (taken ++ back) [] (taken_beside t) refl, refl)
  only_freed _ _ _ z ok f (uninserted p k) h = clash h refl
  only_freed _ _ _ z ok f (uncalled p l k) h =
      let C = cond (worse S x logged plan) (put_poison ∷ []) [] in
      let W = (undoing S x logged plan).puts in
      rw (
        f,
        ← append_assoc C W (abort_puts S x.txid.0 ++ release S x),
        ← append_assoc (after_insert S x logged plan) (C ++ W) (abort_puts S x.txid.0 ++ release S x),
      ) (
        freed_among S x.txid.0 z ok.rests ok.active (after_insert S x logged plan ++ (C ++ W)) (release S x) called_beside
            (release_kinds beside refl refl S x),
        refl,
      )
  only_freed _ _ _ z ok f (spoils p k) h = clash h (spoil_not aborted_number refl refl refl refl k _)
  only_freed _ _ _ z ok f (unstamped p k) h = clash h refl

  -- every commit that answers one of these numbers, with no fault at 23, has freed and deregistered; its transaction is zero but for its txid
  pub commit_aborts : (cut : Cut) → Sized S → Admitted S x plan → fails S x logged plan 23 ≡ false → let a = commit S x logged plan cut in
      aborted_number (number_of a.refusal) ≡ true → Freed S x.txid.0 a.store × (a.tx ≡ only_txid x.txid.0)
  unfolding uncut
  commit_aborts cut z ok f h =
      let u = whole S x logged plan cut ok aborted_number refl h in
      rw u (only_freed _ _ _ z ok f (outcome S x logged plan) (rw u at h))

-- the call's own abort
pub abort_call : (S : Store) (x : Tx) → Sized S → number_of (abort S x).refusal ≡ 0
    → Freed S x.txid.0 (abort S x).store × ((abort S x).tx ≡ only_txid x.txid.0)
abort_call S x z h =
    let l = abort_passed S x h in
    rw (abort_accepted S x h) (abort_frees S x.txid.0 z l.rests l.active, refl)
