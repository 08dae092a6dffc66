-- "Every commit answer but 1 and 18 leaves no guard held."
use Rattle.std.specs.Prelude.{◌≡◌, refl, Bool, true, false, cond, ◌||◌, List, [], ◌∷◌, ◌++◌, map, reverse, ℕ, take, eqb}
use Rattle.std.proofs.Common.{sym, ap, ◌∙◌, append_assoc}
use Rattle.basic_laws.specs.Cases.{by}
use Rattle.rules.specs.Lists.{all_zero, flat, memb}
use Rattle.rules.specs.Types.{Store, Tx, Write, Schedule, Cut, Fate, Refusal}
use Rattle.rules.specs.Transaction.{finals}
use Rattle.rules.specs.Admitted.{resting}
use Rattle.rules.specs.Numbers.{number_of}
use Rattle.rules.specs.Puts.{Put, k_stripe, k_partition, k_insert, k_remove, k_xmax, k_head, k_free, k_drop, k_stamp, k_poison, k_doom, sets, put_insert}
use Rattle.rules.specs.Puts.{put_remove, put_xmax, put_head, put_free, put_drop, put_stamp, put_poison, put_doom, apply_all, own_slots, abort_puts}
use Rattle.rules.specs.Changes.{changes, destinations, sources, changed_stripes, recycled, publish_one}
use Rattle.rules.specs.Changes.{release, insertions, removals, publication, recycling, stamping}
use Rattle.rules.specs.Commit.{End, poison, fails, count, finish, abort_or_poison, rollback}
use Rattle.rules.specs.Answer.{uncut, commit}
use Rattle.run_laws.specs.OnlyKinds.{only, only_both, only_map, only_take, only_if, kept, is_not}
use Rattle.run_laws.specs.GuardPuts.{apply_all_append, guards_zero, both_back}
use Rattle.run_laws.specs.Outcome.{guards_taken, aborting, worse, undoing, Spoil, unremoved, unpublished, unrecycled}
use Rattle.run_laws.specs.Outcome.{unfinished, Outcome, done, stays, aborts, uninserted, uncalled, spoils, unstamped, outcome}
use Rattle.statements.specs.Words.{Admitted}
use Rattle.run_laws.specs.FirstRows.{whole, given_back}

-- the kinds of a commit's puts other than guards
abbrev pub unguarded : List ℕ
unguarded = k_insert ∷ k_remove ∷ k_xmax ∷ k_head ∷ k_free ∷ k_drop ∷ k_stamp ∷ k_poison ∷ k_doom ∷ []

-- puts that touch no guard
pub record Guardless (ps : List Put) : Type 0 where
  pub spares : only unguarded ps ≡ true

-- two stores with the same guards
pub record SameGuards (T S : Store) : Type 0 where
  pub stripe : T.stripe_guards ≡ S.stripe_guards
  pub partition : T.partition_guards ≡ S.partition_guards

guards_kept : {ps : List Put} (S : Store) → Guardless ps → SameGuards (apply_all ps S) S
guards_kept {ps} S h = record {
  stripe = kept (λ T. T.stripe_guards) unguarded (λ p T m. rw (is_not unguarded k_stripe refl p m)) ps S h.spares;
  partition = kept (λ T. T.partition_guards) unguarded (λ p T m. rw (is_not unguarded k_partition refl p m)) ps S h.spares;
}

-- guards depend on guards alone
guards_through : (ps : List Put) {T U : Store} → SameGuards T U → SameGuards (apply_all ps T) (apply_all ps U)
guards_through [] h = h
guards_through (p ∷ ps) h = guards_through ps (record { stripe = ap (sets p k_stripe) h.stripe; partition = ap (sets p k_partition) h.partition })

published : (t : ℕ) (ws : List Write) → only unguarded (flat (publish_one t) ws) ≡ true
unfolding publish_one
published t [] = refl
published t (w ∷ ws) =
    only_both unguarded (publish_one t w) (flat (publish_one t) ws)
    (only_if unguarded (eqb w.base.0 0) (put_head w.row.0 w.new.0 ∷ []) (put_xmax w.base.0 t ∷ put_head w.row.0 w.new.0 ∷ []) refl refl)
    (published t ws)

module _ (S : Store) (x : Tx) (logged : Bool) (plan : Schedule) where
  inserting : Guardless (insertions S x)
  unfolding insertions
  inserting = record { spares = only_map unguarded put_insert (destinations (changes S x)) (λ c. refl) }

  removing : Guardless (removals S x)
  unfolding removals
  removing = record { spares = only_map unguarded put_remove (sources (changes S x)) (λ c. refl) }

  publishing : Guardless (publication x)
  unfolding publication
  publishing = record { spares = published x.txid.0 (finals x) }

  freeing : Guardless (recycling S x)
  unfolding recycling
  freeing = record { spares = only_map unguarded put_free (recycled S x) (λ p. refl) }

  stamps : Guardless (stamping S x)
  unfolding stamping
  stamps = record { spares = only_map unguarded (λ i. put_stamp i x.txid.0) (changed_stripes (changes S x)) (λ i. refl) }

  some : {ps : List Put} (n : ℕ) → Guardless ps → Guardless (take n ps)
  some {ps} n h = record { spares = only_take unguarded n ps h.spares }

  poisoning : (b : Bool) → Guardless (poison b)
  poisoning b = record { spares = only_if unguarded b [] (put_poison ∷ []) refl refl }

  aborted : (b : Bool) → Guardless (abort_or_poison S x logged plan b).puts
  unfolding abort_or_poison abort_puts
  aborted b = by (fails S x logged plan 23)
      (λ e. rw e (poisoning b))
      (λ e. rw e (record {
        spares =
            only_both unguarded (map put_free (own_slots S.heads S.next S.xmin x.txid.0)) (put_drop x.txid.0 ∷ [])
            (only_map unguarded put_free (own_slots S.heads S.next S.xmin x.txid.0) (λ p. refl)) refl;
      }))

  rolled : (b : Bool) (made : List ℕ) → Guardless (rollback S x logged plan b made).puts
  unfolding rollback
  rolled b made =
      let back = only_map unguarded put_remove (reverse made) (λ c. refl) in
      let n = count S x logged plan 24 in
      by (fails S x logged plan 24)
      (λ e. rw e (record {
        spares =
            only_both unguarded (take n (map put_remove (reverse made))) (poison b) (only_take unguarded n (map put_remove (reverse made)) back)
            (poisoning b).spares;
      }))
      (λ e. rw e (record { spares = back }))

  one : (p : Put) → memb p.kind unguarded ≡ true → Guardless (p ∷ [])
  one p h = record { spares = rw h }

  none : Guardless []
  none = record { spares = refl }

  called : Guardless (cond (worse S x logged plan) (put_poison ∷ []) [])
  called = record { spares = only_if unguarded (worse S x logged plan) (put_poison ∷ []) [] refl refl }

  doomed : Guardless (put_doom x.txid.0 ∷ finish S x logged plan)
  doomed = record { spares = only_if unguarded (fails S x logged plan 21) [] (put_drop x.txid.0 ∷ []) refl refl }

  -- all guards taken, then puts that touch none
  pub data Between : List Put → Type 0 where
    start : Between (guards_taken S x logged plan)
    then : {ps qs : List Put} → Between ps → Guardless qs → Between (ps ++ qs)

  -- the guards as they are when all are taken
  abbrev pub Full : Store
  Full = apply_all (guards_taken S x logged plan) S

  full : {ps : List Put} → Between ps → SameGuards (apply_all ps S) Full
  full start = record { stripe = refl; partition = refl }
  full (then {ps = ps} {qs = qs} h k) =
      let a = full h in
      let b = guards_kept (apply_all ps S) k in
      rw (apply_all_append ps qs S) (record { stripe = b.stripe ∙ a.stripe; partition = b.partition ∙ a.partition })

  -- let go at the end
  let_go : {ps : List Put} → resting S ≡ true → Between ps → SameGuards (apply_all (ps ++ release S x) S) S
  let_go {ps} r h =
      let g = guards_zero S r in
      let back = sym (apply_all_append (guards_taken S x logged plan) (release S x) S) ∙ both_back S x g.0 g.1 in
      rw (apply_all_append ps (release S x) S) (rw back at (guards_through (release S x) (full h)))

  spoiled : {n : ℕ} {made some finishing : List Put} {poisons : Put} {kind : Fate → Refusal} {y : Tx} {drops : Bool}
      → Spoil S x logged plan n made some poisons finishing kind y drops
      → Between made × Guardless some × Guardless (poisons ∷ finishing)
  spoiled (unremoved k) = (then start inserting, some (count S x logged plan 17) removing, one put_poison refl)
  spoiled (unpublished k) = (then (then start inserting) removing, some (count S x logged plan 18) publishing, doomed)
  spoiled (unrecycled k) = (then (then (then start inserting) removing) publishing, some (count S x logged plan 19) freeing, doomed)
  spoiled (unfinished k) = (then (then (then (then start inserting) removing) publishing) freeing, none, one (put_doom x.txid.0) refl)

  no_guard : (n : ℕ) (ps : List Put) (d : End) → resting S ≡ true → Outcome S x logged plan n ps d → SameGuards (apply_all ps S) S
  no_guard _ _ _ r (done p) =
      let_go r (then (then (then (then (then (then start inserting) removing) publishing) freeing) (one (put_drop x.txid.0) refl)) stamps)
  no_guard _ _ _ r (stays l t k) = rw (given_back S x logged plan r t) (record { stripe = refl; partition = refl })
  no_guard _ _ _ r (aborts {taken = taken} {back = back} l t k) =
      rw (
        sym (append_assoc taken back (aborting S x logged plan).puts),
        apply_all_append (taken ++ back) (aborting S x logged plan).puts S,
        given_back S x logged plan r t,
      )
      (guards_kept S (aborted S.poisoned))
  no_guard _ _ _ r (uninserted p k) =
      simp append_assoc
      (simp append_assoc at
      (let_go r
      (then (then start (some (count S x logged plan 15) inserting)) (rolled false (take (count S x logged plan 15) (destinations (changes S x)))))))
  no_guard _ _ _ r (uncalled p l k) =
      simp append_assoc
      (simp append_assoc at
      (let_go r (then (then (then (then start inserting) called) (rolled (worse S x logged plan) (destinations (changes S x))))
      (aborted (worse S x logged plan || (undoing S x logged plan).failed)))))
  no_guard _ _ _ r (spoils p k) = let h = spoiled k in simp append_assoc (simp append_assoc at (let_go r (then (then h.0 h.1) h.2)))
  no_guard _ _ _ r (unstamped p k) =
      simp append_assoc
      (simp append_assoc at
      (let_go r (then (then (then (then (then (then (then start inserting) removing) publishing) freeing) (one (put_drop x.txid.0) refl))
      (some (count S x logged plan 22) stamps))
      (one put_poison refl))))

  -- an admitted commit that isn't cut leaves no guard held: T is a test of numbers that 18 fails
  pub guards_released : (cut : Cut) → Admitted S x plan → (T : ℕ → Bool) → T 18 ≡ false → let a = commit S x logged plan cut in
      T (number_of a.refusal) ≡ true → (all_zero a.store.stripe_guards ≡ true) × (all_zero a.store.partition_guards ≡ true)
  unfolding uncut
  guards_released cut ok T z h =
      let g = guards_zero S ok.rests in
      let r = no_guard _ _ _ ok.rests (outcome S x logged plan) in
      rw (whole S x logged plan cut ok T z h, r.stripe, r.partition) g
