-- The admission tests of a store as rows of the tests that the code makes.
use Rattle.std.specs.Prelude.{◌≡◌, refl, Bool, true, false, ◌&&◌, ◌||◌, List, [], ◌∷◌, ℕ, length, take, eqb, ltb, leb}
use Rattle.std.proofs.Common.{◌∙◌}
use Rattle.std.proofs.Math.Path.{ap}
use Rattle.std.proofs.Math.Bool.{and-false}
use Rattle.std.proofs.Math.Seq.{length-take-le}
use Rattle.records.specs.Limits.{rows, places, posting_limit}
use Rattle.rules.specs.Types.{Store}
use Rattle.rules.specs.Lists.{all, every, each_or, those, same, all_zero, is_zero, nonzero}
use Rattle.rules.specs.Store.{used_slots, slots_in_form, postings_of, postings_in_form, active_in_form}
use Rattle.rules.specs.Chains.{Walk, walk}
use Rattle.rules.specs.Admitted.{repairable, resting, head_postings}
use Rattle.fields.specs.Lent.{array_same, at_rows, at_places}
use Rattle.resting.specs.VersionTurns.{chain_at}
use Rattle.resting.specs.Used.{off_at, rest_at}
use Rattle.resting.specs.PostingForm.{form_count, form_rises, told_at, valued_by}
use Rattle.resting.specs.PostingsTold.{told_same}

-- a row of tests, from the first on
abbrev so_far : Bool → List Bool → Bool
so_far v [] = v
so_far v (b ∷ l) = so_far (v && b) l

so_far_every : (v : Bool) (l : List Bool) → so_far v l ≡ (v && every l)
unfolding every
so_far_every true [] = refl
so_far_every false [] = refl
so_far_every true (b ∷ l) = so_far_every b l
so_far_every false (b ∷ l) = so_far_every false l

-- the walk's answer and the tests on the clock, which cost next to nothing, may come first
cheap_first : (a d c s t x : Bool) (l : List Bool) → every (a ∷ c ∷ d ∷ s ∷ t ∷ x ∷ l) ≡ every (c ∷ s ∷ t ∷ x ∷ d ∷ a ∷ l)
unfolding every
cheap_first true true c s t x l = refl
cheap_first true false c s t x l = simp and-false
cheap_first false d c s t x l = simp and-false

-- a test that stands under another one
under : (p f q h k : Bool) → (f ≡ true → h ≡ k) → (((p && f) && q) && h) ≡ (((p && f) && q) && k)
under true true q h k e = rw (e refl)
under true false q h k e = refl
under false f q h k e = refl

-- the marks are those of the walk of the store
module _ (S : Store) (long : length S.heads ≡ rows) (many : length S.next ≡ places) where
  walk_is : walk (at_rows S.heads) (at_places S.next) ≡ walk S.heads S.next
  walk_is = rw (array_same rows 0 S.heads long, array_same places 0 S.next many)

  module _ (seen : List ℕ) (apart : Bool) (w : ◌≡◌ {A = Walk} (record { ok = apart; seen = seen }) (walk (at_rows S.heads) (at_places S.next))) where
    repairable_is : ((((((((apart && leb 1 S.clock) && ltb S.doomed S.clock) && slots_in_form S) && active_in_form S.active S.clock)
        && all (λ t. ltb t S.clock) S.xmin) && each_or is_zero nonzero seen S.xmin) && all (chain_at S) S.heads) && all (off_at S seen) (used_slots S.xmin))
        ≡ repairable S
    unfolding repairable chain_at off_at
    repairable_is =
        let e = w ∙ walk_is in
        let last : List Bool = each_or is_zero nonzero seen S.xmin ∷ all (chain_at S) S.heads ∷ all (off_at S seen) (used_slots S.xmin) ∷ [] in
        rw (← e)
        (so_far_every true
        (apart ∷ leb 1 S.clock ∷ ltb S.doomed S.clock ∷ slots_in_form S ∷ active_in_form S.active S.clock ∷ all (λ t. ltb t S.clock) S.xmin ∷ last)
        ∙ cheap_first apart (ltb S.doomed S.clock) (leb 1 S.clock) (slots_in_form S) (active_in_form S.active S.clock) (all (λ t. ltb t S.clock) S.xmin) last)

    pub repairable_says : (v r : Bool)
        → v ≡ (((((((apart && leb 1 S.clock) && ltb S.doomed S.clock) && slots_in_form S) && active_in_form S.active S.clock)
        && all (λ t. ltb t S.clock) S.xmin) && each_or is_zero nonzero seen S.xmin) && all (chain_at S) S.heads)
        → r ≡ (v && all (off_at S seen) (used_slots S.xmin)) → r ≡ repairable S
    repairable_says v r d e = (rw d at e) ∙ repairable_is

  module _ (seen : List ℕ) (marks : seen ≡ (walk (at_rows S.heads) (at_places S.next)).seen) where
    abbrev healthy : Bool
    healthy = eqb S.doomed 0 && same (postings_of S) (head_postings S.key S.has 0 S.heads)

    resting_is : (((((repairable S && all_zero S.stripe_guards) && all_zero S.partition_guards) && postings_in_form S)
        && all (rest_at S seen) (used_slots S.xmin)) && (S.poisoned || healthy)) ≡ resting S
    unfolding resting rest_at
    resting_is =
        let e = marks ∙ ap (λ (w : Walk). w.seen) walk_is in
        rw (← e) (so_far_every true (repairable S ∷ all_zero S.stripe_guards ∷ all_zero S.partition_guards ∷ postings_in_form S
        ∷ all (rest_at S seen) (used_slots S.xmin) ∷ (S.poisoned || healthy) ∷ []))

    told : Bool
    told = all (told_at S) (take S.posting_count S.postings) && eqb S.posting_count (length (those (valued_by S) S.heads))

    -- postings in their form are those of the heads where the heads tell them
    told_is : length S.postings ≡ posting_limit → postings_in_form S ≡ true → told ≡ same (postings_of S) (head_postings S.key S.has 0 S.heads)
    unfolding told told_at valued_by postings_of
    told_is p form =
        let n : length (take S.posting_count S.postings) ≡ S.posting_count = length-take-le S.posting_count S.postings (rw p (form_count S form)) in
        rw n at (told_same S.key S.has S.heads long (take S.posting_count S.postings) (form_rises S form))

    pub resting_says : length S.postings ≡ posting_limit → (v r : Bool)
        → v ≡ ((((repairable S && all_zero S.stripe_guards) && all_zero S.partition_guards) && postings_in_form S) && all (rest_at S seen) (used_slots S.xmin))
        → r ≡ (v && (S.poisoned || (eqb S.doomed 0 && (all (told_at S) (take S.posting_count S.postings)
        && eqb S.posting_count (length (those (valued_by S) S.heads)))))) → r ≡ resting S
    unfolding told
    resting_says p v r d e =
        (rw d at e)
        ∙ under ((repairable S && all_zero S.stripe_guards) && all_zero S.partition_guards) (postings_in_form S) (all (rest_at S seen) (used_slots S.xmin))
        (S.poisoned || (eqb S.doomed 0 && told)) (S.poisoned || healthy) (λ form. rw (told_is p form))
        ∙ resting_is
