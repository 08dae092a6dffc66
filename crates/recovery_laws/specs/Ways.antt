-- What each ending of a commit leaves on the way: the store is repairable after every put, and shows what it showed; or, once a commit that stands
-- has dropped its txid, what it wrote.
use Rattle.std.specs.Prelude.{◌≡◌, Bool, true, false, not, cond, ◌||◌, ◌⊎◌, ℕ, ◌<◌, take}
use Rattle.std.proofs.Math.Path.{refl}
use Rattle.std.proofs.Common.{subst, inl, inr, ⊎_elim, arith}
use mathlib.Core.List.{List, [], ◌∷◌, ◌++◌, map, append_assoc}
use Rattle.rules.specs.Lists.{memb}
use Rattle.rules.specs.Types.{Store, Tx, Schedule, Value, Fate, Open, Undone, Refusal, CallbackFailed, CallbackPanicked, CleanupFailed}
use Rattle.rules.specs.Store.{active_txids}
use Rattle.rules.specs.Transaction.{finals}
use Rattle.rules.specs.Admitted.{finished}
use Rattle.rules.specs.Numbers.{fate}
use Rattle.rules.specs.Puts.{Put, put_free, put_drop, put_poison, put_doom, apply, own_slots, abort_puts}
use Rattle.rules.specs.Tests.{write_base_conflict}
use Rattle.run_laws.specs.FourTests.{bases_agree}
use Rattle.rules.specs.Changes.{changes, destinations, recycled, release, insertions, removals, publication, recycling, stamping}
use Rattle.rules.specs.Commit.{End, poison, fails, count, finish, abort_or_poison}
use Rattle.basic_laws.specs.Cases.{by}
use Rattle.run_laws.specs.OnlyKinds.{only, only_both, only_take, only_if}
use Rattle.run_laws.specs.Outcome.{Taken, Stay, faulted, durable, Abort, unprepared, panicked, busy, conflict, unhealthy, Passed}
use Rattle.run_laws.specs.Outcome.{guards_taken, after_insert, after_remove, after_publish, after_recycle, after_finish, after_stamp}
use Rattle.run_laws.specs.Outcome.{aborting, rolling_back, worse, panics, undoing, aborting_late, bad, Spoil, unremoved, unpublished}
use Rattle.run_laws.specs.Outcome.{unrecycled, unfinished, Outcome, done, stays, aborts, uninserted, uncalled, spoils, unstamped}
use Rattle.statements.specs.Words.{stands, Admitted, shown, with_new}
use Rattle.run_laws.specs.Kinds.{taken_kinds, release_kinds, insertions_kind, removals_kind, stamping_kind, poison_kind, rollback_kinds}
use Rattle.statements.specs.Sized.{Sized}
use Rattle.admitted_laws.specs.Resting.{Rests, rests, rests_sole}
use Rattle.recovery_laws.specs.Unfinished.{dropped, dropped_gone}
use Rattle.recovery_laws.specs.Along.{To, to_cut, to_then, to_map}
use Rattle.recovery_laws.specs.Calm.{Calm, calm, calmly}
use Rattle.recovery_laws.specs.PutBlocks.{guards_kinds, insert_kinds, remove_kinds}
use Rattle.recovery_laws.specs.Live.{Lives, lives_calm, Due, due_calm}
use Rattle.recovery_laws.specs.OwnFreed.{frees}
use Rattle.recovery_laws.specs.Dropped.{due_dropped, doomed_dropped, lives_doomed}
use Rattle.recovery_laws.specs.Publishing.{On, on_calm, publishes, published_due}
use Rattle.recovery_laws.specs.Start.{txid_positive, txid_unfinished, live_start, due_start, on_start}

module _ (S : Store) (x : Tx) (logged : Bool) (plan : Schedule) where
  abbrev t : ℕ
  t = x.txid.0

  abbrev old : ℕ → Value
  old = shown S

  abbrev pub new : ℕ → Value
  new = with_new S.key S.has (finals x) (shown S)

  -- as it was, with `who` on chains; with what the commit wrote; one or the other
  abbrev pub Same : ℕ → Store → Type 0
  Same who X = Lives old S.active S.doomed who X

  abbrev pub New : Store → Type 0
  New X = Lives new (dropped S.active t) S.doomed S.doomed X

  abbrev pub Either : Store → Type 0
  Either X = Same t X ⊎ New X

  -- as it was, whatever txids are active, doomed and on chains; and with none but the doomed one on chains
  abbrev pub Old : Store → Type 0
  Old X = (act : List ℕ) × (doom : ℕ) × (who : ℕ) × Lives old act doom who X

  abbrev pub Home : Store → Type 0
  Home X = (act : List ℕ) × (doom : ℕ) × Lives old act doom doom X

  home_old : (X : Store) → Home X → Old X
  home_old X h = (h.0, h.1, h.1, h.2)

  home_calm : Calm Home
  home_calm g q ps n st b X h = (h.0, h.1, lives_calm old h.0 h.1 h.1 g q ps n st b X h.2)

  same_old : (who : ℕ) (X : Store) → Same who X → Old X
  same_old who X h = (S.active, S.doomed, who, h)

  -- calm puts, on the way to P
  calmly_to : (P I : Store → Type 0) → Calm I → ((X : Store) → I X → P X) → (ps : List Put) → only calm ps ≡ true → (X : Store) → I X → To P I ps X
  calmly_to P I c f ps o X h = to_map I P I I ps X f (λ Y k. k) (calmly I c ps o X h)

  stay_home : (ps : List Put) → only calm ps ≡ true → (X : Store) → Home X → To Old Home ps X
  stay_home = calmly_to Old Home home_calm home_old

  letting_go : only calm (release S x) ≡ true
  letting_go = release_kinds calm refl refl S x

  module _ (z : Sized S) (ok : Admitted S x plan) where
    abbrev L : ℕ → List ℕ
    L = (rests S z ok.rests).0

    R : Rests S L
    R = (rests S z ok.rests).1

    pos : 0 < t
    pos = txid_positive S L z R t ok.active

    nf : finished S.active S.doomed t ≡ false
    nf = txid_unfinished S L z R t ok.active

    home : Home S
    home = (S.active, S.doomed, (L, live_start S L z R t ok.active S.doomed (rests_sole S L R)))

    -- before an abort: the txid owes its slots
    abbrev own : List ℕ
    own = own_slots S.heads S.next S.xmin t

    abbrev Owing : List ℕ → Store → Type 0
    Owing l X = Due t old old S.active S.doomed S.doomed l X

    owing : Owing own S
    owing = due_start S L z R t ok.active

    owing_old : (l : List ℕ) (X : Store) → Owing l X → Old X
    owing_old l X D = same_old S.doomed X (D.L, D.live)

    still_owing : (ps : List Put) → only calm ps ≡ true → (X : Store) → Owing own X → To Old (Owing own) ps X
    still_owing = calmly_to Old (Owing own) (due_calm t old old S.active S.doomed S.doomed own) (owing_old own)

    -- abort, or the poison in its place
    aborted : (b : Bool) (X : Store) → Owing own X → To Old Home (abort_or_poison S x logged plan b).puts X
    unfolding abort_or_poison abort_puts
    aborted b X D = by (fails S x logged plan 23)
        (λ e. rw e (stay_home (poison b) (poison_kind calm refl b) X (S.active, S.doomed, (D.L, D.live))))
        (λ e. rw e (to_then Old (Owing []) Home (map put_free own) (put_drop t ∷ []) X
        (to_map (Same S.doomed) Old (Owing []) (Owing []) (map put_free own) X (same_old S.doomed) (λ Y k. k)
        (frees t pos old old S.active S.doomed S.doomed own X D))
        (λ Y E. let d : Home (apply (put_drop t) Y) = (dropped S.active t, S.doomed, due_dropped t old old S.active S.doomed S.doomed Y E) in
        (owing_old [] Y E, (home_old (apply (put_drop t) Y) d, d)))))

    -- past the tests: publication, recycling, the finish
    module _ (p : Passed S x logged plan) where
      pub based : write_base_conflict S x ≡ false
      based = bases_agree S x p.agreed

      undoomed : S.doomed ≡ 0
      undoomed = R.undoomed p.healthy

      abbrev Writing : Store → Type 0
      Writing X = On t old S.active S.doomed S.key S.has (recycled S x) (finals x) old X

      abbrev Written : Store → Type 0
      Written X = On t old S.active S.doomed S.key S.has (recycled S x) [] new X

      abbrev Ripe : Store → Type 0
      Ripe X = Due t old new S.active S.doomed t [] X

      writing : To (Same t) Writing (after_remove S x logged plan) S
      writing =
          calmly_to (Same t) Writing (on_calm t old S.active S.doomed S.key S.has (recycled S x) (finals x) old) (λ X O. (O.L, O.live))
          (after_remove S x logged plan) (remove_kinds calm refl refl S x logged plan refl refl) S
          (on_start S L z R x ok.active ok.fits p.healthy based)

      publishing : (X : Store) → Writing X → To (Same t) Written (publication x) X
      unfolding publication
      publishing X O = publishes t old S.active S.doomed S.key S.has (recycled S x) pos nf (finals x) old X O

      written : To (Same t) Written (after_publish S x logged plan) S
      written = to_then (Same t) Writing Written (after_remove S x logged plan) (publication x) S writing publishing

      recycles : (X : Store) → Written X → To (Same t) Ripe (recycling S x) X
      unfolding recycling
      recycles X O = frees t pos old new S.active S.doomed t (recycled S x) X
          (published_due t old S.active S.doomed S.key S.has (recycled S x) pos nf (λ e. omega (arith, undoomed, pos)) new X O)

      ripe : To (Same t) Ripe (after_recycle S x logged plan) S
      ripe = to_then (Same t) Written Ripe (after_publish S x logged plan) (recycling S x) S written recycles

      finishing : To Either New (after_finish S x logged plan) S
      finishing = to_then Either Ripe New (after_recycle S x logged plan) (put_drop t ∷ []) S
          (to_map (Same t) Either Ripe Ripe (after_recycle S x logged plan) S (λ X h. inl h) (λ X h. h) ripe)
          (λ X D. let d = due_dropped t old new S.active S.doomed t X D in (inl (D.L, D.live), (inr d, d)))

      -- calm puts after the finish
      afterwards : (ps : List Put) → only calm ps ≡ true → (X : Store) → New X → To Either New ps X
      afterwards = calmly_to Either New (lives_calm new (dropped S.active t) S.doomed S.doomed) (λ X h. inr h)

      -- 0
      stands_0 : To Either New (after_stamp S x logged plan ++ release S x) S
      stands_0 = to_then Either New New (after_stamp S x logged plan) (release S x) S
          (to_then Either New New (after_finish S x logged plan) (stamping S x) S finishing (afterwards (stamping S x) (stamping_kind calm S x refl)))
          (afterwards (release S x) letting_go)

      -- 17
      stands_17 : (k : ℕ) → To Either New (after_finish S x logged plan ++ (take k (stamping S x) ++ put_poison ∷ release S x)) S
      stands_17 k = to_then Either New New (after_finish S x logged plan) (take k (stamping S x) ++ put_poison ∷ release S x) S finishing
          (afterwards (take k (stamping S x) ++ put_poison ∷ release S x)
          (only_both calm (take k (stamping S x)) (put_poison ∷ release S x) (only_take calm k (stamping S x) (stamping_kind calm S x refl)) letting_go))

      -- doomed, and dropped or not: the rows show what they showed
      abbrev Drops : List Put → Type 0
      Drops ps = (ps ≡ []) ⊎ (ps ≡ put_drop t ∷ [])

      dooms : (ps : List Put) → Drops ps → (X : Store) → Same t X → To Old Home (put_doom t ∷ ps ++ release S x) X
      dooms ps o X h =
          let D = apply (put_doom t) X in
          let E = apply (put_drop t) D in
          let d = lives_doomed t pos S.active ok.active old X (subst (λ (d : ℕ). Lives old S.active d t X) undoomed h) in
          let e : Home E = (dropped S.active t, t, doomed_dropped t pos S.active ok.active old D d) in (
            same_old t X h,
            ⊎_elim
                (λ q. rw q (stay_home (release S x) letting_go D (S.active, t, d)))
                (λ q. rw q ((S.active, t, t, d), stay_home (release S x) letting_go E e))
                o,
          )

      drops : Drops (finish S x logged plan)
      drops = by (fails S x logged plan 21) (λ e. inl (rw e)) (λ e. inr (rw e))

      -- what comes before the doom, and the doom
      spoiling : (I : Store → Type 0) (made some ps : List Put) → Drops ps → To (Same t) I made S → ((X : Store) → I X → To (Same t) (Same t) some X)
          → To Old Home (made ++ (some ++ put_doom t ∷ ps ++ release S x)) S
      spoiling I made some ps o h k =
          to_then Old I Home made (some ++ put_doom t ∷ ps ++ release S x) S (to_map (Same t) Old I I made S (same_old t) (λ X e. e) h)
          (λ X e. rw (append_assoc some (put_doom t ∷ ps) (release S x)) (to_then Old (Same t) Home some (put_doom t ∷ ps ++ release S x) X
          (to_map (Same t) Old (Same t) (Same t) some X (same_old t) (λ Y m. m) (k X e)) (dooms ps o)))

      -- 13 to 16
      spoiled : {n : ℕ} {made some ps : List Put} {poisoning : Put} {kind : Fate → Refusal} {y : Tx} {dropped : Bool}
          → Spoil S x logged plan n made some poisoning ps kind y dropped
          → (stands (kind Undone) ≡ false) × To Old Home (made ++ (some ++ poisoning ∷ ps ++ release S x)) S
      spoiled (unremoved k) =
          let n = count S x logged plan 17 in
          let some = take n (removals S x) ++ put_poison ∷ [] in (
            refl,
            stay_home (after_insert S x logged plan ++ (some ++ release S x))
                (only_both calm (after_insert S x logged plan) (some ++ release S x) (insert_kinds calm refl refl S x logged plan refl)
                (only_both calm some (release S x)
                (only_both calm (take n (removals S x)) (put_poison ∷ []) (only_take calm n (removals S x) (removals_kind calm S x refl)) refl) letting_go))
                S home,
          )
      spoiled (unpublished k) =
          let n = count S x logged plan 18 in (
            refl,
            spoiling Writing (after_remove S x logged plan) (take n (publication x)) (finish S x logged plan) drops writing
                (λ X O. to_cut (Same t) Written (publication x) X n (publishing X O)),
          )
      spoiled (unrecycled k) =
          let n = count S x logged plan 19 in (
            refl,
            spoiling Written (after_publish S x logged plan) (take n (recycling S x)) (finish S x logged plan) drops written
                (λ X O. to_cut (Same t) Ripe (recycling S x) X n (recycles X O)),
          )
      spoiled (unfinished k) = (refl, spoiling Ripe (after_recycle S x logged plan) [] [] (inl refl) ripe (λ X D. ((D.L, D.live), (D.L, D.live))))

    -- 4 and 8: guards taken and given back
    stayed : {taken back : List Put} → Taken S x logged plan taken back → To Old Home (taken ++ back) S
    stayed {taken} {back} h =
        let c = guards_kinds calm refl refl S x logged plan h in
        stay_home (taken ++ back) (only_both calm taken back c.0 c.1) S home

    stay_number : {kind : Fate → Refusal} → Stay S x logged plan kind → stands (kind Open) ≡ false
    stay_number (faulted k) = refl
    stay_number (durable k) = refl

    -- 5, 6, 7 and 9: guards given back, then aborted
    gave_up : {taken back : List Put} → Taken S x logged plan taken back → To Old Home (taken ++ (back ++ (aborting S x logged plan).puts)) S
    gave_up {taken} {back} h =
        let c = guards_kinds calm refl refl S x logged plan h in
        to_then Old (Owing own) Home taken (back ++ (aborting S x logged plan).puts) S (still_owing taken c.0 S owing)
        (λ X D. to_then Old (Owing own) Home back (aborting S x logged plan).puts X (still_owing back c.1 X D) (aborted S.poisoned))

    abort_number_law : {kind failed : Fate → Refusal} {found preparing : Bool} → Abort S x logged plan kind failed found preparing → (b : Bool) (e : Fate)
        → stands (cond b failed kind e) ≡ false
    abort_number_law (unprepared k) true e = refl
    abort_number_law (unprepared k) false e = refl
    abort_number_law (panicked k) true e = refl
    abort_number_law (panicked k) false e = refl
    abort_number_law (busy b k) true e = refl
    abort_number_law (busy b k) false e = refl
    abort_number_law (conflict b k) true e = refl
    abort_number_law (conflict b k) false e = refl
    abort_number_law (unhealthy k) true e = refl
    abort_number_law (unhealthy k) false e = refl

    -- 10
    unwound : To Old Home
        (guards_taken S x logged plan ++ (take (count S x logged plan 15) (insertions S x) ++ ((rolling_back S x logged plan).puts ++ release S x))) S
    unwound =
        let n = count S x logged plan 15 in
        let some = take n (insertions S x) in
        let back = (rolling_back S x logged plan).puts in
        stay_home (guards_taken S x logged plan ++ (some ++ (back ++ release S x)))
        (only_both calm (guards_taken S x logged plan) (some ++ (back ++ release S x)) (taken_kinds calm refl refl S x logged plan)
        (only_both calm some (back ++ release S x) (only_take calm n (insertions S x) (insertions_kind calm S x refl))
        (only_both calm back (release S x) (rollback_kinds calm S x logged plan refl refl false (take n (destinations (changes S x)))) letting_go)))
        S home

    -- 11 and 12
    called_off : To Old Home (after_insert S x logged plan
        ++ (cond (worse S x logged plan) (put_poison ∷ []) [] ++ ((undoing S x logged plan).puts ++ ((aborting_late S x logged plan).puts ++ release S x)))) S
    called_off =
        let worsens = cond (worse S x logged plan) (put_poison ∷ []) [] in
        let back = (undoing S x logged plan).puts in
        let late = (aborting_late S x logged plan).puts in
        to_then Old (Owing own) Home (after_insert S x logged plan) (worsens ++ (back ++ (late ++ release S x))) S
        (still_owing (after_insert S x logged plan) (insert_kinds calm refl refl S x logged plan refl) S owing)
        (λ X D. to_then Old (Owing own) Home worsens (back ++ (late ++ release S x)) X
        (still_owing worsens (only_if calm (worse S x logged plan) (put_poison ∷ []) [] refl refl) X D)
        (λ Y E. to_then Old (Owing own) Home back (late ++ release S x) Y
        (still_owing back (rollback_kinds calm S x logged plan refl refl (worse S x logged plan) (destinations (changes S x))) Y E)
        (λ Z G. to_then Old Home Home late (release S x) Z (aborted (worse S x logged plan || (undoing S x logged plan).failed) Z G)
        (stay_home (release S x) letting_go))))

    call_number : (p b : Bool) (e : Fate) → stands (cond p CallbackPanicked (cond b CleanupFailed CallbackFailed) e) ≡ false
    call_number true b e = refl
    call_number false true e = refl
    call_number false false e = refl

    -- every ending
    pub told : {n : ℕ} {ps : List Put} {d : End} → Outcome S x logged plan n ps d
        → ((stands d.refusal ≡ false) × To Old Home ps S) ⊎ ((stands d.refusal ≡ true) × To Either New ps S)
    told (done p) = inr (refl, stands_0 p)
    told (stays l h k) = inl (stay_number k, stayed h)
    told (aborts l h k) = inl (abort_number_law k (aborting S x logged plan).failed (fate (aborting S x logged plan).failed true), gave_up h)
    told (uninserted p k) = inl (refl, unwound)
    told (uncalled p l k) = inl (
      call_number (panics S x logged plan) (bad S x logged plan)
          (fate (worse S x logged plan || bad S x logged plan) (not (aborting_late S x logged plan).failed)),
      called_off,
    )
    told (spoils p k) = inl (spoiled p k)
    told (unstamped p k) = inr (refl, stands_17 p (count S x logged plan 22))

    -- a txid dropped is active no longer
    pub gone : memb t (active_txids (dropped S.active t)) ≡ false
    gone = dropped_gone S.active S.clock R.mends.listed z.active t
