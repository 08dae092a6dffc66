-- Demand 2: with an admitted, unpoisoned store, a fit open transaction, no fault, no cut, and either logging, no writes or a store not durably
-- bound, a commit succeeds exactly when the four tests all say no; and what it then leaves.
use Rattle.std.specs.Prelude.{◌≡◌, Bool, true, false, cond, ◌&&◌, List, [], ◌∷◌, ◌++◌, ◌↔◌, ℕ, ◌≤◌, ◌<◌, length, get_or}
use Rattle.std.proofs.Math.Path.{refl}
use Rattle.std.proofs.Common.{sym, ap, ◌∙◌, subst, arith, length-take, eqb-true, leb-true}
use Rattle.records.specs.Limits.{write_limit}
use Rattle.rules.specs.Lists.{memb, is_zero}
use Rattle.rules.specs.Types.{Store, Tx, Schedule, Answer, Uncut}
use Rattle.rules.specs.Store.{active_txids}
use Rattle.rules.specs.Transaction.{writes_of, finals}
use Rattle.rules.specs.Chains.{walk, on}
use Rattle.rules.specs.Admitted.{resting}
use Rattle.rules.specs.Fit.{fit}
use Rattle.rules.specs.Numbers.{number_of, is_done}
use Rattle.rules.specs.Puts.{k_stripe, k_partition, k_insert, k_remove, k_xmax, k_head, k_free, k_drop, k_stamp, k_poison, k_doom, put_drop, apply_all}
use Rattle.rules.specs.Tests.{conflicting}
use Rattle.rules.specs.Changes.{release, insertions, removals, publication, recycling, stamping}
use Rattle.rules.specs.Commit.{run_of, unlogged_writes}
use Rattle.rules.specs.Answer.{uncut, commit}
use Rattle.basic_laws.specs.Cases.{clash, by, or_left}
use Rattle.basic_laws.specs.TestParts.{fit_parts}
use Rattle.sentences.specs.CallsSay.{lists_emptied, only_txid_law, names_finals}
use Rattle.run_laws.specs.FinalWrites.{finals_few}
use Rattle.call_laws.specs.Counts.{counts_parts}
use Rattle.statements.specs.CallWords.{ListsEmptied, OnlyTxid, Names}
use Rattle.run_laws.specs.OnlyKinds.{only, only_both, kept, is_not}
use Rattle.run_laws.specs.Outcome.{guards_taken, after_insert, after_remove, after_publish, after_recycle, after_finish, after_stamp, outcome}
use Rattle.statements.specs.Demands.{Demand2, Demand2Aborts, Demand2Abort}
use Rattle.statements.specs.Words.{Conflicts, Committed, Admitted, shown, stands, row_value}
use Rattle.run_laws.specs.FourTests.{either, index_reads_say, row_locks_say, serialization_says, write_bases_say}
use Rattle.run_laws.specs.FirstRows.{success, whole, done_store, only_done}
use Rattle.run_laws.specs.Aftermath.{row_0}
use Rattle.statements.specs.Sized.{Sized, Keyed}
use Rattle.run_laws.specs.Kinds.{taken_kinds, release_kinds, insertions_kind, removals_kind, publication_kinds, recycling_kind, stamping_kind}
use Rattle.posting_laws.specs.Healthy.{row_0_exact}
use Rattle.recovery_laws.specs.Sizes.{sized_all}
use Rattle.recovery_laws.specs.Start.{txid_positive, shows_heads}
use Rattle.admitted_laws.specs.Repairable.{marks}
use Rattle.admitted_laws.specs.Resting.{rests}
use Rattle.recovery_laws.specs.Again.{commit_rests, stood}
use Rattle.call_laws.specs.ActiveList.{unfinished_is}
use Rattle.call_laws.specs.CommitAborts.{commit_aborts, abort_call}
use Rattle.demands.specs.Demand3.{with_same}

-- "At most 16 writes", so no more final ones
few : (S : Store) (x : Tx) → fit S x ≡ true → length (finals x) ≤ write_limit
unfolding finals
few S x k =
    let n = leb-true x.write_count write_limit (counts_parts x (fit_parts S x k).counts).writes in
    omega (arith, finals_few (writes_of x), length-take x.write_count x.writes)

-- on an unpoisoned resting store a txid that is not active has no slot off the chains
no_stray : (T : Store) → Sized T → resting T ≡ true → T.poisoned ≡ false → (t : ℕ) → 0 < t → memb t (active_txids T.active) ≡ false
    → (p : ℕ) → get_or T.xmin p 0 ≡ t → on (walk T.heads T.next).seen p ≡ true
no_stray T z r healthy t pos gone p e =
    let R = rests T z r in
    let M = marks T R.0 z R.1.mends in
    by (on (walk T.heads T.next).seen p) (λ o. o) (λ o.
    let off = R.1.mends.stands.off p (omega arith) (λ q lt. by (memb p (R.0 q)) (λ m. clash (M.marked q p lt m) o) (λ m. m)) in
    let u = unfinished_is T.active T.clock R.1.mends.listed T.doomed t (rw e at off.unfinished) in
    absurd (omega (arith, R.1.undoomed healthy, eqb-true t T.doomed (rw gone at u))))

-- the kinds of a clean commit's puts: no poison, no doom
abbrev clean : List ℕ
clean = k_stripe ∷ k_partition ∷ k_insert ∷ k_remove ∷ k_xmax ∷ k_head ∷ k_free ∷ k_drop ∷ k_stamp ∷ []

module _ (S : Store) (x : Tx) (logged : Bool) (plan : Schedule) where
  clean_run : only clean (after_stamp S x logged plan ++ release S x) ≡ true
  clean_run =
      let a = only_both clean (guards_taken S x logged plan) (insertions S x) (taken_kinds clean refl refl S x logged plan) (insertions_kind clean S x refl) in
      let b = only_both clean (after_insert S x logged plan) (removals S x) a (removals_kind clean S x refl) in
      let c = only_both clean (after_remove S x logged plan) (publication x) b (publication_kinds clean S x refl refl) in
      let d = only_both clean (after_publish S x logged plan) (recycling S x) c (recycling_kind clean S x refl) in
      let e = only_both clean (after_recycle S x logged plan) (put_drop x.txid.0 ∷ []) d refl in
      let f = only_both clean (after_finish S x logged plan) (stamping S x) e (stamping_kind clean S x refl) in
      only_both clean (after_stamp S x logged plan) (release S x) f (release_kinds clean refl refl S x)

  -- a clean run poisons nothing
  stays_healthy : S.poisoned ≡ false → Admitted S x plan → is_done (commit S x logged plan Uncut).refusal ≡ true
      → (commit S x logged plan Uncut).store.poisoned ≡ false
  unfolding uncut
  stays_healthy h ok d =
      let u = whole S x logged plan Uncut ok is_zero refl d in
      let ps = after_stamp S x logged plan ++ release S x in
      rw (u, (only_done S x logged plan _ _ _ (outcome S x logged plan) (rw u at d)).0)
      (kept (λ T. T.poisoned) clean (λ p T m. rw (is_not clean k_poison refl p m, is_not clean k_doom refl p m)) ps S clean_run ∙ h)

  conflicts_say : (conflicting S x ≡ true) ↔ Conflicts S x
  conflicts_say =
      either _ _ (index_reads_say S x) (either _ _ (row_locks_say S x) (either _ _ (serialization_says S x) (write_bases_say S x)))

  module _ (z : Sized S) (k : Keyed S) (ok : Admitted S x plan) (quiet : plan.count ≡ 0) (sound : S.poisoned ≡ false)
      (free : (unlogged_writes S x logged plan && S.bound) ≡ false) where
    abbrev pub A : Answer
    A = commit S x logged plan Uncut

    -- the number
    pub number : number_of A.refusal ≡ cond (conflicting S x) 7 0
    number = success S x logged plan ok quiet sound free

    -- number 0 exactly when the four tests all say no
    succeeds : (number_of A.refusal ≡ 0) ↔ (Conflicts S x → ⊥)
    succeeds = (
      (λ h c. absurd (omega (arith, rw (conflicts_say.1 c, h) at (sym number)))),
      (λ no_one. by (conflicting S x) (λ e. absurd (no_one (conflicts_say.0 e))) (λ e. rw e at number)),
    )

    -- the store is that of the whole run
    ran : is_done A.refusal ≡ true → (A.store ≡ apply_all (run_of S x logged plan).puts S) × (stands (run_of S x logged plan).end.refusal ≡ true)
    unfolding uncut
    ran d = (done_store S x logged plan Uncut ok d, or_left _ _ (rw (whole S x logged plan Uncut ok is_zero refl d) at d))

    -- and what success leaves: the record, the rows, the postings, the active list
    leaves : is_done A.refusal ≡ true → Committed S x A
    leaves d =
        let h = stays_healthy sound ok d in
        let r = commit_rests S x logged plan z k ok.rests Uncut is_zero refl d in
        let e = ran d in
        let s = stood S x logged plan z ok e.1 in
        let sized : Sized A.store = subst Sized (sym e.0) (sized_all (run_of S x logged plan).puts S z) in
        let left = row_0 S x logged plan Uncut ok d in
        let gone = subst (λ (T : Store). memb x.txid.0 (active_txids T.active) ≡ false) (sym e.0) s.1 in
        let start = rests S z ok.rests in
        record {
          names = subst (Names x.txid.0 (finals x)) (sym left.1) (names_finals x (few S x ok.fits));
          rows = λ q lt. sym (shows_heads A.store sized r h q lt) ∙ ap (λ (T : Store). shown T q) e.0 ∙ s.0.shows q lt
              ∙ with_same S.key S.has (finals x) (shown S) (row_value S) (λ p l. shows_heads S z ok.rests sound p l) q lt;
          postings = row_0_exact S x logged plan z Uncut ok d;
          gone = gone;
          home = no_stray A.store sized r h x.txid.0 (txid_positive S start.0 z start.1 x.txid.0 ok.active) gone;
          rests = r;
          healthy = h;
          lists = subst (ListsEmptied x) (sym left.0) (lists_emptied x);
        }

-- DEMAND 2
pub demand_2 : Demand2
demand_2 S x logged plan z k q =
    (succeeds S x logged plan z k q.ok q.faultless q.sound q.free, leaves S x logged plan z k q.ok q.faultless q.sound q.free)

-- "Each abort that neither fault nor cut strikes truly frees and deregisters": the aborts inside commit (5, 6, 7, 9, 11, 12, and 19 where only the
-- rollback failed), whatever the cut allows to be answered, and the call's own
pub demand_2_aborts : Demand2Aborts
demand_2_aborts S x logged plan cut z ok f h =
    let c = commit_aborts S x logged plan cut z ok f h in (c.0, subst (OnlyTxid x.txid.0) (sym c.1) (only_txid_law x.txid.0))

pub demand_2_abort : Demand2Abort
demand_2_abort S x z h = let c = abort_call S x z h in (c.0, subst (OnlyTxid x.txid.0) (sym c.1) (only_txid_law x.txid.0))
