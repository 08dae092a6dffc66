-- Document 02, wish 7: no call and no cut commit brings a key over the last minute into a store, and a store that holds one is refused.
use Rattle.std.specs.Prelude.{◌≡◌, Bool, true, false, not, ℕ, length, get_or, take, ltb}
use Rattle.std.proofs.Common.{arith}
use Rattle.std.proofs.Math.Seq.{take-length}
use Rattle.rules.specs.Types.{Store, Tx, Schedule, Cut, Uncut, After}
use Rattle.rules.specs.Store.{key_of, row_of}
use Rattle.rules.specs.Admitted.{repairable, resting}
use Rattle.rules.specs.Numbers.{number_of}
use Rattle.rules.specs.Puts.{apply_all}
use Rattle.rules.specs.Calls.{begin, write, row_lock, abort}
use Rattle.rules.specs.Recovery.{recover}
use Rattle.rules.specs.Commit.{run_of}
use Rattle.rules.specs.Answer.{uncut, cut_off, answer, commit}
use Rattle.basic_laws.specs.Cases.{by}
use Rattle.basic_laws.specs.TestParts.{resting_parts}
use Rattle.posting_laws.specs.Pair.{posting_of, row_small}
use Rattle.posting_laws.specs.HeadsTold.{head_has}
use Rattle.run_laws.specs.FirstRows.{row_1, every_commit}
use Rattle.admitted_laws.specs.Repairable.{mends, value_minute}
use Rattle.admitted_laws.specs.Resting.{rests}
use Rattle.recovery_laws.specs.Sizes.{sized_all}
use Rattle.recovery_laws.specs.Recovering.{recovered_mends}
use Rattle.recovery_laws.specs.Prefix.{prefix}
use Rattle.sentences.specs.FirstLine.{either}
use Rattle.sentences.specs.Refusals.{begin_told, read_told, write_told, lookup_told, row_lock_told, abort_told}
use Rattle.sentences.specs.Refusals.{begin_refused, write_refused, row_lock_refused, abort_refused}
use Rattle.call_laws.specs.Passed.{begin_passed, write_passed, row_lock_passed, abort_passed}
use Rattle.call_laws.specs.Always.{Stays, begin_stays, write_stays, row_lock_stays, abort_stays}
use Rattle.call_laws.specs.WriteLaws.{write_impossible}
use Rattle.call_laws.specs.LookupLaws.{lookup_impossible}
use Rattle.statements.specs.Sized.{Sized}
use Rattle.statements.specs.Words.{Admitted}
use Rattle.statements.specs.MinuteWords.{Possible, RefusedExactly, HoldingRefused, NoneBrought, NonePosted}

-- a repairable store holds none
mends_possible : (S : Store) → Sized S → repairable S ≡ true → Possible S
mends_possible S z h p i =
    omega (arith, i.used, i.over, (mends S z h).1.slots.minute p (omega (arith, i.used)))

rests_possible : (S : Store) → Sized S → resting S ≡ true → Possible S
rests_possible S z h = mends_possible S z (resting_parts S h).mendable

-- 31 exactly then
pub refused_exactly : RefusedExactly
refused_exactly S x rest fits active sound = record {
  writes = write_impossible S x (record { rests = rest; fits = fits; active = active }) sound;
  looks = lookup_impossible S x (record { rests = rest; fits = fits; active = active }) sound;
}

-- 1 or 20
pub holding_refused : HoldingRefused
unfolding recover
holding_refused S p z i =
    let off : repairable S ≡ false = by (repairable S) (λ e. absurd (mends_possible S z e p i)) (λ e. e) in
    let out : not (resting S) ≡ true = by (resting S) (λ e. absurd (rests_possible S z e p i)) (λ e. rw e) in
    record {
      unrepairable = off;
      begins = (begin_told S).0.1 (tt, out);
      reads = λ x r. (read_told S x r).0.1 (tt, out);
      writes = λ x r v. (write_told S x r v).0.1 (tt, out);
      looks = λ x k. (lookup_told S x k).0.1 (tt, out);
      locks = λ x r. (row_lock_told S x r).0.1 (tt, out);
      aborts = λ x. (abort_told S x).0.1 (tt, out);
      commits = λ x logged plan cut. rw (row_1 S x logged plan cut (by (resting S) (λ e. absurd (rests_possible S z e p i)) (λ e. e)));
      recovers = rw off;
    }

-- a call: refused, it leaves the store; accepted, the store rests afterwards
stays_possible : (S T : Store) → Stays S T → Possible T
stays_possible S T K = rests_possible T K.sized K.rests

-- a commit: refused, it leaves the store; else each prefix of its stores leaves a repairable one
commit_possible : (S : Store) (x : Tx) → Sized S → Possible S → (logged : Bool) (plan : Schedule) (cut : Cut) → Possible (commit S x logged plan cut).store
unfolding uncut cut_off
commit_possible S x z h logged plan cut =
    every_commit S x logged plan (λ a. Possible a.store) cut h h h (λ ok. go ok cut)
  where
    some : Admitted S x plan → (n : ℕ) → Possible (apply_all (take n (run_of S x logged plan).puts) S)
    some ok n = mends_possible _ (sized_all (take n (run_of S x logged plan).puts) S z) (prefix S x logged plan z ok n).mends

    all_made : Admitted S x plan → Possible (apply_all (run_of S x logged plan).puts S)
    all_made ok = rw (take-length (run_of S x logged plan).puts) at (some ok (length (run_of S x logged plan).puts))

    go : Admitted S x plan → (c : Cut) → Possible (answer S x logged (run_of S x logged plan) c).store
    go ok Uncut = all_made ok
    go ok (After n) = by (ltb n (length (run_of S x logged plan).puts)) (λ e. rw e (some ok n)) (λ e. rw e (all_made ok))

-- recovery: so too
recover_possible : (S : Store) → Sized S → Possible S → Possible (recover S).store
unfolding recover
recover_possible S z h = by (repairable S)
    (λ e. let M = mends S z e in
    rw e (λ p i. omega (arith, i.over, (recovered_mends S M.0 z M.1).slots.minute p (omega (arith, i.used)))))
    (λ e. rw e h)

-- none is brought
pub none_brought : NoneBrought
none_brought S x z y h = record {
  begins = either (number_of (begin S).refusal)
      (λ a. stays_possible S (begin S).store (begin_stays S z (begin_passed S a).rests))
      (λ n. rw (begin_refused S n) h);
  writes = λ r v. either (number_of (write S x r v).refusal)
      (λ a. stays_possible S (write S x r v).store (write_stays S z (write_passed S x r v a).first.rests x r v y))
      (λ n. rw (write_refused S x r v n) h);
  locks = λ r. either (number_of (row_lock S x r).refusal)
      (λ a. stays_possible S (row_lock S x r).store (row_lock_stays S z (row_lock_passed S x r a).first.rests x r y))
      (λ n. rw (row_lock_refused S x r n) h);
  aborts = either (number_of (abort S x).refusal)
      (λ a. stays_possible S (abort S x).store (abort_stays S z (abort_passed S x a).rests x))
      (λ n. rw (abort_refused S x n) h);
  commits = commit_possible S x z h;
  recovers = recover_possible S z h;
}

-- none is posted: the postings are the heads'
pub none_posted : NonePosted
none_posted S z rest sound c m =
    let R = (rests S z rest).1 in
    let r = row_of c in
    let v = (head_has S.key S.has S.heads (omega (arith, z.heads)) (key_of c) r (row_small c) (rw (posting_of c) (rw (R.exact sound) at m))).1 in
    rw v at (value_minute R.mends.slots (get_or S.heads r 0))
