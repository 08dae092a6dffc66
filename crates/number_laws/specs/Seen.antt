-- "Numbers seen": a commit answers as the first row of the table says that applies, with that row's fate, store and transaction.
use Rattle.std.specs.Prelude.{◌≡◌, Bool, not, cond, ◌&&◌, List, [], ◌∷◌, ◌↔◌, ℕ, length, ltb}
use Rattle.std.proofs.Math.Path.{refl}
use Rattle.std.proofs.Common.{sym, ap, subst, ◌∙◌}
use Rattle.std.proofs.Math.Bool.{true, false}
use Rattle.rules.specs.Types.{Store, Tx, Schedule, Answer, Cut, Uncut, After, StepFailed, PrepareFailed}
use Rattle.rules.specs.Types.{PreparePanicked, Conflict, BoundDurably, FoundPoisoned, CleanupFailed}
use Rattle.basic_laws.specs.Cases.{by, and_true, or_false}
use Rattle.rules.specs.Lists.{all, memb}
use Rattle.rules.specs.Store.{active_txids}
use Rattle.rules.specs.Admitted.{resting}
use Rattle.rules.specs.Fit.{fit}
use Rattle.rules.specs.Faults.{schedule_fit}
use Rattle.rules.specs.Numbers.{number_of}
use Rattle.rules.specs.Puts.{Put, apply_all}
use Rattle.rules.specs.Changes.{release}
use Rattle.rules.specs.Commit.{fails, Run, run_of}
use Rattle.rules.specs.Answer.{record_of, uncut, cut_off, answer, commit}
use Rattle.run_laws.specs.Outcome.{neither, index, both, Passed}
use Rattle.statements.specs.Table.{Answers, Row, first_row, Reason}
use Rattle.statements.specs.Words.{Admitted}
use Rattle.run_laws.specs.FirstRows.{every_commit}
use Rattle.sentences.specs.RunSays.{run_says, commit_says}
use Rattle.run_laws.specs.Gates.{gates, late_gates, clean, run_gates}
use Rattle.number_laws.specs.TableLaws.{same, told_by}
use Rattle.statements.specs.NumbersSeen.{rows15, step_rows, done_row, cut_short, commit_rows}
use Rattle.statements.specs.Sized.{Sized}
use Rattle.posting_laws.specs.Rolled.{ready}
use Rattle.number_laws.specs.Recording.{recorded}
use Rattle.number_laws.specs.Ended.{Match, one, two, stay, die}
use Rattle.number_laws.specs.Called.{ten, ten_back, sixteen}
use Rattle.number_laws.specs.Stored.{seventeen, eighteen, nineteen, twenty_one, twenty_two, passed}

module _ (S : Store) (x : Tx) (logged : Bool) (plan : Schedule) (z : Sized S) where
  -- 15 on
  from_15 : Admitted S x plan → Passed S x logged plan
      → Match S x logged plan (late_gates S x logged plan) (clean S x logged plan) (rows15 S x logged plan) (done_row S x logged plan)
  from_15 ok p =
      let r = ok.rests in
      let is_ready = ready S x logged plan z ok p in
      two S x logged plan _ (fails S x logged plan 24)
      (λ e. record { store = ten S x logged plan z is_ready e })
      (λ e. record { store = ten_back S x logged plan z is_ready e })
      (λ _. sixteen S x logged plan z is_ready _ _ _ _ (λ _.
      one S x logged plan _ (record { store = seventeen S x logged plan r }) (λ _.
      one S x logged plan _ (record { store = eighteen S x logged plan r }) (λ _.
      one S x logged plan _ (record { store = nineteen S x logged plan r }) (λ _.
      one S x logged plan _ (record { store = twenty_one S x logged plan r }) (λ _.
      one S x logged plan _ (record { store = twenty_two S x logged plan r }) (λ _.
      record { are = record { store = passed S x logged plan r } })))))))

  seen : Admitted S x plan → Match S x logged plan (gates S x logged plan) (clean S x logged plan) (step_rows S x logged plan) (done_row S x logged plan)
  unfolding gates step_rows release
  seen ok =
      let r = ok.rests in
      stay S x logged plan r _ StepFailed 2 neither (λ _.
      stay S x logged plan r _ StepFailed 3 neither (λ _.
      die S x logged plan r _ PrepareFailed CleanupFailed false true 4 neither (λ _.
      die S x logged plan r _ PrepareFailed CleanupFailed false true 5 neither (λ _.
      die S x logged plan r _ PreparePanicked PreparePanicked false true 5 neither (λ _.
      stay S x logged plan r _ StepFailed 6 neither (λ _.
      die S x logged plan r _ (Conflict _) (Conflict _) false false 6 neither (λ _.
      stay S x logged plan r _ StepFailed 7 index (λ _.
      die S x logged plan r _ (Conflict _) (Conflict _) false false 7 index (λ _.
      stay S x logged plan r _ StepFailed 8 both (λ _.
      stay S x logged plan r _ BoundDurably 8 both (λ free.
      die S x logged plan r _ FoundPoisoned CleanupFailed (not (fails S x logged plan 10)) false 9 both (λ sound.
      stay S x logged plan r _ StepFailed 10 both (λ _.
      die S x logged plan r _ (Conflict _) (Conflict _) false false 10 both (λ t11.
      stay S x logged plan r _ StepFailed 11 both (λ _.
      die S x logged plan r _ (Conflict _) (Conflict _) false false 11 both (λ t12.
      stay S x logged plan r _ StepFailed 12 both (λ _.
      die S x logged plan r _ (Conflict _) (Conflict _) false false 12 both (λ t13.
      stay S x logged plan r _ StepFailed 13 both (λ _.
      die S x logged plan r _ (Conflict _) (Conflict _) false false 13 both (λ t14.
      from_15 ok (record { allowed = free; healthy = (or_false (fails S x logged plan 10) S.poisoned sound).1; agreed = rw (t11, t12, t13, t14) })
      ))))))))))))))))))))

  -- the stores of the first row that applies add up to its store
  record Adds (ws : List Row) : Type 0 where
    sum : let w = first_row ws (done_row S x logged plan) in apply_all w.makes S ≡ w.store

  -- a row that applies, and one that doesn't
  abbrev Sum : Row → Type 0
  Sum w = apply_all w.makes S ≡ w.store

  applies : {w : Row} {ws : List Row} → w.when ≡ true → Sum w → Adds (w ∷ ws)
  applies {w} {ws} e l = record { sum = subst (λ (b : Bool). Sum (cond b w (first_row ws (done_row S x logged plan)))) (sym e) l }

  skips : {w : Row} {ws : List Row} → w.when ≡ false → Adds ws → Adds (w ∷ ws)
  skips {w} {ws} e l = record { sum = subst (λ (b : Bool). Sum (cond b w (first_row ws (done_row S x logged plan)))) (sym e) l.sum }

  -- the steps
  steps_add : Admitted S x plan → Adds (step_rows S x logged plan)
  steps_add ok = record {
    sum =
        sym (ap (λ (ps : List Put). apply_all ps S) (run_says S x logged plan).makes)
        ∙ ap (λ (r : Run). apply_all r.puts S) (run_gates S x logged plan) ∙ (seen ok).are.store;
  }

  rows_add : (cut : Cut) → Adds (commit_rows S x logged plan cut)
  unfolding commit_rows
  rows_add cut =
      by (resting S)
      (λ r. skips (rw r) (by (fit S x && schedule_fit plan)
      (λ f. skips (rw f) (by (memb x.txid.0 (active_txids S.active))
      (λ m. let g = and_true (fit S x) (schedule_fit plan) f in
      skips (rw m) (by (cut_short S x logged plan cut)
      (λ c. applies c refl)
      (λ c. skips c (steps_add (record { rests = r; fits = g.0; planned = g.1; active = m })))))
      (λ m. applies (rw m) refl)))
      (λ f. applies (rw f) refl)))
      (λ r. applies (rw r) refl)

  -- the record is that of the refusal
  its_record : (cut : Cut) → (commit S x logged plan cut).«record» ≡ record_of (commit S x logged plan cut).refusal x
  unfolding record_of uncut cut_off
  its_record cut = every_commit S x logged plan (λ a. a.«record» ≡ record_of a.refusal x) cut refl refl refl (λ ok. answered cut)
    where
      answered : (c : Cut) → let a = answer S x logged (run_of S x logged plan) c in a.«record» ≡ record_of a.refusal x
      answered Uncut = refl
      answered (After n) = by (ltb n (length (run_of S x logged plan).puts)) (λ e. rw e) (λ e. rw e)

  pub record Told (a : Answer) (ws : List Row) : Type 0 where
    pub by_first : Answers S x a (first_row ws (done_row S x logged plan))

  -- "Numbers seen": every commit, whatever arrives
  pub commit_told : (cut : Cut) → Told (commit S x logged plan cut) (commit_rows S x logged plan cut)
  commit_told cut =
      let m = commit_says S x logged plan cut in
      record {
        by_first = record {
          refusal = m.refusal;
          «record» = rw (its_record cut, m.refusal) (recorded _ x);
          store = m.made ∙ (rows_add cut).sum;
          made = m.made;
          stores = m.stores;
          tx = m.tx;
          events = m.events;
        };
      }

  -- each row's refusal has the row's number; by itself, so that what compares rows needn't open them
  pub rows_same : (cut : Cut) → all same (commit_rows S x logged plan cut) ≡ true
  unfolding commit_rows step_rows
  rows_same cut = refl

  -- a number is answered exactly where one of its rows applies and none before it does; 0 where none applies
  pub commit_when : (cut : Cut) (n : ℕ)
      → (number_of (commit S x logged plan cut).refusal ≡ n) ↔ Reason n [] (commit_rows S x logged plan cut) (done_row S x logged plan)
  commit_when cut n =
      rw (commit_told cut).by_first.refusal
      (told_by n [] (commit_rows S x logged plan cut) (done_row S x logged plan) (rows_same cut) refl tt)
