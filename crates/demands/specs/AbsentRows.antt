-- Document 02, wish 2: who has read a row as absent is refused once the row has a head, so of two forecasters who both add a row the second is.
use Rattle.std.specs.Prelude.{◌≡◌, Bool, true, ◌||◌, List, [], ◌∷◌, ℕ, ◌%◌, length, get_or, eqb, ltb}
use Rattle.std.proofs.Math.Path.{refl}
use Rattle.std.proofs.Common.{sym, ap, ◌∙◌, inl, inr, eqb-true, ne_eqb}
use Rattle.std.proofs.Math.Bool.{false}
use Rattle.records.specs.Limits.{partitions}
use Rattle.rules.specs.Lists.{any}
use Rattle.rules.specs.Types.{Store, Tx, ReadRecord, Schedule, Cut, Uncut, After}
use Rattle.rules.specs.Transaction.{reads_of}
use Rattle.rules.specs.Numbers.{is_done}
use Rattle.rules.specs.Puts.{Put, apply, apply_all}
use Rattle.rules.specs.Tests.{index_read_conflict, row_lock_conflict, read_conflict, serialization_conflict, write_base_conflict, conflicting}
use Rattle.rules.specs.Commit.{End, run_of}
use Rattle.rules.specs.Answer.{uncut, cut_off, answer, commit}
use Rattle.basic_laws.specs.Cases.{by, clash, and_true, or_true, or_left, or_right}
use Rattle.basic_laws.specs.AllOf.{any_then}
use Rattle.run_laws.specs.FirstRows.{every_commit, done_store, stay_not, abort_not, success}
use Rattle.run_laws.specs.Outcome.{Outcome, done, stays, aborts, uninserted, uncalled, spoils, unstamped, outcome}
use Rattle.call_laws.specs.CommitOthers.{commit_others}
use Rattle.statements.specs.Words.{Some, stands}
use Rattle.statements.specs.ReadWords.{of_absent}
use Rattle.statements.specs.AbsentWords.{ReadAsAbsent, HasHead, AbsentGuarded, NeverDone, NothingShown, AnsweredSeven, SecondRefused, BothAdded}
use Rattle.demands.specs.HeadsStay.{gives_head}
use Rattle.demands.specs.Demand2.{demand_2}
use Rattle.demands.specs.Demand3.{demand_3}

-- WHAT TEST 13 SAYS

-- a recorded absent read of a row that has a head
pub absent_conflicts : (S : Store) (x : Tx) (r : ℕ) → ReadAsAbsent x r → HasHead S r → conflicting S x ≡ true
unfolding read_conflict serialization_conflict
absent_conflicts S x r a n =
    or_right (index_read_conflict S x) _ (or_right (row_lock_conflict S x) _ (or_left (serialization_conflict S x) (write_base_conflict S x)
    (any_then (of_absent r) (read_conflict S x) one (reads_of x) a)))
  where
    one : (e : ReadRecord) → of_absent r e ≡ true → read_conflict S x e ≡ true
    one e h =
        let b = and_true (eqb e.row.0 r) (eqb e.ptr.0 0) h in
        rw (b.1, eqb-true e.row.0 r b.0, ne_eqb (get_or S.heads r 0) 0 n)

-- its row's partition is guarded
pub absent_guarded : AbsentGuarded
absent_guarded x r h = inr (go (reads_of x) h)
  where
    go : (l : List ReadRecord) → any (of_absent r) l ≡ true → Some (λ e. r % partitions ≡ e.row.0 % partitions) l
    go [] h = clash {b = false} h refl
    go (e ∷ l) h = or_true (of_absent r e) (any (of_absent r) l) h
        (λ k. inl (ap (λ (q : ℕ). q % partitions) (sym (eqb-true e.row.0 r (and_true (eqb e.row.0 r) (eqb e.ptr.0 0) k).0))))
        (λ k. inr (go l k))

module _ (S : Store) (x : Tx) (logged : Bool) (plan : Schedule) (conflict : conflicting S x ≡ true) where
  -- 0 and 17, as numbers
  abbrev stood : ℕ → Bool
  stood n = eqb n 0 || eqb n 17

  -- a run that a test stops doesn't stand
  stopped : (n : ℕ) (ps : List Put) (d : End) → Outcome S x logged plan n ps d → stands d.refusal ≡ false
  stopped _ _ _ (done p) = clash conflict p.agreed
  stopped _ _ _ (stays l t k) = stay_not stood refl refl k _
  stopped _ _ _ (aborts l t k) = abort_not stood refl refl refl refl refl k
  stopped _ _ _ (uninserted p k) = clash conflict p.agreed
  stopped _ _ _ (uncalled p l k) = clash conflict p.agreed
  stopped _ _ _ (spoils p k) = clash conflict p.agreed
  stopped _ _ _ (unstamped p k) = clash conflict p.agreed

  -- nor does the commit, wherever it is cut
  never_stands : (cut : Cut) → stands (commit S x logged plan cut).refusal ≡ false
  unfolding uncut cut_off
  never_stands cut = every_commit S x logged plan (λ a. stands a.refusal ≡ false) cut refl refl refl (λ _. go cut)
    where
      go : (k : Cut) → stands (answer S x logged (run_of S x logged plan) k).refusal ≡ false
      go Uncut = stopped _ _ _ (outcome S x logged plan)
      go (After n) = by (ltb n (length (run_of S x logged plan).puts)) (λ e. rw e) (λ e. rw e (stopped _ _ _ (outcome S x logged plan)))

pub never_done : NeverDone
never_done S x r a n logged plan cut e =
    clash (rw e) (never_stands S x logged plan (absent_conflicts S x r a n) cut)

pub nothing_shown : NothingShown
nothing_shown S x r z k rest a n logged plan cut q lt =
    (demand_3 S x logged plan z k rest cut).rows q lt ∙ rw (never_stands S x logged plan (absent_conflicts S x r a n) Uncut)

pub answered_seven : AnsweredSeven
answered_seven S x r logged plan q a n = success S x logged plan q.ok q.faultless q.sound q.free ∙ rw (absent_conflicts S x r a n)

-- TWO FORECASTERS

-- durably bound or not, a store stays so
bound_kept : (ps : List Put) (X : Store) → (apply_all ps X).bound ≡ X.bound
bound_kept [] X = refl
bound_kept (p ∷ ps) X = bound_kept ps (apply p X)

pub second_refused : SecondRefused
second_refused S x y r lx ly px py P w a e =
    let q = P.one in
    let T = (commit S x lx px Uncut).store in
    let d : is_done (commit S x lx px Uncut).refusal ≡ true = rw e in
    let C = (demand_2 S x lx px P.sized P.keyed q).1 d in
    let o = P.other in
    let G = commit_others S x y lx px P.sized P.apart (o.ok.fits, o.ok.active) Uncut in
    let bound : T.bound ≡ S.bound =
    ap (λ (U : Store). U.bound) (done_store S x lx px Uncut q.ok d) ∙ bound_kept (run_of S x lx px).puts S in
    answered_seven T y r ly py (record {
      ok = record { rests = C.rests; fits = G.0; planned = o.ok.planned; active = G.1 };
      faultless = o.faultless;
      sound = C.healthy;
      free = rw bound o.free;
    }) a (gives_head S x lx px P.sized q.ok d r w)

pub both_added : BothAdded
both_added S x y r lx ly px py P ax ay wx wy = (
  second_refused S x y r lx ly px py P wx ay,
  second_refused S y x r ly lx py px
      (record { sized = P.sized; keyed = P.keyed; one = P.other; other = P.one; apart = λ e. P.apart (sym e) }) wy ax,
)
