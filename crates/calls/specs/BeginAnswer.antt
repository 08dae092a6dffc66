-- Begin: why it refuses, the puts that it plans, and its answer.
use Rattle.std.specs.Prelude.{◌≡◌, Bool, true, false, not, cond, List, [], ◌∷◌, ℕ, suc, ◌<◌, length, get_or, leb}
use Rattle.std.proofs.Math.Path.{refl}
use Rattle.std.proofs.Common.{sym, ap, ◌∙◌, arith, leb-false}
use Rattle.records.specs.Limits.{active_limit, clock_end}
use Rattle.records.specs.Zero.{zero_tx, only_txid}
use Rattle.basic_laws.specs.Cases.{clash}
use Rattle.rules.specs.Types.{Store, Tx, Reply, Refusal, Done, NotResting, FoundPoisoned, ActiveFull, ClockAtEnd, Open}
use Rattle.rules.specs.Store.{active_txids}
use Rattle.rules.specs.Admitted.{resting}
use Rattle.rules.specs.Numbers.{refuse, tries, is_done}
use Rattle.rules.specs.Puts.{Put, put_enter, put_clock, apply_all}
use Rattle.rules.specs.Calls.{begin, begun}
use Rattle.statements.specs.Sized.{Sized}
use Rattle.fields.specs.Lent.{at_active, array_same}
use Rattle.calls.specs.LentWhole.{active_whole}
use Rattle.calls.specs.Refused.{choose, choose_done, choose_refused}

-- "begin 1, 9, 21, 22"
unfoldable pub begin_tries : Bool → Bool → List ℕ → ℕ → Refusal
begin_tries rests poisoned active clock = tries (
    refuse (not rests) (NotResting Open)
    ∷ refuse poisoned (FoundPoisoned Open)
    ∷ refuse (leb active_limit (length (active_txids active))) (ActiveFull Open)
    ∷ refuse (leb clock_end clock) (ClockAtEnd Open)
    ∷ [])

-- where nothing is refused, the clock can rise
pub begin_clock : (why : Refusal) (rests poisoned : Bool) (active : List ℕ) (clock : ℕ) → why ≡ begin_tries rests poisoned active clock
    → is_done why ≡ true → clock < clock_end
unfolding begin_tries
begin_clock why rests poisoned active clock e d =
    last (not rests) poisoned (leb active_limit (length (active_txids active))) (leb clock_end clock) refl (sym (ap is_done e) ∙ d)
  where
    last : (a b c d : Bool) → leb clock_end clock ≡ d
        → is_done (cond a (NotResting Open) (cond b (FoundPoisoned Open) (cond c (ActiveFull Open) (cond d (ClockAtEnd Open) Done)))) ≡ true
        → clock < clock_end
    last true b c d q h = clash h refl
    last false true c d q h = clash h refl
    last false false true d q h = clash h refl
    last false false false true q h = clash h refl
    last false false false false q h = omega (arith, leb-false clock_end clock q)

abbrev pub begin_puts : ℕ → List Put
begin_puts clock = put_enter clock ∷ put_clock (suc clock) ∷ []

-- a transaction with this txid and snapshot, and the lists of z
abbrev snapped : ℕ → ℕ → List ℕ → ℕ → Tx → Tx
snapped clock oldest active count z = record {
  txid = record { 0 = clock };
  snapshot_xmin = record { 0 = oldest };
  snapshot_xmax = record { 0 = clock };
  snapshot = active;
  snapshot_count = count;
  writes = z.writes;
  write_count = z.write_count;
  reads = z.reads;
  read_count = z.read_count;
  index_reads = z.index_reads;
  index_read_count = z.index_read_count;
  index_conflict = z.index_conflict;
  savepoints = z.savepoints;
  savepoint_count = z.savepoint_count;
}

-- the transaction, from the fields of the store that it takes
unfoldable pub begun_of : List ℕ → ℕ → Tx
begun_of active clock = let act = active_txids active in snapped clock (get_or act 0 clock) active (length act) zero_tx

-- as code makes it, from a zero transaction z
pub begun_is : (active : List ℕ) (clock oldest count : ℕ) (z : Tx) → oldest ≡ get_or (active_txids (at_active active)) 0 clock
    → count ≡ length (active_txids (at_active active)) → z ≡ zero_tx → length active ≡ active_limit
    → snapped clock oldest active count z ≡ begun_of active clock
unfolding begun_of
begun_is active clock oldest count z o n e long =
    let whole = array_same active_limit 0 active long in
    let first : oldest ≡ get_or (active_txids active) 0 clock = rw whole at o in
    let many : count ≡ length (active_txids active) = rw whole at n in
    λ i. snapped clock (first i) active (many i) (e i)

-- lent, the active list is the store's
pub begin_why : (S : Store) → Sized S → (rests : Bool) (why : Refusal) → rests ≡ resting S
    → why ≡ begin_tries rests S.poisoned (at_active S.active) S.clock
    → why ≡ begin_tries (resting S) S.poisoned S.active S.clock
begin_why S z rests why e f = f ∙ rw (e, active_whole S z)

-- the answer, by what is refused
module _ (S : Store) (why : Refusal) (e : why ≡ begin_tries (resting S) S.poisoned S.active S.clock) where
  abbrev done : Refusal → Reply
  done w = record { refusal = w; store = apply_all (begin_puts S.clock) S; tx = begun S }

  abbrev refused : Refusal → Reply
  refused w = record { refusal = w; store = S; tx = zero_tx }

  answer : choose done refused (begin_tries (resting S) S.poisoned S.active S.clock) ≡ begin S
  unfolding begin begin_tries choose
  answer = refl

  pub begin_refused : {y : Tx} → is_done why ≡ false → y ≡ zero_tx → record { refusal = why; store = S; tx = y } ≡ begin S
  begin_refused d z = rw z (choose_refused done refused why _ e d ∙ answer)

  pub begin_done : {T : Store} {x : Tx} → is_done why ≡ true → T ≡ apply_all (begin_puts S.clock) S → x ≡ begun_of S.active S.clock
      → record { refusal = why; store = T; tx = x } ≡ begin S
  unfolding begun begun_of zero_tx only_txid
  begin_done d t x = (λ i. record { refusal = why; store = t i; tx = x i }) ∙ choose_done done refused why _ e d ∙ answer
