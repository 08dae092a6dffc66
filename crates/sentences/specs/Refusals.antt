-- Numbers 1, 2, 3, 9, 21 to 28 and 31: when each call beside commit gives which, with which fate; and that a refused call changes nothing.
use Rattle.std.specs.Prelude.{◌≡◌, not, ◌&&◌, ◌||◌, [], ◌∷◌, ◌++◌, map, ℕ, suc, length, get_or, replicate, eqb, ltb}
use Rattle.std.proofs.Math.Path.{refl}
use Rattle.std.proofs.Common.{eq-eqb, ne_eqb}
use Rattle.records.specs.Limits.{rows, last_minute}
use Rattle.records.specs.Zero.{only_txid, zero_tx}
use Rattle.rules.specs.Lists.{pad}
use Rattle.rules.specs.Types.{Store, Tx, Value, Absent, Key, Reply, Seen, Written, Found}
use Rattle.rules.specs.Store.{value_at, impossible, stripe_of}
use Rattle.rules.specs.Transaction.{writes_of, reads_of, index_reads_of, sees, with_writes, with_reads, with_index_reads}
use Rattle.rules.specs.Numbers.{number_of, tries}
use Rattle.rules.specs.Puts.{put_enter, put_clock, put_lock, take_slot, apply_all, abort_puts}
use Rattle.rules.specs.Calls.{admits, begun, begin, read_ptr, record_read, read, lowest_free, base_of, write, candidates}
use Rattle.rules.specs.Calls.{record_reads, record_stamp, matching, as_row, lookup, row_lock, abort}
use Rattle.statements.specs.OtherNumbers.{first_lines, begin_lines, read_lines, write_lines_of, write_lines, lookup_lines, row_lock_lines}
use Rattle.statements.specs.StoreWords.{stored_key}
use Rattle.statements.specs.Table.{Told}
use Rattle.sentences.specs.FirstLine.{tries_of, told, refusal_is, refused, accepted}

-- what an accepted lookup has added to the transaction
abbrev pub looked : Store → Tx → ℕ → Tx
looked S x k =
    let t = get_or S.stamps (stripe_of k) 0 in
    with_index_reads (record_stamp (stripe_of k) t (index_reads_of x)) (x.index_conflict || (not (eqb t 0) && not (sees x t)))
    (with_reads (record_reads S x (candidates S x k) (reads_of x)) x)

-- "a larger key": an absent one is stored as 0
larger : (v : Value) → impossible v ≡ ltb last_minute (stored_key v)
larger Absent = refl
larger (Key k) = refl

-- begin: its refusal is that of the first line that applies
begin_why : (S : Store) → (begin S).refusal ≡ tries (tries_of (begin_lines S))
unfolding begin
begin_why S = refusal_is (λ (a : Reply). a.refusal) (tries (tries_of (begin_lines S))) _ _ refl refl

-- so each number is given exactly where its line says, with the line's fate
pub begin_told : (S : Store) → Told (begin S).refusal [] (begin_lines S)
begin_told S = rw (begin_why S) (told (begin_lines S) refl)

-- "Afterwards: unchanged"; "A refused call beside commit answers none, 0, empty or a zero transaction."
pub begin_refused : (S : Store) → (number_of (begin S).refusal ≡ 0 → ⊥) → begin S ≡ record { refusal = (begin S).refusal; store = S; tx = zero_tx }
unfolding begin
begin_refused S h = rw (begin_why S) (refused (λ (a : Reply). a.refusal) (tries (tries_of (begin_lines S))) _ _ refl refl h)

-- and what it answers where no line applies; so for each call
pub begin_accepted : (S : Store) → number_of (begin S).refusal ≡ 0
    → begin S ≡ record { refusal = (begin S).refusal; store = apply_all (put_enter S.clock ∷ put_clock (suc S.clock) ∷ []) S; tx = begun S }
unfolding begin
begin_accepted S h = rw (begin_why S) (accepted (λ (a : Reply). a.refusal) (tries (tries_of (begin_lines S))) _ _ refl refl h)

module _ (S : Store) (x : Tx) where
  read_why_law : (r : ℕ) → (read S x r).refusal ≡ tries (tries_of (read_lines S x r))
  unfolding read admits
  read_why_law r = refusal_is (λ (a : Seen). a.refusal) (tries (tries_of (read_lines S x r))) _ _ refl refl

  pub read_told : (r : ℕ) → Told (read S x r).refusal [] (read_lines S x r)
  read_told r = rw (read_why_law r) (told (read_lines S x r) refl)

  pub read_refused : (r : ℕ) → (number_of (read S x r).refusal ≡ 0 → ⊥) → read S x r ≡ record { refusal = (read S x r).refusal; value = Absent; tx = x }
  unfolding read admits
  read_refused r h = rw (read_why_law r) (refused (λ (a : Seen). a.refusal) (tries (tries_of (read_lines S x r))) _ _ refl refl h)

  pub read_accepted : (r : ℕ) → number_of (read S x r).refusal ≡ 0
      → read S x r
      ≡ record { refusal = (read S x r).refusal; value = value_at S.key S.has (read_ptr S x r); tx = with_reads (record_read S x r (reads_of x)) x }
  unfolding read admits
  read_accepted r h = rw (read_why_law r) (accepted (λ (a : Seen). a.refusal) (tries (tries_of (read_lines S x r))) _ _ refl refl h)

  -- write: the call asks the value, its table the key that is stored
  write_why_law : (r : ℕ) (v : Value) → (write S x r v).refusal ≡ tries (tries_of (write_lines_of S x r (impossible v)))
  unfolding write admits
  write_why_law r v = refusal_is (λ (a : Written). a.refusal) (tries (tries_of (write_lines_of S x r (impossible v)))) _ _ refl refl

  pub write_told : (r : ℕ) (v : Value) → Told (write S x r v).refusal [] (write_lines S x r v)
  write_told r v = rw (write_why_law r v, larger v) (told (write_lines S x r v) refl)

  pub write_refused : (r : ℕ) (v : Value) → (number_of (write S x r v).refusal ≡ 0 → ⊥)
      → write S x r v ≡ record { refusal = (write S x r v).refusal; slot = record { 0 = 0 }; store = S; tx = x }
  unfolding write admits
  write_refused r v h = rw (write_why_law r v) (refused (λ (a : Written). a.refusal) (tries (tries_of (write_lines_of S x r (impossible v)))) _ _ refl refl h)

  pub write_accepted : (r : ℕ) (v : Value) → number_of (write S x r v).refusal ≡ 0
      → write S x r v ≡ record {
        refusal = (write S x r v).refusal;
        slot = record { 0 = lowest_free S.xmin };
        store = apply_all (take_slot (lowest_free S.xmin) x.txid.0 (base_of S x r) v) S;
        tx =
            with_writes (writes_of x ++ record { row = record { 0 = r }; base = record { 0 = base_of S x r }; new = record { 0 = lowest_free S.xmin } } ∷ []) x;
      }
  unfolding write admits
  write_accepted r v h = rw (write_why_law r v) (accepted (λ (a : Written). a.refusal) (tries (tries_of (write_lines_of S x r (impossible v)))) _ _ refl refl h)

  -- lookup
  lookup_why_law : (k : ℕ) → (lookup S x k).refusal ≡ tries (tries_of (lookup_lines S x k))
  unfolding lookup admits
  lookup_why_law k = refusal_is (λ (a : Found). a.refusal) (tries (tries_of (lookup_lines S x k))) _ _ refl refl

  pub lookup_told : (k : ℕ) → Told (lookup S x k).refusal [] (lookup_lines S x k)
  lookup_told k = rw (lookup_why_law k) (told (lookup_lines S x k) refl)

  pub lookup_refused : (k : ℕ) → (number_of (lookup S x k).refusal ≡ 0 → ⊥)
      → lookup S x k ≡ record { refusal = (lookup S x k).refusal; rows = replicate rows (as_row 0); count = 0; tx = x }
  unfolding lookup admits
  lookup_refused k h = rw (lookup_why_law k) (refused (λ (a : Found). a.refusal) (tries (tries_of (lookup_lines S x k))) _ _ refl refl h)

  pub lookup_accepted : (k : ℕ) → number_of (lookup S x k).refusal ≡ 0
      → lookup S x k ≡ record {
        refusal = (lookup S x k).refusal;
        rows = pad rows (as_row 0) (map as_row (matching S x k));
        count = length (matching S x k);
        tx = looked S x k;
      }
  unfolding lookup admits
  lookup_accepted k h = rw (lookup_why_law k) (accepted (λ (a : Found). a.refusal) (tries (tries_of (lookup_lines S x k))) _ _ refl refl h)

  -- (row lock's answer is written field by field)
  pub row_lock_told : (r : ℕ) → Told (row_lock S x r).refusal [] (row_lock_lines S x r)
  unfolding row_lock admits
  row_lock_told r = told (row_lock_lines S x r) refl

  pub row_lock_refused : (r : ℕ) → (number_of (row_lock S x r).refusal ≡ 0 → ⊥)
      → row_lock S x r ≡ record { refusal = (row_lock S x r).refusal; store = S; tx = x }
  unfolding row_lock admits
  row_lock_refused r h = rw (ne_eqb (number_of (tries (tries_of (row_lock_lines S x r)))) 0 h)

  pub row_lock_accepted : (r : ℕ) → number_of (row_lock S x r).refusal ≡ 0
      → row_lock S x r ≡ record { refusal = (row_lock S x r).refusal; store = apply_all (put_lock (get_or S.heads r 0) x.txid.0 ∷ []) S; tx = x }
  unfolding row_lock admits
  row_lock_accepted r h = rw (eq-eqb (number_of (tries (tries_of (row_lock_lines S x r)))) 0 h)

  -- abort
  abort_why : (abort S x).refusal ≡ tries (tries_of (first_lines S x))
  unfolding abort admits
  abort_why = refusal_is (λ (a : Reply). a.refusal) (tries (tries_of (first_lines S x))) _ _ refl refl

  pub abort_told : Told (abort S x).refusal [] (first_lines S x)
  abort_told = rw (abort_why) (told (first_lines S x) refl)

  pub abort_refused : (number_of (abort S x).refusal ≡ 0 → ⊥) → abort S x ≡ record { refusal = (abort S x).refusal; store = S; tx = x }
  unfolding abort admits
  abort_refused h = rw (abort_why) (refused (λ (a : Reply). a.refusal) (tries (tries_of (first_lines S x))) _ _ refl refl h)

  pub abort_accepted : number_of (abort S x).refusal ≡ 0
      → abort S x ≡ record { refusal = (abort S x).refusal; store = apply_all (abort_puts S x.txid.0) S; tx = only_txid x.txid.0 }
  unfolding abort admits
  abort_accepted h = rw (abort_why) (accepted (λ (a : Reply). a.refusal) (tries (tries_of (first_lines S x))) _ _ refl refl h)
