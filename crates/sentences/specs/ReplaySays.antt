-- "Replay": what each line does and prints, where it starts, and how the answers are written.
use Rattle.std.specs.Prelude.{◌≡◌, refl, Bool, true, false, not, ◌≢◌, ℕ, zero, suc, ◌+◌, ◌-◌, ◌*◌}
use Rattle.std.specs.Prelude.{◌/◌, ◌%◌, ◌^◌, ◌<◌, ◌≤◌, eqb, ltb, length, get_or, set, replicate}
use Rattle.std.proofs.Math.Path.{sym}
use Rattle.std.proofs.Common.{ap, ◌∙◌, pow-suc, arith, length-append, length-set, length-take, get_or-set_same}
use Rattle.std.proofs.Common.{get_or-set_other, length-take-le, ltb-true, ltb-false, lt-ltb, le-ltb, eq-eqb, ne_eqb, eqb-true}
use mathlib.Core.List.{List, [], ◌∷◌, ◌++◌, append_assoc, append-nil}
use Rattle.std.proofs.lemmas.List.{length-replicate}
use Rattle.std.proofs.Math.ListN.{get_or-append, get_or-eq_default}
use Rattle.std.proofs.Math.Seq.{get_or-append_seam, get_or_at, get_or-take}
use Rattle.std.proofs.lemmas.Bool.{eqb-false, not-true}
use Rattle.records.specs.Limits.{place_limit, fault_limit, digits64}
use Rattle.records.specs.Relations.{wide_written}
use Rattle.records.specs.Zero.{zero_tx, no_fault, no_faults}
use Rattle.rules.specs.Lists.{all, memb, pad}
use Rattle.rules.specs.Types.{Store, Tx, Fault, Schedule, Value, Absent, Key, Cut}
use Rattle.rules.specs.Types.{Cause, BusyGuard, IndexReadAt, RowLockAt, SerializationAt, WriteBaseAt}
use Rattle.rules.specs.Faults.{may, table, allowed, steps_apart, faults_of, schedule_fit}
use Rattle.rules.specs.Numbers.{number_of, More, nothing, cause, test_named, place_named}
use Rattle.rules.specs.Answer.{commit}
use Rattle.rules.specs.Calls.{begin, read, write, lookup, row_lock, abort}
use Rattle.rules.specs.Replay.{Line, line_b, line_r, line_w, line_l, line_k, line_a, line_c, line_f, line_v, line_bad, Third, num, dash, Out, Desk}
use Rattle.rules.specs.Replay.{start, value_third, with_fault, turn, replay_from, replay}
use Rattle.rules.specs.Script as script
use Rattle.rules.specs.Script.{decimal, third, replay_text, parse}
use Rattle.basic_laws.specs.Cases.{by, clash, and_true}
use Rattle.basic_laws.specs.AllOf.{all_then}
use Rattle.basic_laws.specs.Blanks.{all_both}
use Rattle.basic_laws.specs.Sound.{zeros, zeros_set}
use Rattle.basic_laws.specs.LaidOut.{pad_length, take_pad}
use Rattle.statements.specs.ReplayWords.{Bytes, worth, Decimal, tabbed, IsThird, IsMore, IsOutput, Third64, More64, Outs64}
use Rattle.statements.specs.ReplayWords.{tx_of, Laid, Begins, KeyOrDash, Reads, Writes, LooksUp}
use Rattle.statements.specs.ReplayWords.{Locks, Aborts, NoFaults, Commits, OneMore, Faults, Recovers}
use Rattle.statements.specs.ReplayWords.{Refused, Does, Plays, Starts, Replays}
use Rattle.sentences.specs.StoreSays.{fresh_store}
use Rattle.sentences.specs.CallsSay.{zero_tx_law}
use Rattle.sentences.specs.Refusals.{write_refused, lookup_refused}
use Rattle.sentences.specs.ScriptSays.{script_says}
use Rattle.sentences.specs.NumbersSay.{only_seven}

-- WHAT EACH LINE DOES

laid_says : (i : ℕ) (x : Tx) (d : Desk) (S : Store) (plan : Schedule) → Laid i x d (record { store = S; txs = set d.txs i x; plan = plan })
laid_says i x d S plan = record {
  own = λ h. get_or-set_same d.txs i x zero_tx h;
  others = λ j n. get_or-set_other d.txs i j x zero_tx n;
  places = length-set d.txs i x;
}

begin_line : (i : ℕ) (d : Desk) → Begins i d (turn (line_b i) d).desk (turn (line_b i) d).out
unfolding turn
begin_line i d =
    let n = number_of (begin d.store).refusal in
    record {
      more = by (eqb n 0) (λ t. rw t) (λ t. rw t);
      number = by (eqb n 0) (λ t. rw t (sym (eqb-true n 0 t))) (λ t. rw t);
      store = λ z. rw (eq-eqb n 0 z);
      tx = λ z. rw (eq-eqb n 0 z) (laid_says i (begin d.store).tx d (begin d.store).store d.plan);
      third = λ z. rw (eq-eqb n 0 z);
      faults = by (eqb n 0) (λ t. rw t) (λ t. rw t);
      refused = λ z. rw (ne_eqb n 0 z) (refl, refl);
    }

key_or_dash : (v : Value) → KeyOrDash v (value_third v)
key_or_dash Absent = refl
key_or_dash (Key k) = refl

read_line : (i r : ℕ) (d : Desk) → Reads i r d (turn (line_r i r) d).desk (turn (line_r i r) d).out
unfolding turn
read_line i r d =
    let a = read d.store (tx_of d i) r in
    record {
      more = refl;
      number = refl;
      store = refl;
      tx = laid_says i a.tx d d.store d.plan;
      faults = refl;
      third = λ z. rw (eq-eqb (number_of a.refusal) 0 z) (key_or_dash a.value);
      refused = λ z. rw (ne_eqb (number_of a.refusal) 0 z);
    }

-- "A refused call .. answers none, 0, empty": a refused write has no slot, a refused lookup no rows
write_none : (S : Store) (x : Tx) (r : ℕ) (v : Value) → number_of (write S x r v).refusal ≢ 0 → (write S x r v).slot.0 ≡ 0
write_none S x r v n = rw (write_refused S x r v n)

lookup_none : (S : Store) (x : Tx) (k : ℕ) → number_of (lookup S x k).refusal ≢ 0 → (lookup S x k).count ≡ 0
lookup_none S x k n = rw (lookup_refused S x k n)

write_line : (i r : ℕ) (v : Value) (d : Desk) → Writes i r v d (turn (line_w i r v) d).desk (turn (line_w i r v) d).out
unfolding turn
write_line i r v d =
    let a = write d.store (tx_of d i) r v in
    record {
      more = refl;
      number = refl;
      store = refl;
      tx = laid_says i a.tx d a.store d.plan;
      faults = refl;
      third = λ z. refl;
      refused = λ z. ap num (write_none d.store (tx_of d i) r v z);
    }

lookup_line : (i k : ℕ) (d : Desk) → LooksUp i k d (turn (line_l i k) d).desk (turn (line_l i k) d).out
unfolding turn
lookup_line i k d =
    let a = lookup d.store (tx_of d i) k in
    record {
      more = refl;
      number = refl;
      store = refl;
      tx = laid_says i a.tx d d.store d.plan;
      faults = refl;
      third = λ z. refl;
      refused = λ z. ap num (lookup_none d.store (tx_of d i) k z);
    }

-- a row lock leaves the transaction
lock_tx : (S : Store) (x : Tx) (r : ℕ) → (row_lock S x r).tx ≡ x
unfolding row_lock
lock_tx S x r = refl

lock_line : (i r : ℕ) (d : Desk) → Locks i r d (turn (line_k i r) d).desk (turn (line_k i r) d).out
unfolding turn
lock_line i r d =
    let a = row_lock d.store (tx_of d i) r in
    record {
      more = refl;
      number = refl;
      store = refl;
      tx = rw (lock_tx d.store (tx_of d i) r) (laid_says i (tx_of d i) d a.store d.plan);
      faults = refl;
      third = refl;
    }

abort_line : (i : ℕ) (d : Desk) → Aborts i d (turn (line_a i) d).desk (turn (line_a i) d).out
unfolding turn
abort_line i d =
    let a = abort d.store (tx_of d i) in
    record { more = refl; number = refl; store = refl; tx = laid_says i a.tx d a.store d.plan; faults = refl; third = refl }

-- n places that are all z
all_of : {A : Type 0} (n : ℕ) (z : A) → (length (replicate n z) ≡ n) × ((j : ℕ) → get_or (replicate n z) j z ≡ z)
all_of n z = (length-replicate n z, same n)
  where
    same : (n : ℕ) (j : ℕ) → get_or (replicate n z) j z ≡ z
    same zero j = refl
    same (suc n) zero = refl
    same (suc n) (suc j) = same n j

no_faults_law : NoFaults no_faults
unfolding no_faults
no_faults_law = record { count = refl; places = (all_of fault_limit no_fault).0; zero = (all_of fault_limit no_fault).1 }

-- "the next C, which judges it and uses it up whatever it answers"
commit_line : (i : ℕ) (logged : Bool) (cut : Cut) (d : Desk)
    → Commits i logged cut d (turn (line_c i logged cut) d).desk (turn (line_c i logged cut) d).out
unfolding turn
commit_line i logged cut d =
    let a = commit d.store (tx_of d i) logged d.plan cut in
    record {
      number = refl;
      store = refl;
      tx = laid_says i a.tx d a.store no_faults;
      faults = no_faults_law;
      third = refl;
      more = λ c f e. rw e;
      only_7 = only_seven a.refusal;
    }

-- a step that allows a letter is none of 0, 1, 2 and below 25
unfoldable barred : List ℕ
barred = 1 ∷ 1 ∷ 1 ∷ replicate 22 0

barred_not : (n b : ℕ) → memb b (get_or table n (may [])).letters ≡ true → get_or barred n 0 ≡ 0
unfolding barred table
barred_not zero b e = clash {b = false} e refl
barred_not (suc zero) b e = clash {b = false} e refl
barred_not (suc (suc zero)) b e = clash {b = false} e refl
barred_not (suc (suc (suc n))) b e = (all_of {A = ℕ} 22 0).1 n

no_step : (n b : ℕ) → 25 ≤ n → memb b (get_or table n (may [])).letters ≡ false
unfolding table
no_step n b h = rw (get_or-eq_default table (may []) {n = n} h)

allowed_step : (f : Fault) → allowed f ≡ true → (f.step < 25) × (get_or barred f.step 0 ≡ 0)
unfolding allowed
allowed_step f e =
    let m = (and_true (memb f.letter (get_or table f.step (may [])).letters) _ e).0 in (
      by (ltb f.step 25) (λ t. ltb-true _ _ t) (λ t. clash m (no_step f.step f.letter (ltb-false _ _ t))),
      barred_not f.step f.letter m,
    )

-- so 25 faults are never fit: they would be at 22 steps
few_steps : (seen : List ℕ) (fs : List Fault) → length seen ≡ 25 → all allowed fs ≡ true → steps_apart fs ≡ true
    → all (λ g. eqb (get_or seen g.step 0) 0) fs ≡ true → length fs ≤ zeros seen
few_steps seen [] l a s u = omega arith
few_steps seen (f ∷ fs) l a s u =
    let b = and_true (allowed f) (all allowed fs) a in
    let t = and_true (all (λ g. not (eqb g.step f.step)) fs) (steps_apart fs) s in
    let v = and_true (eqb (get_or seen f.step 0) 0) (all (λ g. eqb (get_or seen g.step 0) 0) fs) u in
    let z = zeros_set seen f.step (omega (arith, (allowed_step f b.0).0)) (eqb-true _ 0 v.0) in
    let both = all_both (λ g. not (eqb g.step f.step)) (λ g. eqb (get_or seen g.step 0) 0) fs t.0 v.1 in
    let free = all_then _ (λ (g : Fault). eqb (get_or (set seen f.step 1) g.step 0) 0) (λ g h.
    let d = and_true (not (eqb g.step f.step)) (eqb (get_or seen g.step 0) 0) h in
    rw (get_or-set_other seen f.step g.step 1 0 (eqb-false _ _ (not-true _ d.0))) d.1) fs both in
    omega (arith, z, few_steps (set seen f.step 1) fs (length-set seen f.step 1 ∙ l) b.1 t.1 free)

barred_few : (length barred ≡ 25) × (zeros barred ≡ 22)
unfolding barred zeros
barred_few = (refl, refl)

full_unfit : (c : Schedule) → 25 ≤ c.count → length c.faults ≡ 25 → schedule_fit c ≡ false
unfolding schedule_fit
full_unfit c h l =
    by (schedule_fit c)
    (λ t. let d = and_true (all allowed (faults_of c)) (steps_apart (faults_of c)) t in
    let free = all_then allowed (λ g. eqb (get_or barred g.step 0) 0) (λ g e. eq-eqb _ 0 (allowed_step g e).1) (faults_of c) d.0 in
    absurd (omega (arith, barred_few, length-take c.count c.faults, few_steps barred (faults_of c) barred_few.0 d.0 d.1 free)))
    (λ t. t)

-- one fault more stands after those that there are
module _ (f : Fault) (c : Schedule) (h : (c.count ≤ 25) × (length c.faults ≡ 25)) where
  held : length (faults_of c) ≡ c.count
  held = length-take-le c.count c.faults (omega (arith, h.0, h.1))

  -- what is laid out of them
  laid_out : (j : ℕ) → c.count < 25 → j ≤ c.count → get_or (pad 25 no_fault (faults_of c ++ f ∷ [])) j no_fault ≡ get_or (faults_of c ++ f ∷ []) j no_fault
  laid_out j l k =
      let n : length (faults_of c ++ f ∷ []) ≡ suc c.count = omega (arith, length-append (faults_of c) (f ∷ []), held) in
      sym (get_or-take (length (faults_of c ++ f ∷ [])) (pad 25 no_fault (faults_of c ++ f ∷ [])) j no_fault (omega arith))
      ∙ ap (λ m. get_or m j no_fault) (take_pad 25 no_fault (faults_of c ++ f ∷ []) (omega arith))

  one_more : OneMore f c (with_fault f c)
  unfolding with_fault
  one_more = record {
    count = λ l. rw (lt-ltb c.count 25 l);
    last = λ l. rw (lt-ltb c.count 25 l) (laid_out c.count l (omega arith) ∙ get_or_at (faults_of c) f [] no_fault c.count held);
    others = λ j k.
        by (ltb c.count 25)
        (λ t. rw t (laid_out j (ltb-true _ _ t) (omega arith)
        ∙ get_or-append (faults_of c) (f ∷ []) no_fault j (omega (arith, held)) ∙ get_or-take c.count c.faults j no_fault k))
        (λ t. rw t);
    full = λ l. (rw (le-ltb c.count 25 l), full_unfit c l h.1);
    places = by (ltb c.count 25) (λ t. rw t (pad_length 25 no_fault (faults_of c ++ f ∷ []) ∙ sym h.1)) (λ t. rw t);
  }

fault_line : (n b k : ℕ) (d : Desk) → Faults n b k d (turn (line_f n b k) d).desk (turn (line_f n b k) d).out
unfolding turn
fault_line n b k d = record {
  more = refl;
  number = refl;
  third = refl;
  store = refl;
  txs = refl;
  faults = λ h. one_more (record { step = n; letter = b; k = k }) d.plan h;
}

recover_line : (d : Desk) → Recovers d (turn line_v d).desk (turn line_v d).out
unfolding turn
recover_line d = record { more = refl; number = refl; third = refl; store = refl; txs = refl; faults = refl }

bad_line : (d : Desk) → Refused d (turn line_bad d).desk (turn line_bad d).out
unfolding turn
bad_line d = record { more = refl; number = refl; third = refl; desk = refl }

-- what each line does to the store, to its place's transaction, to the others and to the pending faults, and what it prints
pub turn_says : (l : Line) (d : Desk) → Does l d (turn l d).desk (turn l d).out
turn_says (line_b i) d = begin_line i d
turn_says (line_r i r) d = read_line i r d
turn_says (line_w i r v) d = write_line i r v d
turn_says (line_l i k) d = lookup_line i k d
turn_says (line_k i r) d = lock_line i r d
turn_says (line_a i) d = abort_line i d
turn_says (line_c i m c) d = commit_line i m c d
turn_says (line_f n b k) d = fault_line n b k d
turn_says line_v d = recover_line d
turn_says line_bad d = bad_line d

-- one after the other
pub lines_play : (d : Desk) (ls : List Line) → Plays d ls (replay_from d ls)
lines_play d [] = refl
lines_play d (l ∷ ls) = ((turn l d).desk, (turn l d).out, replay_from (turn l d).desk ls, refl, turn_says l d, lines_play (turn l d).desk ls)

-- THE START

-- "It starts from the empty store and zero transactions"
pub start_says : Starts start
unfolding start
start_says = record {
  store = fresh_store;
  places = (all_of place_limit zero_tx).0;
  zero = λ i. rw ((all_of place_limit zero_tx).1 i) zero_tx_law;
  faults = no_faults_law;
}

-- THE ANSWERS

-- one digit after others
worth_more : (w : Bytes) (d : ℕ) → worth (w ++ d ∷ []) ≡ worth w * 10 + (d - 48)
worth_more [] d = omega arith
worth_more (b ∷ w) d =
    let e : length (w ++ d ∷ []) ≡ suc (length w) = omega (arith, length-append w (d ∷ [])) in
    rw (e, pow-suc 10 (length w)) (omega (arith, worth_more w d))

-- a 0 that stands alone is worth nothing
zero_alone : (w : Bytes) → get_or w 0 0 ≡ 48 → length w ≡ 1 → worth w ≡ 0
zero_alone [] z l = refl
zero_alone (b ∷ []) z l = rw z
zero_alone (b ∷ c ∷ w) z l = absurd (omega arith)

one_digit : (n : ℕ) → n < 10 → Decimal n ((48 + n % 10) ∷ [])
one_digit n l = record { some = omega arith; digits = only; unpadded = λ z. refl; value = omega arith }
  where
    only : (j : ℕ) → j < 1 → (48 ≤ get_or ((48 + n % 10) ∷ []) j 0) × (get_or ((48 + n % 10) ∷ []) j 0 ≤ 57)
    only zero h = (omega arith, omega arith)
    only (suc j) h = absurd (omega arith)

more_digits : (n : ℕ) (p : Bytes) → 10 ≤ n → Decimal (n / 10) p → Decimal n (p ++ (48 + n % 10) ∷ [])
more_digits n p l h =
    let d = 48 + n % 10 in
    let k = length-append p (d ∷ []) in
    record {
      some = omega (arith, k);
      digits = λ j b.
          by (ltb j (length p))
          (λ t. rw (get_or-append p (d ∷ []) 0 j (ltb-true _ _ t)) (h.digits j (ltb-true _ _ t)))
          (λ t. let e : j ≡ length p = omega (arith, k, ltb-false j (length p) t) in
          rw (e, get_or-append_seam p d [] 0) (omega arith, omega arith));
      unpadded = λ z.
          let y : get_or p 0 0 ≡ 48 = sym (get_or-append p (d ∷ []) 0 0 h.some) ∙ z in
          absurd (omega (arith, zero_alone p y (h.unpadded y), h.value));
      value = worth_more p d ∙ omega (arith, h.value);
    }

-- a number is written in decimal, before what follows it
in_decimal_law : (f n : ℕ) (rest : Bytes) → 0 < f → n < 10 ^ f → (p : Bytes) × (decimal f n rest ≡ p ++ rest) × Decimal n p
in_decimal_law zero n rest h l = absurd (omega arith)
in_decimal_law (suc f) n rest h l =
    by (ltb n 10)
    (λ t. ((48 + n % 10) ∷ [], rw (decimal, t), one_digit n (ltb-true _ _ t)))
    (λ t. let b : 10 ≤ n = ltb-false _ _ t in
    let r = in_decimal_law f (n / 10) ((48 + n % 10) ∷ rest) (left f b l) (omega arith) in
    (r.0 ++ (48 + n % 10) ∷ [], rw (decimal, t) (r.1 ∙ sym (append_assoc r.0 ((48 + n % 10) ∷ []) rest)), more_digits n r.0 b r.2))
  where
    left : (f : ℕ) → 10 ≤ n → n < 10 ^ suc f → 0 < f
    left zero b l = absurd (omega arith)
    left (suc f) b l = omega arith

-- shut, since a goal would show each digit's step
unfoldable pub in_full : ℕ → Bytes → Bytes
in_full n rest = decimal digits64 n rest

full_says : (n : ℕ) (rest : Bytes) → n < 2 ^ 64 → (p : Bytes) × (in_full n rest ≡ p ++ rest) × Decimal n p
unfolding in_full
full_says n rest h = in_decimal_law digits64 n rest (omega arith) (omega (arith, wide_written))

third_says : (t : Third) (rest : Bytes) → Third64 t → (p : Bytes) × (third t rest ≡ p ++ rest) × IsThird t p
unfolding in_full
third_says (num n) rest h = full_says n rest h
third_says dash rest h = (45 ∷ [], refl, refl)

more_says : (m : More) (rest : Bytes) → More64 m → (p : Bytes) × (script.more m rest ≡ p ++ rest) × IsMore m p
unfolding in_full
more_says nothing rest h = ([], refl, refl)
more_says (cause c) rest h =
    let p = full_says (place_named c) rest h in
    let t = full_says (test_named c) (9 ∷ in_full (place_named c) rest) (test_small c) in (
      tabbed (t.0 ∷ p.0 ∷ []),
      ap (λ r. 9 ∷ r) (t.1 ∙ ap (λ r. t.0 ++ 9 ∷ r) (p.1 ∙ ap (λ r. r ++ rest) (sym (append-nil p.0))))
          ∙ sym (ap (λ r. 9 ∷ r) (append_assoc t.0 (9 ∷ (p.0 ++ [])) rest)),
      (t.0, p.0, refl, t.2, p.2),
    )
  where
    test_small : (c : Cause) → test_named c < 2 ^ 64
    test_small BusyGuard = omega arith
    test_small (IndexReadAt p) = omega arith
    test_small (RowLockAt p) = omega arith
    test_small (SerializationAt p) = omega arith
    test_small (WriteBaseAt p) = omega arith

pub line_first : (n : ℕ) (o : Out) (os : List Out)
    → script.write n (o ∷ os) ≡ in_full n (9 ∷ in_full o.number (9 ∷ third o.third (script.more o.more (10 ∷ script.write (suc n) os))))
unfolding in_full
line_first n o os = refl

-- "Output: line number, number, then .."
pub output_says : (n : ℕ) (os : List Out) → n + length os ≤ 2 ^ 64 → Outs64 os → IsOutput n os (script.write n os)
output_says n [] l h = refl
output_says n (o ∷ os) l h =
    let rest = script.write (suc n) os in
    let d = more_says o.more (10 ∷ rest) h.2 in
    let e = script.more o.more (10 ∷ rest) in
    let c = third_says o.third e h.1 in
    let b = full_says o.number (9 ∷ third o.third e) h.0 in
    let a = full_says n (9 ∷ in_full o.number (9 ∷ third o.third e)) (omega arith) in (
      a.0,
      b.0,
      c.0,
      d.0,
      rest,
      line_first n o os ∙ a.1 ∙ ap (λ r. a.0 ++ 9 ∷ r) (b.1 ∙ ap (λ r. b.0 ++ 9 ∷ r) (c.1 ∙ ap (λ r. c.0 ++ r) d.1)),
      a.2,
      b.2,
      c.2,
      d.2,
      output_says (suc n) os (omega arith) h.3,
    )

-- A WHOLE REPLAY, from the script's bytes to the answers'
pub replay_says : (bs : Bytes) → Replays bs (replay_text bs)
unfolding replay_text replay
replay_says bs = record {
  desk = start;
  lines = parse bs;
  outs = replay_from start (parse bs);
  starts = start_says;
  script = (script_says bs (parse bs)).0 refl;
  plays = lines_play start (parse bs);
  prints = λ l h. output_says 1 (replay_from start (parse bs)) (omega arith) h;
}
