-- Heads stay: no call takes a row's head away, and a commit that answers 0 gives each row that it writes one.
use Rattle.std.specs.Prelude.{◌≡◌, Bool, false, not, ◌&&◌, ◌||◌, ◌≢◌, ℕ, ◌<◌, length, get_or, set, take, eqb, ltb}
use Rattle.std.proofs.Math.Path.{refl}
use Rattle.std.proofs.Common.{◌∙◌, arith, length-set, get_or-set_same, get_or-set_other, eqb-true, ltb-true, ltb-false}
use Rattle.std.proofs.Math.Bool.{true}
use mathlib.Core.List.{List, [], ◌∷◌, ◌++◌}
use Rattle.std.proofs.Math.ListN.{get_or-eq_default}
use Rattle.std.proofs.lemmas.Bool.{eqb-false}
use Rattle.rules.specs.Lists.{all, any, memb, flat, nonzero, is_zero}
use Rattle.rules.specs.Types.{Store, Tx, Write, Schedule, Cut, Uncut, After, Value, Absent, Key}
use Rattle.rules.specs.Transaction.{writes_of, finals}
use Rattle.rules.specs.Numbers.{number_of, is_done}
use Rattle.rules.specs.Puts.{Put, k_head, k_free, k_drop, is, put_drop, apply, apply_all, take_slot, abort_puts}
use Rattle.rules.specs.Calls.{begin, lowest_free, base_of, write, row_lock, abort}
use Rattle.rules.specs.Changes.{publish_one, publication, recycling, release, stamping}
use Rattle.rules.specs.Commit.{run_of}
use Rattle.rules.specs.Answer.{uncut, cut_off, answer, commit}
use Rattle.basic_laws.specs.Cases.{by, clash, and_true, or_true, or_left, or_right}
use Rattle.basic_laws.specs.AllOf.{all_then, all_take, any_append}
use Rattle.run_laws.specs.OnlyKinds.{only, is_not}
use Rattle.run_laws.specs.Kinds.{recycling_kind, abort_kinds}
use Rattle.run_laws.specs.FinalWrites.{finals_all, finals_some}
use Rattle.run_laws.specs.FirstRows.{every_commit, whole, done_store, only_done}
use Rattle.run_laws.specs.Outcome.{outcome, after_remove, after_publish, after_recycle, after_finish, after_stamp}
use Rattle.admitted_laws.specs.Resting.{rests}
use Rattle.recovery_laws.specs.Calm.{calm}
use Rattle.recovery_laws.specs.EveryStore.{run_all}
use Rattle.sentences.specs.FirstLine.{either}
use Rattle.sentences.specs.Refusals.{begin_refused, begin_accepted, write_refused, write_accepted, row_lock_refused, row_lock_accepted}
use Rattle.sentences.specs.Refusals.{abort_refused, abort_accepted}
use Rattle.call_laws.specs.ReadLaws.{taken, writes_taken}
use Rattle.call_laws.specs.CandidateRows.{written_below}
use Rattle.statements.specs.Sized.{Sized}
use Rattle.statements.specs.Words.{Admitted}
use Rattle.statements.specs.ReadWords.{of_row}
use Rattle.statements.specs.AbsentWords.{WritesRow, HasHead, HeadsStay}

-- a put that takes no row's head away, and one that gives row r one
abbrev leaves : Put → Bool
leaves p = not (is p k_head) || nonzero p.val

abbrev gives : ℕ → Put → Bool
gives r p = is p k_head && eqb p.at r

-- a row that has a head is a row
below : (hs : List ℕ) (r : ℕ) → get_or hs r 0 ≢ 0 → r < length hs
below hs r n = by (ltb r (length hs)) (λ e. ltb-true r (length hs) e) (λ e. absurd (n (get_or-eq_default hs 0 (ltb-false r (length hs) e))))

put_leaves : (p : Put) (X : Store) (r : ℕ) → leaves p ≡ true → HasHead X r → HasHead (apply p X) r
put_leaves p X r h n = by (is p k_head)
    (λ k. rw k (by (eqb r p.at)
    (λ e. let is = eqb-true r p.at e in
    let v = ltb-true 0 p.val (rw k at h) in
    let new : get_or (set X.heads p.at p.val) r 0 ≡ p.val =
    rw is (get_or-set_same X.heads p.at p.val 0 (rw is at (below X.heads r n))) in
    λ z. omega (arith, v, z, new))
    (λ e. rw (get_or-set_other X.heads p.at r p.val 0 (eqb-false r p.at e)) n)))
    (λ k. rw k n)

puts_leave : (ps : List Put) (X : Store) (r : ℕ) → all leaves ps ≡ true → HasHead X r → HasHead (apply_all ps X) r
puts_leave [] X r h n = n
puts_leave (p ∷ ps) X r h n =
    let a = and_true (leaves p) (all leaves ps) h in puts_leave ps (apply p X) r a.1 (put_leaves p X r a.0 n)

-- such puts, one of which gives row r a head
puts_give : (ps : List Put) (X : Store) (r : ℕ) → r < length X.heads → all leaves ps ≡ true → any (gives r) ps ≡ true → HasHead (apply_all ps X) r
puts_give [] X r lt h g = clash {b = false} g refl
puts_give (p ∷ ps) X r lt h g =
    let a = and_true (leaves p) (all leaves ps) h in
    or_true (gives r p) (any (gives r) ps) g
    (λ e. puts_leave ps (apply p X) r a.1 (given (and_true (is p k_head) (eqb p.at r) e) a.0))
    (λ e. puts_give ps (apply p X) r (by (is p k_head) (λ k. rw k (omega (arith, lt, length-set X.heads p.at p.val))) (λ k. rw k lt)) a.1 e)
  where
    given : (is p k_head ≡ true) × (eqb p.at r ≡ true) → leaves p ≡ true → HasHead (apply p X) r
    given b l =
        let at = eqb-true p.at r b.1 in
        let v = ltb-true 0 p.val (rw b.0 at l) in
        let new : get_or (set X.heads p.at p.val) r 0 ≡ p.val = rw at (get_or-set_same X.heads r p.val 0 lt) in
        rw b.0 (λ z. omega (arith, v, z, new))

-- puts of other kinds
aside_leaves : (ks : List ℕ) → memb k_head ks ≡ false → (ps : List Put) → only ks ps ≡ true → all leaves ps ≡ true
aside_leaves ks n = all_then (λ p. memb p.kind ks) leaves (λ p m. rw (is_not ks k_head n p m))

-- publication: each final write has its slot, and its row gets it
publish_leaves : (t : ℕ) (ws : List Write) → all taken ws ≡ true → all leaves (flat (publish_one t) ws) ≡ true
unfolding publish_one
publish_leaves t [] h = refl
publish_leaves t (w ∷ ws) h =
    let a = and_true (taken w) (all taken ws) h in
    let i = publish_leaves t ws a.1 in
    by (eqb w.base.0 0) (λ e. rw (e, a.0) i) (λ e. rw (e, a.0) i)

publish_gives : (t r : ℕ) (ws : List Write) → any (of_row r) ws ≡ true → any (gives r) (flat (publish_one t) ws) ≡ true
unfolding publish_one
publish_gives t r [] h = h
publish_gives t r (w ∷ ws) h =
    let g : (of_row r w || any (gives r) (flat (publish_one t) ws)) ≡ true = or_true (of_row r w) (any (of_row r) ws) h
    (λ e. or_left (of_row r w) _ e) (λ e. or_right (of_row r w) _ (publish_gives t r ws e)) in
    by (eqb w.base.0 0) (λ e. rw e g) (λ e. rw e g)

module _ (S : Store) (x : Tx) (logged : Bool) (plan : Schedule) (z : Sized S) (ok : Admitted S x plan) where
  finals_taken : all taken (finals x) ≡ true
  unfolding finals
  finals_taken = let R = rests S z ok.rests in finals_all taken (writes_of x) (writes_taken S x R.0 z R.1 ok.fits)

  -- every put of a run
  run_leaves : all leaves (run_of S x logged plan).puts ≡ true
  unfolding publication
  run_leaves = run_all leaves (λ p m. rw (is_not calm k_head refl p m)) S x logged plan (λ _. publish_leaves x.txid.0 (finals x) finals_taken)
      (aside_leaves (k_free ∷ []) refl (recycling S x) (recycling_kind (k_free ∷ []) S x refl))
      (aside_leaves (k_free ∷ k_drop ∷ []) refl (abort_puts S x.txid.0) (abort_kinds (k_free ∷ k_drop ∷ []) refl refl S x.txid.0)) refl refl

-- a call: refused, it leaves the store; accepted, it moves no head
pub heads_stay : HeadsStay
unfolding uncut cut_off
heads_stay S r x z n = record {
  begins = either (number_of (begin S).refusal) (λ h. rw (begin_accepted S h) n) (λ h. rw (begin_refused S h) n);
  writes = λ q v. either (number_of (write S x q v).refusal) (λ h. rw (write_accepted S x q v h) (taking q v)) (λ h. rw (write_refused S x q v h) n);
  locks = λ q. either (number_of (row_lock S x q).refusal) (λ h. rw (row_lock_accepted S x q h) n) (λ h. rw (row_lock_refused S x q h) n);
  aborts = either (number_of (abort S x).refusal)
      (λ h. rw (abort_accepted S x h) (puts_leave (abort_puts S x.txid.0) S r
      (aside_leaves (k_free ∷ k_drop ∷ []) refl (abort_puts S x.txid.0) (abort_kinds (k_free ∷ k_drop ∷ []) refl refl S x.txid.0)) n))
      (λ h. rw (abort_refused S x h) n);
  commits = λ logged plan cut. every_commit S x logged plan (λ a. HasHead a.store r) cut n n n (λ ok. answered logged plan ok cut);
}
  where
    taking : (q : ℕ) (v : Value) → HasHead (apply_all (take_slot (lowest_free S.xmin) x.txid.0 (base_of S x q) v) S) r
    taking q Absent = n
    taking q (Key k) = n

    answered : (logged : Bool) (plan : Schedule) → Admitted S x plan → (cut : Cut) → HasHead (answer S x logged (run_of S x logged plan) cut).store r
    answered logged plan ok Uncut = puts_leave (run_of S x logged plan).puts S r (run_leaves S x logged plan z ok) n
    answered logged plan ok (After k) =
        let ps = (run_of S x logged plan).puts in
        by (ltb k (length ps))
        (λ e. rw e (puts_leave (take k ps) S r (all_take leaves k ps (run_leaves S x logged plan z ok)) n))
        (λ e. rw e (puts_leave ps S r (run_leaves S x logged plan z ok) n))

-- a commit that answers 0 gives each row that it writes a head
module _ (S : Store) (x : Tx) (logged : Bool) (plan : Schedule) (z : Sized S) (ok : Admitted S x plan)
    (d : is_done (commit S x logged plan Uncut).refusal ≡ true) where
  run_gives : (r : ℕ) → WritesRow x r → any (gives r) (run_of S x logged plan).puts ≡ true
  unfolding publication finals uncut
  run_gives r w =
      let u = whole S x logged plan Uncut ok is_zero refl d in
      let g = gives r in
      let p = publish_gives x.txid.0 r (finals x) (finals_some r (writes_of x) w) in
      let then : (l m : List Put) → any g l ≡ true → any g (l ++ m) ≡ true = λ l m h. any_append g l m ∙ or_left (any g l) (any g m) h in
      let a = any_append g (after_remove S x logged plan) (publication x) ∙ or_right (any g (after_remove S x logged plan)) (any g (publication x)) p in
      let b = then (after_publish S x logged plan) (recycling S x) a in
      let c = then (after_recycle S x logged plan) (put_drop x.txid.0 ∷ []) b in
      let e = then (after_finish S x logged plan) (stamping S x) c in
      rw (only_done S x logged plan _ _ _ (outcome S x logged plan) (rw u at d)).0 (then (after_stamp S x logged plan) (release S x) e)

  pub gives_head : (r : ℕ) → WritesRow x r → HasHead (commit S x logged plan Uncut).store r
  gives_head r w =
      rw (done_store S x logged plan Uncut ok d) (puts_give (run_of S x logged plan).puts S r (rw z.heads (written_below S x ok.fits r w))
      (run_leaves S x logged plan z ok) (run_gives r w))
