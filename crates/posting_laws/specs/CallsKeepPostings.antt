-- Every call keeps a resting store's index: postings in their form and, if not poisoned, exactly the heads'.
use Rattle.std.specs.Prelude.{◌≡◌, refl, Bool, true, false, List, [], ◌∷◌, ℕ, suc, ◌+◌, ◌<◌, length, get_or, set, drop, eqb, ltb}
use Rattle.std.proofs.Common.{sym, ◌∙◌, arith, add-zero, add-suc, suc-add, length-drop, get_or-set_other, get_or-drop, eqb-true}
use Rattle.std.proofs.lemmas.Bool.{eqb-false, not-true}
use Rattle.records.specs.Limits.{key_end}
use Rattle.rules.specs.Types.{Store, Tx, Schedule, Cut, Value, Absent, Key}
use Rattle.basic_laws.specs.Cases.{by, clash, mem_ne}
use Rattle.rules.specs.Lists.{all, memb, is_zero, nonzero, first_zero}
use Rattle.rules.specs.Store.{postings_in_form}
use Rattle.rules.specs.Chains.{walk}
use Rattle.rules.specs.Admitted.{resting}
use Rattle.rules.specs.Numbers.{number_of}
use Rattle.rules.specs.Puts.{Put, k_insert, k_remove, k_free, k_drop, k_poison, k_doom, k_enter, k_clock, k_xmin}
use Rattle.rules.specs.Puts.{k_next, k_key, k_lock, apply_all, take_slot, put_enter, put_clock, put_lock, abort_puts}
use Rattle.rules.specs.Calls.{begin, write, row_lock, abort, lowest_free, base_of}
use Rattle.rules.specs.Answer.{commit}
use Rattle.run_laws.specs.OnlyKinds.{only, kept, is_not}
use Rattle.basic_laws.specs.Members.{each_or_law}
use Rattle.statements.specs.Sized.{Sized}
use Rattle.statements.specs.OtherNumbers.{write_lines}
use Rattle.sentences.specs.FirstLine.{none_applies, either}
use Rattle.sentences.specs.Refusals.{begin_accepted, begin_refused, row_lock_accepted, row_lock_refused, abort_accepted, abort_refused}
use Rattle.sentences.specs.Refusals.{write_told, write_accepted, write_refused}
use Rattle.run_laws.specs.Kinds.{abort_kinds}
use Rattle.posting_laws.specs.RestingPostings.{Exact, Indexed, indexed, mendable}
use Rattle.posting_laws.specs.Spared.{head_seen}
use Rattle.posting_laws.specs.Exact.{postings_kept}
use Rattle.posting_laws.specs.KeepsExact.{exact_kept, heads_same}
use Rattle.posting_laws.specs.Healthy.{aborted_exact, commit_settled}
use Rattle.posting_laws.specs.StaysInForm.{leave_posts}
use Rattle.posting_laws.specs.Formed.{commit_formed}

-- puts that neither insert nor remove keep the form; those that don't poison keep poison and doom
form_kept : (ks : List ℕ) → memb k_insert ks ≡ false → memb k_remove ks ≡ false → (ps : List Put) (T : Store) → only ks ps ≡ true
    → postings_in_form (apply_all ps T) ≡ postings_in_form T
form_kept ks i r = kept postings_in_form ks (λ p T m. (leave_posts p T (is_not ks k_insert i p m) (is_not ks k_remove r p m)).1)

poisoned_kept : (ks : List ℕ) → memb k_poison ks ≡ false → memb k_doom ks ≡ false → (ps : List Put) (T : Store) → only ks ps ≡ true
    → (apply_all ps T).poisoned ≡ T.poisoned
poisoned_kept ks p d = kept (λ T. T.poisoned) ks (λ q T m. rw (is_not ks k_poison p q m, is_not ks k_doom d q m))

doomed_kept : (ks : List ℕ) → memb k_doom ks ≡ false → (ps : List Put) (T : Store) → only ks ps ≡ true → (apply_all ps T).doomed ≡ T.doomed
doomed_kept ks d = kept (λ T. T.doomed) ks (λ q T m. rw (is_not ks k_doom d q m))

-- such puts keep the index where they keep the postings exact
module _ (ks : List ℕ) (i : memb k_insert ks ≡ false) (r : memb k_remove ks ≡ false) (p : memb k_poison ks ≡ false) (d : memb k_doom ks ≡ false)
    (ps : List Put) (T : Store) (o : only ks ps ≡ true) where
  indexed_then : Indexed T → ((apply_all ps T).poisoned ≡ false → Exact (apply_all ps T)) → Indexed (apply_all ps T)
  indexed_then h e = record {
    form = form_kept ks i r ps T o ∙ h.form;
    rest = λ q. (doomed_kept ks d ps T o ∙ (h.rest (sym (poisoned_kept ks p d ps T o) ∙ q)).0, e q);
  }

-- "abort": the txid's off-chain slots freed, the txid dropped
pub abort_indexed : (S : Store) (x : Tx) → Sized S → resting S ≡ true → Indexed (abort S x).store
abort_indexed S x sized r =
    let ks = k_free ∷ k_drop ∷ [] in
    let t = x.txid.0 in
    let freed = indexed_then ks refl refl refl refl (abort_puts S t) S (abort_kinds ks refl refl S t) (indexed S r) (aborted_exact S t sized r) in
    either (number_of (abort S x).refusal) (λ e. rw (abort_accepted S x e) freed) (λ n. rw (abort_refused S x n) (indexed S r))

-- puts that touch neither postings nor heads nor keys, poison nor doom
abbrev elsewhere : List ℕ
elsewhere = k_enter ∷ k_clock ∷ k_xmin ∷ k_next ∷ k_lock ∷ []

indexed_kept : (ps : List Put) (T : Store) → only elsewhere ps ≡ true → Indexed T → Indexed (apply_all ps T)
indexed_kept ps T o h =
    indexed_then elsewhere refl refl refl refl ps T o h
    (λ q. exact_kept elsewhere refl refl refl refl refl ps T o (h.rest (sym (poisoned_kept elsewhere refl refl ps T o) ∙ q)).1)

-- "begin": the clock and the active list
pub begin_indexed : (S : Store) → resting S ≡ true → Indexed (begin S).store
begin_indexed S r = either (number_of (begin S).refusal)
    (λ e. rw (begin_accepted S e) (indexed_kept (put_enter S.clock ∷ put_clock (suc S.clock) ∷ []) S refl (indexed S r)))
    (λ n. rw (begin_refused S n) (indexed S r))

-- "row lock": the head's lock
pub lock_indexed : (S : Store) (x : Tx) (r : ℕ) → resting S ≡ true → Indexed (row_lock S x r).store
lock_indexed S x r rests = either (number_of (row_lock S x r).refusal)
    (λ e. rw (row_lock_accepted S x r e) (indexed_kept (put_lock (get_or S.heads r 0) x.txid.0 ∷ []) S refl (indexed S rests)))
    (λ n. rw (row_lock_refused S x r n) (indexed S rests))

-- the place of the first 0, if there is one
first_zero_law : (p : ℕ) (l : List ℕ) → eqb (first_zero p l) 0 ≡ false → (i : ℕ) × (first_zero p l ≡ p + i) × (i < length l) × (get_or l i 0 ≡ 0)
first_zero_law p [] h = clash {b = true} refl h
first_zero_law p (x ∷ l) h = by (eqb x 0)
    (λ e. (0, rw e (sym (add-zero p)), omega arith, eqb-true x 0 e))
    (λ e. let r = first_zero_law (suc p) l (rw e at h) in (suc r.0, rw (e, add-suc) (r.1 ∙ suc-add p r.0), omega (arith, r.2), r.3))

-- "the lowest free slot" is no head
free_no_head : (S : Store) → Sized S → resting S ≡ true → eqb (lowest_free S.xmin) 0 ≡ false → memb (lowest_free S.xmin) S.heads ≡ false
unfolding lowest_free
free_no_head S sized r n =
    let xmin = S.xmin in
    let seen = (walk S.heads S.next).seen in
    let p = lowest_free xmin in
    let z = first_zero_law 1 (drop 1 xmin) n in
    let low : p < length xmin = omega (arith, z.1, z.2, length-drop 1 xmin) in
    let zero_there : get_or xmin p 0 ≡ 0 = rw z.1 (sym (get_or-drop 1 xmin z.0 0) ∙ z.3) in
    by (memb p S.heads)
    (λ m. let d = mendable S r in
    let mark = not-true (eqb (get_or seen p 0) 0) (head_seen S.heads S.next p sized.next d.walked (eqb-false p 0 n) m) in
    clash (each_or_law is_zero nonzero seen xmin 0 0 d.led p low mark) (rw zero_there))
    (λ e. e)

-- a version put into a slot that is no head
taken_indexed : (S : Store) (p t q : ℕ) (v : Value) → memb p S.heads ≡ false → Indexed S → Indexed (apply_all (take_slot p t q v) S)
taken_indexed S p t q Absent n h = indexed_kept (take_slot p t q Absent) S refl h
taken_indexed S p t q (Key k) n h =
    let ks = k_xmin ∷ k_next ∷ k_key ∷ [] in
    let ps = take_slot p t q (Key k) in
    indexed_then ks refl refl refl refl ps S refl h
    (λ g. postings_kept ks refl refl ps S refl ∙ (h.rest g).1
    ∙ sym (heads_same S.key (set S.key p k) S.has (set S.has p true) 0 S.heads
    (λ c m. let d = mem_ne c p S.heads m n in (get_or-set_other S.has p c true false d, get_or-set_other S.key p c k 0 d))))

-- "write": "the lowest free slot is taken"
pub write_indexed : (S : Store) (x : Tx) (r : ℕ) (v : Value) → Sized S → resting S ≡ true → Indexed (write S x r v).store
write_indexed S x r v sized rests = either (number_of (write S x r v).refusal)
    (λ e. let free = (none_applies (write S x r v).refusal (write_lines S x r v) (write_told S x r v) e).1.1.1.1.1.1.1.0 in
    rw (write_accepted S x r v e)
    (taken_indexed S (lowest_free S.xmin) x.txid.0 (base_of S x r) v (free_no_head S sized rests free) (indexed S rests)))
    (λ n. rw (write_refused S x r v n) (indexed S rests))

-- commit, where it isn't cut: T is a test of numbers that 18 fails
pub commit_indexed : (S : Store) (x : Tx) (logged : Bool) (plan : Schedule) → Sized S → all (λ k. ltb k key_end) S.key ≡ true
    → resting S ≡ true → (cut : Cut) (T : ℕ → Bool) → T 18 ≡ false → let a = commit S x logged plan cut in
    T (number_of a.refusal) ≡ true → Indexed a.store
commit_indexed S x logged plan sized keys r cut T z h = record {
  form = commit_formed S x logged plan sized keys r cut;
  rest = commit_settled S x logged plan sized r cut T z h;
}
