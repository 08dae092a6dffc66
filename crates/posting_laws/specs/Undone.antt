-- "insertions undone": what step 15 put in, and rollback takes out in reverse, leaves the store as it was.
use Rattle.std.specs.Prelude.{◌≡◌, refl, Bool, true, false, not, ◌&&◌, List, [], ◌∷◌, ◌++◌, map, reverse, ℕ, zero, suc, ◌+◌, ◌≤◌, length, get_or, take, drop}
use Rattle.std.proofs.Math.Path.{sym}
use Rattle.std.proofs.Common.{ap, ◌∙◌, length-append, take-append-drop}
use Rattle.std.proofs.lemmas.List.{reverse-append, reverse-reverse}
use native.Mathlib.Omega.{arith}
use Rattle.std.proofs.Math.ListN.{length-take}
use Rattle.std.proofs.Math.Dec.{eqb, ltb}
use borrow.Author.Tests.{eqb-true, leb-true, not-true}
use Rattle.records.specs.Limits.{rows, posting_limit, write_limit}
use Rattle.records.specs.Relations.{writes_posted}
use Rattle.rules.specs.Types.{Store, Tx, Value, Key, Write}
use Rattle.basic_laws.specs.Cases.{by, clash, and_true, and_false, or_true, or_false, or_left, or_right, every_cons}
use Rattle.rules.specs.Lists.{all, memb}
use Rattle.rules.specs.Store.{key_of, row_of, value_at, same_value, carries, postings_of}
use Rattle.rules.specs.Transaction.{writes_of, finals}
use Rattle.rules.specs.Chains.{walk}
use Rattle.rules.specs.Admitted.{resting}
use Rattle.rules.specs.Fit.{counts_fit, write_fit, fit}
use Rattle.rules.specs.Tests.{write_base_conflict}
use Rattle.rules.specs.Changes.{changes, destinations}
use Rattle.rules.specs.Puts.{Put, put_insert, put_remove, apply_all}
use Rattle.basic_laws.specs.Rising.{unique}
use Rattle.run_laws.specs.FinalWrites.{finals_all, finals_few}
use Rattle.statements.specs.Sized.{Sized}
use Rattle.basic_laws.specs.AllOf.{all_then, none_fails}
use Rattle.posting_laws.specs.Pair.{posting_of, row_small}
use Rattle.basic_laws.specs.HeadPostings.{heads_length}
use Rattle.posting_laws.specs.HeadsTold.{same_value_law, value_same, head_member}
use Rattle.posting_laws.specs.RestingPostings.{in_form, exact}
use Rattle.posting_laws.specs.Posted.{mem_append, put_back_but, put_back}
use Rattle.posting_laws.specs.Written.{rows_of, finals_once, pick, changed, side_length, mem_side, side_once}

-- a commit that got past its tests: the store rests and isn't poisoned, the transaction is fit, test 14 said no; the arrays have their declared lengths
pub record Ready (S : Store) (x : Tx) : Type 0 where
  pub rests : resting S ≡ true
  pub healthy : S.poisoned ≡ false
  pub fits : fit S x ≡ true
  pub agreed : write_base_conflict S x ≡ false
  pub sized : Sized S

-- a prefix of a mapped list
pub take_map {ℓ κ} : {A : Type ℓ} {B : Type κ} (f : A → B) (n : ℕ) (l : List A) → take n (map f l) ≡ map f (take n l)
take_map f zero l = refl
take_map f (suc n) [] = refl
take_map f (suc n) (a ∷ l) = ap (λ m. f a ∷ m) (take_map f n l)

-- a member of a prefix
pub mem_take : (n : ℕ) (l : List ℕ) (p : ℕ) → memb p (take n l) ≡ true → memb p l ≡ true
mem_take zero l p m = clash {b = false} m refl
mem_take (suc n) [] p m = m
mem_take (suc n) (x ∷ l) p m =
    or_true (eqb p x) (memb p (take n l)) m (λ e. or_left (eqb p x) (memb p l) e) (λ e. or_right (eqb p x) (memb p l) (mem_take n l p e))

-- two lists in one where no number stands twice
unique_append : (a b : List ℕ) → unique (a ++ b) ≡ true → (unique a ≡ true) × ((p : ℕ) → memb p b ≡ true → memb p a ≡ false)
unique_append [] b h = (refl, λ p m. refl)
unique_append (x ∷ a) b h =
    let c = and_true (not (memb x (a ++ b))) (unique (a ++ b)) h in
    let r = unique_append a b c.1 in
    let o = or_false (memb x a) (memb x b) (sym (mem_append a b x) ∙ not-true (memb x (a ++ b)) c.0) in
    (rw o.0 r.0, λ p m. by (eqb p x) (λ e. clash m (rw (eqb-true p x e) o.1)) (λ e. rw e (r.1 p m)))

-- a change's new value is not the base's
differs : (v w : Value) (k : ℕ) → (not (same_value v w) && same_value w (Key k)) ≡ true → same_value v (Key k) ≡ false
differs v w k h =
    let a = and_true (not (same_value v w)) (same_value w (Key k)) h in
    by (same_value v (Key k))
    (λ e. clash (rw (same_value_law v (Key k) e, same_value_law w (Key k) a.1) (value_same (Key k))) (not-true (same_value v w) a.0))
    (λ e. e)

-- where a row's write brings in a posting, the row's head has another value
head_differs : (key : List ℕ) (has : List Bool) (heads : List ℕ) (k r : ℕ) (ws : List Write) → all (λ w. eqb (get_or heads w.row.0 0) w.base.0) ws ≡ true
    → pick (λ w. changed key has w && carries key has w.new.0 k) false r ws ≡ true
    → carries key has (get_or heads r 0) k ≡ false
head_differs key has heads k r [] a h = clash {b = false} h refl
head_differs key has heads k r (w ∷ ws) a h =
    let b = and_true (eqb (get_or heads w.row.0 0) w.base.0) (all (λ w. eqb (get_or heads w.row.0 0) w.base.0) ws) a in
    by (eqb r w.row.0)
    (λ e. rw (eqb-true r w.row.0 e, eqb-true (get_or heads w.row.0 0) w.base.0 b.0)
    (differs (value_at key has w.base.0) (value_at key has w.new.0) k (rw e at h)))
    (λ e. head_differs key has heads k r ws b.1 (rw e at h))

module _ (S : Store) (x : Tx) (ok : Ready S x) where
  -- what the premises say of the final writes: "rows below" the limit
  pub rows_fit : all (λ w. ltb w.row.0 rows) (finals x) ≡ true
  unfolding fit finals
  rows_fit =
      let writes = (every_cons _ _ (every_cons _ _ (every_cons _ _ ok.fits).1).1).0 in
      finals_all (λ w. ltb w.row.0 rows) (writes_of x)
      (all_then (write_fit S.xmin S.next (walk S.heads S.next).seen x.txid.0) (λ w. ltb w.row.0 rows)
      (λ w h. (every_cons _ _ h).0) (writes_of x) writes)

  -- each base is its row's head
  pub bases : all (λ w. eqb (get_or S.heads w.row.0 0) w.base.0) (finals x) ≡ true
  unfolding write_base_conflict finals
  bases = none_fails (λ w. eqb (get_or S.heads w.row.0 0) w.base.0) (finals x) ok.agreed

  -- one a row
  pub once : unique (rows_of (finals x)) ≡ true
  unfolding finals
  once = finals_once (writes_of x)

  -- "At most 16 writes"
  few : length (finals x) ≤ write_limit
  unfolding finals fit counts_fit
  few =
      let count : x.write_count ≤ write_limit = leb-true _ _ (every_cons _ _ (every_cons _ _ ok.fits).0).0 in
      omega (arith, finals_few (writes_of x), length-take x.write_count x.writes)

  -- a destination is no posting yet: its row's posting, if any, is the base's, whose value differs
  pub new_destination : (p : ℕ) → memb p (destinations (changes S x)) ≡ true → memb p (postings_of S) ≡ false
  unfolding destinations changes
  new_destination p m =
      let k = key_of p in
      let r = row_of p in
      let lt = row_small p in
      let side = mem_side S.key S.has (λ c. c.after) k r (finals x) lt rows_fit once in
      let picked = sym (rw (posting_of p) at side) ∙ m in
      let not_head = head_differs S.key S.has S.heads k r (finals x) bases picked in
      let member = head_member S.key S.has S.heads (omega (arith, ok.sized.heads)) k r lt in
      rw (exact S ok.rests ok.healthy) (rw (posting_of p, not_head, and_false (ltb r (length S.heads))) at member)

  -- no destination stands twice
  pub destinations_once : unique (destinations (changes S x)) ≡ true
  unfolding destinations changes
  destinations_once = side_once S.key S.has (λ c. c.after) (finals x) rows_fit once

  -- room for all that is put in
  pub room : length (destinations (changes S x)) + length (postings_of S) ≤ posting_limit
  unfolding destinations changes
  room = rw (exact S ok.rests ok.healthy) (omega (
    arith,
    side_length S.key S.has (λ c. c.after) (finals x),
    few,
    heads_length S.key S.has 0 S.heads,
    ok.sized.heads,
    writes_posted,
  ))

  -- the first n insertions undone
  pub undone : (n : ℕ) → let ds = take n (destinations (changes S x)) in
      apply_all (map put_remove (reverse ds)) (apply_all (map put_insert ds) S) ≡ S
  undone n =
      let ds = destinations (changes S x) in
      put_back (take n ds) S ok.sized.postings (in_form S ok.rests) (λ p m. new_destination p (mem_take n ds p m))
      (omega (arith, room, length-take n ds))

  -- the last k of them undone alone: those before are left
  pub undone_but : (n k : ℕ) → let ds = take n (destinations (changes S x)) in
      apply_all (take k (map put_remove (reverse ds))) (apply_all (map put_insert ds) S) ≡ apply_all (map put_insert (reverse (drop k (reverse ds)))) S
  undone_but n k =
      let all = destinations (changes S x) in
      let ds = take n all in
      let kept = reverse (drop k (reverse ds)) in
      let back = reverse (take k (reverse ds)) in
      let parts : kept ++ back ≡ ds =
      sym (reverse-append (take k (reverse ds)) (drop k (reverse ds))) ∙ ap reverse (take-append-drop k (reverse ds)) ∙ reverse-reverse ds in
      let apart = (unique_append ds (drop n all) (ap unique (take-append-drop n all) ∙ destinations_once)).0 in
      let once = (unique_append kept back (ap unique parts ∙ apart)).1 in
      let whole = ap length parts in
      let I = apply_all (map put_insert ds) S in
      ap (λ (rs : List Put). apply_all rs I) (take_map put_remove k (reverse ds))
      ∙ ap (λ (rs : List ℕ). apply_all (map put_remove rs) I) (sym (reverse-reverse (take k (reverse ds))))
      ∙ ap (λ (es : List ℕ). apply_all (map put_remove (reverse back)) (apply_all (map put_insert es) S)) (sym parts)
      ∙ put_back_but kept back S ok.sized.postings (in_form S ok.rests)
      (λ p m. (once p m, new_destination p (mem_take n all p (ap (memb p) (sym parts) ∙ mem_append kept back p ∙ or_right (memb p kept) (memb p back) m))))
      (omega (arith, room, length-take n all, length-append kept back, whole))
