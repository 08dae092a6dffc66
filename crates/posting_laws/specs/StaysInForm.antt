-- Postings stay in their form along any puts that insert few enough, of 32-bit keys.
use Rattle.std.specs.Prelude.{◌≡◌, refl, Bool, true, false, cond, List, [], ◌∷◌, ◌++◌, map, ℕ, zero, suc, ◌+◌, ◌≤◌, length, take, drop, ltb}
use Rattle.std.proofs.Common.{ap, ◌∙◌, arith, length-take, leb-true, le-leb}
use Rattle.records.specs.Limits.{posting_limit, key_end}
use Rattle.rules.specs.Types.{Store}
use Rattle.basic_laws.specs.Cases.{by, and_true, and_both, cons_every, every_none}
use Rattle.rules.specs.Lists.{all, memb, rising, into, without, all_zero, pad}
use Rattle.rules.specs.Store.{posting, postings_of, postings_in_form}
use Rattle.rules.specs.Puts.{Put, k_insert, k_remove, is, put_insert, apply, apply_all}
use Rattle.run_laws.specs.OnlyKinds.{only, is_not}
use Rattle.basic_laws.specs.TestParts.{postings_parts}
use Rattle.basic_laws.specs.Rising.{rising_into, rising_without, into_length, without_length, all_into, all_without}
use Rattle.posting_laws.specs.Posted.{posted, posted_of}

-- a posting whose key has 32 bits
abbrev pub small : ℕ → Bool
small c = ltb c (posting key_end 0)

-- "zero after them"
pad_rest : (n : ℕ) (l : List ℕ) → all_zero (drop (length l) (pad n 0 l)) ≡ true
pad_rest zero [] = refl
pad_rest zero (x ∷ l) = refl
pad_rest (suc n) [] = pad_rest n []
pad_rest (suc n) (x ∷ l) = pad_rest n l

-- postings laid out are in their form
pub posted_form : (l : List ℕ) (S : Store) → length l ≤ posting_limit → rising 0 l ≡ true → all small l ≡ true → postings_in_form (posted l S) ≡ true
unfolding postings_in_form
posted_form l S short up low =
    let e = posted_of l S short in
    cons_every _ _ (le-leb (length l) posting_limit short)
    (cons_every _ _ (rw e up)
    (cons_every _ _ (rw e low)
    (cons_every _ _ (pad_rest posting_limit l) every_none)))

-- at most the limit
pub form_short : (S : Store) → postings_in_form S ≡ true → length (postings_of S) ≤ posting_limit
unfolding postings_of
form_short S h =
    let count : S.posting_count ≤ posting_limit = leb-true S.posting_count posting_limit (postings_parts S h).count in
    omega (arith, length-take S.posting_count S.postings)

-- the postings that puts insert
abbrev pub inserts : List Put → List ℕ
inserts [] = []
inserts (p ∷ ps) = cond (is p k_insert) (p.val ∷ inserts ps) (inserts ps)

module _ (p : Put) (T : Store) where
  -- a store's postings after an insertion, a removal, another put
  insert_posts : is p k_insert ≡ true → let U = posted (into p.val (postings_of T)) T in
      (postings_of (apply p T) ≡ postings_of U) × (postings_in_form (apply p T) ≡ postings_in_form U)
  unfolding postings_of postings_in_form
  insert_posts e = (rw e, rw e)

  remove_posts : is p k_insert ≡ false → is p k_remove ≡ true → let U = posted (without p.val (postings_of T)) T in
      (postings_of (apply p T) ≡ postings_of U) × (postings_in_form (apply p T) ≡ postings_in_form U)
  unfolding postings_of postings_in_form
  remove_posts e f = (rw (e, f), rw (e, f))

  pub leave_posts : is p k_insert ≡ false → is p k_remove ≡ false
      → (postings_of (apply p T) ≡ postings_of T) × (postings_in_form (apply p T) ≡ postings_in_form T)
  unfolding postings_of postings_in_form
  leave_posts e f = (rw (e, f), rw (e, f))

-- put by put
pub form_along : (ps : List Put) (T : Store) → postings_in_form T ≡ true → length (inserts ps) + length (postings_of T) ≤ posting_limit
    → all small (inserts ps) ≡ true
    → postings_in_form (apply_all ps T) ≡ true
form_along [] T h r s = h
form_along (p ∷ ps) T h r s =
    let c = p.val in
    let l = postings_of T in
    let f = postings_parts T h in
    by (is p k_insert)
    (λ e. let m = into c l in
    let r' : suc (length (inserts ps)) + length l ≤ posting_limit = rw e at r in
    let s' = and_true (small c) (all small (inserts ps)) (rw e at s) in
    let short : length (inserts ps) + length m ≤ posting_limit = omega (arith, into_length c l) in
    let less : length m ≤ posting_limit = omega arith in
    let q = insert_posts p T e in
    form_along ps (apply p T) (q.1 ∙ posted_form m T less (rising_into 0 c l (omega arith) f.rise) (all_into small c l s'.0 f.keyed))
    (rw (q.0, posted_of m T less) short) s'.1)
    (λ e. let r' : length (inserts ps) + length l ≤ posting_limit = rw e at r in
    let s' : all small (inserts ps) ≡ true = rw e at s in
    by (is p k_remove)
    (λ k. let m = without c l in
    let short : length (inserts ps) + length m ≤ posting_limit = omega (arith, without_length c l) in
    let less : length m ≤ posting_limit = omega arith in
    let q = remove_posts p T e k in
    form_along ps (apply p T) (q.1 ∙ posted_form m T less (rising_without 0 c l f.rise) (all_without small c l f.keyed))
    (rw (q.0, posted_of m T less) short) s')
    (λ k. let q = leave_posts p T e k in
    form_along ps (apply p T) (q.1 ∙ h) (rw q.0 r') s'))

-- what a prefix of the puts inserts, and puts of other kinds
pub inserts_append : (ps qs : List Put) → inserts (ps ++ qs) ≡ inserts ps ++ inserts qs
inserts_append [] qs = refl
inserts_append (p ∷ ps) qs = by (is p k_insert) (λ e. rw (e, inserts_append ps qs)) (λ e. rw (e, inserts_append ps qs))

pub inserts_none : (ks : List ℕ) → memb k_insert ks ≡ false → (ps : List Put) → only ks ps ≡ true → inserts ps ≡ []
inserts_none ks n [] o = refl
inserts_none ks n (p ∷ ps) o =
    let a = and_true (memb p.kind ks) (only ks ps) o in
    rw (is_not ks k_insert n p a.0) (inserts_none ks n ps a.1)

-- insertions alone
pub inserts_all : (cs : List ℕ) → inserts (map put_insert cs) ≡ cs
inserts_all [] = refl
inserts_all (c ∷ cs) = ap (λ (l : List ℕ). c ∷ l) (inserts_all cs)

-- a prefix inserts no more
pub inserts_take : (n : ℕ) (ps : List Put)
    → (length (inserts (take n ps)) ≤ length (inserts ps)) × (all small (inserts ps) ≡ true → all small (inserts (take n ps)) ≡ true)
inserts_take zero ps = (omega arith, λ h. refl)
inserts_take (suc n) [] = (omega arith, λ h. h)
inserts_take (suc n) (p ∷ ps) =
    let r = inserts_take n ps in
    by (is p k_insert)
    (λ e. rw e (
      omega (arith, r.0),
      λ h. let a = and_true (small p.val) (all small (inserts ps)) h in and_both (small p.val) (all small (inserts (take n ps))) a.0 (r.1 a.1),
    ))
    (λ e. rw e r)
