-- Recovery "rebuilds postings": a recovered store's index is that of a resting one, where the walk of its chains ends.
use Rattle.std.specs.Prelude.{◌≡◌, refl, Bool, true, not, List, [], ◌∷◌, map, ℕ, zero, suc, ◌+◌, ◌≤◌, length, get_or, eqb, ltb}
use Rattle.std.proofs.Math.Path.{sym}
use Rattle.std.proofs.Common.{◌∙◌, arith, eqb-true, ltb-true, lt-ltb}
use Rattle.std.proofs.Math.Bool.{false}
use Rattle.std.proofs.lemmas.List.{length-map}
use Rattle.std.proofs.lemmas.Bool.{eqb-false, not-true}
use Rattle.records.specs.Limits.{rows, posting_limit, key_end}
use Rattle.records.specs.Relations.{rows_posted}
use Rattle.rules.specs.Types.{Store}
use Rattle.basic_laws.specs.Cases.{by, clash}
use Rattle.rules.specs.Lists.{all, memb, is_zero, nonzero, keep}
use Rattle.rules.specs.Store.{posting, used, slots_in_form, postings_of, postings_in_form}
use Rattle.rules.specs.Chains.{walk, on}
use Rattle.rules.specs.Admitted.{finished, head_postings}
use Rattle.rules.specs.Recovery.{trim_head, recovered}
use Rattle.basic_laws.specs.Members.{each_or_law}
use Rattle.statements.specs.Sized.{Sized}
use Rattle.basic_laws.specs.TestParts.{slots_parts}
use Rattle.basic_laws.specs.AllOf.{all_get}
use Rattle.basic_laws.specs.Rising.{all_into}
use Rattle.posting_laws.specs.Pair.{below_key}
use Rattle.basic_laws.specs.HeadPostings.{heads_rising, heads_length}
use Rattle.posting_laws.specs.RestingPostings.{Exact, Indexed}
use Rattle.posting_laws.specs.Posted.{posted_of}
use Rattle.posting_laws.specs.Spared.{head_seen}
use Rattle.posting_laws.specs.KeepsExact.{heads_same}
use Rattle.posting_laws.specs.StaysInForm.{small, posted_form}

-- what is marked stays; what is blank stays blank
keep_marked : {A : Type 0} (z d : A) (m : List ℕ) (l : List A) (p : ℕ) → on m p ≡ true → get_or (keep z m l) p d ≡ get_or l p d
keep_marked z d m [] p h = refl
keep_marked z d [] (x ∷ l) p h = clash {b = false} h refl
keep_marked z d (b ∷ m) (x ∷ l) zero h = rw (not-true (eqb b 0) h)
keep_marked z d (b ∷ m) (x ∷ l) (suc p) h = keep_marked z d m l p h

keep_blank : {A : Type 0} (z : A) (m : List ℕ) (l : List A) → get_or l 0 z ≡ z → get_or (keep z m l) 0 z ≡ z
keep_blank z m [] h = refl
keep_blank z [] (x ∷ l) h = refl
keep_blank z (b ∷ m) (x ∷ l) h = by (eqb b 0) (λ e. rw e) (λ e. rw e h)

-- the heads' postings have 32-bit keys
heads_small : (key : List ℕ) (has : List Bool) (r : ℕ) (hs : List ℕ) → all (λ k. ltb k key_end) key ≡ true → r + length hs ≤ rows
    → all small (head_postings key has r hs) ≡ true
heads_small key has r [] keys le = refl
heads_small key has r (h ∷ hs) keys le =
    let rest = heads_small key has (suc r) hs keys (omega arith) in
    let k = ltb-true (get_or key h 0) key_end (all_get (λ k. ltb k key_end) key h 0 keys refl) in
    by (get_or has h false)
    (λ e. rw e (all_into small (posting (get_or key h 0) r) (head_postings key has (suc r) hs)
    (lt-ltb (posting (get_or key h 0) r) (posting key_end 0) (below_key (get_or key h 0) r k (omega arith))) rest))
    (λ e. rw e rest)

-- pointer 0 has no value
no_value : (S : Store) → Sized S → slots_in_form S ≡ true → (get_or S.has 0 false ≡ false) × (get_or S.key 0 0 ≡ 0)
no_value S sized h =
    let a = slots_parts S h in
    let has : get_or S.has 0 false ≡ false
    =
    not-true (get_or S.has 0 false)
    (each_or_law nonzero not S.xmin S.has 0 false a.has 0 (omega (arith, sized.has)) (not-true (used S.xmin 0) a.first)) in
    (has, eqb-true (get_or S.key 0 0) 0 (each_or_law (λ b. b) is_zero S.has S.key false 0 a.key 0 (omega (arith, sized.key)) has))

-- the heads of the recovered store
abbrev pub trimmed : Store → List ℕ
trimmed S = map (trim_head (finished S.active S.doomed) S.xmin S.next) S.heads

module _ (S : Store) (slots : slots_in_form S ≡ true) (ends : (walk (trimmed S) S.next).ok ≡ true) (sized : Sized S)
    (keys : all (λ k. ltb k key_end) S.key ≡ true) where
  abbrev found : List ℕ
  found = head_postings S.key S.has 0 (trimmed S)

  abbrev seen : List ℕ
  seen = (walk (trimmed S) S.next).seen

  few : length (trimmed S) ≡ rows
  few = length-map S.heads (trim_head (finished S.active S.doomed) S.xmin S.next) ∙ sized.heads

  short : length found ≤ posting_limit
  short = omega (arith, heads_length S.key S.has 0 (trimmed S), few, rows_posted)

  -- freeing off-chain slots leaves the heads' values
  values_kept : (h : ℕ) → memb h (trimmed S) ≡ true
      → (get_or (keep false seen S.has) h false ≡ get_or S.has h false) × (get_or (keep 0 seen S.key) h 0 ≡ get_or S.key h 0)
  values_kept h m = by (eqb h 0)
      (λ e. let b = no_value S sized slots in
      rw (eqb-true h 0 e) (keep_blank false seen S.has b.0 ∙ sym b.0, keep_blank 0 seen S.key b.1 ∙ sym b.1))
      (λ e. let on_chain = head_seen (trimmed S) S.next h sized.next ends (eqb-false h 0 e) m in
      (keep_marked false false seen S.has h on_chain, keep_marked 0 0 seen S.key h on_chain))

  -- "rebuilds postings"
  pub recovered_exact : Exact (recovered S)
  unfolding recovered postings_of
  recovered_exact =
      posted_of found S short ∙ sym (heads_same S.key (keep 0 seen S.key) S.has (keep false seen S.has) 0 (trimmed S) values_kept)

  pub recovered_indexed : Indexed (recovered S)
  unfolding recovered postings_in_form postings_of
  recovered_indexed = record {
    form = posted_form found S short (heads_rising S.key S.has 0 (trimmed S)) (heads_small S.key S.has 0 (trimmed S) keys (omega (arith, few)));
    rest = λ h. (refl, recovered_exact);
  }
