-- Source 002's clauses about postings, of the puts of steps 15, 17 and 24: which postings stand after how many of them, and that nothing else changes.
use Rattle.std.specs.Prelude.{◌≡◌, refl, Bool, true, not, ◌&&◌, ◌||◌, ◌⊎◌, ℕ, ◌+◌, ◌≤◌, ◌<◌, length, take, eqb}
use Rattle.std.proofs.Common.{sym, ap, ◌∙◌, arith, length-take}
use Rattle.std.proofs.Math.Bool.{false}
use mathlib.Core.List.{List, [], ◌∷◌, map, reverse, reverse-cons}
use Rattle.std.proofs.Math.Logic.{inl, inr}
use Rattle.std.proofs.Math.Seq.{take-length}
use Rattle.records.specs.Limits.{posting_limit}
use Rattle.rules.specs.Types.{Store, Tx, Schedule}
use Rattle.basic_laws.specs.Cases.{by, clash, and_true, or_true, or_left, or_right}
use Rattle.rules.specs.Lists.{all, memb, into, without}
use Rattle.rules.specs.Store.{postings_of}
use Rattle.rules.specs.Puts.{put_insert, put_remove, put_poison, apply, apply_all}
use Rattle.rules.specs.Changes.{changes, destinations, sources, insertions, removals}
use Rattle.rules.specs.Commit.{fails, rollback}
use Rattle.basic_laws.specs.Members.{all_mem, mem_all}
use Rattle.records.specs.Setters.{beside}
use Rattle.upstream.specs.AbortThen.{rollback_flag}
use Rattle.basic_laws.specs.AllOf.{all_append, all_take}
use Rattle.basic_laws.specs.Rising.{mem_into, mem_without, into_length, without_length}
use Rattle.posting_laws.specs.RestingPostings.{in_form}
use Rattle.posting_laws.specs.Posted.{posted, posted_of, posted_own, into_all, without_all, mem_into_all, mem_without_all, into_all_length, inserted, removed}
use Rattle.posting_laws.specs.Undone.{Ready, take_map, room, new_destination, undone}

-- transactional_insert and transactional_remove: one posting in or out, and nothing else
pub insert_one : (c : ℕ) (T : Store) → apply (put_insert c) T ≡ posted (into c (postings_of T)) T
insert_one c T = refl

pub remove_one : (c : ℕ) (T : Store) → apply (put_remove c) T ≡ posted (without c (postings_of T)) T
remove_one c T = refl

pub insert_members : (c : ℕ) (T : Store) → length (postings_of T) < posting_limit → (p : ℕ)
    → memb p (postings_of (apply (put_insert c) T)) ≡ (eqb p c || memb p (postings_of T))
insert_members c T h p = rw (insert_one c T, posted_of (into c (postings_of T)) T (omega (arith, into_length c (postings_of T)))) (mem_into c (postings_of T) p)

pub remove_members : (c : ℕ) (T : Store) → length (postings_of T) ≤ posting_limit → (p : ℕ)
    → memb p (postings_of (apply (put_remove c) T)) ≡ (not (eqb p c) && memb p (postings_of T))
remove_members c T h p =
    rw (remove_one c T, posted_of (without c (postings_of T)) T (omega (arith, without_length c (postings_of T)))) (mem_without c (postings_of T) p)

-- poison_indexes: the flag, and nothing else
pub poison_one : (T : Store) → apply put_poison T ≡ beside T.stripe_guards T.partition_guards T.postings T.posting_count true T
poison_one T = refl

-- numbers taken out make a list no longer
without_all_length : (cs l : List ℕ) → length (without_all cs l) ≤ length l
without_all_length [] l = omega arith
without_all_length (c ∷ cs) l = omega (arith, without_all_length cs (without c l), without_length c l)

-- a test of all, turned round
all_reverse : (f : ℕ → Bool) (l : List ℕ) → all f l ≡ true → all f (reverse l) ≡ true
all_reverse f [] h = refl
all_reverse f (x ∷ l) h =
    let a = and_true (f x) (all f l) h in
    rw (reverse-cons x l) (all_append f (reverse l) (x ∷ []) (all_reverse f l a.1) (rw a.0))

-- T is S with other postings, and p is one of them where b says so: 002's `stable` and its sets
pub record Moved (S T : Store) (b : ℕ → Bool) : Type 0 where
  pub rest : T ≡ posted (postings_of T) S
  pub are : (p : ℕ) → memb p (postings_of T) ≡ b p

-- .. by laying l out
laid : (S T : Store) (l : List ℕ) (b : ℕ → Bool) → length l ≤ posting_limit → T ≡ posted l S → ((p : ℕ) → memb p l ≡ b p) → Moved S T b
laid S T l b h e m =
    let q : postings_of T ≡ l = rw e (posted_of l S h) in
    record { rest = e ∙ ap (λ (k : List ℕ). posted k S) (sym q); are = λ p. rw q (m p) }

-- removals from a store with its postings laid out
taken_out : (S : Store) (cs l : List ℕ) → length l ≤ posting_limit → Moved S (apply_all (map put_remove cs) (posted l S)) (λ p. not (memb p cs) && memb p l)
taken_out S cs l h =
    laid S (apply_all (map put_remove cs) (posted l S)) (without_all cs l) (λ p. not (memb p cs) && memb p l)
    (omega (arith, without_all_length cs l)) (removed cs l S h) (mem_without_all cs l)

module _ (S : Store) (x : Tx) (ok : Ready S x) where
  abbrev pub ds : List ℕ
  ds = destinations (changes S x)

  abbrev pub ss : List ℕ
  ss = sources (changes S x)

  abbrev pub P : List ℕ
  P = postings_of S

  few : (n : ℕ) → length (take n ds) + length P ≤ posting_limit
  few n = omega (arith, room S x ok, length-take n ds)

  -- the first n destinations put in
  put_in : (n : ℕ) → apply_all (map put_insert (take n ds)) S ≡ posted (into_all (take n ds) P) S
  put_in n =
      ap (apply_all (map put_insert (take n ds))) (sym (posted_own S ok.sized.postings (in_form S ok.rests)))
      ∙ inserted (take n ds) P S (few n)

  short : (n : ℕ) → length (into_all (take n ds) P) ≤ posting_limit
  short n = omega (arith, few n, into_all_length (take n ds) P)

  -- prepare_index_destinations, after n insertions
  pub prepares : (n : ℕ) → Moved S (apply_all (take n (insertions S x)) S) (λ p. memb p (take n ds) || memb p P)
  unfolding insertions
  prepares n =
      rw (take_map put_insert n ds) (laid S _ (into_all (take n ds) P) (λ p. memb p (take n ds) || memb p P) (short n) (put_in n) (mem_into_all (take n ds) P))

  pub prepares_all : Moved S (apply_all (insertions S x) S) (λ p. memb p ds || memb p P)
  unfolding insertions
  prepares_all =
      laid S _ (into_all ds P) (λ p. memb p ds || memb p P) (rw (take-length ds) at (short (length ds)))
      (rw (take-length ds) at (put_in (length ds))) (mem_into_all ds P)

  -- rollback_index_destinations, after the removals cs that follow n insertions
  pub rolls : (n : ℕ) (cs : List ℕ)
      → Moved S (apply_all (map put_remove cs) (apply_all (map put_insert (take n ds)) S)) (λ p. not (memb p cs) && (memb p (take n ds) || memb p P))
  rolls n cs =
      let m = taken_out S cs (into_all (take n ds) P) (short n) in
      rw (put_in n) (record { rest = m.rest; are = λ p. m.are p ∙ rw (mem_into_all (take n ds) P p) })

  -- remove_index_sources, after n removals that follow all insertions
  pub removes : (n : ℕ) → Moved S (apply_all (take n (removals S x)) (apply_all (insertions S x) S)) (λ p. not (memb p (take n ss)) && (memb p ds || memb p P))
  unfolding insertions removals
  removes n = rw (take_map put_remove n ss) (rw (take-length ds) at (rolls (length ds) (take n ss)))

  pub removes_all : Moved S (apply_all (removals S x) (apply_all (insertions S x) S)) (λ p. not (memb p ss) && (memb p ds || memb p P))
  unfolding insertions removals
  removes_all = rw (take-length ds) at (rolls (length ds) ss)

  -- what rollback takes out is what was put in: the last k of the first n destinations
  abbrev pub back : ℕ → ℕ → List ℕ
  back n k = take k (reverse (take n ds))

  first_are : (n : ℕ) → all (λ q. memb q ds) (take n ds) ≡ true
  first_are n = all_take (λ q. memb q ds) n ds (mem_all (λ q. memb q ds) ds (λ q m. m))

  back_are : (n k : ℕ) → all (λ q. memb q ds) (back n k) ≡ true
  back_are n k = all_take (λ q. memb q ds) k (reverse (take n ds)) (all_reverse (λ q. memb q ds) (take n ds) (first_are n))

  -- so, wherever insertions and rollback stop: every old posting is there, and nothing but old postings and destinations
  pub keeps_old : (n k p : ℕ) → memb p P ≡ true → memb p (postings_of (apply_all (map put_remove (back n k)) (apply_all (map put_insert (take n ds)) S))) ≡ true
  keeps_old n k p m =
      (rolls n (back n k)).are p
      ∙ by (memb p (back n k))
      (λ e. clash m (new_destination S x ok p (all_mem (λ q. memb q ds) (back n k) (back_are n k) p e)))
      (λ e. rw e (or_right (memb p (take n ds)) (memb p P) m))

  pub adds_only : (n k p : ℕ) → memb p (postings_of (apply_all (map put_remove (back n k)) (apply_all (map put_insert (take n ds)) S))) ≡ true
      → (memb p ds || memb p P) ≡ true
  adds_only n k p m =
      let a = and_true (not (memb p (back n k))) (memb p (take n ds) || memb p P) (sym ((rolls n (back n k)).are p) ∙ m) in
      or_true (memb p (take n ds)) (memb p P) a.1
      (λ e. or_left (memb p ds) (memb p P) (all_mem (λ q. memb q ds) (take n ds) (first_are n) p e))
      (λ e. or_right (memb p ds) (memb p P) e)

  -- an insertion that failed after n: the store as it was, or poisoned
  pub insert_failed_law : (logged : Bool) (plan : Schedule) (n : ℕ)
      → let T = apply_all (rollback S x logged plan false (take n ds)).puts (apply_all (map put_insert (take n ds)) S) in
      (T ≡ S) ⊎ (T.poisoned ≡ true)
  unfolding rollback
  insert_failed_law logged plan n = by (fails S x logged plan 24)
      (λ e. inr (rollback_flag S x logged plan false (take n ds) (apply_all (map put_insert (take n ds)) S) (rw (put_in n) ok.healthy) ∙ rw e))
      (λ e. inl (rw e (undone S x ok n)))
