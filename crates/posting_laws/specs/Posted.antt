-- What insertions and removals make of a store: its postings changed, and nothing else.
use Rattle.std.specs.Prelude.{◌≡◌, refl, true, false, not, ◌&&◌, ◌||◌, ℕ, ◌+◌, ◌≤◌, length, eqb}
use Rattle.std.proofs.Common.{sym, ap, ◌∙◌, arith, length-take-le, eqb-true, leb-true}
use mathlib.Core.List.{List, [], ◌∷◌, ◌++◌, map, reverse, reverse-cons, map-append}
use Rattle.records.specs.Limits.{posting_limit}
use Rattle.records.specs.Setters.{with_postings}
use Rattle.rules.specs.Types.{Store}
use Rattle.basic_laws.specs.Cases.{by}
use Rattle.rules.specs.Lists.{memb, rising, into, without, is_zero, pad}
use Rattle.rules.specs.Store.{postings_of, postings_in_form}
use Rattle.rules.specs.Puts.{put_insert, put_remove, apply_all}
use Rattle.run_laws.specs.GuardPuts.{apply_all_append}
use Rattle.basic_laws.specs.Rearranged.{or_none, or_assoc, or_comm, or_swap, not_either}
use Rattle.basic_laws.specs.Rising.{mem_into, rising_into, mem_without, rising_without, rising_ext, into_length, without_length}
use Rattle.basic_laws.specs.TestParts.{postings_parts}
use Rattle.basic_laws.specs.LaidOut.{take_pad, pad_take}

-- the store with other postings
abbrev pub posted : List ℕ → Store → Store
posted l S = with_postings (pad posting_limit 0 l) (length l) S

-- .. has those postings
pub posted_of : (l : List ℕ) (S : Store) → length l ≤ posting_limit → postings_of (posted l S) ≡ l
unfolding postings_of
posted_of l S h = take_pad posting_limit 0 l h

-- "packed": a store with its own postings laid out anew is the same store
pub posted_own : (S : Store) → length S.postings ≡ posting_limit → postings_in_form S ≡ true → posted (postings_of S) S ≡ S
unfolding postings_of
posted_own S long h =
    let a = postings_parts S h in
    let count = length-take-le S.posting_count S.postings (rw long (leb-true _ _ a.count)) in
    let array = pad_take 0 is_zero (λ x. eqb-true x 0) posting_limit S.posting_count S.postings long a.packed in
    rw (array, count)

-- numbers put in, and taken out, one after the other
abbrev pub into_all : List ℕ → List ℕ → List ℕ
into_all [] l = l
into_all (c ∷ cs) l = into_all cs (into c l)

abbrev pub without_all : List ℕ → List ℕ → List ℕ
without_all [] l = l
without_all (c ∷ cs) l = without_all cs (without c l)

-- their members, that they rise, and how long they are
pub mem_into_all : (cs l : List ℕ) (p : ℕ) → memb p (into_all cs l) ≡ (memb p cs || memb p l)
mem_into_all [] l p = refl
mem_into_all (c ∷ cs) l p =
    mem_into_all cs (into c l) p ∙ rw (mem_into c l p, or_swap (memb p cs) (eqb p c) (memb p l)) (sym (or_assoc (eqb p c) (memb p cs) (memb p l)))

pub rising_into_all : (cs l : List ℕ) → rising 0 l ≡ true → rising 0 (into_all cs l) ≡ true
rising_into_all [] l h = h
rising_into_all (c ∷ cs) l h = rising_into_all cs (into c l) (rising_into 0 c l (omega arith) h)

pub into_all_length : (cs l : List ℕ) → length (into_all cs l) ≤ length cs + length l
into_all_length [] l = omega arith
into_all_length (c ∷ cs) l = omega (arith, into_all_length cs (into c l), into_length c l)

pub mem_without_all : (cs l : List ℕ) (p : ℕ) → memb p (without_all cs l) ≡ (not (memb p cs) && memb p l)
mem_without_all [] l p = refl
mem_without_all (c ∷ cs) l p = mem_without_all cs (without c l) p ∙ rw (mem_without c l p) (not_either (memb p cs) (eqb p c) (memb p l))

pub rising_without_all : (cs l : List ℕ) → rising 0 l ≡ true → rising 0 (without_all cs l) ≡ true
rising_without_all [] l h = h
rising_without_all (c ∷ cs) l h = rising_without_all cs (without c l) (rising_without 0 c l h)

-- the same as puts on a store, which change nothing else
pub inserted : (cs l : List ℕ) (S : Store) → length cs + length l ≤ posting_limit → apply_all (map put_insert cs) (posted l S) ≡ posted (into_all cs l) S
inserted [] l S h = refl
inserted (c ∷ cs) l S h =
    let more = into_length c l in
    ap (λ (m : List ℕ). apply_all (map put_insert cs) (posted (into c m) S)) (posted_of l S (omega arith)) ∙ inserted cs (into c l) S (omega arith)

pub removed : (cs l : List ℕ) (S : Store) → length l ≤ posting_limit → apply_all (map put_remove cs) (posted l S) ≡ posted (without_all cs l) S
removed [] l S h = refl
removed (c ∷ cs) l S h =
    let less = without_length c l in
    ap (λ (m : List ℕ). apply_all (map put_remove cs) (posted (without c m) S)) (posted_of l S h) ∙ removed cs (without c l) S (omega arith)

-- members of two lists joined, and of one turned round
pub mem_append : (a b : List ℕ) (p : ℕ) → memb p (a ++ b) ≡ (memb p a || memb p b)
mem_append [] b p = refl
mem_append (x ∷ a) b p = rw (mem_append a b p) (sym (or_assoc (eqb p x) (memb p a) (memb p b)))

mem_reverse : (l : List ℕ) (p : ℕ) → memb p (reverse l) ≡ memb p l
mem_reverse [] p = refl
mem_reverse (x ∷ l) p = rw (reverse-cons x l, mem_append (reverse l) (x ∷ []) p, mem_reverse l p, or_none (eqb p x)) (or_comm (memb p l) (eqb p x))

-- new postings put in, and taken out in reverse, leave the postings as they were
put_back_in : (cs l : List ℕ) (S : Store) → rising 0 l ≡ true → ((p : ℕ) → memb p cs ≡ true → memb p l ≡ false) → length cs + length l ≤ posting_limit
    → apply_all (map put_remove (reverse cs)) (apply_all (map put_insert cs) (posted l S)) ≡ posted l S
put_back_in cs l S up new room =
    let more = into_all_length cs l in
    let back = rising_ext 0 0 (without_all (reverse cs) (into_all cs l)) l (rising_without_all (reverse cs) (into_all cs l) (rising_into_all cs l up)) up
    (λ p.
    mem_without_all (reverse cs) (into_all cs l) p ∙ rw (mem_into_all cs l p, mem_reverse cs p) (by (memb p cs) (λ e. rw e (sym (new p e))) (λ e. rw e))) in
    ap (apply_all (map put_remove (reverse cs))) (inserted cs l S room)
    ∙ removed (reverse cs) (into_all cs l) S (omega arith)
    ∙ ap (λ (m : List ℕ). posted m S) back

-- .. of a store in its form, where some were put in before and stay
pub put_back_but : (bs cs : List ℕ) (S : Store) → length S.postings ≡ posting_limit → postings_in_form S ≡ true
    → ((p : ℕ) → memb p cs ≡ true → (memb p bs ≡ false) × (memb p (postings_of S) ≡ false)) → length bs + length cs + length (postings_of S) ≤ posting_limit
    → apply_all (map put_remove (reverse cs)) (apply_all (map put_insert (bs ++ cs)) S) ≡ apply_all (map put_insert bs) S
put_back_but bs cs S long form new room =
    let l = postings_of S in
    let own = posted_own S long form in
    let more = into_all_length bs l in
    let put : apply_all (map put_insert bs) S ≡ posted (into_all bs l) S = ap (apply_all (map put_insert bs)) (sym own) ∙ inserted bs l S (omega arith) in
    rw (map-append put_insert bs cs, apply_all_append (map put_insert bs) (map put_insert cs) S, put)
    (put_back_in cs (into_all bs l) S (rising_into_all bs l (postings_parts S form).rise)
    (λ p m. rw (mem_into_all bs l p, (new p m).0) (new p m).1) (omega arith))

-- .. and leave the store as it was
pub put_back : (cs : List ℕ) (S : Store) → length S.postings ≡ posting_limit → postings_in_form S ≡ true
    → ((p : ℕ) → memb p cs ≡ true → memb p (postings_of S) ≡ false) → length cs + length (postings_of S) ≤ posting_limit
    → apply_all (map put_remove (reverse cs)) (apply_all (map put_insert cs) S) ≡ S
put_back cs S long form new room = put_back_but [] cs S long form (λ p m. (refl, new p m)) (omega arith)
