-- The four tests of commit say yes exactly where the paper's sentences hold.
use Rattle.std.specs.Prelude.{◌≡◌, refl, ◌↔◌, ◌≢◌, ◌⊎◌, Bool, true, false, not, cond, ◌&&◌, ◌||◌, List, [], ◌∷◌, ℕ, get_or, eqb}
use Rattle.std.proofs.Common.{inl, inr, ⊎_elim, eqb-true, ne_eqb, leb-true, le-leb}
use Rattle.std.proofs.Math.Logic.Iff
use Rattle.std.proofs.lemmas.Bool.{false≢true, eqb-false, not-true}
use Rattle.std.proofs.Math.Bool.{and-eq-true_iff}
use Rattle.basic_laws.specs.Cases.{by, or_false}
use Rattle.rules.specs.Lists.{any}
use Rattle.rules.specs.Types.{Store, Tx, Write, ReadRecord}
use Rattle.rules.specs.Transaction.{writes_of, reads_of, index_reads_of, final_writes}
use Rattle.rules.specs.Calls.{locked_by_another}
use Rattle.rules.specs.Tests.{index_read_conflict, head_locked, row_lock_conflict, version_conflict, read_conflict}
use Rattle.rules.specs.Tests.{serialization_conflict, write_base_conflict, conflicting}
use Rattle.statements.specs.Words.{Some, LockedByAnother, Overtaken, Stale}

-- a test with `||`, with `&&`, of a list, of two numbers, in words
pub either : {P Q : Type 0} (a b : Bool) → (a ≡ true) ↔ P → (b ≡ true) ↔ Q → ((a || b) ≡ true) ↔ (P ⊎ Q)
either true b p q = (λ t. inl (p.0 refl), λ s. refl)
either false b p q = (λ t. inr (q.0 t), ⊎_elim (λ x. absurd (false≢true (p.1 x))) q.1)

pub both : {P Q : Type 0} (a b : Bool) → (a ≡ true) ↔ P → (b ≡ true) ↔ Q → ((a && b) ≡ true) ↔ (P × Q)
both a b p q = Iff.trans (and-eq-true_iff a b) (Iff.and p q)

neither : {P Q : Type 0} (a b : Bool) → (not a ≡ true) ↔ P → (not b ≡ true) ↔ Q → (not (a || b) ≡ true) ↔ (P × Q)
neither true b p q = (λ t. absurd (false≢true t), λ s. p.1 s.0)
neither false b p q = (λ t. (p.0 refl, q.0 t), λ s. q.1 s.1)

some {ℓ} : {A : Type ℓ} (f : A → Bool) (P : A → Type 0) → ((a : A) → (f a ≡ true) ↔ P a) → (l : List A) → (any f l ≡ true) ↔ Some P l
some f P h [] = (false≢true, absurd)
some f P h (x ∷ l) = either (f x) (any f l) (h x) (some f P h l)

pub differ : (m n : ℕ) → (not (eqb m n) ≡ true) ↔ (m ≢ n)
differ m n = (λ t. eqb-false m n (not-true (eqb m n) t), λ d. rw (ne_eqb m n d))

-- "11 index_conflict is set or a recorded stamp differs"
pub index_reads_say : (S : Store) (x : Tx) → (index_read_conflict S x ≡ true)
    ↔ ((x.index_conflict ≡ true) ⊎ Some (λ e. get_or S.stamps e.stripe 0 ≢ e.stamp.0) (index_reads_of x))
unfolding index_read_conflict
index_reads_say S x = either _ _ Iff.rfl (some _ _ (λ e. differ _ _) (index_reads_of x))

-- "12 a written row's head has a live lock of another": of one write, and of them all
pub head_locked_says : (S : Store) (x : Tx) (w : Write) → (head_locked S x w ≡ true) ↔ LockedByAnother S x.txid.0 (get_or S.heads w.row.0 0)
unfolding locked_by_another
head_locked_says S x w = both _ _ Iff.rfl (both _ _ (differ _ _) Iff.rfl)

pub row_locks_say : (S : Store) (x : Tx) → (row_lock_conflict S x ≡ true)
    ↔ Some (λ w. LockedByAnother S x.txid.0 (get_or S.heads w.row.0 0)) (writes_of x)
unfolding row_lock_conflict
row_locks_say S x = some _ _ (head_locked_says S x) (writes_of x)

-- a test that asks one of two things, by whether a number is 0
by_zero : {P Q : Type 0} (n : ℕ) (a b : Bool) → (a ≡ true) ↔ P → (b ≡ true) ↔ Q → (cond (eqb n 0) a b ≡ true) ↔ (((n ≡ 0) × P) ⊎ ((n ≢ 0) × Q))
by_zero n a b p q = by (eqb n 0)
    (λ e. let z = eqb-true n 0 e in rw e (λ t. inl (z, p.0 t), ⊎_elim (λ s. p.1 s.1) (λ s. absurd (s.0 z))))
    (λ e. let z = eqb-false n 0 e in rw e (λ t. inr (z, q.0 t), ⊎_elim (λ s. absurd (z s.0)) (λ s. q.1 s.1)))

-- 13, of one read: of a version, and of an absent row
pub version_says : (S : Store) (x : Tx) (e : ReadRecord) → (version_conflict S x e ≡ true) ↔ Overtaken S x e
version_says S x e =
    let b = get_or S.xmax e.ptr.0 0 in
    either _ _ (differ _ _)
    (both _ _ (neither (eqb b 0) (eqb b x.txid.0) (differ _ _) (differ _ _)) (either _ _ (leb-true _ _, le-leb _ _) Iff.rfl))

pub read_says : (S : Store) (x : Tx) (e : ReadRecord) → (read_conflict S x e ≡ true) ↔ Stale S x e
unfolding read_conflict
read_says S x e = by_zero e.ptr.0 _ _ (differ _ _) (version_says S x e)

pub serialization_says : (S : Store) (x : Tx) → (serialization_conflict S x ≡ true) ↔ Some (Stale S x) (reads_of x)
unfolding serialization_conflict
serialization_says S x = some _ _ (read_says S x) (reads_of x)

-- so a version's changed xmin conflicts whatever the xmax is, 0 and the reader's own included
pub changed_xmin_conflicts : (S : Store) (x : Tx) (e : ReadRecord) → e.ptr.0 ≢ 0 → get_or S.xmin e.ptr.0 0 ≢ e.xmin.0 → read_conflict S x e ≡ true
changed_xmin_conflicts S x e n d = (read_says S x e).1 (inr (n, inl d))

-- "14 a final write's base is not the head"
pub write_bases_say : (S : Store) (x : Tx) → (write_base_conflict S x ≡ true)
    ↔ Some (λ w. get_or S.heads w.row.0 0 ≢ w.base.0) (final_writes (writes_of x))
unfolding write_base_conflict
write_bases_say S x = some _ _ (λ w. differ _ _) (final_writes (writes_of x))

-- where none of the four says yes, 14 says no
pub bases_agree : (S : Store) (x : Tx) → conflicting S x ≡ false → write_base_conflict S x ≡ false
bases_agree S x none =
    let a = (or_false (index_read_conflict S x) _ none).1 in
    let b = (or_false (row_lock_conflict S x) _ a).1 in
    (or_false (serialization_conflict S x) (write_base_conflict S x) b).1
