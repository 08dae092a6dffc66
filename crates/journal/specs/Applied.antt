-- What applying the puts of a journal does to a store.
use Rattle.std.specs.Prelude.{◌≡◌, List, [], ◌∷◌, map, ℕ, ◌+◌, ◌<◌, length, get_or, take}
use Rattle.std.proofs.Common.{sym, ap, ◌∙◌, le_of_eq, ne_eqb, take_all}
use Rattle.std.proofs.lemmas.List.{map_more}
use Rattle.rules.specs.Types.{Store}
use Rattle.rules.specs.Puts.{Put, k_stripe, k_partition, k_insert, k_remove, k_xmax, k_head, k_free, k_drop, k_stamp}
use Rattle.rules.specs.Puts.{k_poison, k_doom, k_enter, k_clock, k_xmin, k_next, k_key, k_lock, apply, apply_all}
use Rattle.run_laws.specs.GuardPuts.{apply_all_append}
use Rattle.journal.specs.Journal.{Planned, meant}

-- stores with the same fields are the same
pub same_store : {S T : Store}
    → S.heads ≡ T.heads
    → S.xmin ≡ T.xmin
    → S.xmax ≡ T.xmax
    → S.next ≡ T.next
    → S.key ≡ T.key
    → S.has ≡ T.has
    → S.locked ≡ T.locked
    → S.owner ≡ T.owner
    → S.postings ≡ T.postings
    → S.posting_count ≡ T.posting_count
    → S.stripe_guards ≡ T.stripe_guards
    → S.partition_guards ≡ T.partition_guards
    → S.stamps ≡ T.stamps
    → S.active ≡ T.active
    → S.clock ≡ T.clock
    → S.poisoned ≡ T.poisoned
    → S.doomed ≡ T.doomed
    → S.bound ≡ T.bound
    → S ≡ T
same_store heads xmin xmax next key has locked owner postings count stripes partitions stamps active clock poisoned doomed bound = λ i. record {
  heads = heads i;
  xmin = xmin i;
  xmax = xmax i;
  next = next i;
  key = key i;
  has = has i;
  locked = locked i;
  owner = owner i;
  postings = postings i;
  posting_count = count i;
  stripe_guards = stripes i;
  partition_guards = partitions i;
  stamps = stamps i;
  active = active i;
  clock = clock i;
  poisoned = poisoned i;
  doomed = doomed i;
  bound = bound i;
}

-- one put more is applied
pub apply_more : (l : List Planned) (i : ℕ) (d : Planned) (S T U : Store) → i < length l → T ≡ apply_all (map meant (take i l)) S
    → U ≡ apply (meant (get_or l i d)) T
    → U ≡ apply_all (map meant (take (i + 1) l)) S
apply_more l i d S T U h e f =
    f
    ∙ ap (apply (meant (get_or l i d))) e
    ∙ sym (apply_all_append (map meant (take i l)) (meant (get_or l i d) ∷ []) S)
    ∙ ap (λ (ps : List Put). apply_all ps S) (sym (map_more meant l i d h))

-- what is applied is what the journal holds, where as many are applied as there are
pub apply_held : {j ps : List Put} {n : ℕ} (S : Store) → j ≡ ps → n ≡ length j → apply_all (take n j) S ≡ apply_all ps S
apply_held {j} {ps} {n} S e l = rw (take_all n j (le_of_eq (sym l)), e)

-- k is none of these
abbrev pub NoneOf : ℕ → List ℕ → Type 0
NoneOf k [] = Unit {0}
NoneOf k (x ∷ l) = NoneOf k l × (k ≡ x → ⊥)

-- the kinds, falling
abbrev pub kinds : List ℕ
kinds =
    k_lock ∷ k_key ∷ k_next ∷ k_xmin ∷ k_clock ∷ k_enter ∷ k_doom ∷ k_poison ∷ k_stamp ∷ k_drop ∷ k_free ∷ k_head ∷ k_xmax ∷ k_remove ∷ k_insert
    ∷ k_partition ∷ k_stripe ∷ []

-- a put whose kind is none changes nothing
pub apply_other : (p : Put) (S : Store) → NoneOf p.kind kinds → S ≡ apply p S
apply_other p S n =
    simp (
      ne_eqb p.kind k_lock n.1,
      ne_eqb p.kind k_key n.0.1,
      ne_eqb p.kind k_next n.0.0.1,
      ne_eqb p.kind k_xmin n.0.0.0.1,
      ne_eqb p.kind k_clock n.0.0.0.0.1,
      ne_eqb p.kind k_enter n.0.0.0.0.0.1,
      ne_eqb p.kind k_doom n.0.0.0.0.0.0.1,
      ne_eqb p.kind k_poison n.0.0.0.0.0.0.0.1,
      ne_eqb p.kind k_stamp n.0.0.0.0.0.0.0.0.1,
      ne_eqb p.kind k_drop n.0.0.0.0.0.0.0.0.0.1,
      ne_eqb p.kind k_free n.0.0.0.0.0.0.0.0.0.0.1,
      ne_eqb p.kind k_head n.0.0.0.0.0.0.0.0.0.0.0.1,
      ne_eqb p.kind k_xmax n.0.0.0.0.0.0.0.0.0.0.0.0.1,
      ne_eqb p.kind k_remove n.0.0.0.0.0.0.0.0.0.0.0.0.0.1,
      ne_eqb p.kind k_insert n.0.0.0.0.0.0.0.0.0.0.0.0.0.0.1,
      ne_eqb p.kind k_partition n.0.0.0.0.0.0.0.0.0.0.0.0.0.0.0.1,
      ne_eqb p.kind k_stripe n.0.0.0.0.0.0.0.0.0.0.0.0.0.0.0.0.1,
    )
