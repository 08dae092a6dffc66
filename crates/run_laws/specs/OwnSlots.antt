-- The off-chain slots of a txid, which abort frees, and those of them that no final write has, which commit recycles: which slots they are.
use Rattle.std.specs.Prelude.{◌≡◌, true, false, ◌&&◌, List, ℕ, ◌<◌, get_or}
use Rattle.std.proofs.Common.{sym, ◌∙◌, eqb-true, eq-eqb, ltb-true, lt-ltb}
use Rattle.std.proofs.Math.Bool.{not}
use Rattle.std.proofs.Math.Dec.{eqb}
use Rattle.std.proofs.lemmas.Bool.{not-true}
use Rattle.rules.specs.Types.{Store, Tx}
use Rattle.rules.specs.Lists.{memb}
use Rattle.rules.specs.Store.{used, used_slots}
use Rattle.rules.specs.Transaction.{finals}
use Rattle.rules.specs.Chains.{walk, on}
use Rattle.rules.specs.Puts.{own_slots}
use Rattle.rules.specs.Changes.{recycled}
use Rattle.basic_laws.specs.Cases.{and_true}
use Rattle.basic_laws.specs.Members.{mem_those, mem_nonzero}
use Rattle.run_laws.specs.PublishedChains.{new_pointers}

module _ (heads next xmin : List ℕ) (t : ℕ) where
  abbrev seen : List ℕ
  seen = (walk heads next).seen

  -- used, the txid's, and on no chain by the marks of the walk
  pub own_is : (p : ℕ) → memb p (own_slots heads next xmin t) ≡ (used xmin p && (eqb (get_or xmin p 0) t && not (on seen p)))
  unfolding own_slots
  own_is p = mem_those (λ q. eqb (get_or xmin q 0) t && not (on seen q)) (used_slots xmin) p ∙ rw (mem_nonzero xmin p)

  pub record Own (p : ℕ) : Type 0 where
    pub some : 0 < get_or xmin p 0
    pub mine : get_or xmin p 0 ≡ t
    pub off : on seen p ≡ false

  pub own_parts : (p : ℕ) → memb p (own_slots heads next xmin t) ≡ true → Own p
  own_parts p m =
      let a = and_true (used xmin p) (eqb (get_or xmin p 0) t && not (on seen p)) (sym (own_is p) ∙ m) in
      let b = and_true (eqb (get_or xmin p 0) t) (not (on seen p)) a.1 in
      record { some = ltb-true 0 (get_or xmin p 0) a.0; mine = eqb-true (get_or xmin p 0) t b.0; off = not-true (on seen p) b.1 }

  pub parts_own : (p : ℕ) → Own p → memb p (own_slots heads next xmin t) ≡ true
  parts_own p o = own_is p ∙ rw (o.off, eq-eqb (get_or xmin p 0) t o.mine, lt-ltb 0 (get_or xmin p 0) o.some)

-- the recycled ones
module _ (S : Store) (x : Tx) (p : ℕ) where
  pub recycled_is : memb p (recycled S x) ≡ (memb p (own_slots S.heads S.next S.xmin x.txid.0) && not (memb p (new_pointers (finals x))))
  unfolding recycled
  recycled_is = mem_those (λ q. not (memb q (new_pointers (finals x)))) (own_slots S.heads S.next S.xmin x.txid.0) p

  pub recycled_parts : memb p (recycled S x) ≡ true → Own S.heads S.next S.xmin x.txid.0 p × (memb p (new_pointers (finals x)) ≡ false)
  recycled_parts m =
      let a = and_true (memb p (own_slots S.heads S.next S.xmin x.txid.0)) (not (memb p (new_pointers (finals x)))) (sym recycled_is ∙ m) in
      (own_parts S.heads S.next S.xmin x.txid.0 p a.0, not-true (memb p (new_pointers (finals x))) a.1)
