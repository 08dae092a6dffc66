-- One write published: its base's xmax marked, its row's head moved.
use Rattle.std.specs.Prelude.{◌≡◌, refl, Bool, true, false, List, [], ◌∷◌, ℕ, ◌<◌, length, get_or, set, eqb}
use Rattle.std.proofs.Common.{sym, ◌∙◌, inr, length-set, get_or-set_same, get_or-set_other, eqb-true}
use Rattle.std.proofs.lemmas.Bool.{eqb-false}
use Rattle.rules.specs.Lists.{memb}
use Rattle.rules.specs.Types.{Write}
use Rattle.basic_laws.specs.Cases.{by, clash, or_true, or_false, mem_here, mem_ne}
use Rattle.basic_laws.specs.Chain.{IsChain, chain_once}
use Rattle.basic_laws.specs.Check.{Tail, plain, ahead}
use Rattle.run_laws.specs.PublishedChains.{push, Ready, publish_chains}
use Rattle.admitted_laws.specs.Repairable.{Stands}
use Rattle.recovery_laws.specs.Versions.{tail_cong, good_cong}

-- a member of a grown chain is the new slot, at its row, or was a member
pub push_mem : (L : ℕ → List ℕ) (r n q x : ℕ) {A : Type 0} → memb x (push L r n q) ≡ true → (x ≡ n → q ≡ r → A) → (memb x (L q) ≡ true → A) → A
push_mem L r n q x m f g = by (eqb q r)
    (λ e. or_true (eqb x n) (memb x (L q)) (rw e at m) (λ k. f (eqb-true x n k) (eqb-true q r e)) g)
    (λ e. g (rw e at m))

-- off the grown chains, off the old ones
pub push_off : (L : ℕ → List ℕ) (r n q x : ℕ) → memb x (push L r n q) ≡ false → memb x (L q) ≡ false
push_off L r n q x m = by (eqb q r) (λ e. (or_false (eqb x n) (memb x (L q)) (rw e at m)).1) (λ e. rw e at m)

-- a row while writes of t are published: as it was, or with its new version ahead
pub data Phase (xmin xmax : List ℕ) (f : ℕ → Bool) (t : ℕ) : List ℕ → Type 0 where
  yet : {l : List ℕ} → Tail xmin xmax f 0 l → Phase xmin xmax f t l
  out : {x : ℕ} {l : List ℕ} → get_or xmin x 0 ≡ t → get_or xmax x 0 ≡ 0 → Tail xmin xmax f t l → Phase xmin xmax f t (x ∷ l)

-- once t is finished, its new version is the first finished one
pub phase_done : (xmin xmax : List ℕ) (f f' : ℕ → Bool) (t : ℕ) (l : List ℕ) → ((u : ℕ) → f u ≡ true → f' u ≡ true) → f' t ≡ true
    → Phase xmin xmax f t l → Tail xmin xmax f' 0 l
phase_done xmin xmax f f' t l g d (yet h) = tail_cong xmin xmax xmin xmax f f' 0 l (λ x m. refl) (λ x m. refl) (λ x m. g (get_or xmin x 0)) h
phase_done xmin xmax f f' t _ g d (out {l = l} e z h) =
    (rw e d, z, rw e (tail_cong xmin xmax xmin xmax f f' t l (λ x m. refl) (λ x m. refl) (λ x m. g (get_or xmin x 0)) h))

-- xmax set at a slot off the list
pub tail_aside : (xmin xmax : List ℕ) (f : ℕ → Bool) (v : ℕ) (l : List ℕ) (s u : ℕ) → memb s l ≡ false → Tail xmin xmax f v l → Tail xmin (set xmax s u) f v l
tail_aside xmin xmax f v l s u off =
    tail_cong xmin xmax xmin (set xmax s u) f f v l (λ x m. refl) (λ x m. get_or-set_other xmax s x u 0 (mem_ne x s l m off)) (λ x m e. e)

-- and a row that lacks the slot
pub phase_aside : (xmin xmax : List ℕ) (f : ℕ → Bool) (t : ℕ) (l : List ℕ) (s u : ℕ) → memb s l ≡ false → Phase xmin xmax f t l
    → Phase xmin (set xmax s u) f t l
phase_aside xmin xmax f t l s u off (yet h) = yet (tail_aside xmin xmax f 0 l s u off h)
phase_aside xmin xmax f t _ s u off (out {x = x} {l = l} e z h) =
    let k = or_false (eqb s x) (memb s l) off in
    out e (get_or-set_other xmax s x u 0 (λ q. eqb-false s x k.0 (sym q)) ∙ z) (tail_aside xmin xmax f t l s u k.1 h)

module _ (heads xmin xmax next : List ℕ) (f : ℕ → Bool) (t : ℕ) (nf : f t ≡ false) (L : ℕ → List ℕ) (T : Stands heads xmin xmax next f L) where
  -- a slot of one chain is on no other
  pub elsewhere : (row r b : ℕ) → row < length heads → r < length heads → memb b (L row) ≡ true → (r ≡ row → ⊥) → memb b (L r) ≡ false
  elsewhere row r b lr lq m n = by (memb b (L r)) (λ k. absurd (n (T.chains.apart r row b lq lr k m))) (λ k. k)

  -- the mark on the head of a row that rests
  module _ (row b : ℕ) (l : List ℕ) (lr : row < length heads) (lb : b < length xmax) (is : L row ≡ b ∷ l) (rest : Tail xmin xmax f 0 (L row)) where
    head_on : memb b (L row) ≡ true
    head_on = rw is (mem_here b l)

    -- the row's versions then
    pub tail_marked : Tail xmin (set xmax b t) f t (L row)
    tail_marked =
        let c : IsChain next (get_or heads row 0) (b ∷ l) = rw is at (T.chains.chain row lr) in
        let h : Tail xmin xmax f 0 (b ∷ l) = rw is at rest in
        rw is (h.0, get_or-set_same xmax b t 0 lb, tail_aside xmin xmax f (get_or xmin b 0) l b t (chain_once next (get_or heads row 0) b l c) h.2)

    -- the store stays repairable
    pub stands_marked : Stands heads xmin (set xmax b t) next f L
    stands_marked = record {
      chains = T.chains;
      led = T.led;
      versions = λ r lt. by (eqb r row)
          (λ e. rw (eqb-true r row e) (plain t (inr nf) tail_marked))
          (λ e. let o = elsewhere row r b lr lt head_on (eqb-false r row e) in
          good_cong xmin xmax xmin (set xmax b t) f (L r) (λ x m. refl) (λ x m. get_or-set_other xmax b x t 0 (mem_ne x b (L r) m o)) (T.versions r lt));
      off = λ p u o. let O = T.off p u o in record {
        unfinished = O.unfinished;
        unmarked = get_or-set_other xmax b p t 0 (λ e. clash head_on (rw e at (o row lr))) ∙ O.unmarked;
        within = O.within;
      };
    }

  -- the head's move to a new version of t
  module _ (w : Write) (R : Ready heads next L w) (pos : 0 < t) (mine : get_or xmin w.new.0 0 ≡ t) (here : Tail xmin xmax f t (L w.row.0)) where
    pub clean : get_or xmax w.new.0 0 ≡ 0
    clean = (T.off w.new.0 (rw mine pos) R.off).unmarked

    -- the store stays repairable
    pub stands_moved : Stands (set heads w.row.0 w.new.0) xmin xmax next f (push L w.row.0 w.new.0)
    stands_moved =
        let r = w.row.0 in
        let n = w.new.0 in
        record {
          chains = publish_chains next (w ∷ []) heads L refl (R, tt) T.chains;
          led = λ q x lt m. push_mem L r n q x m (λ e _. rw (e, mine) pos) (λ k. T.led q x (rw length-set at lt) k);
          versions = λ q lt. by (eqb q r)
              (λ e. rw (e, eqb-true q r e) (ahead {x = n} t (rw mine nf) clean (inr (sym mine)) here))
              (λ e. rw e (T.versions q (rw length-set at lt)));
          off = λ p u o. T.off p u (λ q lt. push_off L r n q p (o q (rw length-set lt)));
        }

    -- its row's phase
    pub phase_moved : (q : ℕ) → ((q ≡ w.row.0 → ⊥) → Phase xmin xmax f t (L q)) → Phase xmin xmax f t (push L w.row.0 w.new.0 q)
    phase_moved q h = by (eqb q w.row.0)
        (λ e. rw (e, eqb-true q w.row.0 e) (out mine clean here))
        (λ e. rw e (h (eqb-false q w.row.0 e)))
