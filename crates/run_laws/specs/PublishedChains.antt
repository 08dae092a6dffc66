-- Publication and the chains: each final write's row grows by its new version, and no other slot comes on or off a chain.
use Rattle.std.specs.Prelude.{◌≡◌, refl, true, false, not, cond, List, [], ◌∷◌, map, ◌⊎◌, ℕ, ◌<◌, length, get_or, set, eqb}
use Rattle.std.proofs.Common.{sym, ◌∙◌, inl, inr, ⊎_elim, length-set, get_or-set_same, get_or-set_other, eqb-true, eq-eqb}
use Rattle.std.proofs.lemmas.Bool.{eqb-false, not-true}
use Rattle.rules.specs.Types.{Store, Write}
use Rattle.rules.specs.Lists.{all, memb, flat}
use Rattle.rules.specs.Puts.{k_xmax, k_head, put_xmax, put_head, apply, apply_all}
use Rattle.rules.specs.Changes.{publish_one}
use Rattle.basic_laws.specs.Cases.{by, clash, iff, and_true, or_true, or_false, mem_there}
use Rattle.run_laws.specs.OnlyKinds.{only}
use Rattle.basic_laws.specs.Members.{Each}
use Rattle.basic_laws.specs.Chain.{chain_push}
use Rattle.basic_laws.specs.Chained.{Chains}
use Rattle.run_laws.specs.FinalWrites.{same_row, same_new, differs, distinct}

-- a chain for each row, with n in front of row r's
abbrev pub push : (ℕ → List ℕ) → ℕ → ℕ → ℕ → List ℕ
push L r n q = cond (eqb q r) (n ∷ L q) (L q)

-- a write that can be published: its new version lies off every chain, over the head of its row
pub record Ready (heads next : List ℕ) (L : ℕ → List ℕ) (w : Write) : Type 0 where
  pub row : w.row.0 < length heads
  pub pos : 0 < w.new.0
  pub low : w.new.0 < length next
  pub over : get_or next w.new.0 0 ≡ get_or heads w.row.0 0
  pub off : (r : ℕ) → r < length heads → memb w.new.0 (L r) ≡ false

-- who is on a chain after a push
push_cases : (L : ℕ → List ℕ) (r n q x : ℕ) → memb x (push L r n q) ≡ true → ((q ≡ r) × (x ≡ n)) ⊎ (memb x (L q) ≡ true)
push_cases L r n q x m = by (eqb q r)
    (λ e. or_true (eqb x n) (memb x (L q)) (rw e at m) (λ k. inl (eqb-true q r e, eqb-true x n k)) (λ k. inr k))
    (λ e. inr (rw e at m))

push_keeps : (L : ℕ → List ℕ) (r n q x : ℕ) → memb x (L q) ≡ true → memb x (push L r n q) ≡ true
push_keeps L r n q x m = by (eqb q r) (λ e. rw e (mem_there x n (L q) m)) (λ e. rw e m)

-- heads and chains after publication
abbrev pub new_heads : List Write → List ℕ → List ℕ
new_heads [] hs = hs
new_heads (w ∷ ws) hs = new_heads ws (set hs w.row.0 w.new.0)

abbrev pub new_chains : List Write → (ℕ → List ℕ) → ℕ → List ℕ
new_chains [] L = L
new_chains (w ∷ ws) L = new_chains ws (push L w.row.0 w.new.0)

-- there are as many heads
pub new_heads_long : (ws : List Write) (hs : List ℕ) → length (new_heads ws hs) ≡ length hs
new_heads_long [] hs = refl
new_heads_long (w ∷ ws) hs = new_heads_long ws (set hs w.row.0 w.new.0) ∙ length-set hs w.row.0 w.new.0

-- the new pointers of writes
abbrev pub new_pointers : List Write → List ℕ
new_pointers ws = map (λ w. w.new.0) ws

-- no other slot comes on a chain or off one
pub new_cases : (ws : List Write) (L : ℕ → List ℕ) (q x : ℕ) → memb x (new_pointers ws) ≡ false → memb x (new_chains ws L q) ≡ memb x (L q)
new_cases [] L q x n = refl
new_cases (w ∷ ws) L q x n =
    let o = or_false (eqb x w.new.0) (memb x (new_pointers ws)) n in
    let L' = push L w.row.0 w.new.0 in
    new_cases ws L' q x o.1 ∙ iff (memb x (L' q)) (memb x (L q))
    (λ m. ⊎_elim (λ (k : (q ≡ w.row.0) × (x ≡ w.new.0)). clash (eq-eqb x w.new.0 k.1) o.0) (λ k. k) (push_cases L w.row.0 w.new.0 q x m))
    (λ m. push_keeps L w.row.0 w.new.0 q x m)

module _ (next : List ℕ) where
  -- one write published
  push_chains : (heads : List ℕ) (L : ℕ → List ℕ) (w : Write) → Chains heads next L → Ready heads next L w
      → Chains (set heads w.row.0 w.new.0) next (push L w.row.0 w.new.0)
  push_chains heads L w C R =
      let r = w.row.0 in
      let n = w.new.0 in
      record {
        chain = λ q lt. by (eqb q r)
            (λ e. let qr = eqb-true q r e in
            rw (e, qr, get_or-set_same heads r n 0 R.row) (chain_push next n (get_or heads r 0) (L r) R.pos R.low R.over (C.chain r R.row)))
            (λ e. rw (e, get_or-set_other heads r q n 0 (eqb-false q r e)) (C.chain q (rw length-set at lt)));
        apart = λ p q x lp lq mp mq. join p q x (rw length-set at lp) (rw length-set at lq) (push_cases L r n p x mp) (push_cases L r n q x mq);
      }
    where
      join : (p q x : ℕ) → p < length heads → q < length heads → ((p ≡ w.row.0) × (x ≡ w.new.0)) ⊎ (memb x (L p) ≡ true)
          → ((q ≡ w.row.0) × (x ≡ w.new.0)) ⊎ (memb x (L q) ≡ true) → p ≡ q
      join p q x lp lq (inl a) (inl b) = a.0 ∙ sym b.0
      join p q x lp lq (inl a) (inr b) = clash (rw a.1 at b) (R.off q lq)
      join p q x lp lq (inr a) (inl b) = clash (rw b.1 at a) (R.off p lp)
      join p q x lp lq (inr a) (inr b) = C.apart p q x lp lq a b

  -- another write can still be published
  push_ready : (heads : List ℕ) (L : ℕ → List ℕ) (w v : Write) → differs w v ≡ true → Ready heads next L v
      → Ready (set heads w.row.0 w.new.0) next (push L w.row.0 w.new.0) v
  push_ready heads L w v d R =
      let a = and_true (not (same_row w v)) (not (same_new w v)) d in
      record {
        row = rw length-set R.row;
        pos = R.pos;
        low = R.low;
        over = R.over ∙ sym (get_or-set_other heads w.row.0 v.row.0 w.new.0 0 (eqb-false v.row.0 w.row.0 (not-true (same_row w v) a.0)));
        off = λ r lt. by (memb v.new.0 (push L w.row.0 w.new.0 r))
            (λ m. ⊎_elim
            (λ (k : (r ≡ w.row.0) × (v.new.0 ≡ w.new.0)). clash (eq-eqb v.new.0 w.new.0 k.1) (not-true (same_new w v) a.1))
            (λ k. clash k (R.off r (rw length-set at lt)))
            (push_cases L w.row.0 w.new.0 r v.new.0 m))
            (λ e. e);
      }

  -- and so can the rest
  each_ready : (heads : List ℕ) (L : ℕ → List ℕ) (w : Write) (ws : List Write) → all (differs w) ws ≡ true → Each (Ready heads next L) ws
      → Each (Ready (set heads w.row.0 w.new.0) next (push L w.row.0 w.new.0)) ws
  each_ready heads L w [] d R = tt
  each_ready heads L w (v ∷ ws) d R =
      let a = and_true (differs w v) (all (differs w) ws) d in
      (push_ready heads L w v a.0 R.0, each_ready heads L w ws a.1 R.1)

  -- all of them published
  pub publish_chains : (ws : List Write) (heads : List ℕ) (L : ℕ → List ℕ) → distinct ws ≡ true → Each (Ready heads next L) ws → Chains heads next L
      → Chains (new_heads ws heads) next (new_chains ws L)
  publish_chains [] heads L d R C = C
  publish_chains (w ∷ ws) heads L d R C =
      let a = and_true (all (differs w) ws) (distinct ws) d in
      publish_chains ws (set heads w.row.0 w.new.0) (push L w.row.0 w.new.0) a.1 (each_ready heads L w ws a.0 R.1)
      (push_chains heads L w C R.0)

-- publication puts xmax and heads alone
pub publish_only : (t : ℕ) (ws : List Write) → only (k_xmax ∷ k_head ∷ []) (flat (publish_one t) ws) ≡ true
unfolding publish_one
publish_only t [] = refl
publish_only t (w ∷ ws) = let r = publish_only t ws in by (eqb w.base.0 0) (λ e. rw e r) (λ e. rw e r)

-- and moves the heads of the writes' rows
pub publish_heads : (t : ℕ) (ws : List Write) (S : Store) → (apply_all (flat (publish_one t) ws) S).heads ≡ new_heads ws S.heads
unfolding publish_one
publish_heads t [] S = refl
publish_heads t (w ∷ ws) S = by (eqb w.base.0 0)
    (λ e. rw e (publish_heads t ws (apply (put_head w.row.0 w.new.0) S)))
    (λ e. rw e (publish_heads t ws (apply (put_head w.row.0 w.new.0) (apply (put_xmax w.base.0 t) S))))
