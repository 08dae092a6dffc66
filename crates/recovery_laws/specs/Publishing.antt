-- Publication: after each of its puts the store is repairable and shows what it showed.
use Rattle.std.specs.Prelude.{◌≡◌, Bool, not, cond, ◌||◌, ℕ, ◌<◌, length, get_or, set}
use Rattle.std.proofs.Math.Path.{refl}
use Rattle.std.proofs.Common.{sym, subst, ap, ◌∙◌, inl, arith, length-set, get_or-set_same, get_or-set_other, eqb-true, eq-eqb}
use Rattle.std.proofs.Math.Bool.{true, false}
use mathlib.Core.List.{List, [], ◌∷◌, ◌++◌}
use Rattle.std.proofs.Math.Dec.{eqb}
use Rattle.std.proofs.lemmas.Bool.{eqb-false, not-true}
use Rattle.records.specs.Limits.{rows}
use Rattle.rules.specs.Lists.{all, memb, flat}
use Rattle.rules.specs.Types.{Store, Write, Value}
use Rattle.rules.specs.Store.{value_at}
use Rattle.rules.specs.Admitted.{finished}
use Rattle.rules.specs.Puts.{put_xmax, put_head, apply}
use Rattle.rules.specs.Changes.{publish_one}
use Rattle.basic_laws.specs.Cases.{by, clash, and_true, or_false, mem_here}
use Rattle.basic_laws.specs.Chain.{IsChain, chain_below}
use Rattle.basic_laws.specs.Check.{Tail, plain}
use Rattle.basic_laws.specs.Members.{Each}
use Rattle.run_laws.specs.FinalWrites.{same_row, same_new, differs, distinct}
use Rattle.run_laws.specs.PublishedChains.{push, Ready, new_pointers}
use Rattle.admitted_laws.specs.Repairable.{Mends, Off, Stands}
use Rattle.statements.specs.Words.{with_new}
use Rattle.recovery_laws.specs.Versions.{first_slot, first_tail, tail_finished}
use Rattle.recovery_laws.specs.Unfinished.{dropped, zero_finished, drop_other, drop_this}
use Rattle.recovery_laws.specs.Along.{To}
use Rattle.recovery_laws.specs.Calm.{Calm}
use Rattle.recovery_laws.specs.Live.{Live, Lives, live_calm, Due}
use Rattle.recovery_laws.specs.Marked.{push_mem, push_off, Phase, phase_done, tail_aside, phase_aside}
use Rattle.recovery_laws.specs.Marked.{elsewhere, tail_marked, stands_marked, clean, stands_moved, phase_moved}

-- a write yet to be published: its new version, of t, lies off every chain over the head of its row, which rests
pub record Todo (heads xmin xmax next : List ℕ) (f : ℕ → Bool) (t : ℕ) (L : ℕ → List ℕ) (w : Write) : Type 0 where
  pub ready : Ready heads next L w
  pub based : get_or heads w.row.0 0 ≡ w.base.0
  pub mine : get_or xmin w.new.0 0 ≡ t
  pub rest : Tail xmin xmax f 0 (L w.row.0)

module _ (t : ℕ) (old : ℕ → Value) (act : List ℕ) (doom : ℕ) (key : List ℕ) (has : List Bool) (own : List ℕ) where
  -- the writes ws are yet to be published; the heads have the values `new`; the slots `own` are t's others
  pub record On (ws : List Write) (new : ℕ → Value) (X : Store) : Type 0 where
    pub L : ℕ → List ℕ
    pub live : Live old act doom t X L
    pub key_is : X.key ≡ key
    pub has_is : X.has ≡ has
    pub phase : (r : ℕ) → r < length X.heads → Phase X.xmin X.xmax (finished act doom) t (L r)
    pub todo : Each (Todo X.heads X.xmin X.xmax X.next (finished act doom) t L) ws
    pub apart : distinct ws ≡ true
    pub heads_are : (r : ℕ) → r < rows → value_at key has (first_slot (L r)) ≡ new r
    pub idle : (p : ℕ) → memb p own ≡ true → Off X.heads L p × (p ≡ 0 → ⊥) × (memb p (new_pointers ws) ≡ false)
    pub mine : (p : ℕ) → Off X.heads L p → get_or X.xmin p 0 ≡ t → (memb p (new_pointers ws) || memb p own) ≡ true

  -- between the mark on w's base and the move of its head
  record Half (w : Write) (ws : List Write) (new : ℕ → Value) (X : Store) : Type 0 where
    L : ℕ → List ℕ
    live : Live old act doom t X L
    key_is : X.key ≡ key
    has_is : X.has ≡ has
    ready : Ready X.heads X.next L w
    made : get_or X.xmin w.new.0 0 ≡ t
    here : Tail X.xmin X.xmax (finished act doom) t (L w.row.0)
    phase : (r : ℕ) → r < length X.heads → (r ≡ w.row.0 → ⊥) → Phase X.xmin X.xmax (finished act doom) t (L r)
    todo : Each (Todo X.heads X.xmin X.xmax X.next (finished act doom) t L) ws
    apart : distinct (w ∷ ws) ≡ true
    heads_are : (r : ℕ) → r < rows → value_at key has (first_slot (L r)) ≡ new r
    idle : (p : ℕ) → memb p own ≡ true → Off X.heads L p × (p ≡ 0 → ⊥) × (memb p (new_pointers (w ∷ ws)) ≡ false)
    mine : (p : ℕ) → Off X.heads L p → get_or X.xmin p 0 ≡ t → (memb p (new_pointers (w ∷ ws)) || memb p own) ≡ true

  -- guards, postings, stamps and poison count for none of it
  pub on_calm : (ws : List Write) (new : ℕ → Value) → Calm (On ws new)
  on_calm ws new g q ps n st b X O = record {
    L = O.L;
    live = live_calm old act doom t O.L g q ps n st b X O.live;
    key_is = O.key_is;
    has_is = O.has_is;
    phase = O.phase;
    todo = O.todo;
    apart = O.apart;
    heads_are = O.heads_are;
    idle = O.idle;
    mine = O.mine;
  }

  module _ (pos : 0 < t) (nf : finished act doom t ≡ false) where
    -- no base, no mark
    half_none : (w : Write) (ws : List Write) (new : ℕ → Value) (X : Store) → On (w ∷ ws) new X → w.base.0 ≡ 0 → Half w ws new X
    half_none w ws new X O z = record {
      L = O.L;
      live = O.live;
      key_is = O.key_is;
      has_is = O.has_is;
      ready = D.ready;
      made = D.mine;
      here = go (O.L w.row.0) (O.live.mends.stands.chains.chain w.row.0 D.ready.row);
      phase = λ r lt n. O.phase r lt;
      todo = O.todo.1;
      apart = O.apart;
      heads_are = O.heads_are;
      idle = O.idle;
      mine = O.mine;
    }
      where
        D : Todo X.heads X.xmin X.xmax X.next (finished act doom) t O.L w
        D = O.todo.0

        go : (l : List ℕ) → IsChain X.next (get_or X.heads w.row.0 0) l → Tail X.xmin X.xmax (finished act doom) t l
        go [] c = tt
        go (x ∷ l) c = absurd (omega (arith, c.0, c.1, D.based))

    -- the mark on the base
    module _ (w : Write) (ws : List Write) (new : ℕ → Value) (X : Store) (O : On (w ∷ ws) new X) (nz : w.base.0 ≡ 0 → ⊥) where
      abbrev D : Todo X.heads X.xmin X.xmax X.next (finished act doom) t O.L w
      D = O.todo.0

      abbrev row : ℕ
      row = w.row.0

      abbrev base : ℕ
      base = w.base.0

      -- the row's chain begins with it
      base_first : (l : List ℕ) × (O.L row ≡ base ∷ l)
      base_first = go (O.L row) (O.live.mends.stands.chains.chain row D.ready.row) refl
        where
          go : (m : List ℕ) → IsChain X.next (get_or X.heads row 0) m → O.L row ≡ m → (l : List ℕ) × (O.L row ≡ base ∷ l)
          go [] c e = absurd (nz (sym D.based ∙ c))
          go (x ∷ l) c e = (l, e ∙ ap (λ (y : ℕ). y ∷ l) (sym c.0 ∙ D.based))

      base_on : memb base (O.L row) ≡ true
      base_on = rw base_first.1 (mem_here base base_first.0)

      base_used : 0 < get_or X.xmin base 0
      base_used = O.live.mends.stands.led row base D.ready.row base_on

      base_low : base < length X.xmax
      base_low = omega (
        arith,
        (chain_below X.next (get_or X.heads row 0) (O.L row) base (O.live.mends.stands.chains.chain row D.ready.row) base_on).1,
        O.live.long.next,
        O.live.long.xmax,
      )

      stands : Stands X.heads X.xmin X.xmax X.next (finished act doom) O.L
      stands = rw (O.live.act_is, O.live.doom_is) at O.live.mends.stands

      not_base : (p : ℕ) → get_or X.xmin p 0 ≡ 0 → p ≡ base → ⊥
      not_base p e q = omega (arith, base_used, rw q at e)

      mends_marked : Mends (apply (put_xmax base t) X) O.L
      mends_marked = let M = O.live.mends in record {
        started = M.started;
        slots = record {
          first = M.slots.first;
          free = λ p e. let F = M.slots.free p e in record {
            unmarked = get_or-set_other X.xmax base p t 0 (not_base p e) ∙ F.unmarked;
            unlinked = F.unlinked;
            empty = F.empty;
            unlocked = F.unlocked;
            unowned = F.unowned;
          };
          absent = M.slots.absent;
          minute = M.slots.minute;
        };
        listed = M.listed;
        below = M.below;
        doom = M.doom;
        stands =
            rw (O.live.act_is, O.live.doom_is)
            (stands_marked X.heads X.xmin X.xmax X.next (finished act doom) t nf O.L stands row base base_first.0 D.ready.row
            base_low base_first.1 D.rest);
      }

      live_marked : Live old act doom t (apply (put_xmax base t) X) O.L
      live_marked = let K = O.live in record {
        long = record { heads = K.long.heads; xmax = length-set X.xmax base t ∙ K.long.xmax; next = K.long.next; active = K.long.active };
        mends = mends_marked;
        act_is = K.act_is;
        doom_is = K.doom_is;
        sole = record {
          created = K.sole.created;
          ended = λ r y lt m n. by (eqb y base)
              (λ e. rw (eqb-true y base e) (get_or-set_same X.xmax base t 0 base_low))
              (λ e. let o = get_or-set_other X.xmax base y t 0 (eqb-false y base e) in o ∙ K.sole.ended r y lt m (rw o at n));
        };
        shows = K.shows;
      }

      base_else : (r : ℕ) → r < length X.heads → (r ≡ row → ⊥) → memb base (O.L r) ≡ false
      base_else r lt n = elsewhere X.heads X.xmin X.xmax X.next (finished act doom) t nf O.L stands row r base D.ready.row lt base_on n

      todo_marked : (vs : List Write) → all (differs w) vs ≡ true → Each (Todo X.heads X.xmin X.xmax X.next (finished act doom) t O.L) vs
          → Each (Todo X.heads X.xmin (set X.xmax base t) X.next (finished act doom) t O.L) vs
      todo_marked [] d T = tt
      todo_marked (v ∷ vs) d T =
          let a = and_true (differs w v) (all (differs w) vs) d in
          let c = and_true (not (same_row w v)) (not (same_new w v)) a.0 in (
            record {
              ready = T.0.ready;
              based = T.0.based;
              mine = T.0.mine;
              rest =
                  tail_aside X.xmin X.xmax (finished act doom) 0 (O.L v.row.0) base t
                  (base_else v.row.0 T.0.ready.row (eqb-false v.row.0 row (not-true (same_row w v) c.0))) T.0.rest;
            },
            todo_marked vs a.1 T.1,
          )

      half_marked : Half w ws new (apply (put_xmax base t) X)
      half_marked = record {
        L = O.L;
        live = live_marked;
        key_is = O.key_is;
        has_is = O.has_is;
        ready = D.ready;
        made = D.mine;
        here =
            tail_marked X.heads X.xmin X.xmax X.next (finished act doom) t nf O.L stands row base base_first.0 D.ready.row
            base_low base_first.1 D.rest;
        phase = λ r lt n. phase_aside X.xmin X.xmax (finished act doom) t (O.L r) base t (base_else r lt n) (O.phase r lt);
        todo = todo_marked ws (and_true (all (differs w) ws) (distinct ws) O.apart).0 O.todo.1;
        apart = O.apart;
        heads_are = O.heads_are;
        idle = O.idle;
        mine = O.mine;
      }

    -- the head's move
    module _ (w : Write) (ws : List Write) (new : ℕ → Value) (X : Store) (O : Half w ws new X) where
      abbrev row' : ℕ
      row' = w.row.0

      abbrev slot : ℕ
      slot = w.new.0

      abbrev N : ℕ → List ℕ
      N = push O.L row' slot

      stands' : Stands X.heads X.xmin X.xmax X.next (finished act doom) O.L
      stands' = rw (O.live.act_is, O.live.doom_is) at O.live.mends.stands

      live_moved : Live old act doom t (apply (put_head row' slot) X) N
      live_moved = let K = O.live in let M = K.mends in record {
        long = record { heads = length-set X.heads row' slot ∙ K.long.heads; xmax = K.long.xmax; next = K.long.next; active = K.long.active };
        mends = record {
          started = M.started;
          slots = M.slots;
          listed = M.listed;
          below = M.below;
          doom = M.doom;
          stands =
              rw (K.act_is, K.doom_is)
              (stands_moved X.heads X.xmin X.xmax X.next (finished act doom) t nf O.L stands' w O.ready pos O.made O.here);
        };
        act_is = K.act_is;
        doom_is = K.doom_is;
        sole = record {
          created = λ q y lt m n. push_mem O.L row' slot q y m (λ e _. rw e O.made) (λ k. K.sole.created q y (rw length-set at lt) k n);
          ended = λ q y lt m n. push_mem O.L row' slot q y m
              (λ e _. clash (zero_finished act doom)
              (rw (e, clean X.heads X.xmin X.xmax X.next (finished act doom) t nf O.L stands' w O.ready pos O.made O.here) at n))
              (λ k. K.sole.ended q y (rw length-set at lt) k n);
        };
        shows = λ r lt. by (eqb r row') (λ e. rw (e, O.made, nf) (K.shows r lt)) (λ e. rw e (K.shows r lt));
      }

      -- a slot that is neither the new one nor on a chain is on none after the move
      off_moved : (p : ℕ) → (p ≡ slot → ⊥) → Off X.heads O.L p → Off (set X.heads row' slot) N p
      off_moved p n o r lt = by (memb p (N r))
          (λ m. absurd (push_mem O.L row' slot r p m (λ e _. n e) (λ k. clash k (o r (rw length-set at lt)))))
          (λ m. m)

      off_before : (p : ℕ) → Off (set X.heads row' slot) N p → Off X.heads O.L p
      off_before p o r lt = push_off O.L row' slot r p (o r (rw length-set lt))

      todo_moved : (vs : List Write) → all (differs w) vs ≡ true → Each (Todo X.heads X.xmin X.xmax X.next (finished act doom) t O.L) vs
          → Each (Todo (set X.heads row' slot) X.xmin X.xmax X.next (finished act doom) t N) vs
      todo_moved [] d T = tt
      todo_moved (v ∷ vs) d T =
          let a = and_true (differs w v) (all (differs w) vs) d in
          let c = and_true (not (same_row w v)) (not (same_new w v)) a.0 in
          let nr = not-true (same_row w v) c.0 in
          let other = get_or-set_other X.heads row' v.row.0 slot 0 (eqb-false v.row.0 row' nr) in
          let R = T.0.ready in (
            record {
              ready = record {
                row = rw length-set R.row;
                pos = R.pos;
                low = R.low;
                over = R.over ∙ sym other;
                off = off_moved v.new.0 (eqb-false v.new.0 slot (not-true (same_new w v) c.1)) R.off;
              };
              based = other ∙ T.0.based;
              mine = T.0.mine;
              rest = rw nr T.0.rest;
            },
            todo_moved vs a.1 T.1,
          )

      on_moved : On ws (λ q. cond (eqb q row') (value_at key has slot) (new q)) (apply (put_head row' slot) X)
      on_moved =
          let d = and_true (all (differs w) ws) (distinct ws) O.apart in
          record {
            L = N;
            live = live_moved;
            key_is = O.key_is;
            has_is = O.has_is;
            phase =
                λ r lt. phase_moved X.heads X.xmin X.xmax X.next (finished act doom) t nf O.L stands' w O.ready pos O.made O.here
                r (O.phase r (rw length-set at lt));
            todo = todo_moved ws d.0 O.todo;
            apart = d.1;
            heads_are = λ r lt. by (eqb r row') (λ e. rw e) (λ e. rw e (O.heads_are r lt));
            idle = λ p m. let i = O.idle p m in
                let o = or_false (eqb p slot) (memb p (new_pointers ws)) i.2 in
                (off_moved p (eqb-false p slot o.0) i.0, i.1, o.1);
            mine = λ p o e. by (eqb p slot)
                (λ k. clash (subst (λ y. memb y (slot ∷ O.L row') ≡ true) (sym (eqb-true p slot k)) (mem_here slot (O.L row')))
                (rw (eq-eqb row' row' refl) at (o row' (rw length-set O.ready.row))))
                (λ k. rw k at (O.mine p (off_before p o) e));
          }

    -- all writes
    abbrev Publishes : List Write → Type 0
    Publishes ws = (new : ℕ → Value) (X : Store) → On ws new X → To (Lives old act doom t) (On [] (with_new key has ws new)) (flat (publish_one t) ws) X

    -- after each put the rows show what they showed
    pub publishes : (ws : List Write) → Publishes ws
    unfolding publish_one
    publishes [] new X O = ((O.L, O.live), O)
    publishes (w ∷ ws) new X O = go (publishes ws) (eqb w.base.0 0) refl
      where
        go : Publishes ws → (b : Bool) → eqb w.base.0 0 ≡ b
            → To (Lives old act doom t) (On [] (with_new key has (w ∷ ws) new))
            (cond b (put_head w.row.0 w.new.0 ∷ []) (put_xmax w.base.0 t ∷ put_head w.row.0 w.new.0 ∷ []) ++ flat (publish_one t) ws) X
        go ih true e =
            ((O.L, O.live), ih _ (apply (put_head w.row.0 w.new.0) X) (on_moved w ws new X (half_none w ws new X O (eqb-true w.base.0 0 e))))
        go ih false e =
            let h = half_marked w ws new X O (eqb-false w.base.0 0 e) in (
              (O.L, O.live),
              (
                (h.L, h.live),
                ih _ (apply (put_head w.row.0 w.new.0) (apply (put_xmax w.base.0 t) X)) (on_moved w ws new (apply (put_xmax w.base.0 t) X) h),
              ),
            )

    -- published: t is due to be dropped
    pub published_due : (t ≡ doom → ⊥) → (new : ℕ → Value) (X : Store) → On [] new X → Due t old new act doom t own X
    published_due nd new X O =
        let K = O.live in
        let A = rw K.act_is at K.mends.listed in
        let long = rw K.act_is at K.long.active in
        let f' = finished (dropped act t) doom in
        let now : f' t ≡ true = drop_this act X.clock A long t doom nd in
        let more : (u : ℕ) → finished act doom u ≡ true → f' u ≡ true = λ u e. drop_other act X.clock A long t doom u (λ q. clash e (rw q nf)) ∙ e in
        let tail : (r : ℕ) → r < length X.heads → Tail X.xmin X.xmax f' 0 (O.L r) =
        λ r lt. phase_done X.xmin X.xmax (finished act doom) f' t (O.L r) more now (O.phase r lt) in
        let all_done : (r : ℕ) → r < length X.heads → (y : ℕ) → memb y (O.L r) ≡ true → (f' (get_or X.xmin y 0) ≡ true) × (f' (get_or X.xmax y 0) ≡ true)
        = λ r lt. tail_finished X.xmin X.xmax f' 0 (O.L r) (zero_finished (dropped act t) doom) (tail r lt) in
        record {
          L = O.L;
          live = K;
          good = λ r lt. plain 0 (inl refl) (tail r lt);
          sole = record {
            created = λ r y lt m n. clash (all_done r lt y m).0 n;
            ended = λ r y lt m n. clash (all_done r lt y m).1 n;
          };
          shows = λ r lt. rw (first_tail X.xmin X.xmax f' 0 (O.L r) (tail r (omega (arith, K.long.heads))), O.key_is, O.has_is) (O.heads_are r lt);
          idle = λ p m. let i = O.idle p m in (i.0, i.1);
          mine = λ p o e. O.mine p o e;
        }
