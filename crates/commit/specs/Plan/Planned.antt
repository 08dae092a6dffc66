-- What a commit stores, as code has it before it pushes a put: marks, lists and numbers.
use Rattle.std.specs.Prelude.{◌≡◌, Bool, true, false, cond, List, [], ◌∷◌, map, ℕ, ◌≤◌, eqb, ltb}
use Rattle.std.proofs.Math.Path.{ap}
use Rattle.std.proofs.Common.{◌∙◌, arith, take_all}
use Rattle.std.proofs.Math.ListN.{length, take}
use Rattle.records.specs.Limits.{places}
use Rattle.records.specs.Relations.{run_puts}
use Rattle.rules.specs.Types.{Store, Tx, Write, Schedule}
use Rattle.rules.specs.Transaction.{index_reads_of, finals}
use Rattle.rules.specs.Chains.{walk}
use Rattle.rules.specs.Fit.{fit}
use Rattle.rules.specs.Puts.{Put, put_drop}
use Rattle.rules.specs.Changes.{index_changes, changes, destinations, sources, index_guards}
use Rattle.rules.specs.Changes.{partition_guards, insertions, removals, publication, recycling, stamping}
use Rattle.rules.specs.Commit.{fails, count}
use Rattle.run_laws.specs.Outcome.{worse}
use Rattle.journal.specs.Journal.{put_limit}
use Rattle.journal.specs.Adds.{Adds, adds_then}
use Rattle.steps.specs.GateTable.{partition_guards_failed, unlogged_check_failed, insert_failed, remove_failed, publish_failed, recycle_failed, stamp_failed}
use Rattle.commit.specs.declared.plan.moves.Moves.{Moves}
use Rattle.commit.specs.declared.plan.run.Plan.{Plan}
use Rattle.commit.specs.declared.plan.run.Struck.{Struck}
use Rattle.fields.specs.Marks.{mark_all}
use Rattle.commit.specs.Plan.Plain.{low, low_same, finals_plain}
use Rattle.commit.specs.Plan.Moves.{changed_marks, moves_of}
use Rattle.commit.specs.Plan.Guards.{stripe_read, guarded_marks, partition_marks}
use Rattle.visibility.specs.OwnMarks.{own_marks}
use Rattle.commit.specs.Plan.Own.{set_each, new_of, recycled_marks}
use Rattle.commit.specs.Plan.Few.{insertions_few, removals_few, publication_few, recycling_few, stamping_few}
use Rattle.commit.specs.Plan.Parts.{after, up_to, taken, passed}

unfoldable pub plan_of : Store → Tx → Plan
plan_of S x = record {
  txid = x.txid;
  into = destinations (changes S x);
  out = sources (changes S x);
  changed = changed_marks (changes S x);
  stripes = guarded_marks (changes S x) x;
  partitions = partition_marks x;
  own = own_marks S.xmin (walk S.heads S.next).seen x.txid.0;
  recycled = recycled_marks S.xmin (walk S.heads S.next).seen x;
}

unfoldable pub struck_of : Store → Tx → Bool → Schedule → Struck
struck_of S x logged plan = record {
  inserted = count S x logged plan 15;
  removed = count S x logged plan 17;
  published = count S x logged plan 18;
  recycled = count S x logged plan 19;
  stamped = count S x logged plan 22;
  rolled = count S x logged plan 24;
  finish = fails S x logged plan 21;
  abort = fails S x logged plan 23;
  rollback = fails S x logged plan 24;
  worse = worse S x logged plan;
  poisoned = S.poisoned;
}

-- p and s are of this commit, whose transaction is fit
pub record Planned (S : Store) (x : Tx) (logged : Bool) (plan : Schedule) (p : Plan) (s : Struck) : Type 0 where
  pub plans : p ≡ plan_of S x
  pub strikes : s ≡ struck_of S x logged plan
  pub fits : fit S x ≡ true
  pub long : length S.xmin ≤ places

-- how many puts of a block are pushed: none before its own gate, k there, and then all
abbrev pub limit_at : ℕ → ℕ → ℕ → ℕ
limit_at g own k = cond (ltb g own) 0 (cond (eqb g own) k put_limit)

module _ {j after : List Put} where
  pub limited : (g own k l : ℕ) (ps : List Put) → length ps ≤ put_limit → l ≡ limit_at g own k → Adds j (take l ps) after
      → Adds j (up_to own g k ps) after
  limited g own k l ps h e a = go (ltb g own) (eqb g own) (rw e at a)
    where
      go : (b c : Bool) → Adds j (take (cond b 0 (cond c k put_limit)) ps) after → Adds j (cond b [] (cond c (take k ps) ps)) after
      go true c a = a
      go false true a = a
      go false false a = rw (take_all put_limit ps h) at a

-- the parts of a plan and what strikes it
module _ {S : Store} {x : Tx} {logged : Bool} {plan : Schedule} {p : Plan} {s : Struck} (h : Planned S x logged plan p s) where
  pub txid_is : p.txid ≡ x.txid
  unfolding plan_of
  txid_is = ap (λ q. q.txid) h.plans

  pub into_is : p.into ≡ destinations (changes S x)
  unfolding plan_of
  into_is = ap (λ q. q.into) h.plans

  pub out_is : p.out ≡ sources (changes S x)
  unfolding plan_of
  out_is = ap (λ q. q.out) h.plans

  pub changed_is : p.changed ≡ changed_marks (changes S x)
  unfolding plan_of
  changed_is = ap (λ q. q.changed) h.plans

  pub stripes_are_law : p.stripes ≡ guarded_marks (changes S x) x
  unfolding plan_of
  stripes_are_law = ap (λ q. q.stripes) h.plans

  pub partitions_are_law : p.partitions ≡ partition_marks x
  unfolding plan_of
  partitions_are_law = ap (λ q. q.partitions) h.plans

  pub own_is : p.own ≡ own_marks S.xmin (walk S.heads S.next).seen p.txid.0
  unfolding plan_of
  own_is = rw txid_is (ap (λ q. q.own) h.plans)

  pub recycled_is : p.recycled ≡ recycled_marks S.xmin (walk S.heads S.next).seen x
  unfolding plan_of
  recycled_is = ap (λ q. q.recycled) h.plans

  -- guards and postings; rows
  pub taken_put : (g : ℕ) {j₀ j₁ j₂ j₃ j₄ : List Put} {l m : ℕ}
      → Adds j₀ (after partition_guards_failed g (index_guards S x p.txid.0)) j₁
      → Adds j₁ (after unlogged_check_failed g (partition_guards x p.txid.0)) j₂
      → l ≡ limit_at g insert_failed s.inserted → Adds j₂ (take l (insertions S x)) j₃ → m ≡ limit_at g remove_failed s.removed
      → Adds j₃ (take m (removals S x)) j₄
      → Adds j₀ (taken S x logged plan g) j₄
  unfolding taken struck_of
  taken_put g {l = l} {m = m} a b e c f d =
      let i : s.inserted ≡ count S x logged plan 15 = ap (λ q. q.inserted) h.strikes in
      let r : s.removed ≡ count S x logged plan 17 = ap (λ q. q.removed) h.strikes in
      let in_room : length (insertions S x) ≤ put_limit = omega (arith, insertions_few S x h.fits, run_puts) in
      let out_room : length (removals S x) ≤ put_limit = omega (arith, removals_few S x h.fits, run_puts) in
      adds_then (rw txid_is at a) (adds_then (rw txid_is at b)
      (adds_then (limited g insert_failed _ l (insertions S x) in_room (rw i at e) c) (limited g remove_failed _ m (removals S x) out_room (rw r at f) d)))

  pub passed_put : (g : ℕ) {j₀ j₁ j₂ j₃ j₄ : List Put} {l m k : ℕ}
      → l ≡ limit_at g publish_failed s.published → Adds j₀ (take l (publication x)) j₁ → m ≡ limit_at g recycle_failed s.recycled
      → Adds j₁ (take m (recycling S x)) j₂
      → Adds j₂ (after stamp_failed g (put_drop p.txid.0 ∷ [])) j₃ → k ≡ limit_at g stamp_failed s.stamped → Adds j₃ (take k (stamping S x)) j₄
      → Adds j₀ (passed S x logged plan g) j₄
  unfolding passed struck_of
  passed_put g {l = l} {m = m} {k = k} e a q b c w d =
      let i : s.published ≡ count S x logged plan 18 = ap (λ q. q.published) h.strikes in
      let f : s.recycled ≡ count S x logged plan 19 = ap (λ q. q.recycled) h.strikes in
      let t : s.stamped ≡ count S x logged plan 22 = ap (λ q. q.stamped) h.strikes in
      let rows_room : length (publication x) ≤ put_limit = omega (arith, publication_few S x h.fits, run_puts) in
      let free_room : length (recycling S x) ≤ put_limit = omega (arith, recycling_few S x h.long, run_puts) in
      let stamp_room : length (stamping S x) ≤ put_limit = omega (arith, stamping_few S x, run_puts) in
      adds_then (limited g publish_failed _ l (publication x) rows_room (rw i at e) a)
      (adds_then (limited g recycle_failed _ m (recycling S x) free_room (rw f at q) b)
      (adds_then (rw txid_is at c) (limited g stamp_failed _ k (stamping S x) stamp_room (rw t at w) d)))

-- the plan from the arrays that a commit reads and the writes, whatever they hold
unfoldable pub plan_from : List ℕ → List Bool → List ℕ → List ℕ → Tx → List Write → Plan
plan_from key has xmin seen x ws =
    let cs = index_changes key has (map low ws) in
    record {
      txid = x.txid;
      into = destinations cs;
      out = sources cs;
      changed = changed_marks cs;
      stripes = guarded_marks cs x;
      partitions = partition_marks x;
      own = own_marks xmin seen x.txid.0;
      recycled = set_each false (map new_of ws) (own_marks xmin seen x.txid.0);
    }

module _ (x : Tx) (key xmin seen : List ℕ) (has : List Bool) (ws : List Write) where
  -- part by part, as code computes it
  pub plan_from_law : {m : Moves} {guarded partitioned own recycled : List Bool}
      → m ≡ moves_of (index_changes key has (map low ws)) → guarded ≡ mark_all (map stripe_read (index_reads_of x)) m.stripes
      → partitioned ≡ partition_marks x
      → own ≡ own_marks xmin seen x.txid.0 → recycled ≡ set_each false (map new_of ws) own
      → ◌≡◌ {A = Plan} (record {
        txid = x.txid;
        into = m.into;
        out = m.out;
        changed = m.stripes;
        stripes = guarded;
        partitions = partitioned;
        own = own;
        recycled = recycled;
      }) (plan_from key has xmin seen x ws)
  unfolding plan_from moves_of guarded_marks
  plan_from_law mv g p o r =
      λ i. record {
        txid = x.txid;
        into = (mv i).into;
        out = (mv i).out;
        changed = (mv i).stripes;
        stripes = (g ∙ ap (λ q. mark_all (map stripe_read (index_reads_of x)) q.stripes) mv) i;
        partitions = p i;
        own = o i;
        recycled = (r ∙ ap (set_each false (map new_of ws)) o) i;
      }

  -- of a fit transaction, from the arrays of its store and its final writes, it is the plan of its commit
  pub plan_is : (S : Store) → key ≡ S.key → has ≡ S.has → xmin ≡ S.xmin → seen ≡ (walk S.heads S.next).seen → ws ≡ finals x → fit S x ≡ true
      → plan_from key has xmin seen x ws ≡ plan_of S x
  unfolding plan_from plan_of changes recycled_marks
  plan_is S k h t w f ok = rw (f, low_same (finals x) (finals_plain S x ok), k, h, t, w)
