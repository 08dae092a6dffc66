-- A commit's insertions, removals and publication leave the postings exactly the heads'.
use Rattle.std.specs.Prelude.{◌≡◌, Bool, true, false, not, ◌&&◌, ◌||◌, ℕ, ◌≤◌, ◌<◌, get_or, eqb}
use Rattle.std.proofs.Math.Path.{refl, sym, ap}
use Rattle.std.proofs.Common.{◌∙◌}
use mathlib.Core.List.{List, [], ◌∷◌, ◌++◌, map, append_assoc}
use native.Mathlib.Omega.{arith}
use Rattle.std.proofs.Math.ListN.{length}
use borrow.Author.Tests.{eqb-true, lt-ltb}
use Rattle.records.specs.Limits.{rows, posting_limit}
use Rattle.records.specs.Relations.{rows_posted}
use Rattle.rules.specs.Types.{Store, Tx, Value, Key, Write}
use Rattle.basic_laws.specs.Cases.{by, clash, and_true}
use Rattle.rules.specs.Lists.{all, flat, memb, rising}
use Rattle.rules.specs.Store.{posting, value_at, same_value, carries, postings_of}
use Rattle.rules.specs.Transaction.{finals}
use Rattle.rules.specs.Admitted.{head_postings}
use Rattle.rules.specs.Puts.{Put, k_insert, k_remove, k_xmax, k_head, put_insert, put_remove, apply_all}
use Rattle.rules.specs.Changes.{changes, destinations, sources, publish_one, insertions, removals, publication}
use Rattle.run_laws.specs.OnlyKinds.{only, kept, is_not, key_kept, has_kept}
use Rattle.run_laws.specs.GuardPuts.{apply_all_append}
use Rattle.basic_laws.specs.Rearranged.{or_none}
use Rattle.basic_laws.specs.TestParts.{postings_parts}
use Rattle.basic_laws.specs.HeadPostings.{heads_rising, heads_length}
use Rattle.posting_laws.specs.HeadsTold.{same_value_law, value_same, told_by_rows, head_member}
use Rattle.posting_laws.specs.RestingPostings.{Exact, in_form, exact}
use Rattle.posting_laws.specs.Posted.{posted, posted_of, posted_own, into_all, without_all, mem_into_all, mem_without_all}
use Rattle.posting_laws.specs.Posted.{rising_into_all, rising_without_all, into_all_length, inserted, removed}
use Rattle.posting_laws.specs.Written.{pick, pick_map, changed, mem_side}
use Rattle.posting_laws.specs.Undone.{Ready, rows_fit, bases, once, room}
use Rattle.run_laws.specs.PublishedChains.{new_heads, new_heads_long, publish_only, publish_heads}
use Rattle.posting_laws.specs.PublishedHeads.{new_heads_at}

-- puts that neither insert nor remove
pub postings_kept : (ks : List ℕ) → memb k_insert ks ≡ false → memb k_remove ks ≡ false → (ps : List Put) (T : Store) → only ks ps ≡ true
    → postings_of (apply_all ps T) ≡ postings_of T
unfolding postings_of
postings_kept ks i r = kept (λ T. postings_of T) ks (λ p T m. rw (is_not ks k_insert i p m, is_not ks k_remove r p m))

-- a row's posting after its change: the new value's, whatever the old
renewed : (v w k : Value) → (not (not (same_value v w) && same_value v k) && ((not (same_value v w) && same_value w k) || same_value v k)) ≡ same_value w k
renewed v w k = by (same_value v w)
    (λ e. rw (e, same_value_law v w e))
    (λ e. by (same_value v k)
    (λ f. by (same_value w k)
    (λ g. clash (rw (same_value_law v k f, same_value_law w k g) (value_same k)) e)
    (λ g. rw (e, f, g)))
    (λ f. rw (e, f) (or_none (same_value w k))))

module _ (key : List ℕ) (has : List Bool) (heads : List ℕ) (k r : ℕ) where
  -- the row's head carries the key
  abbrev old : Bool
  old = carries key has (get_or heads r 0) k

  -- row by row: not taken out, and put in or there before, is: the new head carries the key
  by_write : (ws : List Write) → all (λ w. eqb (get_or heads w.row.0 0) w.base.0) ws ≡ true
      → (not (pick (λ w. changed key has w && carries key has w.base.0 k) false r ws)
      && (pick (λ w. changed key has w && carries key has w.new.0 k) false r ws || old))
      ≡ pick (λ w. carries key has w.new.0 k) old r ws
  by_write [] a = refl
  by_write (w ∷ ws) a =
      let b = and_true (eqb (get_or heads w.row.0 0) w.base.0) (all (λ w. eqb (get_or heads w.row.0 0) w.base.0) ws) a in
      by (eqb r w.row.0)
      (λ e. rw (e, eqb-true r w.row.0 e, eqb-true (get_or heads w.row.0 0) w.base.0 b.0)
      (renewed (value_at key has w.base.0) (value_at key has w.new.0) (Key k)))
      (λ e. rw e (by_write ws b.1))

module _ (S : Store) (x : Tx) (ok : Ready S x) where
  -- what insertions and removals make of the postings
  abbrev pub new_postings : List ℕ
  new_postings = without_all (sources (changes S x)) (into_all (destinations (changes S x)) (postings_of S))

  new_rising : rising 0 new_postings ≡ true
  new_rising =
      rising_without_all (sources (changes S x)) (into_all (destinations (changes S x)) (postings_of S))
      (rising_into_all (destinations (changes S x)) (postings_of S) (postings_parts S (in_form S ok.rests)).rise)

  -- row by row they are those of the new heads
  new_member : (k r : ℕ) → r < rows → memb (posting k r) new_postings ≡ memb (posting k r) (head_postings S.key S.has 0 (new_heads (finals x) S.heads))
  unfolding destinations sources changes
  new_member k r lt =
      let p = posting k r in
      let key = S.key in
      let has = S.has in
      let heads = S.heads in
      let ws = finals x in
      let ds = destinations (changes S x) in
      let ss = sources (changes S x) in
      let hs = new_heads ws heads in
      let long = new_heads_long ws heads ∙ ok.sized.heads in
      let was : memb p (postings_of S) ≡ old key has heads k r
      = rw (
        exact S ok.rests ok.healthy,
        head_member key has heads (omega (arith, ok.sized.heads)) k r lt,
        lt-ltb r (length heads) (omega (arith, ok.sized.heads)),
      ) in
      let now : memb p (head_postings key has 0 hs) ≡ pick (λ w. carries key has w.new.0 k) (old key has heads k r) r ws
      = rw (
        head_member key has hs (omega (arith, long)) k r lt,
        lt-ltb r (length hs) (omega (arith, long)),
        new_heads_at rows ws heads r ok.sized.heads (rows_fit S x ok) (once S x ok),
      )
      (pick_map (λ h. carries key has h k) (λ w. w.new.0) (get_or heads r 0) r ws) in
      mem_without_all ss (into_all ds (postings_of S)) p
      ∙ rw (
        mem_into_all ds (postings_of S) p,
        was,
        mem_side key has (λ c. c.before) k r ws lt (rows_fit S x ok) (once S x ok),
        mem_side key has (λ c. c.after) k r ws lt (rows_fit S x ok) (once S x ok),
      )
      (by_write key has heads k r ws (bases S x ok))
      ∙ sym now

  -- .. and so all of them
  new_postings_law : new_postings ≡ head_postings S.key S.has 0 (new_heads (finals x) S.heads)
  new_postings_law =
      told_by_rows new_postings (head_postings S.key S.has 0 (new_heads (finals x) S.heads)) new_rising
      (heads_rising S.key S.has 0 (new_heads (finals x) S.heads)) new_member

  -- at most the limit, on the way too
  new_length : length (into_all (destinations (changes S x)) (postings_of S)) ≤ posting_limit
  new_length = omega (arith, into_all_length (destinations (changes S x)) (postings_of S), room S x ok)

  -- steps 15 and 17: the postings changed, and nothing else
  index_changed : apply_all (insertions S x ++ removals S x) S ≡ posted new_postings S
  unfolding insertions removals
  index_changed =
      let ds = destinations (changes S x) in
      let ss = sources (changes S x) in
      let P = postings_of S in
      let own = posted_own S ok.sized.postings (in_form S ok.rests) in
      apply_all_append (map put_insert ds) (map put_remove ss) S
      ∙ ap (λ (T : Store). apply_all (map put_remove ss) (apply_all (map put_insert ds) T)) (sym own)
      ∙ ap (apply_all (map put_remove ss)) (inserted ds P S (room S x ok))
      ∙ removed ss (into_all ds P) S new_length

  -- steps 15, 17 and 18, without guards
  published_exact : Exact (apply_all (publication x) (posted new_postings S))
  unfolding publication
  published_exact =
      let ps = flat (publish_one x.txid.0) (finals x) in
      let T = posted new_postings S in
      let ks = k_xmax ∷ k_head ∷ [] in
      let o = publish_only x.txid.0 (finals x) in
      let short : length new_postings ≤ posting_limit
      = rw new_postings_law (omega (
        arith,
        heads_length S.key S.has 0 (new_heads (finals x) S.heads),
        new_heads_long (finals x) S.heads,
        ok.sized.heads,
        rows_posted,
      )) in
      rw (postings_kept ks refl refl ps T o, key_kept ks refl refl ps T o, has_kept ks refl refl ps T o, publish_heads x.txid.0 (finals x) T)
      (posted_of new_postings S short ∙ new_postings_law)

  -- .. from the store as it was
  pub changed_exact : Exact (apply_all (insertions S x ++ (removals S x ++ publication x)) S)
  changed_exact =
      rw (
        sym (append_assoc (insertions S x) (removals S x) (publication x)),
        apply_all_append (insertions S x ++ removals S x) (publication x) S,
        index_changed,
      )
      published_exact

  -- .. and each final write's row has its new slot as head
  pub changed_heads : (apply_all (insertions S x ++ (removals S x ++ publication x)) S).heads ≡ new_heads (finals x) S.heads
  unfolding publication
  changed_heads =
      rw (
        sym (append_assoc (insertions S x) (removals S x) (publication x)),
        apply_all_append (insertions S x ++ removals S x) (publication x) S,
        index_changed,
      )
      (publish_heads x.txid.0 (finals x) (posted new_postings S))
