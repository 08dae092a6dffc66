-- The parts of recovery put together.
use Rattle.std.specs.Prelude.{◌≡◌, Bool, true, false, List, map, ℕ, replicate}
use Rattle.std.proofs.Common.{ap, ◌∙◌}
use Rattle.std.proofs.Math.ListN.{length, length-map}
use Rattle.records.specs.Limits.{rows, places, posting_limit, stripes, partitions, active_limit}
use Rattle.rules.specs.Types.{Store, Mended, Done, NotRepairable, Open}
use Rattle.rules.specs.Lists.{keep}
use Rattle.rules.specs.Chains.{Walk, walk}
use Rattle.rules.specs.Admitted.{finished, head_postings, repairable}
use Rattle.rules.specs.Recovery.{trim_head, clear, recovered, recover}
use Rattle.packed.specs.Packed.{Packed}
use Rattle.fields.specs.Lent.{at_rows, at_places, array_same}

-- a store with each part as recovery makes it is the recovered store
module _ (S : Store) (many : length S.heads ≡ rows) (long : length S.next ≡ places) where
  abbrev fin : ℕ → Bool
  fin = finished S.active S.doomed

  pub whole : {heads seen postings ended xmin xmax next key : List ℕ} {has : List Bool} {ok : Bool} {count : ℕ}
      → heads ≡ map (trim_head fin S.xmin S.next) S.heads
      → ◌≡◌ {A = Walk} (record { ok = ok; seen = seen }) (walk (at_rows heads) (at_places S.next))
      → Packed (head_postings S.key S.has 0 (at_rows heads)) posting_limit postings count
      → ended ≡ clear fin heads S.xmax
      → xmin ≡ keep 0 seen S.xmin
      → xmax ≡ keep 0 seen ended
      → next ≡ keep 0 seen S.next
      → key ≡ keep 0 seen S.key
      → has ≡ keep false seen S.has
      → ◌≡◌ {A = Store} (record {
        heads = heads;
        xmin = xmin;
        xmax = xmax;
        next = next;
        key = key;
        has = has;
        locked = replicate places false;
        owner = replicate places 0;
        postings = postings;
        posting_count = count;
        stripe_guards = replicate stripes 0;
        partition_guards = replicate partitions 0;
        stamps = S.stamps;
        active = replicate active_limit 0;
        clock = S.clock;
        poisoned = false;
        doomed = 0;
        bound = S.bound;
      }) (recovered S)
  unfolding recovered
  whole {heads} h w p e a b c d f =
      let same : at_rows heads ≡ heads = array_same rows 0 heads (ap length h ∙ length-map S.heads _ ∙ many) in
      let marks = rw (same, h, array_same places 0 S.next long) at (ap (λ (v : Walk). v.seen) w) in
      let laid = rw (same, h) at p in
      rw (a, b, c, d, f, e, marks, laid.at, laid.count, h)

-- the answers, by whether the store is repairable
module _ (S : Store) (b : Bool) (e : b ≡ repairable S) where
  pub mended : (R : Store) → b ≡ true → R ≡ recovered S → ◌≡◌ {A = Mended} (record { refusal = Done; store = R }) (recover S)
  unfolding recover
  mended R t r = rw (← e, t, r)

  pub refused : b ≡ false → ◌≡◌ {A = Mended} (record { refusal = NotRepairable Open; store = S }) (recover S)
  unfolding recover
  refused t = rw (← e, t)
