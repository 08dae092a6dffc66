-- The journal has room for the puts of every run.
use Rattle.std.specs.Prelude.{◌≡◌, Bool, true, false, cond, List, [], ◌∷◌, ◌++◌, map, reverse, ℕ, suc, ◌+◌, ◌≤◌, length, take}
use Rattle.std.proofs.Common.{arith, length-append, length-take}
use Rattle.std.proofs.Math.ListN.{length-map, length-reverse}
use Rattle.records.specs.Limits.{stripes, partitions, places, write_limit}
use Rattle.records.specs.Relations.{run_puts, undo_puts}
use Rattle.basic_laws.specs.Cases.{by}
use Rattle.rules.specs.Types.{Store, Tx, Schedule, Fate, Refusal}
use Rattle.rules.specs.Fit.{fit}
use Rattle.rules.specs.Puts.{Put, put_remove, put_drop, put_poison, put_doom}
use Rattle.rules.specs.Changes.{changes, destinations, index_guards, partition_guards, release, insertions, removals, publication, recycling, stamping}
use Rattle.rules.specs.Commit.{End, run_of, fails, count, poison, abort_or_poison, rollback, finish}
use Rattle.run_laws.specs.Outcome.{Taken, neither, index, both, Spoil, unremoved, unpublished, unrecycled, unfinished, guards_taken}
use Rattle.run_laws.specs.Outcome.{after_stamp, worse, Outcome, done, stays, aborts, uninserted, uncalled, spoils, unstamped, outcome}
use Rattle.journal.specs.Journal.{put_limit}
use Rattle.visibility.specs.OwnMarks.{abort_puts_law, abort_few}
use Rattle.commit.specs.Plan.Few.{index_guards_few, partition_guards_few, release_few, destinations_fit}
use Rattle.commit.specs.Plan.Few.{insertions_few, removals_few, publication_few, recycling_few, stamping_few}

-- at most n puts
pub record Most (ps : List Put) (n : ℕ) : Type 0 where
  pub most : length ps ≤ n

most_of : (ps : List Put) {n : ℕ} → length ps ≤ n → Most ps n
most_of ps h = record { most = h }

none : Most [] 0
none = most_of [] (omega arith)

one : (p : Put) → Most (p ∷ []) 1
one p = most_of (p ∷ []) (omega arith)

-- one block after the other, and the first of a block
join : {ps qs : List Put} {m n : ℕ} → Most ps m → Most qs n → Most (ps ++ qs) (m + n)
join {ps} {qs} a b = let p = a.most in let q = b.most in most_of (ps ++ qs) (omega (arith, length-append ps qs))

part : (k : ℕ) {ps : List Put} {n : ℕ} → Most ps n → Most (take k ps) n
part k {ps} a = let p = a.most in most_of (take k ps) (omega (arith, length-take k ps))

up : {ps : List Put} {m : ℕ} (n : ℕ) → Most ps m → m ≤ n → Most ps n
up {ps} n a h = let p = a.most in most_of ps (omega arith)

pick : (b : Bool) {ps qs : List Put} {n : ℕ} → Most ps n → Most qs n → Most (cond b ps qs) n
pick true p q = p
pick false p q = q

poison_most : (already : Bool) → Most (poison already) 1
poison_most already = pick already (up 1 none (omega arith)) (one put_poison)

module _ (S : Store) (x : Tx) (logged : Bool) (plan : Schedule) (ok : fit S x ≡ true) (long : length S.xmin ≤ places) where
  abort_most : (already : Bool) → Most (abort_or_poison S x logged plan already).puts (suc places)
  unfolding abort_or_poison
  abort_most already =
      by (fails S x logged plan 23)
      (λ e. rw e (up (suc places) (poison_most already) (omega arith)))
      (λ e. rw e (most_of _ (rw (abort_puts_law S x.txid.0) (abort_few S.heads S.next S.xmin x.txid.0 long))))

  rollback_most : (already : Bool) (made : List ℕ) → length made ≤ write_limit → Most (rollback S x logged plan already made).puts (suc write_limit)
  unfolding rollback
  rollback_most already made h =
      let back : Most (map put_remove (reverse made)) write_limit =
      most_of (map put_remove (reverse made)) (omega (arith, length-map (reverse made) put_remove, length-reverse made)) in
      by (fails S x logged plan 24)
      (λ e. rw e (up (suc write_limit) (join (part (count S x logged plan 24) back) (poison_most already)) (omega arith)))
      (λ e. rw e (up (suc write_limit) back (omega arith)))

  guards : Most (guards_taken S x logged plan) (stripes + partitions)
  guards =
      join (most_of (index_guards S x x.txid.0) (index_guards_few S x ok x.txid.0))
      (most_of (partition_guards x x.txid.0) (partition_guards_few x x.txid.0))

  leaving : Most (release S x) (stripes + partitions)
  leaving = most_of _ (release_few S x ok)

  inserting : Most (insertions S x) write_limit
  inserting = most_of _ (insertions_few S x ok)

  removing : Most (removals S x) write_limit
  removing = most_of _ (removals_few S x ok)

  publishing : Most (publication x) (write_limit + write_limit)
  publishing = most_of _ (publication_few S x ok)

  freeing : Most (recycling S x) places
  freeing = most_of _ (recycling_few S x long)

  stamps : Most (stamping S x) stripes
  stamps = most_of _ (stamping_few S x)

  finishing : Most (finish S x logged plan) 1
  finishing = pick (fails S x logged plan 21) (up 1 none (omega arith)) (one (put_drop x.txid.0))

  taken_most : {taken back : List Put} → Taken S x logged plan taken back → Most taken (stripes + partitions) × Most back (stripes + partitions)
  taken_most neither = (up (stripes + partitions) none (omega arith), up (stripes + partitions) none (omega arith))
  taken_most index = (
    up (stripes + partitions) (most_of (index_guards S x x.txid.0) (index_guards_few S x ok x.txid.0)) (omega arith),
    up (stripes + partitions) (most_of (index_guards S x 0) (index_guards_few S x ok 0)) (omega arith),
  )
  taken_most both = (guards, leaving)

  spoil_most : {n : ℕ} {made some fin : List Put} {p : Put} {kind : Fate → Refusal} {y : Tx} {drops : Bool}
      → Spoil S x logged plan n made some p fin kind y drops
      → Most (made ++ (some ++ p ∷ fin ++ release S x)) put_limit
  spoil_most (unremoved k) =
      up put_limit (join (join guards inserting) (join (join (part (count S x logged plan 17) removing) (one put_poison)) leaving)) (omega (arith, run_puts))
  spoil_most (unpublished k) =
      up put_limit (join (join (join guards inserting) removing)
      (join (join (part (count S x logged plan 18) publishing) (join (one (put_doom x.txid.0)) finishing)) leaving))
      (omega (arith, run_puts))
  spoil_most (unrecycled k) =
      up put_limit (join (join (join (join guards inserting) removing) publishing)
      (join (join (part (count S x logged plan 19) freeing) (join (one (put_doom x.txid.0)) finishing)) leaving))
      (omega (arith, run_puts))
  spoil_most (unfinished k) =
      up put_limit (join (join (join (join (join guards inserting) removing) publishing) freeing) (join (one (put_doom x.txid.0)) leaving))
      (omega (arith, run_puts))

  stamped : Most (after_stamp S x logged plan) (stripes + partitions + write_limit + write_limit + (write_limit + write_limit) + places + 1 + stripes)
  stamped = join (join (join (join (join (join guards inserting) removing) publishing) freeing) (one (put_drop x.txid.0))) stamps

  ends_most : {n : ℕ} {ps : List Put} {d : End} → Outcome S x logged plan n ps d → Most ps put_limit
  ends_most (done p) = up put_limit (join stamped leaving) (omega (arith, run_puts))
  ends_most (stays l t k) = let m = taken_most t in up put_limit (join m.0 m.1) (omega (arith, run_puts))
  ends_most (aborts l t k) = let m = taken_most t in up put_limit (join m.0 (join m.1 (abort_most S.poisoned))) (omega (arith, run_puts))
  ends_most (uninserted p k) =
      let d = destinations (changes S x) in
      let h = destinations_fit S x ok in
      up put_limit (join guards (join (part (count S x logged plan 15) inserting)
      (join (rollback_most false (take (count S x logged plan 15) d) (omega (arith, length-take (count S x logged plan 15) d))) leaving)))
      (omega (arith, run_puts))
  ends_most (uncalled p l k) =
      up put_limit (join (join guards inserting)
      (join (pick (worse S x logged plan) (one put_poison) (up 1 none (omega arith)))
      (join (rollback_most (worse S x logged plan) (destinations (changes S x)) (destinations_fit S x ok)) (join (abort_most _) leaving))))
      (omega (arith, undo_puts))
  ends_most (spoils p k) = spoil_most k
  ends_most (unstamped p k) =
      up put_limit (join (join (join (join (join (join guards inserting) removing) publishing) freeing) (one (put_drop x.txid.0)))
      (join (part (count S x logged plan 22) stamps) (join (one put_poison) leaving)))
      (omega (arith, run_puts))

  -- so what a run pushes into an empty journal is all there
  pub run_room : length (run_of S x logged plan).puts ≤ put_limit
  run_room = (ends_most (outcome S x logged plan)).most
