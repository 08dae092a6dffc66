-- The tests of "Admitted stores" and "Fit transaction", each taken into its parts by name, and put together again.
use Rattle.std.specs.Prelude.{◌≡◌, true, not, ◌&&◌, ◌||◌, List, ℕ, get_or, drop, eqb, ltb, leb}
use Rattle.records.specs.Limits.{rows, slots, places, posting_limit, key_end, last_minute}
use Rattle.rules.specs.Types.{Store, Tx, Write}
use Rattle.rules.specs.Lists.{all, each_or, same, all_zero, is_zero, nonzero, rising, non_falling}
use Rattle.rules.specs.Store.{used, used_slots, slots_in_form, posting, postings_of, postings_in_form, active_in_form}
use Rattle.rules.specs.Transaction.{writes_of, reads_of, index_reads_of, savepoints_of}
use Rattle.rules.specs.Chains.{chain_from, walk, on}
use Rattle.rules.specs.Admitted.{finished, chain_ok, off_ok, repairable, head_postings, rests_at, resting}
use Rattle.rules.specs.Fit.{counts_fit, read_fit, write_fit, writes_apart, stripes_apart, fit}
use Rattle.basic_laws.specs.Cases.{every_each, every_none, cons_every}

-- slots in their form
pub record SlotsInForm (S : Store) : Type 0 where
  pub first : not (used S.xmin 0) ≡ true
  pub xmax : each_or nonzero is_zero S.xmin S.xmax ≡ true
  pub next : each_or nonzero is_zero S.xmin S.next ≡ true
  pub has : each_or nonzero not S.xmin S.has ≡ true
  pub locked : each_or nonzero not S.xmin S.locked ≡ true
  pub owner : each_or nonzero is_zero S.xmin S.owner ≡ true
  pub key : each_or (λ b. b) is_zero S.has S.key ≡ true
  pub minutes : each_or is_zero (λ k. leb k last_minute) S.xmin S.key ≡ true

-- (the parts of a test that holds, and a test of parts that hold; so for each of them)
pub slots_parts : (S : Store) → slots_in_form S ≡ true → SlotsInForm S
unfolding slots_in_form
slots_parts S h =
    let p = every_each _ h in
    record {
      first = p.0;
      xmax = p.1.0;
      next = p.1.1.0;
      has = p.1.1.1.0;
      locked = p.1.1.1.1.0;
      owner = p.1.1.1.1.1.0;
      key = p.1.1.1.1.1.1.0;
      minutes = p.1.1.1.1.1.1.1.0;
    }

pub parts_slots : (S : Store) → SlotsInForm S → slots_in_form S ≡ true
unfolding slots_in_form
parts_slots S P =
    cons_every _ _ P.first
    (cons_every _ _ P.xmax
    (cons_every _ _ P.next
    (cons_every _ _ P.has
    (cons_every _ _ P.locked (cons_every _ _ P.owner (cons_every _ _ P.key (cons_every _ _ P.minutes every_none)))))))

-- a repairable store
pub record Repairable (S : Store) : Type 0 where
  pub started : leb 1 S.clock ≡ true
  pub slots : slots_in_form S ≡ true
  pub listed : active_in_form S.active S.clock ≡ true
  pub below : all (λ t. ltb t S.clock) S.xmin ≡ true
  pub doom : ltb S.doomed S.clock ≡ true
  pub walked : (walk S.heads S.next).ok ≡ true
  pub led : each_or is_zero nonzero (walk S.heads S.next).seen S.xmin ≡ true
  pub versions : all (λ h. chain_ok S.xmin S.xmax (finished S.active S.doomed) (chain_from places S.next h)) S.heads ≡ true
  pub off : all (off_ok S.xmin S.xmax S.next (finished S.active S.doomed) (walk S.heads S.next).seen) (used_slots S.xmin) ≡ true

pub repairable_parts : (S : Store) → repairable S ≡ true → Repairable S
unfolding repairable
repairable_parts S h =
    let p = every_each _ h in
    record {
      started = p.0;
      slots = p.1.0;
      listed = p.1.1.0;
      below = p.1.1.1.0;
      doom = p.1.1.1.1.0;
      walked = p.1.1.1.1.1.0;
      led = p.1.1.1.1.1.1.0;
      versions = p.1.1.1.1.1.1.1.0;
      off = p.1.1.1.1.1.1.1.1.0;
    }

pub parts_repairable : (S : Store) → Repairable S → repairable S ≡ true
unfolding repairable
parts_repairable S P =
    cons_every _ _ P.started
    (cons_every _ _ P.slots
    (cons_every _ _ P.listed
    (cons_every _ _ P.below
    (cons_every _ _ P.doom (cons_every _ _ P.walked (cons_every _ _ P.led (cons_every _ _ P.versions (cons_every _ _ P.off every_none))))))))

-- postings in their form
pub record PostingsInForm (S : Store) : Type 0 where
  pub count : leb S.posting_count posting_limit ≡ true
  pub rise : rising 0 (postings_of S) ≡ true
  pub keyed : all (λ c. ltb c (posting key_end 0)) (postings_of S) ≡ true
  pub packed : all_zero (drop S.posting_count S.postings) ≡ true

pub postings_parts : (S : Store) → postings_in_form S ≡ true → PostingsInForm S
unfolding postings_in_form
postings_parts S h = let p = every_each _ h in record { count = p.0; rise = p.1.0; keyed = p.1.1.0; packed = p.1.1.1.0 }

-- a resting store
pub record Resting (S : Store) : Type 0 where
  pub mendable : repairable S ≡ true
  pub stripes : all_zero S.stripe_guards ≡ true
  pub partitions : all_zero S.partition_guards ≡ true
  pub posted : postings_in_form S ≡ true
  pub rests : all (rests_at S.xmin S.xmax (finished S.active S.doomed) S.doomed (walk S.heads S.next).seen) (used_slots S.xmin) ≡ true
  pub healthy : (S.poisoned || (eqb S.doomed 0 && same (postings_of S) (head_postings S.key S.has 0 S.heads))) ≡ true

pub resting_parts : (S : Store) → resting S ≡ true → Resting S
unfolding resting
resting_parts S h =
    let p = every_each _ h in
    record { mendable = p.0; stripes = p.1.0; partitions = p.1.1.0; posted = p.1.1.1.0; rests = p.1.1.1.1.0; healthy = p.1.1.1.1.1.0 }

pub parts_resting : (S : Store) → Resting S → resting S ≡ true
unfolding resting
parts_resting S P =
    cons_every _ _ P.mendable
    (cons_every _ _ P.stripes
    (cons_every _ _ P.partitions (cons_every _ _ P.posted (cons_every _ _ P.rests (cons_every _ _ P.healthy every_none)))))

-- a fit write
pub record WriteFit (xmin next seen : List ℕ) (t : ℕ) (w : Write) : Type 0 where
  pub row : ltb w.row.0 rows ≡ true
  pub base : leb w.base.0 slots ≡ true
  pub new : leb w.new.0 slots ≡ true
  pub taken : used xmin w.new.0 ≡ true
  pub off : not (on seen w.new.0) ≡ true
  pub mine : eqb (get_or xmin w.new.0 0) t ≡ true
  pub over : eqb (get_or next w.new.0 0) w.base.0 ≡ true

pub write_parts : (xmin next seen : List ℕ) (t : ℕ) (w : Write) → write_fit xmin next seen t w ≡ true → WriteFit xmin next seen t w
write_parts xmin next seen t w h =
    let p = every_each _ h in
    record {
      row = p.0;
      base = p.1.0;
      new = p.1.1.0;
      taken = p.1.1.1.0;
      off = p.1.1.1.1.0;
      mine = p.1.1.1.1.1.0;
      over = p.1.1.1.1.1.1.0;
    }

pub parts_write : (xmin next seen : List ℕ) (t : ℕ) (w : Write) → WriteFit xmin next seen t w → write_fit xmin next seen t w ≡ true
parts_write xmin next seen t w P =
    cons_every _ _ P.row
    (cons_every _ _ P.base
    (cons_every _ _ P.new (cons_every _ _ P.taken (cons_every _ _ P.off (cons_every _ _ P.mine (cons_every _ _ P.over every_none))))))

-- a fit transaction
pub record Fit (S : Store) (x : Tx) : Type 0 where
  pub counts : counts_fit x ≡ true
  pub reads : all read_fit (reads_of x) ≡ true
  pub writes : all (write_fit S.xmin S.next (walk S.heads S.next).seen x.txid.0) (writes_of x) ≡ true
  pub apart : writes_apart (writes_of x) ≡ true
  pub stripes : stripes_apart (index_reads_of x) ≡ true
  pub savepoints : non_falling 0 (savepoints_of x) ≡ true
  pub within : all (λ n. leb n x.write_count) (savepoints_of x) ≡ true
  pub snapshot : leb x.snapshot_xmin.0 x.snapshot_xmax.0 ≡ true
  pub present : leb x.snapshot_xmax.0 S.clock ≡ true

pub fit_parts : (S : Store) (x : Tx) → fit S x ≡ true → Fit S x
unfolding fit
fit_parts S x h =
    let p = every_each _ h in
    record {
      counts = p.0;
      reads = p.1.0;
      writes = p.1.1.0;
      apart = p.1.1.1.0;
      stripes = p.1.1.1.1.0;
      savepoints = p.1.1.1.1.1.0;
      within = p.1.1.1.1.1.1.0;
      snapshot = p.1.1.1.1.1.1.1.0;
      present = p.1.1.1.1.1.1.1.1.0;
    }

pub parts_fit : (S : Store) (x : Tx) → Fit S x → fit S x ≡ true
unfolding fit
parts_fit S x P =
    cons_every _ _ P.counts
    (cons_every _ _ P.reads
    (cons_every _ _ P.writes
    (cons_every _ _ P.apart
    (cons_every _ _ P.stripes
    (cons_every _ _ P.savepoints (cons_every _ _ P.within (cons_every _ _ P.snapshot (cons_every _ _ P.present every_none))))))))
