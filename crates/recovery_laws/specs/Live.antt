-- A store on its way through a commit: repairable, with what its rows show.
use Rattle.std.specs.Prelude.{◌≡◌, true, List, ℕ, ◌<◌, length, get_or}
use Rattle.std.proofs.Common.{◌∙◌, arith}
use Rattle.records.specs.Limits.{rows, places, active_limit}
use Rattle.rules.specs.Lists.{memb}
use Rattle.rules.specs.Types.{Store, Value}
use Rattle.rules.specs.Admitted.{finished, repairable}
use Rattle.basic_laws.specs.Check.{Good}
use Rattle.statements.specs.Sized.{Sized}
use Rattle.admitted_laws.specs.Repairable.{Mends, Off, mended}
use Rattle.admitted_laws.specs.Resting.{Sole}
use Rattle.statements.specs.Words.{shown_in, shown}
use Rattle.recovery_laws.specs.Shown.{shown_is}
use Rattle.recovery_laws.specs.Unfinished.{dropped}
use Rattle.recovery_laws.specs.Calm.{Calm, mends_calm}

-- the lengths that puts of xmax, heads, slots and active txids need
pub record Long (X : Store) : Type 0 where
  pub heads : length X.heads ≡ rows
  pub xmax : length X.xmax ≡ places
  pub next : length X.next ≡ places
  pub active : length X.active ≡ active_limit

-- repairable with the chains L; the active list and the doomed txid are these; the one unfinished txid on chains is `who`; row r shows `values r`
pub record Live (values : ℕ → Value) (act : List ℕ) (doom who : ℕ) (X : Store) (L : ℕ → List ℕ) : Type 0 where
  pub long : Long X
  pub mends : Mends X L
  pub act_is : X.active ≡ act
  pub doom_is : X.doomed ≡ doom
  pub sole : Sole X.heads X.xmin X.xmax (finished act doom) L who
  pub shows : (r : ℕ) → r < rows → shown_in X.xmin X.key X.has (finished act doom) (L r) ≡ values r

-- the same, whatever the chains
abbrev pub Lives : (ℕ → Value) → List ℕ → ℕ → ℕ → Store → Type 0
Lives old act doom who X = (L : ℕ → List ℕ) × Live old act doom who X L

-- guards, postings, stamps and poison count for none of it
long_calm : Calm Long
long_calm g q ps n st b X Z = record { heads = Z.heads; xmax = Z.xmax; next = Z.next; active = Z.active }

-- nor for this
pub live_calm : (old : ℕ → Value) (act : List ℕ) (doom who : ℕ) (L : ℕ → List ℕ) → Calm (λ X. Live old act doom who X L)
live_calm old act doom who L g q ps n st b X K = record {
  long = long_calm g q ps n st b X K.long;
  mends = mends_calm L g q ps n st b X K.mends;
  act_is = K.act_is;
  doom_is = K.doom_is;
  sole = K.sole;
  shows = K.shows;
}

-- nor for this
pub lives_calm : (old : ℕ → Value) (act : List ℕ) (doom who : ℕ) → Calm (Lives old act doom who)
lives_calm old act doom who g q ps n st b X K = (K.0, live_calm old act doom who K.0 g q ps n st b X K.1)

-- what theorem P says of a store: it is repairable, and row r shows `values r`
pub record Shows (values : ℕ → Value) (X : Store) : Type 0 where
  pub mends : repairable X ≡ true
  pub shows : (r : ℕ) → r < rows → shown X r ≡ values r

-- so it is what theorem P says
pub lives_shows : (old : ℕ → Value) (act : List ℕ) (doom who : ℕ) (X : Store) → Sized X → Lives old act doom who X → Shows old X
lives_shows old act doom who X z K = record {
  mends = mended X K.0 z K.1.mends;
  shows = λ r lt. shown_is X K.0 z K.1.mends r (omega (arith, K.1.long.heads)) ∙ rw (K.1.act_is, K.1.doom_is) (K.1.shows r lt);
}

-- t is due to be dropped: the slots `own` are to be freed, and then, t gone from the active list, the rows show `new`, and the one unfinished
-- txid on chains is the doomed one
pub record Due (t : ℕ) (old new : ℕ → Value) (act : List ℕ) (doom who : ℕ) (own : List ℕ) (X : Store) : Type 0 where
  pub L : ℕ → List ℕ
  pub live : Live old act doom who X L
  pub good : (r : ℕ) → r < length X.heads → Good X.xmin X.xmax (finished (dropped act t) doom) (L r)
  pub sole : Sole X.heads X.xmin X.xmax (finished (dropped act t) doom) L doom
  pub shows : (r : ℕ) → r < rows → shown_in X.xmin X.key X.has (finished (dropped act t) doom) (L r) ≡ new r
  pub idle : (p : ℕ) → memb p own ≡ true → Off X.heads L p × (p ≡ 0 → ⊥)
  pub mine : (p : ℕ) → Off X.heads L p → get_or X.xmin p 0 ≡ t → memb p own ≡ true

-- nor do guards, postings, stamps and poison count for this
pub due_calm : (t : ℕ) (old new : ℕ → Value) (act : List ℕ) (doom who : ℕ) (own : List ℕ) → Calm (Due t old new act doom who own)
due_calm t old new act doom who own g q ps n st b X D = record {
  L = D.L;
  live = live_calm old act doom who D.L g q ps n st b X D.live;
  good = D.good;
  sole = D.sole;
  shows = D.shows;
  idle = D.idle;
  mine = D.mine;
}
