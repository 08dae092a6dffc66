-- "fresh store, begin, write row 3 key 35; commit; cut at 4, recovery shows none; at 5, 35", by begin, read and lookup, computed; and that the stores
-- meet what the laws of `Shows` ask.
use Rattle.std.specs.Prelude.{◌≡◌, refl, Bool, true, false, List, [], ◌∷◌, map, ℕ, ◌<◌, take}
use Rattle.std.proofs.Common.{ap, arith}
use Rattle.records.specs.Limits.{key_end, clock_end}
use Rattle.records.specs.Zero.{empty_store, no_faults}
use Rattle.rules.specs.Types.{Store, Tx, Cut, Uncut, After, Value, Absent, Key}
use Rattle.rules.specs.Numbers.{number_of, is_done}
use Rattle.rules.specs.Calls.{begin, read, write, lookup}
use Rattle.rules.specs.Recovery.{recover}
use Rattle.rules.specs.Answer.{commit}
use Rattle.rules.specs.Computing.{computing}
use Rattle.statements.specs.Words.{Quiet}
use Rattle.statements.specs.ShowWords.{Reached, empty, begun, written, committed, Sound}
use Rattle.demands.specs.ReachedStores.{reached_sound}

-- txid 1 has written 35 to row 3
unfoldable pub opened : Store
opened = (begin (empty_store false)).store

unfoldable pub reader : Tx
reader = (begin (empty_store false)).tx

unfoldable pub wrote : Store
wrote = (write opened reader 3 (Key 35)).store

unfoldable pub writer : Tx
writer = (write opened reader 3 (Key 35)).tx

-- what its commit leaves, cut or not
abbrev pub left : Cut → Store
left cut = (commit wrote writer false no_faults cut).store

-- what a new transaction is told: numbers of begin, read and lookup, the value of row 3, the rows with key 35, index_conflict
pub record Told : Type 0 where
  pub numbers : List ℕ
  pub value : Value
  pub found : List ℕ
  pub conflict : Bool

abbrev pub told : Store → Told
told T =
    let b = begin T in
    let a = read b.store b.tx 3 in
    let l = lookup b.store b.tx 35 in
    record {
      numbers = number_of b.refusal ∷ number_of a.refusal ∷ number_of l.refusal ∷ [];
      value = a.value;
      found = take l.count (map (λ q. q.0) l.rows);
      conflict = l.tx.index_conflict;
    }

abbrev pub tells : Value → List ℕ → Told
tells v rs = record { numbers = 0 ∷ 0 ∷ 0 ∷ []; value = v; found = rs; conflict = false }

-- committed; cut at 4 and at 5, and recovered
pub shown_mornings : told (left Uncut) ∷ told (recover (left (After 4))).store ∷ told (recover (left (After 5))).store ∷ []
    ≡ tells (Key 35) (3 ∷ []) ∷ tells Absent [] ∷ tells (Key 35) (3 ∷ []) ∷ []
unfolding opened reader wrote writer computing
shown_mornings = refl

-- they are stores that the calls reach, so recovery shows
pub morning_reached : Reached wrote
unfolding opened reader wrote computing
morning_reached =
    written opened (begun (empty_store false) (empty false)) reader
    (record { snapshot = refl; writes = refl; reads = refl; index_reads = refl; savepoints = refl }) 3 (Key 35) (λ k e. small k e)
  where
    key_in : Value → ℕ
    key_in Absent = 0
    key_in (Key k) = k

    small : (k : ℕ) → Key 35 ≡ Key k → k < key_end
    small k e = omega (arith, ap key_in e)

pub cut_reached : (cut : Cut) → Sound (left cut)
cut_reached cut = reached_sound (left cut) (committed wrote morning_reached writer false no_faults cut)

-- and the commit is one of demand 2's, which succeeds
pub morning_quiet : Quiet wrote writer false no_faults × (is_done (commit wrote writer false no_faults Uncut).refusal ≡ true) × (wrote.clock < clock_end)
unfolding opened reader wrote writer computing
morning_quiet = (
  record { ok = record { rests = refl; fits = refl; planned = refl; active = refl }; faultless = refl; sound = refl; free = refl },
  refl,
  omega arith,
)
