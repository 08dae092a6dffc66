-- Not vacuous: stores, transactions, schedules and cuts that meet the premises of the demands, with each outcome; and the numbers 20 to 28 and 31,
-- which calls beside commit give. (0 to 19 are exhibited by `struck` and `all_answered`, Struck.)
use Rattle.std.specs.Prelude.{◌≡◌, refl, true, false, List, [], ◌∷◌, ◌++◌, ℕ, suc, length, get_or, replicate}
use Rattle.std.proofs.Common.{ap}
use Rattle.records.specs.Limits.{rows, slots, places, posting_limit, stripes, partitions, active_limit, write_limit, read_limit, clock_end, last_minute}
use Rattle.records.specs.Setters.{slotted, relisted}
use Rattle.records.specs.Zero.{fresh, no_faults}
use Rattle.rules.specs.Lists.{memb, pad}
use Rattle.rules.specs.Types.{Store, Tx, Cut, Uncut, After, Value, Absent, Key}
use Rattle.rules.specs.Store.{active_txids}
use Rattle.rules.specs.Transaction.{with_reads}
use Rattle.rules.specs.Admitted.{resting}
use Rattle.rules.specs.Fit.{fit}
use Rattle.rules.specs.Faults.{F, schedule_fit}
use Rattle.rules.specs.Numbers.{number_of}
use Rattle.rules.specs.Puts.{put_clock, apply_all}
use Rattle.rules.specs.Calls.{begin, read, write}
use Rattle.rules.specs.Recovery.{recover}
use Rattle.rules.specs.Answer.{commit}
use Rattle.rules.specs.Replay.{Line, line_b, line_r, line_w, line_k, line_c, line_f, start, tx_at}
use Rattle.rules.specs.Computing.{computing}
use Rattle.mornings.specs.Mornings.{morning, written, done}
use Rattle.demands.specs.Struck.{again, beaten}
use Rattle.statements.specs.Words.{Admitted, row_value}
use Rattle.statements.specs.Sized.{Sized, Keyed}

-- a history's store, and the transaction of its place 0
abbrev pub store_of : List Line → Store
store_of ls = (morning start ls).desk.store

abbrev pub tx_of : List Line → Tx
tx_of ls = tx_at (morning start ls).desk 0

-- what the demands ask of a store and a transaction (demand 2 of an unpoisoned store)
pub record Meets (S : Store) (x : Tx) : Type 0 where
  pub sized : Sized S
  pub keyed : Keyed S
  pub ok : Admitted S x no_faults

-- and what there is to compute for it
abbrev pub lengths : Store → List ℕ
lengths S =
    length S.heads ∷ length S.xmin ∷ length S.xmax ∷ length S.next ∷ length S.key ∷ length S.has ∷ length S.locked ∷ length S.owner
    ∷ length S.postings ∷ length S.stripe_guards ∷ length S.partition_guards ∷ length S.stamps ∷ length S.active ∷ []

abbrev pub limits : List ℕ
limits = rows ∷ places ∷ places ∷ places ∷ places ∷ places ∷ places ∷ places ∷ posting_limit ∷ stripes ∷ partitions ∷ stripes ∷ active_limit ∷ []

pub meets : (S : Store) (x : Tx) → lengths S ≡ limits → Keyed S → resting S ≡ true → fit S x ≡ true → schedule_fit no_faults ≡ true
    → memb x.txid.0 (active_txids S.active) ≡ true → Meets S x
meets S x e k r f p a =
    let at : (i : ℕ) → get_or (lengths S) i 0 ≡ get_or limits i 0 = λ i. ap (λ l. get_or l i 0) e in
    record {
      sized = record {
        heads = at 0;
        xmin = at 1;
        xmax = at 2;
        next = at 3;
        key = at 4;
        has = at 5;
        locked = at 6;
        owner = at 7;
        postings = at 8;
        stripe_guards = at 9;
        partition_guards = at 10;
        stamps = at 11;
        active = at 12;
      };
      keyed = k;
      ok = record { rests = r; fits = f; planned = p; active = a };
    }

-- row 3 holds 35, and txid 2 has written 51
pub meets_again : Meets (store_of again) (tx_of again)
unfolding morning again done written computing
meets_again = meets (store_of again) (tx_of again) refl refl refl refl refl refl

-- txid 3 was quicker
pub meets_beaten : Meets (store_of beaten) (tx_of beaten)
unfolding morning beaten again done written computing
meets_beaten = meets (store_of beaten) (tx_of beaten) refl refl refl refl refl refl

-- txid 3's publication failed while txid 2 was open: a poisoned store with a doomed head, at rest
unfoldable pub spoilt : List Line
spoilt = again ++ line_b 1 ∷ line_w 1 3 (Key 52) ∷ line_f 18 F 9 ∷ line_c 1 false Uncut ∷ []

pub meets_spoilt : Meets (store_of spoilt) (tx_of spoilt) × ((store_of spoilt).poisoned ≡ true) × ((store_of spoilt).doomed ≡ 3)
unfolding morning spoilt again done written computing
meets_spoilt = (meets (store_of spoilt) (tx_of spoilt) refl refl refl refl refl refl, refl, refl)

-- demand 2: both answers, from unpoisoned stores that are not durably bound
pub both_answers : (number_of (commit (store_of again) (tx_of again) false no_faults Uncut).refusal ≡ 0)
    × (number_of (commit (store_of beaten) (tx_of beaten) false no_faults Uncut).refusal ≡ 7)
    × ((store_of again).poisoned ≡ false) × ((store_of again).bound ≡ false) × ((store_of beaten).poisoned ≡ false) × ((store_of beaten).bound ≡ false)
unfolding morning beaten again done written computing
both_answers = (refl, refl, refl, refl, refl, refl)

-- demand 3: what row 3 holds after a commit cut at n, and recovery
abbrev row_three : List Line → Cut → Value
row_three ls cut = row_value (recover (commit (store_of ls) (tx_of ls) false no_faults cut).store).store 3

-- old before step 21's store, new from it on; on a poisoned store the old value stays
pub old_and_new : (row_three again (After 6) ≡ Key 35) × (row_three again (After 7) ≡ Key 51) × (row_three again Uncut ≡ Key 51)
    × (row_three spoilt Uncut ≡ Key 35)
unfolding morning spoilt again done written computing
old_and_new = (refl, refl, refl, refl)

-- 20 to 28 and 31: what the last line of a history answers, or a call on a store that no history leaves
abbrev pub last_number : List Line → ℕ
last_number ls = (morning start ls).out.number

abbrev clock_at : ℕ → Store
clock_at n = apply_all (put_clock n ∷ []) fresh

-- as many reads as there may be, of slot 2, where slot 1 is to be read
abbrev full_reads : Tx
full_reads =
    with_reads (replicate read_limit (record { row = record { 0 = 0 }; ptr = record { 0 = 2 }; xmin = record { 0 = 0 } })) (tx_of (done ++ line_b 0 ∷ []))

-- every slot is used by the active txid 1
abbrev pub no_slot : Store
no_slot =
    relisted (pad active_limit 0 (1 ∷ [])) 2
    (slotted (0 ∷ replicate slots 1) fresh.xmax fresh.next fresh.key fresh.has fresh.locked fresh.owner fresh)

pub other_numbers :
    number_of (recover (clock_at 0)).refusal
    ∷ last_number (replicate (suc active_limit) (line_b 0))
    ∷ number_of (begin (clock_at clock_end)).refusal
    ∷ last_number (line_b 0 ∷ line_r 0 rows ∷ [])
    ∷ number_of (read (store_of (done ++ line_b 0 ∷ [])) full_reads 3).refusal
    ∷ last_number (line_b 0 ∷ replicate (suc write_limit) (line_w 0 3 (Key 35)))
    ∷ number_of (write (begin no_slot).store (begin no_slot).tx 3 Absent).refusal
    ∷ last_number (done ++ line_b 0 ∷ line_b 1 ∷ line_k 0 3 ∷ line_k 1 3 ∷ [])
    ∷ last_number (line_b 0 ∷ line_k 0 3 ∷ [])
    ∷ last_number (line_b 0 ∷ line_w 0 3 (Key (suc last_minute)) ∷ [])
    ∷ []
    ≡ 20 ∷ 21 ∷ 22 ∷ 23 ∷ 24 ∷ 25 ∷ 26 ∷ 27 ∷ 28 ∷ 31 ∷ []
unfolding morning done written computing
other_numbers = refl
