-- "Numbers seen", the column "When" by itself, in the paper's words: for each number the reasons that it can be answered for.
use Rattle.std.specs.Prelude.{◌≡◌, refl, Bool, true, false, not, ◌&&◌, ◌||◌, List, [], ◌∷◌, ℕ, zero, suc, get_or}
use Rattle.basic_laws.specs.Cases.{clash, or_left, or_right}
use Rattle.rules.specs.Lists.{any, memb}
use Rattle.rules.specs.Types.{Store, Tx, Schedule, Cut}
use Rattle.rules.specs.Store.{active_txids}
use Rattle.rules.specs.Admitted.{resting}
use Rattle.rules.specs.Fit.{fit}
use Rattle.rules.specs.Faults.{B, P, X, Q, schedule_fit}
use Rattle.rules.specs.Tests.{index_read_conflict, row_lock_conflict, serialization_conflict, write_base_conflict}
use Rattle.rules.specs.Commit.{unlogged_writes}
use Rattle.statements.specs.NumbersSeen.{failed, struck_by, cut_short}

-- one of these holds
abbrev pub one_of : List Bool → Bool
one_of bs = any (λ b. b) bs

-- the i-th does
pub one_is : (i : ℕ) (bs : List Bool) → get_or bs i false ≡ true → one_of bs ≡ true
one_is i [] h = clash {b = false} h refl
one_is zero (b ∷ bs) h = or_left b (one_of bs) h
one_is (suc i) (b ∷ bs) h = or_right b (one_of bs) (one_is i bs h)

module _ (S : Store) (x : Tx) (logged : Bool) (plan : Schedule) where
  abbrev f : ℕ → Bool
  f n = failed S x logged plan n

  abbrev s : ℕ → ℕ → Bool
  s n letter = struck_by S x logged plan n letter

  -- "F at 3, 4, 7, 8, 9, 11 to 14", at 9 "unlogged with writes only"
  abbrev pub steps_failed : List Bool
  steps_failed = f 3 ∷ f 4 ∷ f 7 ∷ f 8 ∷ (unlogged_writes S x logged plan && f 9) ∷ f 11 ∷ f 12 ∷ f 13 ∷ f 14 ∷ []

  -- "5 or 6 failed", "logged only"
  abbrev pub unprepared : List Bool
  unprepared = (logged && f 5) ∷ (logged && f 6) ∷ []

  -- "B, or a test said yes"
  abbrev pub busy_or_yes : List Bool
  busy_or_yes = s 7 B ∷ s 8 B ∷ index_read_conflict S x ∷ row_lock_conflict S x ∷ serialization_conflict S x ∷ write_base_conflict S x ∷ []

  -- "16 failed; panicked"
  abbrev pub call_failed : Bool
  call_failed = logged && (s 16 X || f 16)

  abbrev pub call_panicked : Bool
  call_panicked = logged && (s 16 Q || s 16 P)

  -- "abort or rollback failed after number 5, 9 or 11"
  abbrev pub uncleaned : List Bool
  uncleaned = (one_of unprepared && f 23) ∷ ((f 10 || S.poisoned) && f 23) ∷ (call_failed && (f 24 || f 23)) ∷ []

  -- numbers 0 to 19; 0 is given for no such reason
  unfoldable pub column : Cut → List Bool
  column cut =
      false
      ∷ not (resting S)  -- 1 store not resting
      ∷ not (fit S x && schedule_fit plan)  -- 2 transaction or schedule unfit
      ∷ not (memb x.txid.0 (active_txids S.active))  -- 3 txid not active
      ∷ one_of steps_failed  -- 4
      ∷ one_of unprepared  -- 5
      ∷ (logged && s 6 P)  -- 6 panicked
      ∷ one_of busy_or_yes  -- 7
      ∷ (unlogged_writes S x logged plan && S.bound)  -- 8 durably bound at 9
      ∷ (f 10 || S.poisoned)  -- 9 poisoned, or F at 10
      ∷ f 15  -- 10
      ∷ call_failed  -- 11
      ∷ call_panicked  -- 12
      ∷ f 17  -- 13
      ∷ f 18  -- 14
      ∷ f 19  -- 15
      ∷ f 21  -- 16
      ∷ f 22  -- 17
      ∷ cut_short S x logged plan cut  -- 18 cut
      ∷ one_of uncleaned  -- 19
      ∷ []
