-- "Numbers seen": the number and the fate of each answer.
use Rattle.std.specs.Prelude.{Bool, cond, List, [], ◌∷◌, ℕ, eqb}
use Rattle.rules.specs.Types.{Fate, Open, Closed, Undone, Refusal, Done, NotResting, Unfit, NotActive, StepFailed, PrepareFailed}
use Rattle.rules.specs.Types.{PreparePanicked, Conflict, BoundDurably, FoundPoisoned, InsertFailed, CallbackFailed, CallbackPanicked}
use Rattle.rules.specs.Types.{RemoveFailed, PublishFailed, RecycleFailed, FinishFailed, StampFailed, CutOff, CleanupFailed, NotRepairable}
use Rattle.rules.specs.Types.{Cause, BusyGuard, IndexReadAt, RowLockAt, SerializationAt, WriteBaseAt}
use Rattle.rules.specs.Types.{ActiveFull, ClockAtEnd, RowTooHigh, ReadsFull, WritesFull, SlotsFull, LockedByAnother, NoHead, ImpossibleMinute}

abbrev pub number_of : Refusal → ℕ
number_of Done = 0
number_of (NotResting f) = 1
number_of (Unfit f) = 2
number_of (NotActive f) = 3
number_of (StepFailed f) = 4
number_of (PrepareFailed f) = 5
number_of (PreparePanicked f) = 6
number_of (Conflict c f) = 7
number_of (BoundDurably f) = 8
number_of (FoundPoisoned f) = 9
number_of (InsertFailed f) = 10
number_of (CallbackFailed f) = 11
number_of (CallbackPanicked f) = 12
number_of (RemoveFailed f) = 13
number_of (PublishFailed f) = 14
number_of (RecycleFailed f) = 15
number_of (FinishFailed f) = 16
number_of (StampFailed f) = 17
number_of (CutOff f) = 18
number_of (CleanupFailed f) = 19
number_of (NotRepairable f) = 20
number_of (ActiveFull f) = 21
number_of (ClockAtEnd f) = 22
number_of (RowTooHigh f) = 23
number_of (ReadsFull f) = 24
number_of (WritesFull f) = 25
number_of (SlotsFull f) = 26
number_of (LockedByAnother f) = 27
number_of (NoHead f) = 28
number_of (ImpossibleMinute f) = 31

-- "Each refusal carries its fate inside it"; an answer 0 has no fate, and is left open
abbrev pub fate_in : Refusal → Fate
fate_in Done = Open
fate_in (NotResting f) = f
fate_in (Unfit f) = f
fate_in (NotActive f) = f
fate_in (StepFailed f) = f
fate_in (PrepareFailed f) = f
fate_in (PreparePanicked f) = f
fate_in (Conflict c f) = f
fate_in (BoundDurably f) = f
fate_in (FoundPoisoned f) = f
fate_in (InsertFailed f) = f
fate_in (CallbackFailed f) = f
fate_in (CallbackPanicked f) = f
fate_in (RemoveFailed f) = f
fate_in (PublishFailed f) = f
fate_in (RecycleFailed f) = f
fate_in (FinishFailed f) = f
fate_in (StampFailed f) = f
fate_in (CutOff f) = f
fate_in (CleanupFailed f) = f
fate_in (NotRepairable f) = f
fate_in (ActiveFull f) = f
fate_in (ClockAtEnd f) = f
fate_in (RowTooHigh f) = f
fate_in (ReadsFull f) = f
fate_in (WritesFull f) = f
fate_in (SlotsFull f) = f
fate_in (LockedByAnother f) = f
fate_in (NoHead f) = f
fate_in (ImpossibleMinute f) = f

-- document 02's wish 4: "the refusal should say busy guard, or which of tests 11 to 14 and at which place", "with 0 and 0 for a busy guard"
abbrev pub test_named : Cause → ℕ
test_named BusyGuard = 0
test_named (IndexReadAt p) = 11
test_named (RowLockAt p) = 12
test_named (SerializationAt p) = 13
test_named (WriteBaseAt p) = 14

abbrev pub place_named : Cause → ℕ
place_named BusyGuard = 0
place_named (IndexReadAt p) = p
place_named (RowLockAt p) = p
place_named (SerializationAt p) = p
place_named (WriteBaseAt p) = p

-- what a refusal tells beside its number and its fate: "on 7 only"
pub data More : Type 0 where
  nothing : More
  cause : Cause → More

abbrev pub more_in : Refusal → More
more_in Done = nothing
more_in (NotResting f) = nothing
more_in (Unfit f) = nothing
more_in (NotActive f) = nothing
more_in (StepFailed f) = nothing
more_in (PrepareFailed f) = nothing
more_in (PreparePanicked f) = nothing
more_in (Conflict c f) = cause c
more_in (BoundDurably f) = nothing
more_in (FoundPoisoned f) = nothing
more_in (InsertFailed f) = nothing
more_in (CallbackFailed f) = nothing
more_in (CallbackPanicked f) = nothing
more_in (RemoveFailed f) = nothing
more_in (PublishFailed f) = nothing
more_in (RecycleFailed f) = nothing
more_in (FinishFailed f) = nothing
more_in (StampFailed f) = nothing
more_in (CutOff f) = nothing
more_in (CleanupFailed f) = nothing
more_in (NotRepairable f) = nothing
more_in (ActiveFull f) = nothing
more_in (ClockAtEnd f) = nothing
more_in (RowTooHigh f) = nothing
more_in (ReadsFull f) = nothing
more_in (WritesFull f) = nothing
more_in (SlotsFull f) = nothing
more_in (LockedByAnother f) = nothing
more_in (NoHead f) = nothing
more_in (ImpossibleMinute f) = nothing

-- "poisoned and undone where another call poisons, even a poisoned store; closed .. where the transaction was aborted; else open"
abbrev pub fate : Bool → Bool → Fate
fate poisons aborted = cond poisons Undone (cond aborted Closed Open)

-- a refusal and when it is given
pub record Try : Type 0 where
  pub when : Bool
  pub says : Refusal

abbrev pub refuse : Bool → Refusal → Try
refuse b why = record { when = b; says = why }

-- the first that holds, else `Done`
abbrev pub tries : List Try → Refusal
tries [] = Done
tries (x ∷ l) = let r = tries l in cond x.when x.says r

abbrev pub is_done : Refusal → Bool
is_done why = eqb (number_of why) 0
