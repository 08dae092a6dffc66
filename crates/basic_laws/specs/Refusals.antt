-- The refusals one by one, once: `Done`, a conflict with its cause, and any other, which is not done and tells nothing more.
use Rattle.std.specs.Prelude.{◌≡◌, refl, false}
use Rattle.rules.specs.Types.{Fate, Cause}
use Rattle.rules.specs.Types.{Refusal, Done, NotResting, Unfit, NotActive, StepFailed, PrepareFailed, PreparePanicked, Conflict, BoundDurably, FoundPoisoned}
use Rattle.rules.specs.Types.{InsertFailed, CallbackFailed, CallbackPanicked, RemoveFailed, PublishFailed, RecycleFailed, FinishFailed, StampFailed, CutOff}
use Rattle.rules.specs.Types.{CleanupFailed, NotRepairable, ActiveFull, ClockAtEnd, RowTooHigh, ReadsFull, WritesFull, SlotsFull, LockedByAnother, NoHead}
use Rattle.rules.specs.Types.{ImpossibleMinute}
use Rattle.rules.specs.Numbers.{nothing, more_in, is_done}

pub data Case : Refusal → Type 0 where
  done : Case Done
  seven : (c : Cause) (f : Fate) → Case (Conflict c f)
  plain : {why : Refusal} → is_done why ≡ false → more_in why ≡ nothing → Case why

pub case_of : (why : Refusal) → Case why
case_of Done = done
case_of (NotResting f) = plain refl refl
case_of (Unfit f) = plain refl refl
case_of (NotActive f) = plain refl refl
case_of (StepFailed f) = plain refl refl
case_of (PrepareFailed f) = plain refl refl
case_of (PreparePanicked f) = plain refl refl
case_of (Conflict c f) = seven c f
case_of (BoundDurably f) = plain refl refl
case_of (FoundPoisoned f) = plain refl refl
case_of (InsertFailed f) = plain refl refl
case_of (CallbackFailed f) = plain refl refl
case_of (CallbackPanicked f) = plain refl refl
case_of (RemoveFailed f) = plain refl refl
case_of (PublishFailed f) = plain refl refl
case_of (RecycleFailed f) = plain refl refl
case_of (FinishFailed f) = plain refl refl
case_of (StampFailed f) = plain refl refl
case_of (CutOff f) = plain refl refl
case_of (CleanupFailed f) = plain refl refl
case_of (NotRepairable f) = plain refl refl
case_of (ActiveFull f) = plain refl refl
case_of (ClockAtEnd f) = plain refl refl
case_of (RowTooHigh f) = plain refl refl
case_of (ReadsFull f) = plain refl refl
case_of (WritesFull f) = plain refl refl
case_of (SlotsFull f) = plain refl refl
case_of (LockedByAnother f) = plain refl refl
case_of (NoHead f) = plain refl refl
case_of (ImpossibleMinute f) = plain refl refl
